use Rattle.std.proofs.Common.{◌≡◌, ◌-◌, ◌<◌, length, get_or, sym, ap, ◌∙◌, arith}
use Rattle.std.proofs.lemmas.List.{get_or_read, get_or-map, length-map}
use Rattle.ent_types.specs.declared.entity.Entity.{Entity}
use Rattle.entity_table.specs.Slots.{holder_of, holders_of, versions_of, entity_at, free_of}
use Rattle.entity_table.proofs.SlotLemmas.{length-free_of}
use Rattle.entity_table.proofs.Ahead.{ahead_of-free, ahead_of-fresh, get_or-free_of}
use Rattle.entity_table.proofs.table.EntityTable.ahead.Goals as goal

pub returns-then-k-free : goal.returns-then-k-free
returns-then-k-free c =
    let t = c.self.inside in
    let k = c.args.k in
    let stack = t.free.items in
    let versions = versions_of t.slots.items in
    let slot = c.index.result.now in
    let here : Entity = record { index = c.index-index.result.now; version = slot.version } in
    let below : k < length stack = omega (arith, c.len-free.ensures, t.free.ok.0) in
    let place : c.len-free.result - 1 - k ≡ length stack - 1 - k = omega (arith, c.len-free.ensures, t.free.ok.0) in
    let index : c.index-index.result.now ≡ get_or stack (length stack - 1 - k) 0 =
    get_or_read stack (length stack - 1 - k) _ (omega arith) (rw place at c.index-index.ensures) 0 in
    let made : c.index-index.result.now < length t.slots.items =
    omega (arith, (c.self.invariant.free (length stack - 1 - k) (omega arith)).0, index, length-map t.slots.items holder_of) in
    let version : slot.version ≡ get_or versions c.index-index.result.now 0 =
    ap (λ s. s.version) c.index.ensures ∙ sym (get_or-map (λ s. s.version) t.slots.items c.index-index.result.now slot 0 made) in
    rw (← c.self.view_is) (
    ap (λ v. let e : Entity = record { index = c.index-index.result.now; version = v } in e) version
    ∙ ap (entity_at versions) index
    ∙ sym (get_or-free_of versions stack k here below)
    ∙ sym (ahead_of-free k (free_of versions stack) (length (holders_of t.slots.items)) t.first_version here (omega (arith, below, length-free_of versions stack))))

pub returns-else-k-free : goal.returns-else-k-free
returns-else-k-free c =
    let t = c.self.inside in
    let free = free_of (versions_of t.slots.items) t.free.items in
    let long = length-free_of (versions_of t.slots.items) t.free.items in
    rw (← c.self.view_is) (
    ap (λ n. let e : Entity = record { index = n; version = t.first_version } in e)
    (omega (arith, c.len.ensures, c.len-free.ensures, t.free.ok.0, t.slots.ok.0, long, length-map t.slots.items holder_of))
    ∙ sym (ahead_of-fresh c.args.k free (length (holders_of t.slots.items)) t.first_version (omega (arith, c.if-k-free.false, c.len-free.ensures, t.free.ok.0, long))))
