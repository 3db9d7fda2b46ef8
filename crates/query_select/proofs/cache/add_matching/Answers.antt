use Rattle.std.proofs.Common.{ℕ, ◌≡◌, ◌+◌, ◌-◌, ◌<◌, ◌≤◌, ◌∙◌, ◌++◌, ◌∷◌, [], List, Vec, Global, length, vec_capacity, ap, sym, arith, length-append}
use Rattle.archetype_store.specs.declared.store.ArchetypeId.{ArchetypeId}
use Rattle.archetype_store.specs.Stores.{types_at}
use Rattle.run_model.specs.Query.{passes}
use Rattle.query_select.specs.Entries.{unfiltered}
use Rattle.query_select.proofs.Archetypes.{left, one_taken, one_passed}
use Rattle.query_select.proofs.cache.add_matching.Goals as goal
use Rattle.query_select.proofs.cache.add_matching.Goals.{then-matches_types, else-matches_types}

pub loop-k-preserved : goal.loop-k-preserved
loop-k-preserved g c =
    let archetypes = c.args.store.now.archetypes in
    let p = λ (a : ℕ). passes c.args.registry.now (unfiltered c.args.query.now) (types_at archetypes a) in
    let n = length archetypes in
    let k = c.loop-k.k in
    let below : k < n = omega (arith, c.loop-k-test.true, c.archetypes-k-end.ensures) in
    let verdict : c.matches_types.result ≡ p k =
    c.matches_types.ensures c.args.registry.now c.enableable_among-enableable.ensures
    ∙ ap (λ (ts : List ℕ). passes c.args.registry.now (unfiltered c.args.query.now) ts) (c.types_of.ensures ∙ ap (types_at archetypes) c.archetype_at-a.ensures) in
    let matching : c.if-matches_types.matching.items ++ left p n (k + 1) ≡ c.loop-k.matching.items ++ left p n k = elim c.if-matches_types.branch [
      | then-matches_types w ↦
          ap (λ (v : Vec ArchetypeId Global). v.items ++ left p n (k + 1)) w.matching-is
          ∙ one_taken p n k c.loop-k.matching.items w.push_reserved.new.self.items below (sym verdict ∙ w.if-matches_types.true)
          (w.push_reserved.ensures.items ∙ ap (λ (a : ArchetypeId). c.loop-k.matching.items ++ a ∷ []) c.archetype_at-a.ensures)
      | else-matches_types w ↦
          ap (λ (v : Vec ArchetypeId Global). v.items ++ left p n (k + 1)) w.matching-is
          ∙ one_passed p n k c.loop-k.matching.items below (sym verdict ∙ w.if-matches_types.false)
    ] in
    let room : length c.if-matches_types.matching.items + (n - (k + 1)) ≤ vec_capacity c.if-matches_types.matching = elim c.if-matches_types.branch [
      | then-matches_types w ↦
          let long : length c.if-matches_types.matching.items ≡ length c.loop-k.matching.items + 1 =
          ap (λ (v : Vec ArchetypeId Global). length v.items) w.matching-is ∙ ap length w.push_reserved.ensures.items ∙ length-append c.loop-k.matching.items (c.archetype_at-a.result ∷ []) in
          let wide : vec_capacity c.if-matches_types.matching ≡ vec_capacity c.loop-k.matching = ap vec_capacity w.matching-is ∙ w.push_reserved.ensures.capacity in
          omega (arith, below, c.loop-k.invariant.room)
      | else-matches_types w ↦
          let long : length c.if-matches_types.matching.items ≡ length c.loop-k.matching.items = ap (λ (v : Vec ArchetypeId Global). length v.items) w.matching-is in
          let wide : vec_capacity c.if-matches_types.matching ≡ vec_capacity c.loop-k.matching = ap vec_capacity w.matching-is in
          omega (arith, below, c.loop-k.invariant.room)
    ] in
    record {
      matching = matching ∙ c.loop-k.invariant.matching;
      room = room;
      steps = omega (arith, below, c.tick.ensures, c.loop-k.invariant.steps);
    }
