use Rattle.std.proofs.Common.{◌+◌, sym, subst, refl}
use Rattle.archetype_store.specs.Inside.{number_at}
use Rattle.archetype_store.specs.Attached.{TakesAt}
use Rattle.archetype_store.proofs.store.ArchetypeStore.take_at.Goals as goal

pub returns-in-Some : goal.returns-in-Some
returns-in-Some c =
    subst (λ q. TakesAt c.args.self.now c.put_block.new.self c.args.slots.now.items c.take_out-held.new.slots.items q (number_at c.args.numbers.now c.args.done) c.args.done (c.args.done + 1)) (sym c.in-Some.is)
    (record { held = c.take_out-held.result; there = c.take_out-held.ensures.held; slots_are = c.take_out-held.ensures.slots; store = c.put_block.ensures }, refl)
