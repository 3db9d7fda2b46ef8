-- What an operation on an entity gives, by what is decided of its row.
use Rattle.std.proofs.Common.{ℕ, ◌≡◌, ◌∙◌, Bool, sym, ap, refl, subst, List, [], ◌∷◌, Some, None, Result, Ok, Err}
use Rattle.ent_types.specs.declared.entity.Entity.{Entity}
use Rattle.ent_types.specs.declared.skip.Skip.{Skip}
use Rattle.ent_types.specs.declared.skip.Skip.TheVariants as skip
use Rattle.ent_types.specs.declared.value.Value.{Value}
use Rattle.world_model.specs.Found.{Found, found}
use Rattle.world_model.specs.Operations.{Act, Answer, Done, On, Outcome, Reply, Skipped, Skips, Writes, acted, apply, decide, operate, sight, written}
use Rattle.world_model.specs.Row.{Cell, Row}
use Rattle.world_model.specs.World.{World, capacity}
use Rattle.structural_ops.specs.declared.fault.OpFault.{OpFault}
use Rattle.structural_ops.specs.declared.fault.OpFault.TheVariants as fault
use Rattle.structural_ops.specs.Worlds.{Becomes, Gives, GivesAlways, GivesAnswer, WorldState, WritesIn, after}
use Rattle.structural_ops.proofs.Numbering.{writes_become}
use Rattle.structural_ops.proofs.Given.{stays_self}

module _ (old : WorldState) (e : Entity) (a : Act Value) where
  -- an entity that isn't alive
  none_given : found e old.world.blocks ≡ None → after old (On e a) ≡ record { world = old.world; reply = Skipped skip.NoEntity }
  unfolding operate
  none_given none = ap (acted (capacity old.world.registry) old.world e a) none

  pub none_always : found e old.world.blocks ≡ None → GivesAlways old old (On e a) (Err skip.NoEntity)
  none_always none = (none_given none, refl)

  pub none_gives : found e old.world.blocks ≡ None → Gives old old (On e a) (Err (fault.Skip skip.NoEntity))
  none_gives none = (none_given none, stays_self old)

  module _ (x : Found) (is : found e old.world.blocks ≡ Some x) where
    decided : (out : Outcome) → decide (sight (capacity old.world.registry) old.world) x a ≡ out → after old (On e a) ≡ apply (capacity old.world.registry) old.world e out
    unfolding operate
    decided out so = ap (acted (capacity old.world.registry) old.world e a) is ∙ ap (apply (capacity old.world.registry) old.world e) so

    -- it is skipped
    module _ (cause : Skip) (skips : decide (sight (capacity old.world.registry) old.world) x a ≡ Skips cause) where
      pub skip_always : GivesAlways old old (On e a) (Err cause)
      skip_always = (decided (Skips cause) skips, refl)

      pub skip_gives : Gives old old (On e a) (Err (fault.Skip cause))
      skip_gives = (decided (Skips cause) skips, stays_self old)

    -- it gives what was decided
    pub outcome_gives : (out : Outcome) → decide (sight (capacity old.world.registry) old.world) x a ≡ out → (new : WorldState) (r : Result Reply OpFault)
        → GivesAnswer old new (apply (capacity old.world.registry) old.world e out) r → Gives old new (On e a) r
    outcome_gives out so new r gives = subst (λ b. GivesAnswer old new b r) (sym (decided out so)) gives

    -- the row is written in its place
    module _ (new : WorldState) (types : List ℕ) (cells : List Cell) (dying : Bool) (writes : decide (sight (capacity old.world.registry) old.world) x a ≡ Writes types cells dying) (same : x.row.entity ≡ e)
        (in_place : WritesIn old new types (record (x.row) { cells = cells; dying = dying })) where
      answer_is : after old (On e a) ≡ record { world = new.world; reply = Done }
      answer_is =
          decided (Writes types cells dying) writes
          ∙ ap (λ (d : Entity). let r : Row = record { entity = d; cells = cells; dying = dying } in let b : Answer = record { world = written types r old.world; reply = Done } in b) (sym same)
          ∙ ap (λ (w : World). let b : Answer = record { world = w; reply = Done } in b) (sym in_place.world)

      pub rewrite_gives : Gives old new (On e a) (Ok Done)
      rewrite_gives =
          subst (λ b. GivesAnswer old new b (Ok Done)) (sym answer_is)
          (refl, subst (Becomes old new) (sym in_place.world) (writes_become old new types (record (x.row) { cells = cells; dying = dying }) in_place))

    -- with one type marked
    module _ (new : WorldState) (t : ℕ) (cells : List Cell) (writes : decide (sight (capacity old.world.registry) old.world) x a ≡ Writes (t ∷ []) cells x.row.dying) (same : x.row.entity ≡ e)
        (in_place : WritesIn old new (t ∷ []) (record (x.row) { cells = cells })) where
      pub write_always : GivesAlways old new (On e a) (Ok tt)
      write_always = (answer_is new (t ∷ []) cells x.row.dying writes same in_place, (in_place.numbers, in_place.archetypes))

      pub write_gives : Gives old new (On e a) (Ok Done)
      write_gives = rewrite_gives new (t ∷ []) cells x.row.dying writes same in_place
