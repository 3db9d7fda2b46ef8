-- What operations give, by what rows do.
use Rattle.std.proofs.Common.{ℕ, ◌≡◌, ◌∙◌, Bool, false, cond, nat_eq, sym, ap, refl, subst, map, List, [], Result, Ok, Err}
use Rattle.std.proofs.lemmas.List.{append-nil}
use Rattle.ent_types.specs.declared.entity.Entity.{Entity}
use Rattle.ent_types.specs.declared.skip.Skip.TheVariants as skip
use Rattle.ent_types.specs.declared.value.Value.{Value}
use Rattle.ent_types.specs.Fitting.{null_entity}
use Rattle.world_model.specs.Part.{PartOf, part_type}
use Rattle.world_model.specs.Row.{Cell}
use Rattle.world_model.specs.World.{Home, capacity}
use Rattle.world_model.specs.Found.{Found}
use Rattle.world_model.specs.Ids.{room}
use Rattle.world_model.specs.Operations.{Instantiate, Outcome, Skips, Moves, Makes, Made, Done, apply, decide, decide_create, sight, home_of, cells_of, home_kept, cells_kept, is_copied}
use Rattle.structural_ops.specs.declared.fault.OpFault.{OpFault}
use Rattle.structural_ops.specs.declared.fault.OpFault.TheVariants as fault
use Rattle.structural_ops.specs.Worlds.{WorldState, GivesAnswer, MovesTo, Stays, made, done}
use Rattle.structural_ops.specs.Worlds.{Makes as MakesRow}

-- nothing changed
pub stays_self : (w : WorldState) → Stays w w
stays_self w = record { world = refl; numbers = refl; archetypes = record { more = []; are = sym (append-nil w.archetypes) } }

module _ (old new : WorldState) where
  abbrev cap : List ℕ → ℕ
  cap = capacity old.world.registry

  -- a row that moves, if a block takes such a row
  pub moves_give : (e : Entity) (home : Home) (cells : List Cell) (dying : Bool) (r : Result (Unit {0}) OpFault) → nat_eq (capacity old.world.registry home.types) 0 ≡ false
      → MovesTo old new home (record { entity = e; cells = cells; dying = dying }) r
      → GivesAnswer old new (apply (capacity old.world.registry) old.world e (Moves home cells dying)) (done r)
  moves_give e home cells dying (Ok u) fits is = (refl, is.1)
  moves_give e home cells dying (Err (fault.Skip skip.TooLarge)) fits is = absurd (cc (sym fits ∙ is.0))
  moves_give e home cells dying (Err (fault.Skip skip.Full)) fits is = absurd is
  moves_give e home cells dying (Err (fault.Skip skip.NoEntity)) fits is = absurd is
  moves_give e home cells dying (Err (fault.Skip skip.NoComponent)) fits is = absurd is
  moves_give e home cells dying (Err (fault.Skip skip.NotEnableable)) fits is = absurd is
  moves_give e home cells dying (Err (fault.Skip skip.TooLong)) fits is = absurd is
  moves_give e home cells dying (Err fault.Memory) fits is = is

  -- the same where it isn't known
  pub moves_or_large : (e : Entity) (home : Home) (cells : List Cell) (dying : Bool) (r : Result (Unit {0}) OpFault)
      → MovesTo old new home (record { entity = e; cells = cells; dying = dying }) r
      → GivesAnswer old new (apply (capacity old.world.registry) old.world e (cond (nat_eq (capacity old.world.registry home.types) 0) (Skips skip.TooLarge) (Moves home cells dying))) (done r)
  moves_or_large e home cells dying (Ok u) is =
      subst (λ b. GivesAnswer old new (apply cap old.world e (cond b (Skips skip.TooLarge) (Moves home cells dying))) (Ok Done)) (sym is.0) (refl, is.1)
  moves_or_large e home cells dying (Err (fault.Skip skip.TooLarge)) is =
      subst (λ b. GivesAnswer old new (apply cap old.world e (cond b (Skips skip.TooLarge) (Moves home cells dying))) (Err (fault.Skip skip.TooLarge))) (sym is.0) (refl, is.1)
  moves_or_large e home cells dying (Err (fault.Skip skip.Full)) is = absurd is
  moves_or_large e home cells dying (Err (fault.Skip skip.NoEntity)) is = absurd is
  moves_or_large e home cells dying (Err (fault.Skip skip.NoComponent)) is = absurd is
  moves_or_large e home cells dying (Err (fault.Skip skip.NotEnableable)) is = absurd is
  moves_or_large e home cells dying (Err (fault.Skip skip.TooLong)) is = absurd is
  moves_or_large e home cells dying (Err fault.Memory) is = is

  -- a row that is made
  pub create_gives : (ps : List (PartOf Value)) (r : Result Entity OpFault) → MakesRow old new (home_of old.world.registry ps) (cells_of old.world.registry ps) r
      → GivesAnswer old new (apply (capacity old.world.registry) old.world null_entity (decide_create (sight (capacity old.world.registry) old.world) ps)) (made r)
  create_gives ps r is = by r is
    where
      outcome : Bool → Bool → Outcome
      outcome large full = cond large (Skips skip.TooLarge) (cond full (Skips skip.Full) (Makes (home_of old.world.registry ps) (cells_of old.world.registry ps)))

      large : Bool
      large = nat_eq (cap (map part_type ps)) 0

      full : Bool
      full = nat_eq (room old.world) 0

      Gives : Bool → Bool → Result Entity OpFault → Type 0
      Gives l f r = GivesAnswer old new (apply cap old.world null_entity (outcome l f)) (made r)

      by : (r : Result Entity OpFault) → MakesRow old new (home_of old.world.registry ps) (cells_of old.world.registry ps) r → Gives large full r
      by (Ok e) is = subst (λ l. Gives l full (Ok e)) (sym is.1.0) (subst (λ f. Gives false f (Ok e)) (sym is.1.1.0) (ap Made (sym is.0), is.1.1.1))
      by (Err (fault.Skip skip.TooLarge)) is = subst (λ l. Gives l full (Err (fault.Skip skip.TooLarge))) (sym is.0) (refl, is.1)
      by (Err (fault.Skip skip.Full)) is =
          subst (λ l. Gives l full (Err (fault.Skip skip.Full))) (sym is.0.0) (subst (λ f. Gives false f (Err (fault.Skip skip.Full))) (sym is.0.1) (refl, is.1))
      by (Err (fault.Skip skip.NoEntity)) is = absurd is
      by (Err (fault.Skip skip.NoComponent)) is = absurd is
      by (Err (fault.Skip skip.NotEnableable)) is = absurd is
      by (Err (fault.Skip skip.TooLong)) is = absurd is
      by (Err fault.Memory) is = is

  -- a copy, for which a block has room
  pub copy_gives : (e : Entity) (x : Found) (r : Result Entity OpFault)
      → nat_eq (capacity old.world.registry (home_kept (is_copied old.world.registry) x.home).types) 0 ≡ false
      → MakesRow old new (home_kept (is_copied old.world.registry) x.home) (cells_kept (is_copied old.world.registry) x.row.cells) r
      → GivesAnswer old new (apply (capacity old.world.registry) old.world e (decide (sight (capacity old.world.registry) old.world) x Instantiate)) (made r)
  copy_gives e x r fits is = by r is
    where
      home : Home
      home = home_kept (is_copied old.world.registry) x.home

      cells : List Cell
      cells = cells_kept (is_copied old.world.registry) x.row.cells

      Gives : Bool → Result Entity OpFault → Type 0
      Gives f r = GivesAnswer old new (apply cap old.world e (cond f (Skips skip.Full) (Makes home cells))) (made r)

      by : (r : Result Entity OpFault) → MakesRow old new home cells r → Gives (nat_eq (room old.world) 0) r
      by (Ok d) is = subst (λ f. Gives f (Ok d)) (sym is.1.1.0) (ap Made (sym is.0), is.1.1.1)
      by (Err (fault.Skip skip.TooLarge)) is = absurd (cc (sym fits ∙ is.0))
      by (Err (fault.Skip skip.Full)) is = subst (λ f. Gives f (Err (fault.Skip skip.Full))) (sym is.0.1) (refl, is.1)
      by (Err (fault.Skip skip.NoEntity)) is = absurd is
      by (Err (fault.Skip skip.NoComponent)) is = absurd is
      by (Err (fault.Skip skip.NotEnableable)) is = absurd is
      by (Err (fault.Skip skip.TooLong)) is = absurd is
      by (Err fault.Memory) is = is
