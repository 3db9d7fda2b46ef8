-- What lawful worlds are: each entity once, null never, each alive entity found.
use Rattle.std.proofs.Common.{◌≡◌, ℕ, ◌+◌, ◌<◌, ◌≤◌, inl, inr, nat_lt, Bool, true, false, cond, List, [], ◌∷◌, find, Option, Some, None, refl, sym, ap, ◌∙◌, arith, eq-eqb, ltb-true}
use Rattle.ent_types.specs.declared.entity.Entity.{Entity}
use Rattle.ent_types.specs.declared.type_info.TypeInfo.{TypeInfo}
use Rattle.ent_types.specs.Fitting.{null_entity}
use Rattle.ent_types.specs.Registries.{type_at}
use Rattle.ent_types.specs.Types.{column_size}
use Rattle.chunk_layout.proofs.Sublists.{IsSublist-map, IsSublist-filter, capacity_of-room}
use Rattle.world_model.specs.Members.{In, one_if, tally}
use Rattle.world_model.specs.World.{World, capacity}
use Rattle.world_model.specs.Found.{Found, placed, is_of, found, has_index}
use Rattle.world_model.specs.Lawful.{is_free_at, IsLawful, HasRoomForParts}
use Rattle.world_laws.proofs.Members.{find_in, find_passes, member_counts}
use Rattle.world_laws.proofs.Same.{entity_is, entity_self}
use Rattle.world_laws.proofs.Sound.{one_at_most}

-- a member that passes is found, where one at most passes
pub find_only : {X : Type 0} (p : X → Bool) (x : X) (xs : List X) → In x xs → p x ≡ true → tally p xs ≤ 1 → find p xs ≡ Some x
find_only p x [] i h few = absurd i
find_only p x (y ∷ ys) i h few = step (p y) refl i few (find_only p x ys)
  where
    step : (b : Bool) → p y ≡ b → In x (y ∷ ys) → one_if b + tally p ys ≤ 1 → (In x ys → p x ≡ true → tally p ys ≤ 1 → find p ys ≡ Some x) → cond b (Some y) (find p ys) ≡ Some x
    step true e (inl f) few rest = ap Some (sym f)
    step true e (inr j) few rest = let c = member_counts p x ys j h in absurd (omega arith)
    step false e (inl f) few rest = let no_way : true ≡ false = sym h ∙ (ap p f ∙ e) in absurd (cc)
    step false e (inr j) few rest = rest j h (omega arith)

module _ (capacity : List ℕ → ℕ) (w : World) (l : IsLawful capacity w) where
  -- a row is the one that is found by its entity
  pub each_once : (x : Found) → In x (placed w.blocks) → found x.row.entity w.blocks ≡ Some x
  each_once x i = find_only (is_of x.row.entity) x (placed w.blocks) i (entity_self x.row.entity) (one_at_most w l.sound x.row.entity)

  -- two alive entities with one index are one
  pub index_once : (x y : Found) → In x (placed w.blocks) → In y (placed w.blocks) → x.row.entity.index ≡ y.row.entity.index → x ≡ y
  index_once x y i j same =
      only (find (has_index y.row.entity.index) (placed w.blocks)) (find_only (has_index y.row.entity.index) y (placed w.blocks) j (eq-eqb y.row.entity.index y.row.entity.index refl) few)
      (find_only (has_index y.row.entity.index) x (placed w.blocks) i (eq-eqb y.row.entity.index x.row.entity.index (sym same)) few)
    where
      most : (b : Bool) → one_if b ≤ 1
      most true = omega arith
      most false = omega arith

      few : tally (has_index y.row.entity.index) (placed w.blocks) ≤ 1
      few = let s = l.sound y.row.entity.index in let m = most (nat_lt y.row.entity.index w.made) in omega arith

      only : (o : Option Found) → o ≡ Some y → o ≡ Some x → x ≡ y
      only o e f = let both : Some x ≡ Some y = sym f ∙ e in cc

  -- no entity with version 0 is alive
  pub zero_dead : (e : Entity) → e.version ≡ 0 → found e w.blocks ≡ None
  zero_dead e is_zero = step (found e w.blocks) refl
    where
      step : (o : Option Found) → found e w.blocks ≡ o → o ≡ None
      step None is = refl
      step (Some x) is =
          let same : e ≡ x.row.entity = entity_is e x.row.entity (find_passes (is_of e) x (placed w.blocks) is) in
          let one = (l.rows x (find_in (is_of e) x (placed w.blocks) is)).version.from_one in
          let zero : x.row.entity.version ≡ 0 = ap (λ (d : Entity). d.version) (sym same) ∙ is_zero in
          absurd (omega arith)

  -- null is never alive
  pub null_dead : found null_entity w.blocks ≡ None
  null_dead = zero_dead null_entity refl

  -- an alive entity has an index that was made
  pub index_made : (x : Found) → In x (placed w.blocks) → x.row.entity.index < w.made
  index_made x i =
      step (nat_lt x.row.entity.index w.made) refl (l.sound x.row.entity.index)
      (member_counts (has_index x.row.entity.index) x (placed w.blocks) i (eq-eqb x.row.entity.index x.row.entity.index refl))
    where
      step : (b : Bool) → nat_lt x.row.entity.index w.made ≡ b → tally (has_index x.row.entity.index) (placed w.blocks) + tally (is_free_at x.row.entity.index) w.free ≤ one_if b
          → 1 ≤ tally (has_index x.row.entity.index) (placed w.blocks) → x.row.entity.index < w.made
      step true e s c = ltb-true x.row.entity.index w.made e
      step false e s c = absurd (omega arith)

  -- a free entity isn't alive
  pub free_dead : (e : Entity) → In e w.free → found e w.blocks ≡ None
  free_dead e i = step (found e w.blocks) refl
    where
      most : (b : Bool) → one_if b ≤ 1
      most true = omega arith
      most false = omega arith

      step : (o : Option Found) → found e w.blocks ≡ o → o ≡ None
      step None is = refl
      step (Some x) is =
          let same : e ≡ x.row.entity = entity_is e x.row.entity (find_passes (is_of e) x (placed w.blocks) is) in
          let alive = member_counts (has_index e.index) x (placed w.blocks) (find_in (is_of e) x (placed w.blocks) is) (eq-eqb e.index x.row.entity.index (ap (λ (d : Entity). d.index) same)) in
          let free = member_counts (is_free_at e.index) e w.free i (eq-eqb e.index e.index refl) in
          let s = l.sound e.index in
          let m = most (nat_lt e.index w.made) in
          absurd (omega arith)

-- the real capacity
pub capacity_fits : (registry : List TypeInfo) → HasRoomForParts (capacity registry)
capacity_fits registry keeps types room =
    capacity_of-room (IsSublist-map (λ t. column_size (type_at registry t)) (IsSublist-filter keeps types)) room
