-- Operations: what is decided by what is seen of the world, and what the world becomes by what was decided.
use Rattle.std.specs.Prelude.{ℕ, ◌/◌, Bool, true, false, not, ◌&&◌, ◌||◌, if◌then◌else◌, nat_eq, nat_le, List, [], ◌∷◌, ◌++◌, length, map, filter, unwrap_or, Option, Some, None, option_map}
use Rattle.std.specs.List.{list_any}
use Rattle.ent_types.specs.declared.entity.Entity.{Entity}
use Rattle.ent_types.specs.declared.entity.TheConstants.TypeId.{PREFAB}
use Rattle.ent_types.specs.declared.limits.TheConstants.{MOST_ELEMENTS}
use Rattle.ent_types.specs.declared.skip.Skip.{Skip}
use Rattle.ent_types.specs.declared.skip.Skip.TheVariants.{NoEntity, NoComponent, TooLarge, Full, NotEnableable, TooLong}
use Rattle.ent_types.specs.declared.type_info.TypeInfo.{TypeInfo}
use Rattle.ent_types.specs.declared.value.Value.{Value}
use Rattle.ent_types.specs.Fitting.{null_entity}
use Rattle.ent_types.specs.TypeLookups.{fields_at, is_shared_at, is_cleanup_at, is_enableable_at}
use Rattle.ent_types.specs.TypeSets.{has_type, with_type, without_type}
use Rattle.world_model.specs.Part.{PartOf, part_type, part_map, same_part, with_typed, by_type}
use Rattle.world_model.specs.Row.{Cell, Row, cell_type, cell_of}
use Rattle.world_model.specs.World.{Home, World}
use Rattle.world_model.specs.Found.{Found, found, cell_at}
use Rattle.world_model.specs.Ids.{room, next_id, with_id_taken, with_id_given}
use Rattle.world_model.specs.Enter.{enter}
use Rattle.world_model.specs.Leave.{leave}
use Rattle.world_model.specs.Write.{rewrite}

-- what is done to one entity
pub data Act (V : Type 0) : Type 0 where
  Destroy : Act V
  Add : PartOf V → Act V
  Remove : ℕ → Act V
  Set : PartOf V → Act V
  SetShared : PartOf V → Act V
  SetEnabled : ℕ → Bool → Act V
  Instantiate : Act V
  -- one element more, at the end of a buffer
  Append : PartOf V → Act V
  -- no element in a buffer any more
  Clear : ℕ → Act V

-- the same with other things instead of values
abbrev pub act_map : {V W : Type 0} → (V → W) → Act V → Act W
act_map f Destroy = Destroy
act_map f (Add p) = Add (part_map f p)
act_map f (Remove t) = Remove t
act_map f (Set p) = Set (part_map f p)
act_map f (SetShared p) = SetShared (part_map f p)
act_map f (SetEnabled t on) = SetEnabled t on
act_map f Instantiate = Instantiate
act_map f (Append p) = Append (part_map f p)
act_map f (Clear t) = Clear t

pub data Operation : Type 0 where
  Create : List (PartOf Value) → Operation
  On : Entity → Act Value → Operation

-- what an operation answers: the entity that was made, that it was done, or why it was skipped
pub data Reply : Type 0 where
  Made : Entity → Reply
  Done : Reply
  Skipped : Skip → Reply

pub record Answer : Type 0 where
  pub world : World
  pub reply : Reply

-- ---- what a row and its home become

-- the home and the cells of the types that stay
abbrev pub home_kept : (ℕ → Bool) → Home → Home
home_kept keeps home = record { types = filter keeps home.types; shared = filter (λ p. keeps p.type_id) home.shared }

abbrev pub cells_kept : (ℕ → Bool) → List Cell → List Cell
cells_kept keeps cells = filter (λ c. keeps c.type_id) cells

-- the home with a type that isn't shared
abbrev pub home_with : ℕ → Home → Home
home_with t home = record home { types = with_type home.types t }

-- the home with a shared type and its values
abbrev pub home_with_shared : PartOf Value → Home → Home
home_with_shared p home = record { types = with_type home.types p.type_id; shared = with_typed part_type p home.shared }

-- the home and the cells of a new row with these parts, which are ordered by rising type
abbrev pub home_of : List TypeInfo → List (PartOf Value) → Home
home_of registry parts = record { types = map part_type parts; shared = filter (λ p. is_shared_at registry p.type_id) parts }

abbrev pub cells_of : List TypeInfo → List (PartOf Value) → List Cell
cells_of registry parts = map cell_of (filter (λ p. not (is_shared_at registry p.type_id)) parts)

-- the cells with the values of a type changed
abbrev pub with_values : ℕ → (List Value → List Value) → List Cell → List Cell
with_values t change cells = map (λ (c : Cell). record c { values = if nat_eq c.type_id t then change c.values else c.values }) cells

-- the cells with a type enabled or disabled
abbrev pub switched : ℕ → Bool → List Cell → List Cell
switched t on cells = map (λ (c : Cell). record c { off = if nat_eq c.type_id t then not on else c.off }) cells

-- the values that some cells have of a type
abbrev pub cell_values : ℕ → List Cell → List Value
cell_values t cells = unwrap_or (option_map (λ c. c.values) (cell_at t cells)) []

-- how many elements some cells have of a buffer type
abbrev pub element_count : List TypeInfo → ℕ → List Cell → ℕ
element_count registry t cells = length (cell_values t cells) / length (fields_at registry t)

-- whether a copy of a row has the type where the row has it
abbrev pub is_copied : List TypeInfo → ℕ → Bool
is_copied registry t = not (is_cleanup_at registry t || nat_eq t PREFAB.0)

-- ---- what is decided

-- What is decided: that the operation is skipped; that nothing changes; that the row is written in its place, with some
-- types marked; that it moves to another home; that it ends; that a row is made. A row that is written or moves has these
-- cells, and is dying or not.
pub data Outcome : Type 0 where
  Skips : Skip → Outcome
  Keeps : Outcome
  Writes : List ℕ → List Cell → Bool → Outcome
  Moves : Home → List Cell → Bool → Outcome
  Ends : Outcome
  Makes : Home → List Cell → Outcome

-- what a decision sees of a world besides the row: whether a list of types is too large for a block, and whether there is
-- no room for one more entity
pub record Sight : Type 0 where
  pub registry : List TypeInfo
  pub too_large : List ℕ → Bool
  pub full : Bool

-- the row with other values of a shared type that it has: equal values change nothing, else the row moves
abbrev pub shared_set : Found → PartOf Value → Outcome
shared_set x p =
    if list_any (same_part p) x.home.shared then Keeps else Moves (home_with_shared p x.home) x.row.cells x.row.dying

-- the row with a type that it has and that isn't shared changed, and the type marked
abbrev pub values_set : Found → ℕ → (List Value → List Value) → Outcome
values_set x t change = Writes (t ∷ []) (with_values t change x.row.cells) x.row.dying

-- the row without the types that don't stay
abbrev pub kept : Found → (ℕ → Bool) → Bool → Outcome
kept x keeps dying = Moves (home_kept keeps x.home) (cells_kept keeps x.row.cells) dying

abbrev pub decide : Sight → Found → Act Value → Outcome
decide s x Destroy =
    if not (list_any (is_cleanup_at s.registry) x.home.types) then Ends
    else if not (list_any (λ t. not (is_cleanup_at s.registry t)) x.home.types) then Writes [] x.row.cells true
    else kept x (is_cleanup_at s.registry) true
decide s x (Add p) =
    if has_type x.home.types p.type_id
    then (if is_shared_at s.registry p.type_id then shared_set x p else values_set x p.type_id (λ values. p.values))
    else if s.too_large (with_type x.home.types p.type_id) then Skips TooLarge
    else if is_shared_at s.registry p.type_id then Moves (home_with_shared p x.home) x.row.cells x.row.dying
    else Moves (home_with p.type_id x.home) (with_typed cell_type (cell_of p) x.row.cells) x.row.dying
decide s x (Remove t) =
    if not (has_type x.home.types t) then Keeps
    else if x.row.dying && nat_eq (length (without_type x.home.types t)) 0 then Ends
    else kept x (λ u. not (nat_eq u t)) x.row.dying
decide s x (Set p) =
    if not (has_type x.home.types p.type_id) then Skips NoComponent
    else values_set x p.type_id (λ values. p.values)
decide s x (SetShared p) =
    if not (has_type x.home.types p.type_id) then Skips NoComponent
    else shared_set x p
decide s x (SetEnabled t on) =
    if not (is_enableable_at s.registry t) then Skips NotEnableable
    else if not (has_type x.home.types t) then Skips NoComponent
    else Writes (t ∷ []) (switched t on x.row.cells) x.row.dying
decide s x Instantiate =
    if s.full then Skips Full
    else Makes (home_kept (is_copied s.registry) x.home) (cells_kept (is_copied s.registry) x.row.cells)
decide s x (Append p) =
    if not (has_type x.home.types p.type_id) then Skips NoComponent
    else if nat_le MOST_ELEMENTS (element_count s.registry p.type_id x.row.cells) then Skips TooLong
    else values_set x p.type_id (λ values. values ++ p.values)
decide s x (Clear t) =
    if not (has_type x.home.types t) then Skips NoComponent
    else values_set x t (λ values. [])

-- of parts that are ordered by rising type
abbrev pub decide_create : Sight → List (PartOf Value) → Outcome
decide_create s parts =
    if s.too_large (map part_type parts) then Skips TooLarge
    else if s.full then Skips Full
    else Makes (home_of s.registry parts) (cells_of s.registry parts)

-- ---- what the world becomes

-- the world with the row of an entity in its place, and some types marked
abbrev pub written : List ℕ → Row → World → World
written types row w = record w { blocks = rewrite w.moment types row w.blocks }

-- the world with the row of an entity moved to a home
abbrev pub moved_to : (List ℕ → ℕ) → Home → Row → World → World
moved_to capacity home row w = record w { blocks = enter (capacity home.types) w.moment home row (leave w.moment row.entity w.blocks) }

-- the world without the row of an entity, whose name is given back
abbrev pub ended : Entity → World → World
ended e w = with_id_given e (record w { blocks = leave w.moment e w.blocks })

-- the world with a new row
abbrev pub made : (List ℕ → ℕ) → Home → List Cell → World → World
made capacity home cells w = record (with_id_taken w) {
  blocks = enter (capacity home.types) w.moment home (record { entity = next_id w; cells = cells; dying = false }) w.blocks;
}

-- the world after what was decided of an entity
abbrev pub apply : (List ℕ → ℕ) → World → Entity → Outcome → Answer
apply capacity w e (Skips cause) = record { world = w; reply = Skipped cause }
apply capacity w e Keeps = record { world = w; reply = Done }
apply capacity w e (Writes types cells dying) =
    record { world = written types (record { entity = e; cells = cells; dying = dying }) w; reply = Done }
apply capacity w e (Moves home cells dying) =
    record { world = moved_to capacity home (record { entity = e; cells = cells; dying = dying }) w; reply = Done }
apply capacity w e Ends = record { world = ended e w; reply = Done }
apply capacity w e (Makes home cells) = record { world = made capacity home cells w; reply = Made (next_id w) }

abbrev pub sight : (List ℕ → ℕ) → World → Sight
sight capacity w = record {
  registry = w.registry;
  too_large = λ types. nat_eq (capacity types) 0;
  full = nat_eq (room w) 0;
}

-- what is done to an entity whose row is this one
abbrev pub acted : (List ℕ → ℕ) → World → Entity → Act Value → Option Found → Answer
acted capacity w e a None = record { world = w; reply = Skipped NoEntity }
acted capacity w e a (Some x) = apply capacity w e (decide (sight capacity w) x a)

-- the world after an operation, and what the operation answers
unfoldable pub operate : (List ℕ → ℕ) → World → Operation → Answer
operate capacity w (Create parts) = apply capacity w null_entity (decide_create (sight capacity w) (by_type parts))
operate capacity w (On e a) = acted capacity w e a (found e w.blocks)
