-- Which worlds are lawful, and what the calls ask of an operation.
use Rattle.std.specs.Prelude.{◌≡◌, ℕ, ◌+◌, ◌≤◌, Bool, true, false, not, nat_eq, nat_lt, List, length, map, filter}
use Rattle.ent_types.specs.declared.entity.Entity.{Entity}
use Rattle.ent_types.specs.declared.limits.TheConstants.{MOST_ENTITIES, MOST_INDEXES}
use Rattle.ent_types.specs.declared.type_info.TypeInfo.{TypeInfo}
use Rattle.ent_types.specs.declared.value.Value.{Value}
use Rattle.ent_types.specs.Registries.{IsLawfulRegistry}
use Rattle.ent_types.specs.TypeLookups.{is_shared_at, is_buffer_at, is_enableable_at}
use Rattle.system_version.specs.Versions.{IsVersion}
use Rattle.world_model.specs.Members.{In, one_if, tally, IsRising, AreDistinct}
use Rattle.world_model.specs.Part.{PartOf, part_type}
use Rattle.world_model.specs.Row.{Cell, cell_type}
use Rattle.world_model.specs.World.{Home, Mark, Block, World, mark_type}
use Rattle.world_model.specs.Found.{Found, placed, has_index, alive_count}
use Rattle.world_model.specs.Fits.{Fits, IsKnown, IsFitting, IsElement}
use Rattle.world_model.specs.Operations.{Act, Destroy, Add, Remove, Set, SetShared, SetEnabled, Instantiate, Append, Clear, Operation, Create, On}

-- ---- entities

abbrev pub is_free_at : ℕ → Entity → Bool
is_free_at index e = nat_eq index e.index

-- how many entities with this index are alive or free
abbrev pub count_at : ℕ → World → ℕ
count_at index w = tally (has_index index) (placed w.blocks) + tally (is_free_at index) w.free

-- the indexes of alive and free entities are distinct, and below the number made
abbrev pub IsSound : World → Type 0
IsSound w = (index : ℕ) → count_at index w ≤ one_if (nat_lt index w.made)

-- ---- rows

pub record IsLawfulHome (registry : List TypeInfo) (home : Home) : Type 0 where
  pub types : IsRising home.types
  pub known : (t : ℕ) → In t home.types → IsKnown registry t
  -- the shared types are those that have values
  pub shared : map part_type home.shared ≡ filter (is_shared_at registry) home.types
  pub fit : (p : PartOf Value) → In p home.shared → Fits registry p.type_id p.values

-- the cells of a row with these types
pub record AreLawfulCells (registry : List TypeInfo) (types : List ℕ) (cells : List Cell) : Type 0 where
  -- the other types are those that have a cell
  pub types_are : map cell_type cells ≡ filter (λ t. not (is_shared_at registry t)) types
  pub fit : (c : Cell) → In c cells → Fits registry c.type_id c.values
  -- what is off is enableable
  pub off : (c : Cell) → In c cells → c.off ≡ true → is_enableable_at registry c.type_id ≡ true

pub record IsLawfulRow (registry : List TypeInfo) (x : Found) : Type 0 where
  pub home : IsLawfulHome registry x.home
  pub cells : AreLawfulCells registry x.home.types x.row.cells
  pub version : IsVersion x.row.entity.version

-- ---- blocks

-- a moment from the first one to this one
pub record IsPast (now moment : ℕ) : Type 0 where
  pub from_one : 1 ≤ moment
  pub within : moment ≤ now

pub record IsLawfulBlock (capacity : List ℕ → ℕ) (now : ℕ) (b : Block) : Type 0 where
  pub some : 1 ≤ length b.rows
  pub few : length b.rows ≤ capacity b.home.types
  -- there is one mark for each type
  pub marked : map mark_type b.marks ≡ b.home.types
  pub marks : (m : Mark) → In m b.marks → IsPast now m.moment
  pub order : IsPast now b.order

-- ---- the world

pub record IsLawful (capacity : List ℕ → ℕ) (w : World) : Type 0 where
  pub registry : IsLawfulRegistry w.registry
  pub sound : IsSound w
  pub made : w.made ≤ MOST_INDEXES
  pub alive : alive_count w ≤ MOST_ENTITIES
  pub rows : (x : Found) → In x (placed w.blocks) → IsLawfulRow w.registry x
  pub blocks : (b : Block) → In b w.blocks → IsLawfulBlock capacity w.moment b
  pub free : (e : Entity) → In e w.free → IsVersion e.version
  pub first : IsVersion w.first_entity_version
  pub moment : 1 ≤ w.moment

-- where a block has room for rows of some types, it has room for rows of a part of them
abbrev pub HasRoomForParts : (List ℕ → ℕ) → Type 0
HasRoomForParts capacity = (keeps : ℕ → Bool) (types : List ℕ) → 1 ≤ capacity types → 1 ≤ capacity (filter keeps types)

-- ---- what the calls ask

abbrev pub ActSuits : List TypeInfo → Act Value → Type 0
ActSuits registry Destroy = Unit {0}
ActSuits registry (Add p) = IsFitting registry p
ActSuits registry (Remove t) = IsKnown registry t
ActSuits registry (Set p) = IsFitting registry p × (is_shared_at registry p.type_id ≡ false) × (is_buffer_at registry p.type_id ≡ false)
ActSuits registry (SetShared p) = IsFitting registry p × (is_shared_at registry p.type_id ≡ true)
ActSuits registry (SetEnabled t on) = IsKnown registry t
ActSuits registry Instantiate = Unit {0}
ActSuits registry (Append p) = IsElement registry p
ActSuits registry (Clear t) = IsKnown registry t × (is_buffer_at registry t ≡ true)

abbrev pub Suits : List TypeInfo → Operation → Type 0
Suits registry (Create parts) = ((p : PartOf Value) → In p parts → IsFitting registry p) × AreDistinct (map part_type parts)
Suits registry (On e a) = ActSuits registry a
