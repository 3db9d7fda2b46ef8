-- A world with a scene moved in is lawful.
use Rattle.std.proofs.Common.{◌≡◌, ℕ, zero, suc, ◌+◌, ◌-◌, ◌<◌, ◌≤◌, min, ◌⊎◌, inl, inr, nat_eq, nat_lt, Bool, true, false, ◌&&◌, cond, List, [], ◌∷◌, ◌++◌, map, length, take, drop, Option, Some, None, refl, sym, ap, ap₂, ◌∙◌, subst, arith, append_assoc, eq-eqb}
use Rattle.std.proofs.lemmas.List.{take-map, drop-map, length-append}
use Rattle.ent_types.specs.declared.entity.Entity.{Entity}
use Rattle.ent_types.specs.declared.kinds.FieldKind.{FieldKind}
use Rattle.ent_types.specs.declared.kinds.FieldKind.TheVariants.{I32, I64, Ref as RefField}
use Rattle.ent_types.specs.declared.limits.TheConstants.{MOST_ELEMENTS, MOST_ENTITIES, MOST_INDEXES}
use Rattle.ent_types.specs.declared.type_info.FieldInfo.{FieldInfo}
use Rattle.ent_types.specs.declared.type_info.TypeInfo.{TypeInfo}
use Rattle.ent_types.specs.declared.value.Value.{Value}
use Rattle.ent_types.specs.declared.value.Value.TheVariants.{Int, Ref}
use Rattle.ent_types.specs.Fitting.{fits_field, fits_fields, fits_elements, fits_type}
use Rattle.ent_types.specs.Types.{is_buffer}
use Rattle.ent_types.specs.Registries.{type_at}
use Rattle.ent_types.specs.TypeLookups.{is_enableable_at}
use Rattle.system_version.specs.Versions.{IsVersion}
use Rattle.world_model.specs.Members.{In, one_if, tally, AreDistinct}
use Rattle.world_model.specs.Row.{Cell, Row, cell_type}
use Rattle.world_model.specs.World.{Home, Block, World}
use Rattle.world_model.specs.Found.{Found, placed_in, placed, is_of, found, has_index, found_by_index, entities_by_index, alive_count}
use Rattle.world_model.specs.Ids.{next_ids, room}
use Rattle.world_model.specs.Fits.{Fits}
use Rattle.world_model.specs.Scenes.{Renaming, renamed, value_renamed, arrivals, row_moved, block_moved, joined, attached, moved}
use Rattle.world_model.specs.Lawful.{is_free_at, IsSound, IsLawfulRow, IsLawfulBlock, AreLawfulCells, IsLawful}
use Rattle.world_laws.proofs.Perms.{Perm, empty, keep, swap, follow, perm_tally}
use Rattle.world_laws.proofs.Members.{in_append, in_left, in_right, in_map, map_in, map_append, length_map, tally_append, find_in, find_passes, member_counts}
use Rattle.world_laws.proofs.Same.{entity_is}
use Rattle.world_laws.proofs.Blocks.{marks_types, marks_now, present}
use Rattle.world_laws.proofs.Meanings.{each_once, free_dead, index_made}
use Rattle.world_laws.proofs.Taking.{ids_sound, ids_versions, ids_are, in_drop}
use Rattle.world_laws.proofs.ByIndex.{found_by_index_perm}
use Rattle.world_laws.proofs.Renaming.{entity_of, arrivals_in_order, arrival_is_id}

-- ---- a change of values that fits where they fit

abbrev pub KeepsFit : (Value → Value) → Type 0
KeepsFit change = (kind : FieldKind) (value : Value) → fits_field kind (change value) ≡ fits_field kind value

pub renaming_keeps_fit : (rs : List Renaming) → KeepsFit (value_renamed rs)
renaming_keeps_fit rs kind (Int z) = refl
renaming_keeps_fit rs I32 (Ref e) = refl
renaming_keeps_fit rs I64 (Ref e) = refl
renaming_keeps_fit rs RefField (Ref e) = refl

module _ (change : Value → Value) (keeps : KeepsFit change) where
  fields_fit : (fields : List FieldInfo) (values : List Value) → fits_fields fields (map change values) ≡ fits_fields fields values
  fields_fit [] [] = refl
  fields_fit [] (v ∷ vs) = refl
  fields_fit (f ∷ fs) [] = refl
  fields_fit (f ∷ fs) (v ∷ vs) = ap₂ (λ b c. b && c) (keeps f.kind v) (fields_fit fs vs)

  elements_fit : (most : ℕ) (fields : List FieldInfo) (values : List Value) → fits_elements most fields (map change values) ≡ fits_elements most fields values
  unfolding fits_elements
  elements_fit most fields [] = refl
  elements_fit zero fields (v ∷ vs) = refl
  elements_fit (suc most) fields (v ∷ vs) =
      ap₂ (λ b c. b && c)
      (ap (fits_fields fields) (take-map change (length fields) (v ∷ vs)) ∙ fields_fit fields (take (length fields) (v ∷ vs)))
      (ap (fits_elements most fields) (drop-map change (length fields) (v ∷ vs)) ∙ elements_fit most fields (drop (length fields) (v ∷ vs)))

  pub type_fits : (t : TypeInfo) (values : List Value) → fits_type t (map change values) ≡ fits_type t values
  unfolding fits_type
  type_fits t values = ap₂ (λ b c. cond (is_buffer t.kind) b c) (elements_fit MOST_ELEMENTS t.fields values) (fields_fit t.fields values)

  abbrev cell_moved : Cell → Cell
  cell_moved c = record c { values = map change c.values }

  cells_types : (cells : List Cell) → map cell_type (map cell_moved cells) ≡ map cell_type cells
  cells_types [] = refl
  cells_types (c ∷ cs) = ap (λ ts. c.type_id ∷ ts) (cells_types cs)

  pub cells_fit : (registry : List TypeInfo) (types : List ℕ) (cells : List Cell) → AreLawfulCells registry types cells → AreLawfulCells registry types (map cell_moved cells)
  cells_fit registry types cells h = record {
    types_are = cells_types cells ∙ h.types_are;
    fit = λ c i. (let (d, j, is) = in_map cell_moved c cells i in
        subst (λ (x : Cell). Fits registry x.type_id x.values) (sym is) (type_fits (type_at registry d.type_id) d.values ∙ h.fit d j));
    off = λ c i on. (let (d, j, is) = in_map cell_moved c cells i in
        subst (λ (x : Cell). x.off ≡ true → is_enableable_at registry x.type_id ≡ true) (sym is) (h.off d j) on);
  }

-- ---- the rows

placed_append : (bs cs : List Block) → placed (bs ++ cs) ≡ placed bs ++ placed cs
placed_append [] cs = refl
placed_append (b ∷ bs) cs = ap (λ xs. placed_in b.home b.rows ++ xs) (placed_append bs cs) ∙ sym (append_assoc (placed_in b.home b.rows) (placed bs) (placed cs))

abbrev pub found_moved : List Renaming → (Value → Value) → Found → Found
found_moved rs change x = record x { row = row_moved rs change x.row }

placed_rows : (rs : List Renaming) (change : Value → Value) (home : Home) (rows : List Row) → placed_in home (map (row_moved rs change) rows) ≡ map (found_moved rs change) (placed_in home rows)
placed_rows rs change home [] = refl
placed_rows rs change home (r ∷ rows) = ap (λ (xs : List Found). record { home = home; row = row_moved rs change r } ∷ xs) (placed_rows rs change home rows)

placed_moved : (now : ℕ) (rs : List Renaming) (change : Value → Value) (bs : List Block) → placed (map (block_moved now rs change) bs) ≡ map (found_moved rs change) (placed bs)
placed_moved now rs change [] = refl
placed_moved now rs change (b ∷ bs) =
    ap₂ (λ xs ys. xs ++ ys) (placed_rows rs change b.home b.rows) (placed_moved now rs change bs)
    ∙ sym (map_append (found_moved rs change) (placed_in b.home b.rows) (placed bs))

pub perm_map : {X Y : Type 0} (f : X → Y) {xs ys : List X} → Perm X xs ys → Perm Y (map f xs) (map f ys)
perm_map f empty = empty
perm_map f (keep x p) = keep (f x) (perm_map f p)
perm_map f (swap x y zs) = swap (f x) (f y) (map f zs)
perm_map f (follow p q) = follow (perm_map f p) (perm_map f q)

map_twice : (f : Entity → Entity) (xs : List Found) → map f (map entity_of xs) ≡ map (λ x. f (entity_of x)) xs
map_twice f [] = refl
map_twice f (x ∷ xs) = ap (λ ys. f (entity_of x) ∷ ys) (map_twice f xs)

module _ (capacity : List ℕ → ℕ) (w scene : World) (l : IsLawful capacity w) (s : IsLawful capacity scene)
    (same : scene.registry ≡ w.registry) (fits : alive_count scene ≤ room w) (change : Value → Value) (keeps : KeepsFit change) where
  abbrev rs : List Renaming
  rs = arrivals w scene

  abbrev ids : List Entity
  ids = next_ids (alive_count scene) w.free w.made w.first_entity_version

  abbrev after : World
  after = joined rs change w scene

  placed_after : placed after.blocks ≡ placed w.blocks ++ map (found_moved rs change) (placed scene.blocks)
  placed_after =
      placed_append w.blocks (map (block_moved w.moment rs change) scene.blocks)
      ∙ ap (λ xs. placed w.blocks ++ xs) (placed_moved w.moment rs change scene.blocks)

  -- the new rows have the ids
  tally_moved : (i : ℕ) (xs : List Found) → tally (has_index i) (map (found_moved rs change) xs) ≡ tally (is_free_at i) (map (λ x. renamed rs (entity_of x)) xs)
  tally_moved i [] = refl
  tally_moved i (x ∷ xs) = ap (λ n. one_if (nat_eq i (renamed rs (entity_of x)).index) + n) (tally_moved i xs)

  tally_ids : (i : ℕ) → tally (has_index i) (map (found_moved rs change) (placed scene.blocks)) ≡ tally (is_free_at i) ids
  tally_ids i =
      tally_moved i (placed scene.blocks)
      ∙ (sym (perm_tally (is_free_at i) (perm_map (λ x. renamed rs (entity_of x)) (found_by_index_perm capacity scene s)))
      ∙ ap (tally (is_free_at i)) (sym (map_twice (renamed rs) (found_by_index scene)) ∙ arrivals_in_order capacity scene s w))

  sound : IsSound after
  sound i =
      let counts = ap (tally (has_index i)) placed_after ∙ tally_append (has_index i) (placed w.blocks) (map (found_moved rs change) (placed scene.blocks)) in
      let new = tally_ids i in
      let taken = ids_sound i (alive_count scene) w.free w.made w.first_entity_version (tally (has_index i) (placed w.blocks)) (l.sound i) in
      omega arith

  row_lawful : (x : Found) → In x (placed scene.blocks) → IsLawfulRow w.registry (found_moved rs change x)
  row_lawful x i =
      let r = subst (λ registry. IsLawfulRow registry x) same (s.rows x i) in
      record {
        home = r.home;
        cells = cells_fit change keeps w.registry x.home.types x.row.cells r.cells;
        version = ids_versions (alive_count scene) w.free w.made w.first_entity_version l.free l.first (renamed rs x.row.entity) (arrival_is_id capacity scene s w x i);
      }

  block_lawful : (b : Block) → IsLawfulBlock capacity scene.moment b → IsLawfulBlock capacity w.moment (block_moved w.moment rs change b)
  block_lawful b h =
      let n = length_map (row_moved rs change) b.rows in
      let a = h.some in
      let f = h.few in
      record {
        some = omega arith;
        few = omega arith;
        marked = marks_types w.moment b.home.types;
        marks = marks_now w.moment l.moment b.home.types;
        order = present w.moment l.moment;
      }

  pub joined_lawful : IsLawful capacity after
  joined_lawful = record {
    registry = l.registry;
    sound = sound;
    made = (let m = l.made in omega arith);
    alive = (let n = ap length placed_after ∙ length-append (placed w.blocks) (map (found_moved rs change) (placed scene.blocks)) in
        let m = length_map (found_moved rs change) (placed scene.blocks) in let a = l.alive in omega arith);
    rows = λ x i. rows x (in_append x (placed w.blocks) (map (found_moved rs change) (placed scene.blocks)) (subst (In x) placed_after i));
    blocks = λ b i. blocks b (in_append b w.blocks (map (block_moved w.moment rs change) scene.blocks) i);
    free = λ e i. l.free e (in_drop e (alive_count scene) w.free i);
    first = l.first;
    moment = l.moment;
  }
    where
      rows : (x : Found) → In x (placed w.blocks) ⊎ In x (map (found_moved rs change) (placed scene.blocks)) → IsLawfulRow w.registry x
      rows x (inl i) = l.rows x i
      rows x (inr i) = let (y, j, is) = in_map (found_moved rs change) x (placed scene.blocks) i in subst (IsLawfulRow w.registry) (sym is) (row_lawful y j)

      blocks : (b : Block) → In b w.blocks ⊎ In b (map (block_moved w.moment rs change) scene.blocks) → IsLawfulBlock capacity w.moment b
      blocks b (inl i) = l.blocks b i
      blocks b (inr i) = let (c, j, is) = in_map (block_moved w.moment rs change) b scene.blocks i in subst (IsLawfulBlock capacity w.moment) (sym is) (block_lawful c (s.blocks c j))

  -- each row of the scene is found under its new entity, and each row of the world as before
  pub joined_finds : (x : Found) → In x (placed scene.blocks) → found (renamed rs x.row.entity) after.blocks ≡ Some (found_moved rs change x)
  joined_finds x i =
      each_once capacity after joined_lawful (found_moved rs change x)
      (subst (In (found_moved rs change x)) (sym placed_after) (in_right (found_moved rs change x) (placed w.blocks) (map (found_moved rs change) (placed scene.blocks)) (map_in (found_moved rs change) x (placed scene.blocks) i)))

  pub joined_keeps : (x : Found) → In x (placed w.blocks) → found x.row.entity after.blocks ≡ Some x
  joined_keeps x i =
      each_once capacity after joined_lawful x (subst (In x) (sym placed_after) (in_left x (placed w.blocks) (map (found_moved rs change) (placed scene.blocks)) i))

-- ---- the ids are new

pub ids_dead : (capacity : List ℕ → ℕ) (w : World) → IsLawful capacity w → (n : ℕ) (e : Entity) → In e (next_ids n w.free w.made w.first_entity_version) → found e w.blocks ≡ None
ids_dead capacity w l n e i = step (ids_are n w.free w.made w.first_entity_version e i)
  where
    fresh : (o : Option Found) → found e w.blocks ≡ o → w.made ≤ e.index → o ≡ None
    fresh None is le = refl
    fresh (Some x) is le =
        let same : e ≡ x.row.entity = entity_is e x.row.entity (find_passes (is_of e) x (placed w.blocks) is) in
        let below = index_made capacity w l x (find_in (is_of e) x (placed w.blocks) is) in
        let index = ap (λ (d : Entity). d.index) same in
        absurd (omega arith)

    step : In e w.free ⊎ (w.made ≤ e.index) → found e w.blocks ≡ None
    step (inl j) = free_dead capacity w l e j
    step (inr le) = fresh (found e w.blocks) refl le

-- and no two have one index
pub ids_distinct : (capacity : List ℕ → ℕ) (w : World) → IsLawful capacity w → (n : ℕ) → AreDistinct (map (λ (e : Entity). e.index) (next_ids n w.free w.made w.first_entity_version))
ids_distinct capacity w l n = distinct (next_ids n w.free w.made w.first_entity_version) few
  where
    most : (b : Bool) → one_if b ≤ 1
    most true = omega arith
    most false = omega arith

    few : (i : ℕ) → tally (is_free_at i) (next_ids n w.free w.made w.first_entity_version) ≤ 1
    few i =
        let taken = ids_sound i n w.free w.made w.first_entity_version (tally (has_index i) (placed w.blocks)) (l.sound i) in
        let m = most (nat_lt i (w.made + (n - length w.free))) in
        omega arith

    distinct : (es : List Entity) → ((i : ℕ) → tally (is_free_at i) es ≤ 1) → AreDistinct (map (λ (e : Entity). e.index) es)
    distinct [] few = tt
    distinct (e ∷ es) few = (once, distinct es (λ i. (let f = few i in omega arith)))
      where
        once : In e.index (map (λ (d : Entity). d.index) es) → ⊥
        once i =
            let (d, j, is) = in_map (λ (d : Entity). d.index) e.index es i in
            let c = member_counts (is_free_at e.index) d es j (eq-eqb e.index d.index is) in
            let f = subst (λ b. one_if b + tally (is_free_at e.index) es ≤ 1) (eq-eqb e.index e.index refl) (few e.index) in
            over c f
          where
            over : 1 ≤ tally (is_free_at e.index) es → 1 + tally (is_free_at e.index) es ≤ 1 → ⊥
            over c f = omega arith

-- ---- moved in, and attached

module _ (capacity : List ℕ → ℕ) (w scene : World) (l : IsLawful capacity w) (s : IsLawful capacity scene)
    (same : scene.registry ≡ w.registry) (fits : alive_count scene ≤ room w) where
  pub moved_lawful : IsLawful capacity (moved w scene)
  unfolding moved
  moved_lawful = joined_lawful capacity w scene l s same fits (value_renamed (arrivals w scene)) (renaming_keeps_fit (arrivals w scene))

  pub attached_lawful : IsLawful capacity (attached w scene)
  unfolding attached
  attached_lawful = joined_lawful capacity w scene l s same fits (λ value. value) (λ kind value. refl)

  pub moved_finds : (x : Found) → In x (placed scene.blocks)
      → found (renamed (arrivals w scene) x.row.entity) (moved w scene).blocks ≡ Some (found_moved (arrivals w scene) (value_renamed (arrivals w scene)) x)
  unfolding moved
  moved_finds = joined_finds capacity w scene l s same fits (value_renamed (arrivals w scene)) (renaming_keeps_fit (arrivals w scene))

  pub moved_keeps : (x : Found) → In x (placed w.blocks) → found x.row.entity (moved w scene).blocks ≡ Some x
  unfolding moved
  moved_keeps = joined_keeps capacity w scene l s same fits (value_renamed (arrivals w scene)) (renaming_keeps_fit (arrivals w scene))
