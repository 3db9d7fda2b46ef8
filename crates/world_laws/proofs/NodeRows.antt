-- What the renaming of references makes of a node: its home stays, and the values of its cells are renamed.
use Rattle.std.proofs.Common.{◌≡◌, ℕ, inl, inr, nat_eq, nat_lt, Bool, true, false, not, ◌&&◌, ◌||◌, cond, List, [], ◌∷◌, map, filter, refl, sym, ap, ap₂, ◌∙◌, subst, eqb-true, eq-eqb}
use Rattle.std.specs.Prelude.{fold}
use Rattle.std.specs.List.{list_any}
use Rattle.std.proofs.lemmas.Bool.{and_parts}
use Rattle.ent_types.specs.declared.kinds.FieldKind.{FieldKind}
use Rattle.ent_types.specs.declared.kinds.FieldKind.TheVariants.{I32, I64, Ref as RefField}
use Rattle.ent_types.specs.declared.kinds.Kind.{Kind}
use Rattle.ent_types.specs.declared.kinds.Kind.TheVariants.{Plain, Tag, Shared, Cleanup, Buffer}
use Rattle.ent_types.specs.declared.type_info.FieldInfo.{FieldInfo}
use Rattle.ent_types.specs.declared.type_info.TypeInfo.{TypeInfo}
use Rattle.ent_types.specs.declared.value.Value.{Value}
use Rattle.ent_types.specs.declared.value.Value.TheVariants.{Int, Ref}
use Rattle.ent_types.specs.Fitting.{fits_field, fits_fields, fits_type, fits_elements}
use Rattle.ent_types.specs.declared.limits.TheConstants.{MOST_ELEMENTS}
use Rattle.ent_types.specs.Registries.{type_at, IsLawfulRegistry}
use Rattle.ent_types.specs.Types.{is_ref, is_ref_kind, is_shared, is_buffer}
use Rattle.ent_types.specs.TypeLookups.{is_shared_at, is_enableable_at}
use Rattle.ent_types.specs.TypeSets.{has_type}
use Rattle.ent_types.proofs.LawfulTypes.{shared_has_no_ref, is_lawful_type-at}
use Rattle.world_model.specs.Members.{In}
use Rattle.world_model.specs.Part.{PartOf, part_type, part_map, with_typed, by_type}
use Rattle.world_model.specs.Row.{Cell, cell_type, cell_of}
use Rattle.world_model.specs.World.{Home}
use Rattle.world_model.specs.Fits.{IsFitting}
use Rattle.world_model.specs.Operations.{home_of, cells_of, switched}
use Rattle.world_model.specs.Scenes.{Renaming, value_renamed}
use Rattle.world_laws.specs.SceneRows.{cells_disabled}
use Rattle.world_laws.proofs.Members.{in_map, map_in, in_filter, map_filter}

-- ---- parts under a change of values

module _ {V W : Type 0} (f : V → W) where
  typed_map : (p : PartOf V) (ps : List (PartOf V)) → with_typed part_type (part_map f p) (map (part_map f) ps) ≡ map (part_map f) (with_typed part_type p ps)
  typed_map p [] = refl
  typed_map p (q ∷ qs) = step (nat_lt p.type_id q.type_id) (nat_eq q.type_id p.type_id) (typed_map p qs)
    where
      step : (less same : Bool) → with_typed part_type (part_map f p) (map (part_map f) qs) ≡ map (part_map f) (with_typed part_type p qs)
          → cond less (part_map f p ∷ part_map f q ∷ map (part_map f) qs) (cond same (part_map f p ∷ map (part_map f) qs) (part_map f q ∷ with_typed part_type (part_map f p) (map (part_map f) qs)))
          ≡ map (part_map f) (cond less (p ∷ q ∷ qs) (cond same (p ∷ qs) (q ∷ with_typed part_type p qs)))
      step true same rest = refl
      step false true rest = refl
      step false false rest = ap (λ rs. part_map f q ∷ rs) rest

  pub by_type_map : (ps : List (PartOf V)) → by_type (map (part_map f) ps) ≡ map (part_map f) (by_type ps)
  by_type_map [] = refl
  by_type_map (p ∷ ps) = ap (with_typed part_type (part_map f p)) (by_type_map ps) ∙ typed_map p (by_type ps)

  pub types_map : (ps : List (PartOf V)) → map part_type (map (part_map f) ps) ≡ map part_type ps
  types_map [] = refl
  types_map (p ∷ ps) = ap (λ ts. p.type_id ∷ ts) (types_map ps)

abbrev pub cell_changed : (Value → Value) → Cell → Cell
cell_changed f c = record c { values = map f c.values }

cells_map : (f : Value → Value) (ps : List (PartOf Value)) → map cell_of (map (part_map f) ps) ≡ map (cell_changed f) (map cell_of ps)
cells_map f [] = refl
cells_map f (p ∷ ps) = ap (λ cs. cell_of (part_map f p) ∷ cs) (cells_map f ps)

pub cells_of_map : (registry : List TypeInfo) (f : Value → Value) (ps : List (PartOf Value)) → cells_of registry (map (part_map f) ps) ≡ map (cell_changed f) (cells_of registry ps)
cells_of_map registry f ps =
    ap (map cell_of) (sym (map_filter (part_map f) (λ (q : PartOf Value). not (is_shared_at registry q.type_id)) ps))
    ∙ cells_map f (filter (λ (q : PartOf Value). not (is_shared_at registry q.type_id)) ps)

-- ---- shared values have no references

neither : (b c : Bool) → (b || c) ≡ false → (b ≡ false) × (c ≡ false)
neither true c h = absurd (cc)
neither false c h = (refl, h)

module _ (rs : List Renaming) where
  number_stays : (kind : FieldKind) (v : Value) → is_ref_kind kind ≡ false → fits_field kind v ≡ true → value_renamed rs v ≡ v
  number_stays kind (Int z) plain fit = refl
  number_stays I32 (Ref e) plain fit = absurd (cc)
  number_stays I64 (Ref e) plain fit = absurd (cc)
  number_stays RefField (Ref e) plain fit = absurd (cc)

  numbers_stay : (fields : List FieldInfo) (values : List Value) → list_any is_ref fields ≡ false → fits_fields fields values ≡ true → map (value_renamed rs) values ≡ values
  numbers_stay [] [] plain fit = refl
  numbers_stay [] (v ∷ vs) plain fit = absurd (cc)
  numbers_stay (f ∷ fs) [] plain fit = absurd (cc)
  numbers_stay (f ∷ fs) (v ∷ vs) plain fit =
      let none = neither (is_ref f) (list_any is_ref fs) plain in
      let parts = and_parts (fits_field f.kind v) (fits_fields fs vs) fit in
      ap₂ (λ x xs. x ∷ xs) (number_stays f.kind v none.0 parts.0) (numbers_stay fs vs none.1 parts.1)

  shared_kind : (kind : Kind) → is_shared kind ≡ true → kind ≡ Shared
  shared_kind Plain h = absurd (cc)
  shared_kind Tag h = absurd (cc)
  shared_kind Shared h = refl
  shared_kind Cleanup h = absurd (cc)
  shared_kind Buffer h = absurd (cc)

  fields_of_shared : (t : TypeInfo) (values : List Value) → t.kind ≡ Shared → fits_type t values ≡ true → fits_fields t.fields values ≡ true
  unfolding fits_type
  fields_of_shared t values is fit = sym (ap (λ (k : Kind). cond (is_buffer k) (fits_elements MOST_ELEMENTS t.fields values) (fits_fields t.fields values)) is) ∙ fit

  module _ (registry : List TypeInfo) (lawful : IsLawfulRegistry registry) where
    part_stays : (p : PartOf Value) → IsFitting registry p → is_shared_at registry p.type_id ≡ true → part_map (value_renamed rs) p ≡ p
    part_stays p h shared =
        let is = shared_kind (type_at registry p.type_id).kind shared in
        ap (λ vs. let q : PartOf Value = record { type_id = p.type_id; values = vs } in q)
        (numbers_stay (type_at registry p.type_id).fields p.values
        (shared_has_no_ref (type_at registry p.type_id) (is_lawful_type-at registry lawful p.type_id h.known) is)
        (fields_of_shared (type_at registry p.type_id) p.values is h.fit))

    shared_stay : (ps : List (PartOf Value)) → ((p : PartOf Value) → In p ps → IsFitting registry p)
        → filter (λ (p : PartOf Value). is_shared_at registry p.type_id) (map (part_map (value_renamed rs)) ps) ≡ filter (λ (p : PartOf Value). is_shared_at registry p.type_id) ps
    shared_stay [] all = refl
    shared_stay (p ∷ ps) all = step (is_shared_at registry p.type_id) refl (shared_stay ps (λ q i. all q (inr i)))
      where
        those : List (PartOf Value) → List (PartOf Value)
        those qs = filter (λ (q : PartOf Value). is_shared_at registry q.type_id) qs

        step : (b : Bool) → is_shared_at registry p.type_id ≡ b → those (map (part_map (value_renamed rs)) ps) ≡ those ps
            → cond b (part_map (value_renamed rs) p ∷ those (map (part_map (value_renamed rs)) ps)) (those (map (part_map (value_renamed rs)) ps)) ≡ cond b (p ∷ those ps) (those ps)
        step true is rest = ap₂ (λ q qs. q ∷ qs) (part_stays p (all p (inl refl)) is) rest
        step false is rest = rest

    pub home_stays : (ps : List (PartOf Value)) → ((p : PartOf Value) → In p ps → IsFitting registry p)
        → home_of registry (map (part_map (value_renamed rs)) ps) ≡ home_of registry ps
    home_stays ps all = ap₂ (λ ts ss. let h : Home = record { types = ts; shared = ss } in h) (types_map (value_renamed rs) ps) (shared_stay ps all)

-- ---- types that are disabled one after another

pub in_has : (t : ℕ) (ts : List ℕ) → In t ts → has_type ts t ≡ true
in_has t [] i = absurd i
in_has t (s ∷ ts) (inl e) = ap (λ b. b || has_type ts t) (eq-eqb s t (sym e))
in_has t (s ∷ ts) (inr i) = step (nat_eq s t) (in_has t ts i)
  where
    step : (b : Bool) → has_type ts t ≡ true → (b || has_type ts t) ≡ true
    step true h = refl
    step false h = h

module _ (registry : List TypeInfo) (types : List ℕ) where
  -- the cells after one type was disabled, if it can be and is there
  abbrev pub turned : List Cell → ℕ → List Cell
  turned cs t = cond (is_enableable_at registry t && has_type types t) (switched t false cs) cs

  abbrev off_by : List ℕ → Cell → Cell
  off_by ts c = record c { off = (has_type ts c.type_id && is_enableable_at registry c.type_id) || c.off }

  off_by_none : (cs : List Cell) → map (off_by []) cs ≡ cs
  off_by_none [] = refl
  off_by_none (c ∷ cs) = ap (λ ds. c ∷ ds) (off_by_none cs)

  can_be : (h e o : Bool) → e ≡ true → ((h && e) || true) ≡ ((true && e) || o)
  can_be true true o is = refl
  can_be false true o is = refl
  can_be h false o is = absurd (cc)

  can_not_be : (h e o : Bool) → e ≡ false → ((h && e) || o) ≡ ((true && e) || o)
  can_not_be true false o is = refl
  can_not_be false false o is = refl
  can_not_be h true o is = absurd (cc)

  turn_cell : (t : ℕ) (ts : List ℕ) (c : Cell) → (is_enableable_at registry t && has_type types t) ≡ true
      → off_by ts (record c { off = cond (nat_eq c.type_id t) true c.off }) ≡ off_by (t ∷ ts) c
  turn_cell t ts c may = step (nat_eq c.type_id t) (nat_eq t c.type_id) refl refl
    where
      step : (p q : Bool) → nat_eq c.type_id t ≡ p → nat_eq t c.type_id ≡ q
          → (let d : Cell = record c { off = (has_type ts c.type_id && is_enableable_at registry c.type_id) || cond p true c.off } in d)
          ≡ record c { off = ((q || has_type ts c.type_id) && is_enableable_at registry c.type_id) || c.off }
      step true true e f =
          ap (λ b. let d : Cell = record c { off = b } in d)
          (can_be (has_type ts c.type_id) (is_enableable_at registry c.type_id) c.off (ap (is_enableable_at registry) (eqb-true c.type_id t e) ∙ (and_parts (is_enableable_at registry t) (has_type types t) may).0))
      step true false e f = let no_way : true ≡ false = sym (eq-eqb t c.type_id (sym (eqb-true c.type_id t e))) ∙ f in absurd (cc)
      step false true e f = let no_way : true ≡ false = sym (eq-eqb c.type_id t (sym (eqb-true t c.type_id f))) ∙ e in absurd (cc)
      step false false e f = refl

  leave_cell : (t : ℕ) (ts : List ℕ) (c : Cell) → (is_enableable_at registry t && has_type types t) ≡ false → has_type types c.type_id ≡ true → off_by ts c ≡ off_by (t ∷ ts) c
  leave_cell t ts c may there = step (nat_eq t c.type_id) refl
    where
      no : (e h : Bool) → (e && h) ≡ false → h ≡ true → e ≡ false
      no true true none is = absurd (cc)
      no true false none is = absurd (cc)
      no false h none is = refl

      step : (q : Bool) → nat_eq t c.type_id ≡ q
          → off_by ts c ≡ record c { off = ((q || has_type ts c.type_id) && is_enableable_at registry c.type_id) || c.off }
      step true f =
          ap (λ b. let d : Cell = record c { off = b } in d)
          (can_not_be (has_type ts c.type_id) (is_enableable_at registry c.type_id) c.off
          (no (is_enableable_at registry c.type_id) (has_type types c.type_id) (sym (ap (λ u. is_enableable_at registry u && has_type types u) (eqb-true t c.type_id f)) ∙ may) there))
      step false f = refl

  turn_cells : (t : ℕ) (ts : List ℕ) (cs : List Cell) → (is_enableable_at registry t && has_type types t) ≡ true → map (off_by ts) (switched t false cs) ≡ map (off_by (t ∷ ts)) cs
  turn_cells t ts [] may = refl
  turn_cells t ts (c ∷ cs) may = ap₂ (λ d ds. d ∷ ds) (turn_cell t ts c may) (turn_cells t ts cs may)

  abbrev AreThere : List Cell → Type 0
  AreThere cs = (u : ℕ) → In u (map cell_type cs) → has_type types u ≡ true

  leave_cells : (t : ℕ) (ts : List ℕ) (cs : List Cell) → (is_enableable_at registry t && has_type types t) ≡ false → AreThere cs → map (off_by ts) cs ≡ map (off_by (t ∷ ts)) cs
  leave_cells t ts [] may there = refl
  leave_cells t ts (c ∷ cs) may there = ap₂ (λ d ds. d ∷ ds) (leave_cell t ts c may (there c.type_id (inl refl))) (leave_cells t ts cs may (λ u i. there u (inr i)))

  switched_types : (t : ℕ) (cs : List Cell) → map cell_type (switched t false cs) ≡ map cell_type cs
  switched_types t [] = refl
  switched_types t (c ∷ cs) = ap (λ ts. c.type_id ∷ ts) (switched_types t cs)

  all_turned : (ts : List ℕ) (cs : List Cell) → AreThere cs → fold turned cs ts ≡ map (off_by ts) cs
  all_turned [] cs there = sym (off_by_none cs)
  all_turned (t ∷ ts) cs there = step (is_enableable_at registry t && has_type types t) refl (λ ds more. all_turned ts ds more)
    where
      step : (b : Bool) → (is_enableable_at registry t && has_type types t) ≡ b → ((ds : List Cell) → AreThere ds → fold turned ds ts ≡ map (off_by ts) ds)
          → fold turned (cond b (switched t false cs) cs) ts ≡ map (off_by (t ∷ ts)) cs
      step true may rest = rest (switched t false cs) (λ u i. there u (subst (In u) (switched_types t cs) i)) ∙ turn_cells t ts cs may
      step false may rest = rest cs there ∙ leave_cells t ts cs may there

or_none : (b : Bool) → (b || false) ≡ b
or_none true = refl
or_none false = refl

-- the cells of a new row with references renamed, after some types were disabled
pub cells_turned : (registry : List TypeInfo) (f : Value → Value) (ts : List ℕ) (ps : List (PartOf Value))
    → fold (turned registry (map part_type ps)) (map (cell_changed f) (cells_of registry ps)) ts ≡ map (cell_changed f) (cells_disabled registry ts (cells_of registry ps))
cells_turned registry f ts ps = all_turned registry (map part_type ps) ts (map (cell_changed f) (cells_of registry ps)) there ∙ all_on owned
  where
    owned : List (PartOf Value)
    owned = filter (λ (p : PartOf Value). not (is_shared_at registry p.type_id)) ps

    there : (u : ℕ) → In u (map cell_type (map (cell_changed f) (cells_of registry ps))) → has_type (map part_type ps) u ≡ true
    there u i =
        let (c, j, e) = in_map cell_type u (map (cell_changed f) (cells_of registry ps)) i in
        let (d, k, g) = in_map (cell_changed f) c (cells_of registry ps) j in
        let (p, m, h) = in_map cell_of d owned k in
        let same : u ≡ p.type_id = e ∙ (ap cell_type g ∙ ap cell_type h) in
        subst (λ v. has_type (map part_type ps) v ≡ true) (sym same)
        (in_has p.type_id (map part_type ps) (map_in part_type p ps (in_filter (λ (q : PartOf Value). not (is_shared_at registry q.type_id)) p ps m)))

    all_on : (qs : List (PartOf Value))
        → map (λ (c : Cell). record c { off = (has_type ts c.type_id && is_enableable_at registry c.type_id) || c.off }) (map (cell_changed f) (map cell_of qs))
        ≡ map (cell_changed f) (cells_disabled registry ts (map cell_of qs))
    all_on [] = refl
    all_on (q ∷ qs) = ap₂ (λ (c : Cell) cs. c ∷ cs)
        (ap (λ b. let c : Cell = record { type_id = q.type_id; values = map f q.values; off = b } in c) (or_none (has_type ts q.type_id && is_enableable_at registry q.type_id)))
        (all_on qs)
