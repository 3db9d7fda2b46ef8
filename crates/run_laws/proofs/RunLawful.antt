-- A run keeps a world lawful.
use Rattle.std.proofs.Common.{◌≡◌, ℕ, zero, suc, ℤ, ◌+◌, ◌≤◌, ◌⊎◌, inl, inr, nat_eq, Bool, true, false, not, if◌then◌else◌, List, [], ◌∷◌, map, length, Option, None, refl, sym, ap, ap₂, ◌∙◌, subst, arith, eqb-true, slice_set, true≢false}
use Rattle.std.specs.Prelude.{slice_index_or, FitsSigned}
use Rattle.std.specs.Int.{int_wrap, w32, w64}
use Rattle.std.proofs.lemmas.Int.{ints, SFits-int_wrap}
use Rattle.std.proofs.lemmas.Bool.{and_parts, and_from}
use Rattle.ent_types.specs.declared.entity.Entity.{Entity}
use Rattle.ent_types.specs.declared.kinds.FieldKind.{FieldKind}
use Rattle.ent_types.specs.declared.kinds.FieldKind.TheVariants.{I32, I64, Ref as RefKind}
use Rattle.ent_types.specs.declared.type_info.FieldInfo.{FieldInfo}
use Rattle.ent_types.specs.declared.type_info.TypeInfo.{TypeInfo}
use Rattle.ent_types.specs.declared.value.Value.{Value}
use Rattle.ent_types.specs.declared.value.Value.TheVariants.{Int, Ref}
use Rattle.ent_types.specs.Fitting.{fit, fits_field, fits_fields, fits_type}
use Rattle.ent_types.specs.Registries.{type_at}
use Rattle.ent_types.specs.Types.{is_buffer}
use Rattle.ent_types.specs.TypeLookups.{field_kind_at, is_buffer_at, is_enableable_at}
use Rattle.ent_types.specs.TypeSets.{has_type}
use Rattle.world_model.specs.Members.{In, tally, one_if}
use Rattle.world_model.specs.Row.{Cell, Row, cell_type}
use Rattle.world_model.specs.World.{Home, Mark, Block, World, mark_type}
use Rattle.world_model.specs.Found.{Found, placed_in, placed, has_index}
use Rattle.world_model.specs.Fits.{Fits}
use Rattle.world_model.specs.Write.{marked}
use Rattle.world_model.specs.Lawful.{AreLawfulCells, IsLawfulRow, IsPast, IsLawfulBlock, IsLawful}
use Rattle.world_laws.proofs.Members.{in_append, in_left, in_right, in_map}
use Rattle.world_laws.proofs.Replaced.{later_past, later_block}
use Rattle.expr_eval.specs.Values.{OwnRow, OtherRows, value, is_true}
use Rattle.expr_trees.specs.declared.tree.ValueExpr.{ValueExpr}
use Rattle.expr_trees.specs.declared.tree.ValueExpr.TheVariants as values
use Rattle.scenario_record.specs.declared.record.SystemEntry.{SystemEntry}
use Rattle.run_model.specs.Clock.{Clock, moments}
use Rattle.run_model.specs.Query.{matches, is_visited}
use Rattle.run_model.specs.Job.{Spot, own_of, others_in, fitted, Text, Assigns, Switches, texts_of, writes, after_text, after_texts}
use Rattle.run_model.specs.Run.{cells_after, row_after, rows_after, visited, item_after, blocks_after, run}
use Rattle.run_laws.specs.Agree.{Both, FoundAgree}
use Rattle.run_laws.specs.Suits.{HasLawfulTexts}
use Rattle.run_laws.proofs.RunAgree.{placed_agree}
use Rattle.run_laws.proofs.Phases.{Out, blocks_keep}

-- ---- values that fit

wraps_32 : (z : ℤ) → FitsSigned w32 z → fits_field I32 (Int z) ≡ true
wraps_32 z h = grind (arith, ints)

wraps_64 : (z : ℤ) → FitsSigned w64 z → fits_field I64 (Int z) ≡ true
wraps_64 z h = grind (arith, ints)

pub fit_fits : (kind : FieldKind) (v : Value) → fits_field kind (fit kind v) ≡ true
fit_fits I32 (Int z) = wraps_32 (int_wrap w32 z) (SFits-int_wrap w32 z)
fit_fits I32 (Ref e) = refl
fit_fits I64 (Int z) = wraps_64 (int_wrap w64 z) (SFits-int_wrap w64 z)
fit_fits I64 (Ref e) = refl
fit_fits RefKind (Int z) = refl
fit_fits RefKind (Ref e) = refl

set_fits : (other : FieldInfo) (fields : List FieldInfo) (vs : List Value) (i : ℕ) (v : Value) → fits_fields fields vs ≡ true
    → fits_fields fields (slice_set vs i (fit (slice_index_or fields i other).kind v)) ≡ true
set_fits other [] [] i v h = refl
set_fits other [] (u ∷ vs) i v h = absurd (true≢false (sym h))
set_fits other (f ∷ fs) [] i v h = absurd (true≢false (sym h))
set_fits other (f ∷ fs) (u ∷ vs) zero v h =
    and_from (fits_field f.kind (fit f.kind v)) (fits_fields fs vs) (fit_fits f.kind v) (and_parts (fits_field f.kind u) (fits_fields fs vs) h).1
set_fits other (f ∷ fs) (u ∷ vs) (suc i) v h =
    let parts = and_parts (fits_field f.kind u) (fits_fields fs vs) h in
    and_from (fits_field f.kind u) (fits_fields fs (slice_set vs i (fit (slice_index_or fs i other).kind v))) parts.0 (set_fits other fs vs i v parts.1)

pub set_keeps_fit : (info : TypeInfo) (vs : List Value) (i : ℕ) (v : Value) → is_buffer info.kind ≡ false → fits_type info vs ≡ true
    → fits_type info (slice_set vs i (fit (slice_index_or info.fields i (record { name = []; kind = I32 })).kind v)) ≡ true
unfolding fits_type
set_keeps_fit info vs i v plain h = rw plain (set_fits (record { name = []; kind = I32 }) info.fields vs i v (rw plain at h))

fitted_is : (kind : FieldKind) (own : OwnRow) (others : OtherRows) (e : ValueExpr) → (v : Value) × (fitted kind own others e ≡ fit kind v)
fitted_is kind own others (values.Int e) = (Int (value own others e), refl)
fitted_is kind own others (values.Ref r) = (_, refl)

-- ---- cells

types_kept : (f : Cell → Cell) → ((c : Cell) → cell_type (f c) ≡ cell_type c) → (cs : List Cell) → map cell_type (map f cs) ≡ map cell_type cs
types_kept f keeps [] = refl
types_kept f keeps (c ∷ cs) = ap₂ (λ (t : ℕ) ts. t ∷ ts) (keeps c) (types_kept f keeps cs)

module _ (registry : List TypeInfo) (others : OtherRows) (types : List ℕ) where
  abbrev TextSuits : Text → Type 0
  TextSuits (Assigns a) = is_buffer_at registry a.ty.0 ≡ false
  TextSuits (Switches w) = is_enableable_at registry w.ty.0 ≡ true

  text_lawful : (own : OwnRow) (t : Text) (cs : List Cell) → TextSuits t → AreLawfulCells registry types cs → AreLawfulCells registry types (after_text registry others own t cs)
  text_lawful own (Assigns a) cs plain lawful = record {
    types_are = types_kept set (λ c. refl) cs ∙ lawful.types_are;
    fit = λ c i. (let (d, j, e) = in_map set c cs i in subst (λ (k : Cell). Fits registry k.type_id k.values) (sym e) (by d (nat_eq d.type_id a.ty.0) refl (lawful.fit d j)));
    off = λ c i. (let (d, j, e) = in_map set c cs i in subst (λ (k : Cell). k.off ≡ true → is_enableable_at registry k.type_id ≡ true) (sym e) (lawful.off d j));
  }
    where
      new : Value
      new = fitted (field_kind_at registry a.ty.0 a.field) own others a.value

      set : Cell → Cell
      set c = record c { values = if nat_eq c.type_id a.ty.0 then slice_set c.values a.field new else c.values }

      by : (d : Cell) (b : Bool) → nat_eq d.type_id a.ty.0 ≡ b → Fits registry d.type_id d.values → Fits registry d.type_id (if b then slice_set d.values a.field new else d.values)
      by d true e h =
          let (v, is) = fitted_is (field_kind_at registry a.ty.0 a.field) own others a.value in
          let same : d.type_id ≡ a.ty.0 = eqb-true d.type_id a.ty.0 e in
          subst (λ t. Fits registry t (slice_set d.values a.field new)) (sym same)
          (subst (λ u. Fits registry a.ty.0 (slice_set d.values a.field u)) (sym is)
          (set_keeps_fit (type_at registry a.ty.0) d.values a.field v plain (subst (λ t. Fits registry t d.values) same h)))
      by d false e h = h
  text_lawful own (Switches w) cs enableable lawful = record {
    types_are = types_kept turn (λ c. refl) cs ∙ lawful.types_are;
    fit = λ c i. (let (d, j, e) = in_map turn c cs i in subst (λ (k : Cell). Fits registry k.type_id k.values) (sym e) (lawful.fit d j));
    off = λ c i. (let (d, j, e) = in_map turn c cs i in subst (λ (k : Cell). k.off ≡ true → is_enableable_at registry k.type_id ≡ true) (sym e) (by d (nat_eq d.type_id w.ty.0) refl (lawful.off d j)));
  }
    where
      turn : Cell → Cell
      turn c = record c { off = if nat_eq c.type_id w.ty.0 then not (is_true (value own others w.value)) else c.off }

      by : (d : Cell) (b : Bool) → nat_eq d.type_id w.ty.0 ≡ b → (d.off ≡ true → is_enableable_at registry d.type_id ≡ true)
          → (if b then not (is_true (value own others w.value)) else d.off) ≡ true → is_enableable_at registry d.type_id ≡ true
      by d true e h off = subst (λ t. is_enableable_at registry t ≡ true) (sym (eqb-true d.type_id w.ty.0 e)) enableable
      by d false e h off = h off

  texts_lawful : (spot : Spot) (home : Home) (me : Entity) (ts : List Text) → ((t : Text) → In t ts → TextSuits t) → (cs : List Cell)
      → AreLawfulCells registry types cs → AreLawfulCells registry types (after_texts registry others spot home me ts cs)
  texts_lawful spot home me [] suits cs lawful = lawful
  texts_lawful spot home me (t ∷ ts) suits cs lawful =
      texts_lawful spot home me ts (λ u i. suits u (inr i)) (after_text registry others (own_of registry spot home me cs) t cs)
      (text_lawful (own_of registry spot home me cs) t cs (suits t (inl refl)) lawful)

texts_suit : (registry : List TypeInfo) (others : OtherRows) (types : List ℕ) (s : SystemEntry) → HasLawfulTexts registry s → (t : Text) → In t (texts_of s) → TextSuits registry others types t
texts_suit registry others types s suits t i = by (in_append t (map Assigns s.set) (map Switches s.enable) i)
  where
    by : In t (map Assigns s.set) ⊎ In t (map Switches s.enable) → TextSuits registry others types t
    by (inl j) = let (a, k, e) = in_map Assigns t s.set j in subst (TextSuits registry others types) (sym e) (suits.assigns a k)
    by (inr j) = let (w, k, e) = in_map Switches t s.enable j in subst (TextSuits registry others types) (sym e) (suits.switches w k)

-- ---- rows and blocks

in_placed_in : (x : Found) (home : Home) (rows : List Row) → In x (placed_in home rows) → (r : Row) × In r rows × (x ≡ record { home = home; row = r })
in_placed_in x home [] h = absurd h
in_placed_in x home (r ∷ rs) (inl e) = (r, inl refl, e)
in_placed_in x home (r ∷ rs) (inr i) = let (q, j, e) = in_placed_in x home rs i in (q, inr j, e)

placed_in_has : (home : Home) (r : Row) (rows : List Row) → In r rows → In (record { home = home; row = r }) (placed_in home rows)
placed_in_has home r [] h = absurd h
placed_in_has home r (q ∷ rs) (inl e) = inl (ap (λ (u : Row). (let x : Found = record { home = home; row = u } in x)) e)
placed_in_has home r (q ∷ rs) (inr i) = inr (placed_in_has home r rs i)

in_placed : (x : Found) (bs : List Block) → In x (placed bs) → (b : Block) × In b bs × ((r : Row) × In r b.rows × (x ≡ record { home = b.home; row = r }))
in_placed x [] h = absurd h
in_placed x (b ∷ bs) h = by (in_append x (placed_in b.home b.rows) (placed bs) h) (in_placed x bs)
  where
    by : In x (placed_in b.home b.rows) ⊎ In x (placed bs)
        → (In x (placed bs) → (c : Block) × In c bs × ((r : Row) × In r c.rows × (x ≡ record { home = c.home; row = r })))
        → (c : Block) × In c (b ∷ bs) × ((r : Row) × In r c.rows × (x ≡ record { home = c.home; row = r }))
    by (inl i) rest = (b, inl refl, in_placed_in x b.home b.rows i)
    by (inr i) rest = let (c, j, there) = rest i in (c, inr j, there)

placed_has : (b : Block) (r : Row) (bs : List Block) → In b bs → In r b.rows → In (record { home = b.home; row = r }) (placed bs)
placed_has b r [] h i = absurd h
placed_has b r (c ∷ bs) (inl e) i =
    in_left (record { home = b.home; row = r }) (placed_in c.home c.rows) (placed bs)
    (subst (λ (d : Block). In (record { home = b.home; row = r }) (placed_in d.home d.rows)) e (placed_in_has b.home r b.rows i))
placed_has b r (c ∷ bs) (inr h) i = in_right (record { home = b.home; row = r }) (placed_in c.home c.rows) (placed bs) (placed_has b r bs h i)

both_length : {A : Type 0} (R : A → A → Type 0) (xs ys : List A) → Both R xs ys → length xs ≡ length ys
both_length R [] [] h = refl
both_length R [] (y ∷ ys) h = absurd h
both_length R (x ∷ xs) [] h = absurd h
both_length R (x ∷ xs) (y ∷ ys) h = ap suc (both_length R xs ys h.1)

both_tally : {A : Type 0} (R : A → A → Type 0) (p : A → Bool) → ((x y : A) → R x y → p x ≡ p y) → (xs ys : List A) → Both R xs ys → tally p xs ≡ tally p ys
both_tally R p same [] [] h = refl
both_tally R p same [] (y ∷ ys) h = absurd h
both_tally R p same (x ∷ xs) [] h = absurd h
both_tally R p same (x ∷ xs) (y ∷ ys) h = ap₂ (λ b n. one_if b + n) (same x y h.0) (both_tally R p same xs ys h.1)

module _ (clock : Clock) (registry : List TypeInfo) (s : SystemEntry) (last : Option ℕ) (frame : ℕ) (others : OtherRows) (now : ℕ) where
  -- a row of a visited block
  row_from : (item : ℕ) (home : Home) (k : ℕ) (rs : List Row) (q : Row) → In q (rows_after registry s others frame item home k rs)
      → (r : Row) × In r rs × ((spot : Spot) × (q ≡ row_after registry s others spot (record { home = home; row = r })))
  row_from item home k [] q h = absurd h
  row_from item home k (r ∷ rs) q (inl e) = (r, inl refl, (record { frame = frame; item = item; place = k }, e))
  row_from item home k (r ∷ rs) q (inr i) = let (p, j, rest) = row_from item home (k + 1) rs q i in (p, inr j, rest)

  -- a block after a run was visited, or is as it was
  block_from : (item : ℕ) (bs : List Block) (c : Block) → In c (blocks_after clock registry s last frame others now item bs)
      → (b : Block) × In b bs × ((c ≡ b) ⊎ ((i : ℕ) × (c ≡ visited registry s others frame now i b)))
  block_from item [] c h = absurd h
  block_from item (b ∷ bs) c (inl e) = (b, inl refl, by (is_visited registry clock s last b) e)
    where
      by : (t : Bool) → c ≡ (if t then visited registry s others frame now item b else b) → (c ≡ b) ⊎ ((i : ℕ) × (c ≡ visited registry s others frame now i b))
      by true e = inr (item, e)
      by false e = inl e
  block_from item (b ∷ bs) c (inr i) = let (d, j, rest) = block_from (item_after clock registry s last item b) bs c i in (d, inr j, rest)

  module _ (suits : HasLawfulTexts registry s) where
    after_lawful : (spot : Spot) (x : Found) → IsLawfulRow registry x → IsLawfulRow registry (record { home = x.home; row = row_after registry s others spot x })
    after_lawful spot x h = record {
      home = h.home;
      cells = by (matches registry s x);
      version = h.version;
    }
      where
        by : (t : Bool) → AreLawfulCells registry x.home.types (if t then cells_after registry s others spot x else x.row.cells)
        by true = texts_lawful registry others x.home.types spot x.home x.row.entity (texts_of s) (texts_suit registry others x.home.types s suits) x.row.cells h.cells
        by false = h.cells

    rows_lawful : (item : ℕ) (bs : List Block) → ((x : Found) → In x (placed bs) → IsLawfulRow registry x)
        → (x : Found) → In x (placed (blocks_after clock registry s last frame others now item bs)) → IsLawfulRow registry x
    rows_lawful item bs lawful x i =
        let (c, j, (q, k, e)) = in_placed x (blocks_after clock registry s last frame others now item bs) i in
        let (b, l, from) = block_from item bs c j in
        subst (IsLawfulRow registry) (sym e) (by c q k b l from)
      where
        by : (c : Block) (q : Row) → In q c.rows → (b : Block) → In b bs → (c ≡ b) ⊎ ((i : ℕ) × (c ≡ visited registry s others frame now i b)) → IsLawfulRow registry (record { home = c.home; row = q })
        by c q k b l (inl same) = lawful (record { home = c.home; row = q })
            (subst (λ (d : Block). In (record { home = d.home; row = q }) (placed bs)) (sym same) (placed_has b q bs l (subst (λ (d : Block). In q d.rows) same k)))
        by c q k b l (inr (n, is)) =
            let (r, m, (spot, f)) = row_from n b.home 0 b.rows q (subst (λ (d : Block). In q d.rows) is k) in
            subst (λ (home : Home). IsLawfulRow registry (record { home = home; row = q })) (ap (λ (d : Block). d.home) (sym is))
            (subst (λ (u : Row). IsLawfulRow registry (record { home = b.home; row = u })) (sym f)
            (after_lawful spot (record { home = b.home; row = r }) (lawful (record { home = b.home; row = r }) (placed_has b r bs l m))))

  -- ---- blocks

  rows_length : (item : ℕ) (home : Home) (k : ℕ) (rs : List Row) → length (rows_after registry s others frame item home k rs) ≡ length rs
  rows_length item home k [] = refl
  rows_length item home k (r ∷ rs) = ap suc (rows_length item home (k + 1) rs)

  marks_kept : (ms : List Mark) → map mark_type (marked now (writes s) ms) ≡ map mark_type ms
  marks_kept [] = refl
  marks_kept (m ∷ ms) = ap₂ (λ (t : ℕ) ts. t ∷ ts) (by (has_type (writes s) m.type_id)) (marks_kept ms)
    where
      by : (b : Bool) → (if b then record m { moment = now } else m).type_id ≡ m.type_id
      by true = refl
      by false = refl

module _ (capacity : List ℕ → ℕ) (registry : List TypeInfo) (s : SystemEntry) (others : OtherRows) (frame : ℕ) where
  visited_lawful : (now item : ℕ) (b : Block) → IsLawfulBlock capacity now b → IsLawfulBlock capacity (now + 1) (visited registry s others frame (now + 1) item b)
  visited_lawful now item b h = record {
    some = subst (λ n. 1 ≤ n) (sym same) h.some;
    few = subst (λ n. n ≤ capacity b.home.types) (sym same) h.few;
    marked = marks_kept (moments 1) registry s None frame others (now + 1) b.marks ∙ h.marked;
    marks = λ m i. (let (k, j, e) = in_map set m b.marks i in subst (λ (n : Mark). IsPast (now + 1) n.moment) (sym e) (by k (has_type (writes s) k.type_id) (h.marks k j)));
    order = later_past now b.order h.order;
  }
    where
      same : length (rows_after registry s others frame item b.home 0 b.rows) ≡ length b.rows
      same = rows_length (moments 1) registry s None frame others (now + 1) item b.home 0 b.rows

      set : Mark → Mark
      set m = if has_type (writes s) m.type_id then record m { moment = now + 1 } else m

      by : (k : Mark) (t : Bool) → IsPast now k.moment → IsPast (now + 1) (if t then record k { moment = now + 1 } else k).moment
      by k true past = record { from_one = omega arith; within = omega arith }
      by k false past = later_past now k.moment past

-- a lawful world after a run of a system is lawful
pub run_lawful : (capacity : List ℕ → ℕ) (first : ℕ) (s : SystemEntry) (last : Option ℕ) (frame : ℕ) (w : World) → HasLawfulTexts w.registry s
    → IsLawful capacity w → IsLawful capacity (run (moments first) s last frame w).world
unfolding run
run_lawful capacity first s last frame w suits lawful = record {
  registry = lawful.registry;
  sound = λ index. (let a = lawful.sound index in let e = same_count index in omega arith);
  made = lawful.made;
  alive = (let a = lawful.alive in let e = same_alive in omega arith);
  rows = rows_lawful (moments first) w.registry s last frame (others_in w) (w.moment + 1) suits 0 w.blocks lawful.rows;
  blocks = λ c i. (let (b, j, from) = block_from (moments first) w.registry s last frame (others_in w) (w.moment + 1) 0 w.blocks c i in by c b j from);
  free = lawful.free;
  first = lawful.first;
  moment = (let a = lawful.moment in omega arith);
}
  where
    after : List Block
    after = blocks_after (moments first) w.registry s last frame (others_in w) (w.moment + 1) 0 w.blocks

    agree : Both (FoundAgree (Out (moments first) w.registry s last frame)) (placed w.blocks) (placed after)
    agree = placed_agree (Out (moments first) w.registry s last frame) w.blocks after (blocks_keep (moments first) w.registry s last frame (others_in w) (w.moment + 1) 0 w.blocks)

    same_alive : length (placed w.blocks) ≡ length (placed after)
    same_alive = both_length (FoundAgree (Out (moments first) w.registry s last frame)) (placed w.blocks) (placed after) agree

    same_count : (index : ℕ) → tally (has_index index) (placed w.blocks) ≡ tally (has_index index) (placed after)
    same_count index = both_tally (FoundAgree (Out (moments first) w.registry s last frame)) (has_index index)
        (λ x y h. ap (λ (e : Entity). nat_eq index e.index) h.1.0) (placed w.blocks) (placed after) agree

    by : (c b : Block) → In b w.blocks → (c ≡ b) ⊎ ((i : ℕ) × (c ≡ visited w.registry s (others_in w) frame (w.moment + 1) i b)) → IsLawfulBlock capacity (w.moment + 1) c
    by c b j (inl same) = subst (IsLawfulBlock capacity (w.moment + 1)) (sym same) (later_block capacity w.moment b (lawful.blocks b j))
    by c b j (inr (i, same)) = subst (IsLawfulBlock capacity (w.moment + 1)) (sym same) (visited_lawful capacity w.registry s (others_in w) frame w.moment i b (lawful.blocks b j))

pub run_registry : (clock : Clock) (s : SystemEntry) (last : Option ℕ) (frame : ℕ) (w : World) → (run clock s last frame w).world.registry ≡ w.registry
unfolding run
run_registry clock s last frame w = refl
