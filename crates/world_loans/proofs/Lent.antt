-- Types that are lent one after another are lent at once.
use Rattle.std.proofs.Common.{◌≡◌, ℕ, inl, inr, Bool, true, false, ◌||◌, cond, nat_eq, List, [], ◌∷◌, ◌++◌, map, refl, sym, ap, ap₂, ◌∙◌, subst}
use Rattle.std.specs.List.{flat_map}
use Rattle.std.proofs.lemmas.Bool.{cases_eq, eqb-true}
use Rattle.std.proofs.lemmas.List.{map-id}
use Rattle.std.proofs.lemmas.List.Folds.{list_any-append}
use Rattle.ent_types.specs.TypeSets.{has_type, meets}
use Rattle.world_model.specs.Members.{In}
use Rattle.world_model.specs.Row.{Row, Cell}
use Rattle.block_columns.specs.Types.{TypeState, Content, blank_cell}
use Rattle.chunk_block.specs.Blocks.{BlockState, BlockType, LoanState, AreHeld, content_of, content_at, with_content, lent_type, lent_cell, lent_row, lent_piece}
use Rattle.archetype_store.specs.Stores.{Numbered, StoreState, OfBlock, with_block, with_block_in}
use Rattle.block_laws.specs.Lending.{after_lending}
use Rattle.block_laws.proofs.Rows.{or_parts}
use Rattle.world_places.proofs.Lists.{map_same, map_twice}
use Rattle.world_places.proofs.Numbers.{change, of_more, of_changed, of_other_changed}
use Rattle.world_loans.specs.Plans.{AreApart, planned, loan_from, loan_in, after_lends, loans_from, CanLend, lent_by}

-- ---- sets of types

pub has_append : (xs ys : List ℕ) (t : ℕ) → has_type (xs ++ ys) t ≡ (has_type xs t || has_type ys t)
has_append xs ys t = list_any-append (λ x. nat_eq x t) xs ys

-- of two sets that don't meet the second lacks what the first has
pub apart_has : (xs ys : List ℕ) → meets xs ys ≡ false → (t : ℕ) → has_type xs t ≡ true → has_type ys t ≡ false
apart_has [] ys apart t has = absurd (cc)
apart_has (x ∷ xs) ys apart t has = by (nat_eq x t) refl has (apart_has xs ys parts.1 t)
  where
    parts : (has_type ys x ≡ false) × (meets xs ys ≡ false)
    parts = or_parts (has_type ys x) (meets xs ys) apart

    by : (b : Bool) → nat_eq x t ≡ b → (b || has_type xs t) ≡ true → (has_type xs t ≡ true → has_type ys t ≡ false) → has_type ys t ≡ false
    by true is h rest = subst (λ u. has_type ys u ≡ false) (eqb-true x t is) parts.0
    by false is h rest = rest h

-- ---- one block

pub mapped : {X Y Z : Type 0} (f : Y → Z) (g : X → Y) (h : X → Z) → ((x : X) → f (g x) ≡ h x) → (xs : List X) → map f (map g xs) ≡ map h xs
mapped f g h same xs = map_twice f g xs ∙ map_same (λ x. f (g x)) h xs (λ x i. same x)

module _ (xs ys : List ℕ) where
  type_twice : (x : BlockType) → lent_type ys (lent_type xs x) ≡ lent_type (xs ++ ys) x
  type_twice x = by (has_type xs x.shape.ty.0) (has_type ys x.shape.ty.0) refl ∙ ap (λ b. cond b (record x { lent = true }) x) (sym (has_append xs ys x.shape.ty.0))
    where
      by : (a b : Bool) → has_type ys x.shape.ty.0 ≡ b → lent_type ys (cond a (record x { lent = true }) x) ≡ cond (a || b) (record x { lent = true }) x
      by true true is = ap (λ d. cond d (record x { lent = true }) (record x { lent = true })) is
      by true false is = ap (λ d. cond d (record x { lent = true }) (record x { lent = true })) is
      by false true is = ap (λ d. cond d (record x { lent = true }) x) is
      by false false is = ap (λ d. cond d (record x { lent = true }) x) is

  cell_twice : (c : Cell) → lent_cell ys (lent_cell xs c) ≡ lent_cell (xs ++ ys) c
  cell_twice c = by (has_type xs c.type_id) (has_type ys c.type_id) refl ∙ ap (λ b. cond b (with_content blank_cell c) c) (sym (has_append xs ys c.type_id))
    where
      by : (a b : Bool) → has_type ys c.type_id ≡ b → lent_cell ys (cond a (with_content blank_cell c) c) ≡ cond (a || b) (with_content blank_cell c) c
      by true true is = ap (λ d. cond d (with_content blank_cell c) (with_content blank_cell c)) is
      by true false is = ap (λ d. cond d (with_content blank_cell c) (with_content blank_cell c)) is
      by false true is = ap (λ d. cond d (with_content blank_cell c) c) is
      by false false is = ap (λ d. cond d (with_content blank_cell c) c) is

  row_twice : (r : Row) → lent_row ys (lent_row xs r) ≡ lent_row (xs ++ ys) r
  row_twice r = ap (λ (cs : List Cell). record r { cells = cs }) (mapped (lent_cell ys) (lent_cell xs) (lent_cell (xs ++ ys)) cell_twice r.cells)

  pub lent_twice : (b : BlockState) → after_lending ys (after_lending xs b) ≡ after_lending (xs ++ ys) b
  lent_twice b =
      ap₂ (λ (cs : List BlockType) (rs : List Row). record b { columns = cs; rows = rs })
      (mapped (lent_type ys) (lent_type xs) (lent_type (xs ++ ys)) type_twice b.columns) (mapped (lent_row ys) (lent_row xs) (lent_row (xs ++ ys)) row_twice b.rows)

-- where no type is lent, nothing changes
row_none : (r : Row) → lent_row [] r ≡ r
row_none r = ap (λ (cs : List Cell). record r { cells = cs }) (map-id r.cells)

rows_none : (rs : List Row) → map (lent_row []) rs ≡ rs
rows_none [] = refl
rows_none (r ∷ rs) = ap₂ (λ (q : Row) (qs : List Row). q ∷ qs) (row_none r) (rows_none rs)

pub lent_none : (b : BlockState) → after_lending [] b ≡ b
lent_none b = ap₂ (λ (cs : List BlockType) (rs : List Row). record b { columns = cs; rows = rs }) (map-id b.columns) (rows_none b.rows)

-- ---- all blocks

by_none : (bs : List Numbered) → map (lent_by (λ _. [])) bs ≡ bs
by_none [] = refl
by_none (b ∷ bs) = ap₂ (λ (c : Numbered) (cs : List Numbered). c ∷ cs) (ap (λ (x : BlockState). record b { block = x }) (lent_none b.block)) (by_none bs)

pub lends_are : (es : List (ℕ × List ℕ)) (s : StoreState) → after_lends es s ≡ record s { blocks = map (lent_by (planned es)) s.blocks }
lends_are [] s = ap (λ (bs : List Numbered). record s { blocks = bs }) (sym (by_none s.blocks))
lends_are (e ∷ es) s =
    lends_are es (with_block_in e.0 (after_lending e.1) s)
    ∙ ap (λ (bs : List Numbered). record s { blocks = bs }) (mapped (lent_by (planned es)) (change e.0 (after_lending e.1)) (lent_by (planned (e ∷ es))) step s.blocks)
  where
    step : (b : Numbered) → lent_by (planned es) (change e.0 (after_lending e.1) b) ≡ lent_by (planned (e ∷ es)) b
    step b = by (nat_eq b.number e.0)
      where
        by : (t : Bool) → lent_by (planned es) (cond t (record b { block = after_lending e.1 b.block }) b)
            ≡ record b { block = after_lending (cond t (e.1 ++ planned es b.number) (planned es b.number)) b.block }
        by true = ap (λ (x : BlockState). record b { block = x }) (lent_twice e.1 (planned es b.number) b.block)
        by false = refl

-- ---- what can be lent after other types were

module _ (ts us : List ℕ) (apart : meets ts us ≡ false) where
  held_after : (xs : List BlockType) → AreHeld us xs → AreHeld us (map (lent_type ts) xs)
  held_after [] held = tt
  held_after (x ∷ xs) held = (by (has_type ts x.shape.ty.0) refl, held_after xs held.1)
    where
      by : (a : Bool) → has_type ts x.shape.ty.0 ≡ a → has_type us (cond a (record x { lent = true }) x).shape.ty.0 ≡ true → (cond a (record x { lent = true }) x).lent ≡ false
      by true is among = let lacks = apart_has ts us apart x.shape.ty.0 is in absurd (cc (sym lacks ∙ among))
      by false is among = held.0 among

  content_kept : (t : ℕ) → has_type ts t ≡ false → (cs : List Cell) → content_at t (map (lent_cell ts) cs) ≡ content_at t cs
  content_kept t lacks [] = refl
  content_kept t lacks (c ∷ cs) = by (has_type ts c.type_id) (nat_eq c.type_id t) refl refl (content_kept t lacks cs)
    where
      by : (a b : Bool) → has_type ts c.type_id ≡ a → nat_eq c.type_id t ≡ b → content_at t (map (lent_cell ts) cs) ≡ content_at t cs
          → content_at t (cond a (with_content blank_cell c) c ∷ map (lent_cell ts) cs) ≡ cond b (content_of c) (content_at t cs)
      by true true is here rest = absurd (cc (sym is ∙ (ap (has_type ts) (eqb-true c.type_id t here) ∙ lacks)))
      by true false is here rest = ap (λ d. cond d blank_cell (content_at t (map (lent_cell ts) cs))) here ∙ rest
      by false true is here rest = ap (λ d. cond d (content_of c) (content_at t (map (lent_cell ts) cs))) here
      by false false is here rest = ap (λ d. cond d (content_of c) (content_at t (map (lent_cell ts) cs))) here ∙ rest

  -- a type that stays is lent as before
  module _ (cap : ℕ) (rows : List Row) where
    piece_kept : (x : BlockType) → lent_piece us cap (map (lent_row ts) rows) (lent_type ts x) ≡ lent_piece us cap rows x
    piece_kept x = by (has_type ts x.shape.ty.0) refl
      where
        one : List Row → TypeState
        one rs = record { shape = x.shape; capacity = cap; cells = map (λ r. content_at x.shape.ty.0 r.cells) rs }

        by : (a : Bool) → has_type ts x.shape.ty.0 ≡ a → lent_piece us cap (map (lent_row ts) rows) (cond a (record x { lent = true }) x) ≡ cond (has_type us x.shape.ty.0) (one rows ∷ []) []
        by true is =
            let lacks = apart_has ts us apart x.shape.ty.0 is in
            ap (λ d. cond d (one (map (lent_row ts) rows) ∷ []) []) lacks ∙ sym (ap (λ d. cond d (one rows ∷ []) []) lacks)
        by false is =
            ap (λ (cs : List Content). cond (has_type us x.shape.ty.0) ((let p : TypeState = record { shape = x.shape; capacity = cap; cells = cs } in p) ∷ []) [])
            (mapped (λ (r : Row). content_at x.shape.ty.0 r.cells) (lent_row ts) (λ (r : Row). content_at x.shape.ty.0 r.cells) (λ r. content_kept x.shape.ty.0 is r.cells) rows)

    pieces_kept : (xs : List BlockType) → flat_map (lent_piece us cap (map (lent_row ts) rows)) (map (lent_type ts) xs) ≡ flat_map (lent_piece us cap rows) xs
    pieces_kept [] = refl
    pieces_kept (x ∷ xs) = ap₂ (λ (ps qs : List TypeState). ps ++ qs) (piece_kept x) (pieces_kept xs)

-- ---- all entries

module _ (e : ℕ × List ℕ) (f : ℕ × List ℕ) (apart : e.0 ≡ f.0 → meets e.1 f.1 ≡ false) where
  loan_same : (bs : List Numbered) → loan_in f (with_block e.0 (after_lending e.1) bs) ≡ loan_in f bs
  loan_same [] = refl
  loan_same (b ∷ bs) = by (nat_eq b.number e.0) (nat_eq b.number f.0) refl refl (loan_same bs)
    where
      by : (t u : Bool) → nat_eq b.number e.0 ≡ t → nat_eq b.number f.0 ≡ u → loan_in f (with_block e.0 (after_lending e.1) bs) ≡ loan_in f bs
          → loan_in f (cond t (record b { block = after_lending e.1 b.block }) b ∷ with_block e.0 (after_lending e.1) bs) ≡ cond u (loan_from f b.block) (loan_in f bs)
      by true true here there rest =
          ap (λ d. cond d (loan_from f (after_lending e.1 b.block)) (loan_in f (with_block e.0 (after_lending e.1) bs))) there
          ∙ ap (λ (ps : List TypeState). let l : LoanState = record { number = f.0; types = f.1; pieces = ps } in l)
          (pieces_kept e.1 f.1 (apart (sym (eqb-true b.number e.0 here) ∙ eqb-true b.number f.0 there)) b.block.capacity b.block.rows b.block.columns)
      by true false here there rest = ap (λ d. cond d (loan_from f (after_lending e.1 b.block)) (loan_in f (with_block e.0 (after_lending e.1) bs))) there ∙ rest
      by false true here there rest = ap (λ d. cond d (loan_from f b.block) (loan_in f (with_block e.0 (after_lending e.1) bs))) there
      by false false here there rest = ap (λ d. cond d (loan_from f b.block) (loan_in f (with_block e.0 (after_lending e.1) bs))) there ∙ rest

  held_same : (bs : List Numbered) → OfBlock f.0 (λ b. AreHeld f.1 b.columns) bs → OfBlock f.0 (λ b. AreHeld f.1 b.columns) (with_block e.0 (after_lending e.1) bs)
  held_same bs held =
      elim (cases_eq f.0 e.0) [
        | inl same ↦
            subst (λ n. OfBlock n (λ b. AreHeld f.1 b.columns) (with_block e.0 (after_lending e.1) bs)) (sym same)
            (of_changed e.0 (after_lending e.1) (λ b. AreHeld f.1 b.block.columns) bs
            (of_more e.0 (λ b. AreHeld f.1 b.block.columns) (λ b. AreHeld f.1 (after_lending e.1 b.block).columns) bs
            (λ b h. held_after e.1 f.1 (apart (sym same)) b.block.columns h) (subst (λ n. OfBlock n (λ b. AreHeld f.1 b.columns) bs) same held)))
        | inr other ↦ of_other_changed f.0 e.0 (after_lending e.1) (λ b. AreHeld f.1 b.block.columns) bs other held
      ]

pub lends_can : (es : List (ℕ × List ℕ)) (s : StoreState) → AreApart es → ((e : ℕ × List ℕ) → In e es → OfBlock e.0 (λ b. AreHeld e.1 b.columns) s.blocks) → CanLend es s
lends_can [] s apart held = tt
lends_can (e ∷ es) s apart held =
    (held e (inl refl), lends_can es (with_block_in e.0 (after_lending e.1) s) apart.1 (λ f i. held_same e f (apart.0 f i) s.blocks (held f (inr i))))

loans_same : (e : ℕ × List ℕ) (fs : List (ℕ × List ℕ)) (bs : List Numbered) → ((f : ℕ × List ℕ) → In f fs → e.0 ≡ f.0 → meets e.1 f.1 ≡ false)
    → map (λ f. loan_in f (with_block e.0 (after_lending e.1) bs)) fs ≡ map (λ f. loan_in f bs) fs
loans_same e [] bs apart = refl
loans_same e (f ∷ fs) bs apart = ap₂ (λ (l : LoanState) (ls : List LoanState). l ∷ ls) (loan_same e f (apart f (inl refl)) bs) (loans_same e fs bs (λ g i. apart g (inr i)))

pub lends_loans : (es : List (ℕ × List ℕ)) (s : StoreState) → AreApart es → loans_from es s ≡ map (λ e. loan_in e s.blocks) es
lends_loans [] s apart = refl
lends_loans (e ∷ es) s apart =
    ap (λ (ls : List LoanState). loan_in e s.blocks ∷ ls) (lends_loans es (with_block_in e.0 (after_lending e.1) s) apart.1 ∙ loans_same e es s.blocks apart.0)
