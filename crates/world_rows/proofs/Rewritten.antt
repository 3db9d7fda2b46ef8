-- A row that is written in its place.
use Rattle.std.proofs.Common.{ℕ, ◌≡◌, ◌<◌, ◌∙◌, inl, inr, Bool, true, false, not, cond, nat_eq, sym, ap, refl, subst, List, [], ◌∷◌, length, set, map, get_or, arith, zero, suc}
use Rattle.std.proofs.lemmas.Bool.{cases_eq, eq-eqb, ne_eqb}
use Rattle.std.proofs.lemmas.List.{length-set, get_or-set_same}
use Rattle.ent_types.specs.declared.type_info.TypeInfo.{TypeInfo}
use Rattle.ent_types.specs.declared.value.Value.{Value}
use Rattle.ent_types.specs.TypeLookups.{is_buffer_at}
use Rattle.world_model.specs.Fits.{Fits}
use Rattle.world_model.specs.Members.{In, AreDistinct}
use Rattle.world_model.specs.Row.{Row, Cell, cell_type}
use Rattle.world_model.specs.Found.{Found}
use Rattle.world_model.specs.Lawful.{IsLawfulRow}
use Rattle.world_model.specs.Operations.{with_values as values_with, switched}
use Rattle.block_columns.specs.Types.{Content, with_values, with_off}
use Rattle.chunk_block.specs.Blocks.{BlockState, changed, content_of, with_content, no_row, row_in}
use Rattle.archetype_store.specs.Stores.{Numbered, StoreState, with_block, with_block_in}
use Rattle.world_places.specs.Placing.{with_row}
use Rattle.world_places.proofs.Numbers.{block_twice}
use Rattle.world_places.proofs.Marks.{rising_distinct}
use Rattle.world_rows.specs.Writes.{Write, row_write, row_writes, block_write, block_writes, written, field_writes}
use Rattle.world_rows.proofs.Effects.{effect, each_cell, one_changed, writes_are}
use Rattle.world_rows.proofs.Filled.{fields_written, fields_elsewhere, values_length}
use Rattle.world_rows.proofs.Reading.{own_rising}

-- ---- the writes as one change of the block

same_block : (n : ℕ) (bs : List Numbered) → with_block n (λ b. b) bs ≡ bs
same_block n [] = refl
same_block n (b ∷ bs) = ap (λ c. c ∷ with_block n (λ d. d) bs) (by (nat_eq b.number n)) ∙ ap (λ cs. b ∷ cs) (same_block n bs)
  where
    by : (t : Bool) → cond t (record b { block = b.block }) b ≡ b
    by true = refl
    by false = refl

pub written_in : (n k : ℕ) (ws : List Write) (s : StoreState) → written n k ws s ≡ with_block_in n (block_writes k ws) s
written_in n k ws s = ap (written n k ws) (sym (ap (λ bs. record s { blocks = bs }) (same_block n s.blocks))) ∙ written_on n k ws (λ b. b) s
  where
    written_on : (n k : ℕ) (ws : List Write) (f : BlockState → BlockState) (s : StoreState)
        → written n k ws (with_block_in n f s) ≡ with_block_in n (λ b. block_writes k ws (f b)) s
    written_on n k [] f s = refl
    written_on n k (w ∷ ws) f s =
        ap (λ (bs : List Numbered). written n k ws (record s { blocks = bs })) (block_twice n (block_write k w) f s.blocks) ∙ written_on n k ws (λ b. block_write k w (f b)) s

pub set_same : (rows : List Row) (k : ℕ) → k < length rows → set rows k (row_in k rows) ≡ rows
set_same rows k below = set_own rows k below
  where
    set_own : (rows : List Row) (k : ℕ) → k < length rows → set rows k (get_or rows k no_row) ≡ rows
    set_own [] k below = refl
    set_own (r ∷ rs) zero below = refl
    set_own (r ∷ rs) (suc k) below = ap (λ qs. r ∷ qs) (set_own rs k (omega (arith, below)))

set_twice : (rows : List Row) (k : ℕ) (r q : Row) → set (set rows k r) k q ≡ set rows k q
set_twice [] k r q = refl
set_twice (s ∷ rs) zero r q = refl
set_twice (s ∷ rs) (suc k) r q = ap (λ qs. s ∷ qs) (set_twice rs k r q)

pub writes_in_place : (k : ℕ) (ws : List Write) (b : BlockState) → k < length b.rows → block_writes k ws b ≡ with_row k (row_writes ws (row_in k b.rows)) b
writes_in_place k [] b below = ap (λ rows. record b { rows = rows }) (sym (set_same b.rows k below))
writes_in_place k (w ∷ ws) b below =
    let r : Row = row_write w (row_in k b.rows) in
    writes_in_place k ws (block_write k w b) (omega (arith, below, length-set b.rows k r))
    ∙ ap (λ (q : Row). record b { rows = set (set b.rows k r) k (row_writes ws q) }) (get_or-set_same b.rows k r no_row below)
    ∙ ap (λ rows. record b { rows = rows }) (set_twice b.rows k r (row_writes ws r))

-- ---- what the row is then

put_each : (t : ℕ) (g : Content → Content) (h : Cell → Cell) (cells : List Cell) → ((c : Cell) → In c cells → with_content (cond (nat_eq t c.type_id) (g (content_of c)) (content_of c)) c ≡ h c)
    → each_cell (λ u c. cond (nat_eq t u) (g c) c) cells ≡ map h cells
put_each t g h [] so = refl
put_each t g h (c ∷ cs) so =
    ap (λ d. d ∷ each_cell (λ u x. cond (nat_eq t u) (g x) x) cs) (so c (inl refl)) ∙ ap (λ ds. h c ∷ ds) (put_each t g h cs (λ d i. so d (inr i)))

turn : (t u : ℕ) → nat_eq t u ≡ nat_eq u t
turn t u =
    elim (cases_eq t u) [
      | inl same ↦ eq-eqb t u same ∙ sym (eq-eqb u t (sym same))
      | inr apart ↦ ne_eqb t u apart ∙ sym (ne_eqb u t (λ e. apart (sym e)))
    ]

module _ (registry : List TypeInfo) (x : Found) (lawful : IsLawfulRow registry x) where
  distinct : AreDistinct (map cell_type x.row.cells)
  distinct = rising_distinct (map cell_type x.row.cells) (own_rising registry x lawful)

  -- the values of a type
  pub content_put : (t : ℕ) (g : Content → Content) (h : List Value → List Value) → ((c : Content) → g c ≡ record c { values = h c.values })
      → changed t g x.row ≡ record (x.row) { cells = values_with t h x.row.cells }
  content_put t g h so =
      ap (λ (cells : List Cell). record (x.row) { cells = cells })
      (one_changed t g x.row.cells distinct
      ∙ put_each t g (λ (c : Cell). record c { values = cond (nat_eq c.type_id t) (h c.values) c.values }) x.row.cells (λ c i. by c (nat_eq t c.type_id) (nat_eq c.type_id t) (turn t c.type_id)))
    where
      by : (c : Cell) (p q : Bool) → p ≡ q → with_content (cond p (g (content_of c)) (content_of c)) c ≡ record c { values = cond q (h c.values) c.values }
      by c true true e = ap (λ d. with_content d c) (so (content_of c))
      by c false false e = refl
      by c true false e = absurd (cc e)
      by c false true e = absurd (cc e)

  -- all elements of a buffer
  pub buffer_put : (t : ℕ) (vs : List Value) → changed t (with_values vs) x.row ≡ record (x.row) { cells = values_with t (λ _. vs) x.row.cells }
  buffer_put t vs = content_put t (with_values vs) (λ _. vs) (λ c. refl)

  -- a bit
  pub bit_put : (t : ℕ) (on : Bool) → changed t (with_off (not on)) x.row ≡ record (x.row) { cells = switched t on x.row.cells }
  bit_put t on =
      ap (λ (cells : List Cell). record (x.row) { cells = cells })
      (one_changed t (with_off (not on)) x.row.cells distinct
      ∙ put_each t (with_off (not on)) (λ (c : Cell). record c { off = cond (nat_eq c.type_id t) (not on) c.off }) x.row.cells (λ c i. by c (nat_eq t c.type_id) (nat_eq c.type_id t) (turn t c.type_id)))
    where
      by : (c : Cell) (p q : Bool) → p ≡ q → with_content (cond p (with_off (not on) (content_of c)) (content_of c)) c ≡ record c { off = cond q (not on) c.off }
      by c true true e = refl
      by c false false e = refl
      by c true false e = absurd (cc e)
      by c false true e = absurd (cc e)

  -- the values of a type that has columns
  pub values_put : (t : ℕ) (vs : List Value) → is_buffer_at registry t ≡ false → Fits registry t vs
      → row_writes (field_writes t 0 vs) x.row ≡ record (x.row) { cells = values_with t (λ _. vs) x.row.cells }
  values_put t vs plain fits =
      writes_are (field_writes t 0 vs) x.row distinct
      ∙ ap (λ (cells : List Cell). record (x.row) { cells = cells }) (each x.row.cells (λ c i. i))
    where
      one : (c : Cell) → In c x.row.cells → with_content (effect c.type_id (field_writes t 0 vs) (content_of c)) c ≡ record c { values = cond (nat_eq c.type_id t) vs c.values }
      one c i =
          elim (cases_eq c.type_id t) [
            | inl same ↦
                ap (λ d. with_content d c)
                (ap (λ u. effect u (field_writes t 0 vs) (content_of c)) same
                ∙ fields_written t 0 vs (content_of c)
                (omega (arith, values_length registry t c.values plain (subst (λ u. Fits registry u c.values) same (lawful.cells.fit c i)), values_length registry t vs plain fits)))
                ∙ sym (ap (λ b. record c { values = cond b vs c.values }) (eq-eqb c.type_id t same))
            | inr apart ↦
                ap (λ d. with_content d c) (fields_elsewhere c.type_id t vs (content_of c) (λ e. apart (sym e))) ∙ sym (ap (λ b. record c { values = cond b vs c.values }) (ne_eqb c.type_id t apart))
          ]

      each : (cells : List Cell) → ((c : Cell) → In c cells → In c x.row.cells)
          → each_cell (λ u c. effect u (field_writes t 0 vs) c) cells ≡ values_with t (λ _. vs) cells
      each [] so = refl
      each (c ∷ cs) so =
          ap (λ d. d ∷ each_cell (λ u x. effect u (field_writes t 0 vs) x) cs) (one c (so c (inl refl)))
          ∙ ap (λ ds. record c { values = cond (nat_eq c.type_id t) vs c.values } ∷ ds) (each cs (λ d i. so d (inr i)))
