-- Changes of what a row has of one type.
use Rattle.std.proofs.Common.{ℕ, ◌≡◌, ◌<◌, ◌∙◌, Bool, true, false, cond, nat_eq, sym, ap, refl, List, [], ◌∷◌, length, set}
use Rattle.ent_types.specs.declared.type_info.TypeInfo.{TypeInfo}
use Rattle.ent_types.specs.declared.value.Value.{Value}
use Rattle.world_model.specs.Found.{Found}
use Rattle.world_model.specs.Lawful.{IsLawfulRow}
use Rattle.world_model.specs.Operations.{with_values as values_with}
use Rattle.world_model.specs.Row.{Row, Cell}
use Rattle.block_columns.specs.Types.{Content, with_values}
use Rattle.chunk_block.specs.Blocks.{BlockState, change_cell, changed, content_at, content_of, row_in, with_content}
use Rattle.archetype_store.specs.Stores.{Numbered, StoreState, OfBlock}
use Rattle.world_places.specs.Placing.{numbers_of}
use Rattle.world_places.proofs.Numbers.{block_id, block_same, of_more}
use Rattle.world_model.specs.Members.{AreDistinct}
use Rattle.world_rows.specs.Writes.{Write, block_writes, row_writes, written}
use Rattle.world_rows.proofs.Rewritten.{content_put, set_same, written_in, writes_in_place}

-- only what is there of the type counts
change_alike : (t : ℕ) (g h : Content → Content) (cells : List Cell) → g (content_at t cells) ≡ h (content_at t cells) → change_cell t g cells ≡ change_cell t h cells
change_alike t g h [] same = refl
change_alike t g h (c ∷ cs) same = by (nat_eq c.type_id t) same (change_alike t g h cs)
  where
    by : (b : Bool) → g (cond b (content_of c) (content_at t cs)) ≡ h (cond b (content_of c) (content_at t cs))
        → (g (content_at t cs) ≡ h (content_at t cs) → change_cell t g cs ≡ change_cell t h cs)
        → cond b (with_content (g (content_of c)) c ∷ cs) (c ∷ change_cell t g cs) ≡ cond b (with_content (h (content_of c)) c ∷ cs) (c ∷ change_cell t h cs)
    by true is rest = ap (λ d. with_content d c ∷ cs) is
    by false is rest = ap (λ ds. c ∷ ds) (rest is)

pub changed_alike : (t : ℕ) (g h : Content → Content) (r : Row) → g (content_at t r.cells) ≡ h (content_at t r.cells) → changed t g r ≡ changed t h r
changed_alike t g h r same = ap (λ (cells : List Cell). record r { cells = cells }) (change_alike t g h r.cells same)

change_twice : (t : ℕ) (f g : Content → Content) (cells : List Cell) → change_cell t f (change_cell t g cells) ≡ change_cell t (λ c. f (g c)) cells
change_twice t f g [] = refl
change_twice t f g (c ∷ cs) = by (nat_eq c.type_id t) refl (change_twice t f g cs)
  where
    by : (b : Bool) → nat_eq c.type_id t ≡ b → change_cell t f (change_cell t g cs) ≡ change_cell t (λ d. f (g d)) cs
        → change_cell t f (cond b (with_content (g (content_of c)) c ∷ cs) (c ∷ change_cell t g cs)) ≡ cond b (with_content (f (g (content_of c))) c ∷ cs) (c ∷ change_cell t (λ d. f (g d)) cs)
    by true is rest = ap (λ b. cond b (with_content (f (g (content_of c))) c ∷ cs) (with_content (g (content_of c)) c ∷ change_cell t f cs)) is
    by false is rest = ap (λ b. cond b (with_content (f (content_of c)) c ∷ change_cell t g cs) (c ∷ change_cell t f (change_cell t g cs))) is ∙ ap (λ ds. c ∷ ds) rest

pub changed_twice : (t : ℕ) (f g : Content → Content) (r : Row) → changed t f (changed t g r) ≡ changed t (λ c. f (g c)) r
changed_twice t f g r = ap (λ (cells : List Cell). record r { cells = cells }) (change_twice t f g r.cells)

change_none : (t : ℕ) (cells : List Cell) → change_cell t (λ c. c) cells ≡ cells
change_none t [] = refl
change_none t (c ∷ cs) = by (nat_eq c.type_id t) (change_none t cs)
  where
    by : (b : Bool) → change_cell t (λ d. d) cs ≡ cs → cond b (with_content (content_of c) c ∷ cs) (c ∷ change_cell t (λ d. d) cs) ≡ c ∷ cs
    by true rest = refl
    by false rest = ap (λ ds. c ∷ ds) rest

pub changed_none : (t : ℕ) (r : Row) → changed t (λ c. c) r ≡ r
changed_none t r = ap (λ (cells : List Cell). record r { cells = cells }) (change_none t r.cells)

module _ (registry : List TypeInfo) (x : Found) (lawful : IsLawfulRow registry x) (t : ℕ) where
  -- the values of a type that are put last count
  pub values_put_last : (us vs : List Value) → changed t (with_values vs) (changed t (with_values us) x.row) ≡ record (x.row) { cells = values_with t (λ _. vs) x.row.cells }
  values_put_last us vs = changed_twice t (with_values vs) (with_values us) x.row ∙ content_put registry x lawful t (with_values vs) (λ _. vs) (λ c. refl)

  -- values that were taken out and put back
  pub values_put_back : (us : List Value) → changed t (with_values (content_at t x.row.cells).values) (changed t (with_values us) x.row) ≡ x.row
  values_put_back us =
      changed_twice t (with_values (content_at t x.row.cells).values) (with_values us) x.row
      ∙ changed_alike t (with_values (content_at t x.row.cells).values) (λ c. c) x.row refl
      ∙ changed_none t x.row

  -- there is one cell of a type, so that its values can be computed before
  pub values_alike : (h : List Value → List Value) → values_with t (λ _. h (content_at t x.row.cells).values) x.row.cells ≡ values_with t h x.row.cells
  values_alike h =
      ap (λ (r : Row). r.cells)
      (sym (content_put registry x lawful t (with_values (h (content_at t x.row.cells).values)) (λ _. h (content_at t x.row.cells).values) (λ c. refl))
      ∙ changed_alike t (with_values (h (content_at t x.row.cells).values)) (λ c. with_values (h c.values) c) x.row refl
      ∙ content_put registry x lawful t (λ c. with_values (h c.values) c) h (λ c. refl))

-- writes that leave the row as it was
pub written_back : (n k : ℕ) (ws : List Write) (s : StoreState) → AreDistinct (numbers_of s.blocks) → OfBlock n (λ b. (k < length b.rows) × (row_writes ws (row_in k b.rows) ≡ row_in k b.rows)) s.blocks
    → written n k ws s ≡ s
written_back n k ws s numbers is =
    written_in n k ws s
    ∙ ap (λ (bs : List Numbered). record s { blocks = bs })
    (block_same n (block_writes k ws) (λ b. b) s.blocks numbers (of_more n _ _ s.blocks (λ b here. same b.block here.0 here.1) is) ∙ block_id n s.blocks)
  where
    same : (b : BlockState) → k < length b.rows → row_writes ws (row_in k b.rows) ≡ row_in k b.rows → block_writes k ws b ≡ b
    same b below kept =
        writes_in_place k ws b below
        ∙ ap (λ (r : Row). record b { rows = set b.rows k r }) kept
        ∙ ap (λ (rows : List Row). record b { rows = rows }) (set_same b.rows k below)
