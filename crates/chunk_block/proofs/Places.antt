-- One type of a block, as its places have it and as its rows show it.
use Rattle.std.proofs.Common.{ℕ, inl, inr, pos, ◌≡◌, ◌<◌, ◌≤◌, ◌∙◌, Bool, true, false, cond, nat_eq, sym, ap, refl, List, [], ◌∷◌, length, map, subst, Option, Some, None}
use Rattle.std.specs.Prelude.{is_none}
use Rattle.std.specs.Bool.{MatchBool}
use Rattle.std.proofs.lemmas.Bool.{cases_lt}
use Rattle.std.proofs.lemmas.List.{ext_get_or, length-map, get_or-map, get_or_past}
use Rattle.ent_types.specs.declared.entity.Entity.{Entity}
use Rattle.ent_types.specs.declared.value.Value.{Value}
use Rattle.ent_types.specs.declared.value.Value.TheVariants.{Int}
use Rattle.world_model.specs.Row.{Row}
use Rattle.buffer_store.specs.Buffers.{Buffer, buffer}
use Rattle.block_columns.specs.Places.{tabulated}
use Rattle.block_columns.specs.Columns.{value_at}
use Rattle.block_columns.specs.Types.{TypeState, Content, blank_cell, cell_in, kind_in}
use Rattle.block_columns.specs.declared.shape.TypeShape.{TypeShape}
use Rattle.block_columns.proofs.Lists.{length-tabulated, get_or-tabulated}
use Rattle.chunk_block.specs.Pieces.{Place, IsHeld, OfPlace, IsIfHeld}
use Rattle.chunk_block.specs.Blocks.{type_of, content_at, place_cell, held_content, row_at, row_in, no_row, field_at, is_off, OfType, AllSuit, Suits, kind_at}

-- what is there also has what follows from it
pub of_place : (t : ℕ) (P Q : TypeState → Type 0) (ps : List Place) → ((y : TypeState) → P y → Q y) → OfPlace t P ps → OfPlace t Q ps
of_place t P Q [] so is = absurd is
of_place t P Q (p ∷ ps) so is = by (nat_eq p.shape.ty.0 t) p.held is (λ h. of_place t P Q ps so h)
  where
    by : (b : Bool) (o : Option TypeState) → MatchBool b (IsHeld P o) (OfPlace t P ps) → (OfPlace t P ps → OfPlace t Q ps) → MatchBool b (IsHeld Q o) (OfPlace t Q ps)
    by true None is rest = absurd is
    by true (Some y) is rest = so y is
    by false o is rest = rest is

-- the type is there
pub there : (n cap t : ℕ) (P : TypeShape → Type 0) (Q : TypeState → Type 0) (ps : List Place) → AllSuit n cap ps → OfType t P (map type_of ps)
    → ((y : TypeState) → P y.shape → length y.cells ≡ n → Q y) → OfPlace t Q ps
there n cap t P Q [] suit is so = absurd is
there n cap t P Q (p ∷ ps) suit is so = by (nat_eq p.shape.ty.0 t) p.held suit.0 is (λ h. there n cap t P Q ps suit.1 h so)
  where
    by : (b : Bool) (o : Option TypeState) → IsIfHeld (Suits n cap p.shape) o → MatchBool b ((is_none o ≡ false) × P p.shape) (OfType t P (map type_of ps)) → (OfType t P (map type_of ps) → OfPlace t Q ps)
        → MatchBool b (IsHeld Q o) (OfPlace t Q ps)
    by true None suits is rest = absurd (cc (is.0))
    by true (Some y) suits is rest = so y (subst P (sym suits.same_shape) is.1) suits.same_rows
    by false o suits is rest = rest is

-- what is found has what is there
pub found : (t : ℕ) (Q : TypeState → Type 0) (r : TypeState) (ps : List Place) → OfPlace t (λ y. r ≡ y) ps → OfPlace t Q ps → Q r
found t Q r [] is has = absurd is
found t Q r (p ∷ ps) is has = by (nat_eq p.shape.ty.0 t) p.held is has (λ h g. found t Q r ps h g)
  where
    by : (b : Bool) (o : Option TypeState) → MatchBool b (IsHeld (λ y. r ≡ y) o) (OfPlace t (λ y. r ≡ y) ps) → MatchBool b (IsHeld Q o) (OfPlace t Q ps)
        → (OfPlace t (λ y. r ≡ y) ps → OfPlace t Q ps → Q r) → Q r
    by true None is has rest = absurd is
    by true (Some y) is has rest = subst Q (sym is) has
    by false o is has rest = rest is has

-- the kind of a field of the type
pub kind_there : (n cap t f : ℕ) (P : TypeShape → Type 0) (ps : List Place) → AllSuit n cap ps → OfType t P (map type_of ps) → OfPlace t (λ y. kind_in f y.shape.kinds ≡ kind_at t f (map type_of ps)) ps
kind_there n cap t f P [] suit is = absurd is
kind_there n cap t f P (p ∷ ps) suit is = by (nat_eq p.shape.ty.0 t) p.held suit.0 is (λ h. kind_there n cap t f P ps suit.1 h)
  where
    by : (b : Bool) (o : Option TypeState) → IsIfHeld (Suits n cap p.shape) o → MatchBool b ((is_none o ≡ false) × P p.shape) (OfType t P (map type_of ps))
        → (OfType t P (map type_of ps) → OfPlace t (λ y. kind_in f y.shape.kinds ≡ kind_at t f (map type_of ps)) ps)
        → MatchBool b (IsHeld (λ y. kind_in f y.shape.kinds ≡ cond b (kind_in f p.shape.kinds) (kind_at t f (map type_of ps))) o) (OfPlace t (λ y. kind_in f y.shape.kinds ≡ cond b (kind_in f p.shape.kinds) (kind_at t f (map type_of ps))) ps)
    by true None suits is rest = absurd (cc (is.0))
    by true (Some y) suits is rest = ap (λ (s : TypeShape). kind_in f s.kinds) suits.same_shape
    by false o suits is rest = rest is

-- two facts of what is there
pub both : (t : ℕ) (P Q : TypeState → Type 0) (ps : List Place) → OfPlace t P ps → OfPlace t Q ps → OfPlace t (λ y. P y × Q y) ps
both t P Q [] is has = absurd is
both t P Q (p ∷ ps) is has = by (nat_eq p.shape.ty.0 t) p.held is has (λ h g. both t P Q ps h g)
  where
    by : (b : Bool) (o : Option TypeState) → MatchBool b (IsHeld P o) (OfPlace t P ps) → MatchBool b (IsHeld Q o) (OfPlace t Q ps) → (OfPlace t P ps → OfPlace t Q ps → OfPlace t (λ y. P y × Q y) ps)
        → MatchBool b (IsHeld (λ y. P y × Q y) o) (OfPlace t (λ y. P y × Q y) ps)
    by true None is has rest = absurd is
    by true (Some y) is has rest = (is, has)
    by false o is has rest = rest is has

-- a row shows the cell of the type
pub own_cell : (t k : ℕ) (P : TypeState → Type 0) (ps : List Place) → OfPlace t P ps → OfPlace t (λ y. cell_in k y.cells ≡ content_at t (map (place_cell k) ps)) ps
own_cell t k P [] is = absurd is
own_cell t k P (p ∷ ps) is = by (nat_eq p.shape.ty.0 t) p.held is (λ h. own_cell t k P ps h)
  where
    by : (b : Bool) (o : Option TypeState) → MatchBool b (IsHeld P o) (OfPlace t P ps) → (OfPlace t P ps → OfPlace t (λ y. cell_in k y.cells ≡ content_at t (map (place_cell k) ps)) ps)
        → MatchBool b (IsHeld (λ y. cell_in k y.cells ≡ cond b (record { values = (held_content k o).values; off = (held_content k o).off }) (content_at t (map (place_cell k) ps))) o)
        (OfPlace t (λ y. cell_in k y.cells ≡ cond b (record { values = (held_content k o).values; off = (held_content k o).off }) (content_at t (map (place_cell k) ps))) ps)
    by true None is rest = absurd is
    by true (Some y) is rest = refl
    by false o is rest = rest is

-- the premise again, as a fact of the block's types
pub again : (n cap t : ℕ) (P Q : TypeShape → Type 0) (ps : List Place) → AllSuit n cap ps → OfType t P (map type_of ps) → OfPlace t (λ y. Q y.shape) ps → OfType t Q (map type_of ps)
again n cap t P Q [] suit is has = absurd is
again n cap t P Q (p ∷ ps) suit is has = by (nat_eq p.shape.ty.0 t) p.held suit.0 is has (λ h g. again n cap t P Q ps suit.1 h g)
  where
    by : (b : Bool) (o : Option TypeState) → IsIfHeld (Suits n cap p.shape) o → MatchBool b ((is_none o ≡ false) × P p.shape) (OfType t P (map type_of ps)) → MatchBool b (IsHeld (λ y. Q y.shape) o) (OfPlace t (λ y. Q y.shape) ps)
        → (OfType t P (map type_of ps) → OfPlace t (λ y. Q y.shape) ps → OfType t Q (map type_of ps)) → MatchBool b ((is_none o ≡ false) × Q p.shape) (OfType t Q (map type_of ps))
    by true None suits is has rest = absurd has
    by true (Some y) suits is has rest = (refl, subst Q suits.same_shape has)
    by false o suits is has rest = rest is has

-- what a row shows of the type
pub shown : {X : Type 0} (t k : ℕ) (f : Content → X) (x : X) (ps : List Place) → OfPlace t (λ y. x ≡ f (cell_in k y.cells)) ps → x ≡ f (content_at t (map (place_cell k) ps))
shown t k f x [] is = absurd is
shown t k f x (p ∷ ps) is = by (nat_eq p.shape.ty.0 t) p.held is (λ h. shown t k f x ps h)
  where
    by : (b : Bool) (o : Option TypeState) → MatchBool b (IsHeld (λ y. x ≡ f (cell_in k y.cells)) o) (OfPlace t (λ y. x ≡ f (cell_in k y.cells)) ps)
        → (OfPlace t (λ y. x ≡ f (cell_in k y.cells)) ps → x ≡ f (content_at t (map (place_cell k) ps)))
        → x ≡ f (cond b (record { values = (held_content k o).values; off = (held_content k o).off }) (content_at t (map (place_cell k) ps)))
    by true None is rest = absurd is
    by true (Some y) is rest = is
    by false o is rest = rest is

-- the row at a place
pub row_there : (ps : List Place) (dying : List ℕ) (es : List Entity) (n k : ℕ) → k < n → row_in k (tabulated (row_at ps dying es) 0 n) ≡ row_at ps dying es k
row_there ps dying es n k within = get_or-tabulated (row_at ps dying es) n k no_row within

-- what one row shows
pub read_row : {X : Type 0} (t row n : ℕ) (f : Content → X) (x : X) (ps : List Place) (dying : List ℕ) (es : List Entity) (r : TypeState) → row < n → OfPlace t (λ y. r ≡ y) ps → x ≡ f (cell_in row r.cells)
    → x ≡ f (content_at t (row_in row (tabulated (row_at ps dying es) 0 n)).cells)
read_row t row n f x ps dying es r within is gives =
    shown t row f x ps (of_place t (λ y. r ≡ y) (λ y. x ≡ f (cell_in row y.cells)) ps (λ y same. gives ∙ ap (λ (s : TypeState). f (cell_in row s.cells)) same) is)
    ∙ ap (λ (w : Row). f (content_at t w.cells)) (sym (row_there ps dying es n row within))

-- a whole column
pub read_column : (t f n : ℕ) (vs : List Value) (ps : List Place) (dying : List ℕ) (es : List Entity) (r : TypeState) → length r.cells ≡ n → OfPlace t (λ y. r ≡ y) ps → vs ≡ map (λ c. value_at f c.values) r.cells
    → vs ≡ map (field_at t f) (tabulated (row_at ps dying es) 0 n)
read_column t f n vs ps dying es r size is gives =
    let rows = tabulated (row_at ps dying es) 0 n in
    let count = length-tabulated (row_at ps dying es) 0 n in
    let long : length vs ≡ n = ap length gives ∙ (length-map r.cells (λ (c : Content). value_at f c.values) ∙ size) in
    ext_get_or (Int (pos 0)) _ _ (long ∙ (sym count ∙ sym (length-map rows (field_at t f)))) (λ k h.
    let within : k < n = subst (λ m. k < m) long h in
    let short : k < length r.cells = subst (λ m. k < m) (sym size) within in
    let under : k < length rows = subst (λ m. k < m) (sym count) within in
    read_row t k n (λ c. value_at f c.values) (value_at k vs) ps dying es r within is
    (ap (value_at k) gives ∙ get_or-map (λ (c : Content). value_at f c.values) r.cells k blank_cell (Int (pos 0)) short)
    ∙ sym (get_or-map (field_at t f) rows k no_row (Int (pos 0)) under))

-- the bit of a place, also past the rows
pub read_bit : (t k n : ℕ) (b : Bool) (ps : List Place) (dying : List ℕ) (es : List Entity) (r : TypeState) → length r.cells ≡ n → OfPlace t (λ y. r ≡ y) ps → b ≡ (cell_in k r.cells).off
    → b ≡ is_off t (row_in k (tabulated (row_at ps dying es) 0 n))
read_bit t k n b ps dying es r size is gives =
    elim (cases_lt k n) [
      | inl within ↦ read_row t k n (λ c. c.off) b ps dying es r within is gives
      | inr past ↦
          gives
          ∙ (ap (λ (c : Content). c.off) (get_or_past r.cells k blank_cell (subst (λ m. m ≤ k) (sym size) past))
          ∙ ap (λ (w : Row). is_off t w) (sym (get_or_past (tabulated (row_at ps dying es) 0 n) k no_row (subst (λ m. m ≤ k) (sym (length-tabulated (row_at ps dying es) 0 n)) past))))
    ]

-- the elements of a row, for the type that the block has
pub read_elements : (n cap t row : ℕ) (P : TypeShape → Type 0) (e : Buffer Value) (ps : List Place) (dying : List ℕ) (es : List Entity) → row < n → AllSuit n cap ps → OfType t P (map type_of ps)
    → OfPlace t (λ y. e ≡ buffer (length y.shape.kinds) (cell_in row y.cells).values) ps
    → OfType t (λ shape. e ≡ buffer (length shape.kinds) (content_at t (row_in row (tabulated (row_at ps dying es) 0 n)).cells).values) (map type_of ps)
read_elements n cap t row P e ps dying es within suit is has =
    let shows = own_cell t row (λ y. e ≡ buffer (length y.shape.kinds) (cell_in row y.cells).values) ps has in
    again n cap t P (λ shape. e ≡ buffer (length shape.kinds) (content_at t (row_in row (tabulated (row_at ps dying es) 0 n)).cells).values) ps suit is
    (of_place t
    (λ y. (e ≡ buffer (length y.shape.kinds) (cell_in row y.cells).values) × (cell_in row y.cells ≡ content_at t (map (place_cell row) ps)))
    (λ y. e ≡ buffer (length y.shape.kinds) (content_at t (row_in row (tabulated (row_at ps dying es) 0 n)).cells).values) ps
    (λ y h. h.0 ∙ (ap (λ (c : Content). buffer (length y.shape.kinds) c.values) h.1 ∙ ap (λ (w : Row). buffer (length y.shape.kinds) (content_at t w.cells).values) (sym (row_there ps dying es n row within))))
    (both t (λ y. e ≡ buffer (length y.shape.kinds) (cell_in row y.cells).values) (λ y. cell_in row y.cells ≡ content_at t (map (place_cell row) ps)) ps has shows))
