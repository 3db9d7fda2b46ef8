-- The width of the elements of buffers, row by row.
use Rattle.std.proofs.Common.{ℕ, zero, suc, ◌≡◌, ◌<◌, ◌-◌, ap, List, [], ◌∷◌, ◌++◌, length, get_or, take, arith}
use Rattle.std.proofs.Math.ListN.{set}
use Rattle.std.specs.List.{swap_remove}
use Rattle.ent_types.specs.declared.value.Value.{Value}
use Rattle.buffer_store.specs.Buffers.{Buffer, buffer}
use Rattle.block_columns.specs.Buffers.{HaveWidth, lists_of}

pub at_row : (w row : ℕ) (bs : List (Buffer Value)) (d : Buffer Value) → row < length bs → HaveWidth w bs → get_or bs row d ≡ buffer w (get_or (lists_of bs) row [])
at_row w row [] d within have = absurd (omega arith)
at_row w zero (b ∷ bs) d within have = ap (λ m. buffer m b.values) have.0
at_row w (suc row) (b ∷ bs) d within have = let less : row < length bs = omega arith in at_row w row bs d less have.1

width_at : (w row : ℕ) (bs : List (Buffer Value)) (d : Buffer Value) → row < length bs → HaveWidth w bs → (get_or bs row d).width ≡ w
width_at w row [] d within have = absurd (omega arith)
width_at w zero (b ∷ bs) d within have = have.0
width_at w (suc row) (b ∷ bs) d within have = let less : row < length bs = omega arith in width_at w row bs d less have.1

pub pushed_width : (w : ℕ) (bs : List (Buffer Value)) (b : Buffer Value) → b.width ≡ w → HaveWidth w bs → HaveWidth w (bs ++ b ∷ [])
pushed_width w [] b is have = (is, tt)
pushed_width w (c ∷ cs) b is have = (have.0, pushed_width w cs b is have.1)

pub set_width : (w row : ℕ) (bs : List (Buffer Value)) (b : Buffer Value) → b.width ≡ w → HaveWidth w bs → HaveWidth w (set bs row b)
set_width w row [] b is have = tt
set_width w zero (c ∷ cs) b is have = (is, have.1)
set_width w (suc row) (c ∷ cs) b is have = (have.0, set_width w row cs b is have.1)

take_width : (w n : ℕ) (bs : List (Buffer Value)) → HaveWidth w bs → HaveWidth w (take n bs)
take_width w zero bs have = tt
take_width w (suc n) [] have = tt
take_width w (suc n) (b ∷ bs) have = (have.0, take_width w n bs have.1)

pub removed_width : (w row : ℕ) (bs : List (Buffer Value)) (d : Buffer Value) → row < length bs → HaveWidth w bs → HaveWidth w (swap_remove bs row d)
removed_width w row bs d within have =
    let last : length bs - 1 < length bs = omega arith in
    take_width w (length bs - 1) (set bs row (get_or bs (length bs - 1) d)) (set_width w row bs (get_or bs (length bs - 1) d) (width_at w (length bs - 1) bs d last have) have)
