-- Lists that are read element by element.
use Rattle.std.proofs.Common.{ℕ, ◌≡◌, ◌∙◌, ◌+◌, List, [], ◌∷◌, ◌++◌, Ok, Err, refl, sym, ap, append_assoc}
use Rattle.toml.specs.Data.{Data, Items, item, Members, member}
use Rattle.scenario_record.specs.Readings.{Reading, under, at_place, ◌>>=◌, changed}
use Rattle.scenario_tables.specs.ReadKeys.{each_from, each_member}

-- a reading of further elements, after those read so far
abbrev pub onto : {A : Type 0} → List A → Reading (List A) → Reading (List A)
onto so_far found = changed (λ xs. so_far ++ xs) found

-- one more element is read
pub onto_more : {A : Type 0} (so_far : List A) (x : A) (found : Reading (List A)) → onto (so_far ++ x ∷ []) found ≡ onto so_far (changed (λ xs. x ∷ xs) found)
onto_more so_far x (Ok xs) = ap Ok (append_assoc so_far (x ∷ []) xs)
onto_more so_far x (Err f) = refl

-- the value at one more place is read
pub next_item : {A : Type 0} (read : Data → Reading A) (i : ℕ) (d : Data) (ds : Items) (so_far : List A) (x : A) → read d ≡ Ok x
    → onto (so_far ++ x ∷ []) (each_from read (i + 1) ds) ≡ onto so_far (each_from read i (item d ds))
next_item read i d ds so_far x is =
    onto_more so_far x (each_from read (i + 1) ds)
    ∙ sym (ap (λ (f : Reading _). onto so_far (at_place i f >>= λ y. changed (λ ys. y ∷ ys) (each_from read (i + 1) ds))) is)

-- the value of one more key is read
pub next_member : {A : Type 0} (read : List ℕ → Data → Reading A) (key : List ℕ) (d : Data) (ms : Members) (so_far : List A) (x : A) → read key d ≡ Ok x
    → onto (so_far ++ x ∷ []) (each_member read ms) ≡ onto so_far (each_member read (member key d ms))
next_member read key d ms so_far x is =
    onto_more so_far x (each_member read ms)
    ∙ sym (ap (λ (f : Reading _). onto so_far (under key f >>= λ y. changed (λ ys. y ∷ ys) (each_member read ms))) is)
