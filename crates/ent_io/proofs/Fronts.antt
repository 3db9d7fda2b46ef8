-- The front of a file that a whole read has so far.
use Rattle.std.proofs.Common.{◌≡◌, ℕ, ◌+◌, ◌<◌, ◌≤◌, List, ◌++◌, length, take, drop, Option, None, Some, Ok, refl, sym, ◌∙◌, ap, subst, arith, length-append}
use Rattle.std.proofs.Math.Seq.{take-add}
use Rattle.std.proofs.lemmas.List.{take_all, length-take-le}
use Rattle.std.specs.Prelude.{IfSome}
use Rattle.ent_io.specs.Store.{IsPieceOf, IsFrontOf, ReadsFile}

at_end : (space from long n : ℕ) → (0 < space → from < long → 0 < n) → n ≡ 0 → 0 < space → long ≤ from
at_end space from long n some none spacious = grind arith

-- nothing more comes, so what there is is all
pub all_read : (told : Option (Option (List ℕ))) (kept buffer : List ℕ) (from n : ℕ) → IsFrontOf told kept → from ≡ length kept → n ≡ 0 → 0 < length buffer → ReadsFile told from buffer (Ok n) → IfSome told (λ file. file ≡ Some kept)
all_read None kept buffer from n front at none space reads = tt
all_read (Some None) kept buffer from n front at none space reads = absurd reads
all_read (Some (Some file)) kept buffer from n front at none space reads = ap Some (sym (take_all (length kept) file (omega (arith, at_end (length buffer) from (length file) n reads.some none space))) ∙ front file (refl))

pub length_grown : (kept buffer grown : List ℕ) (n : ℕ) → n ≤ length buffer → grown ≡ kept ++ take n buffer → length grown ≡ length kept + n
length_grown kept buffer grown n within is = ap length is ∙ length-append kept (take n buffer) ∙ ap (λ m. length kept + m) (length-take-le n buffer within)

-- the next piece behind a front makes a longer front
pub front_grows : (told : Option (Option (List ℕ))) (kept buffer grown : List ℕ) (from n : ℕ) → IsFrontOf told kept → from ≡ length kept → n ≤ length buffer → ReadsFile told from buffer (Ok n) → grown ≡ kept ++ take n buffer → IsFrontOf told grown
front_grows told kept buffer grown from n front at within reads is file told_is =
    let piece : IsPieceOf file from n buffer = subst (λ (t : Option (Option (List ℕ))). ReadsFile t from buffer (Ok n)) told_is reads in
    ap (λ m. take m file) (length_grown kept buffer grown n within is)
    ∙ take-add (length kept) n file
    ∙ ap (λ (l : List ℕ). l ++ take n (drop (length kept) file)) (front file told_is)
    ∙ ap (λ (l : List ℕ). kept ++ l) (ap (λ m. take n (drop m file)) (sym at) ∙ sym piece.bytes)
    ∙ sym is
