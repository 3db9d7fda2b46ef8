-- What the capacity is: at most 128, it fits, and nothing greater up to 128 does.
use Rattle.std.proofs.Common.{◌≡◌, ℕ, zero, suc, ◌≤◌, Bool, true, false, List, [], ◌∷◌, nat_le, arith, refl}
use Rattle.std.proofs.lemmas.Bool.{leb-true, le-leb, cond_both}
use Rattle.std.proofs.lemmas.List.Sums.{sum_by-cons}
use Rattle.chunk_layout.specs.Capacity.{column_bytes, block_bytes, Fits, greatest_up_to, capacity_of, IsCapacity}

greatest_up_to-le : (n : ℕ) (p : ℕ → Bool) → greatest_up_to n p ≤ n
unfolding greatest_up_to
greatest_up_to-le zero p = omega arith
greatest_up_to-le (suc n) p =
    cond_both (p (suc n)) (suc n) (greatest_up_to n p) (λ x. x ≤ suc n) (λ _. omega arith) (λ _. omega (arith, greatest_up_to-le n p))

greatest_up_to-passes : (n : ℕ) (p : ℕ → Bool) → p 0 ≡ true → p (greatest_up_to n p) ≡ true
unfolding greatest_up_to
greatest_up_to-passes zero p h = h
greatest_up_to-passes (suc n) p h =
    cond_both (p (suc n)) (suc n) (greatest_up_to n p) (λ x. p x ≡ true) (λ e. e) (λ _. greatest_up_to-passes n p h)

not_last : (p : ℕ → Bool) (m n : ℕ) → m ≤ suc n → p m ≡ true → p (suc n) ≡ false → m ≤ n
not_last p m n h e fails = grind arith

greatest_up_to-greatest : (n : ℕ) (p : ℕ → Bool) (m : ℕ) → m ≤ n → p m ≡ true → m ≤ greatest_up_to n p
unfolding greatest_up_to
greatest_up_to-greatest zero p m h e = h
greatest_up_to-greatest (suc n) p m h e =
    cond_both (p (suc n)) (suc n) (greatest_up_to n p) (λ x. m ≤ x) (λ _. h)
    (λ fails. greatest_up_to-greatest n p m (not_last p m n h e fails) e)

-- no rows fit everywhere
pub block_bytes-zero : (sizes : List ℕ) → block_bytes sizes 0 ≡ 0
block_bytes-zero [] = refl
block_bytes-zero (size ∷ sizes) = omega (arith, sum_by-cons (column_bytes 0) size sizes, block_bytes-zero sizes)

pub capacity_of-bounded : (sizes : List ℕ) → capacity_of sizes ≤ 128
unfolding capacity_of
capacity_of-bounded sizes = greatest_up_to-le 128 _

pub capacity_of-fits : (sizes : List ℕ) → Fits sizes (capacity_of sizes)
unfolding capacity_of
capacity_of-fits sizes =
    leb-true _ _ (greatest_up_to-passes 128 (λ n. nat_le (block_bytes sizes n) 16320) (le-leb _ _ (omega (arith, block_bytes-zero sizes))))

pub capacity_of-greatest : (sizes : List ℕ) (n : ℕ) → n ≤ 128 → Fits sizes n → n ≤ capacity_of sizes
unfolding capacity_of
capacity_of-greatest sizes n h fits =
    greatest_up_to-greatest 128 (λ n. nat_le (block_bytes sizes n) 16320) n h (le-leb _ _ fits)

pub capacity_of-is : (sizes : List ℕ) → IsCapacity sizes (capacity_of sizes)
capacity_of-is sizes = record {
  bounded = capacity_of-bounded sizes;
  fits = capacity_of-fits sizes;
  greatest = capacity_of-greatest sizes;
}

-- there is no other number with these three facts
pub IsCapacity-only : (sizes : List ℕ) (n : ℕ) → IsCapacity sizes n → n ≡ capacity_of sizes
IsCapacity-only sizes n is =
    omega (arith, capacity_of-greatest sizes n is.bounded is.fits, is.greatest (capacity_of sizes) (capacity_of-bounded sizes) (capacity_of-fits sizes))

-- sizes that fit wherever others do have at least their capacity
pub capacity_of-le : (smaller larger : List ℕ) → ((n : ℕ) → n ≤ 128 → Fits larger n → Fits smaller n) → capacity_of larger ≤ capacity_of smaller
capacity_of-le smaller larger h =
    capacity_of-greatest smaller (capacity_of larger) (capacity_of-bounded larger) (h _ (capacity_of-bounded larger) (capacity_of-fits larger))
