-- Blocks by their numbers: changes of one block, and what holds of it.
use Rattle.std.proofs.Common.{◌≡◌, ℕ, inl, inr, Bool, true, false, not, cond, nat_eq, List, [], ◌∷◌, ◌++◌, filter, slice_get, Option, Some, None, option_map, refl, sym, ap, ap₂, ◌∙◌, subst}
use Rattle.std.specs.Bool.{MatchBool}
use Rattle.std.proofs.lemmas.Bool.{eq-eqb, ne_eqb, eqb-true}
use Rattle.world_model.specs.Members.{In, AreDistinct}
use Rattle.world_model.specs.Row.{Row}
use Rattle.chunk_block.specs.Blocks.{BlockState, no_row}
use Rattle.archetype_store.specs.Stores.{Numbered, OfNumber, OfBlock, with_block, left, is_emptied, without_row}
use Rattle.world_laws.proofs.Members.{map_in}
use Rattle.world_places.specs.Placing.{numbers_of, row_at, with_row, mover_in}
use Rattle.world_places.proofs.Lists.{map_same, swap_any}

-- ---- one block changed

abbrev pub change : ℕ → (BlockState → BlockState) → Numbered → Numbered
change n f b = cond (nat_eq b.number n) (record b { block = f b.block }) b

pub change_yes : (n : ℕ) (f : BlockState → BlockState) (b : Numbered) → nat_eq b.number n ≡ true → change n f b ≡ record b { block = f b.block }
change_yes n f b is = ap (λ t. cond t (record b { block = f b.block }) b) is

pub change_no : (n : ℕ) (f : BlockState → BlockState) (b : Numbered) → nat_eq b.number n ≡ false → change n f b ≡ b
change_no n f b is = ap (λ t. cond t (record b { block = f b.block }) b) is

pub change_number : (n : ℕ) (f : BlockState → BlockState) (b : Numbered) → (change n f b).number ≡ b.number
change_number n f b = by (nat_eq b.number n)
  where
    by : (t : Bool) → (cond t (record b { block = f b.block }) b).number ≡ b.number
    by true = refl
    by false = refl

change_twice : (n : ℕ) (f g : BlockState → BlockState) (b : Numbered) → change n f (change n g b) ≡ change n (λ c. f (g c)) b
change_twice n f g b = by (nat_eq b.number n) refl
  where
    by : (t : Bool) → nat_eq b.number n ≡ t → change n f (change n g b) ≡ change n (λ c. f (g c)) b
    by true is =
        ap (change n f) (change_yes n g b is) ∙ change_yes n f (record b { block = g b.block }) is ∙ sym (change_yes n (λ c. f (g c)) b is)
    by false is = ap (change n f) (change_no n g b is) ∙ change_no n f b is ∙ sym (change_no n (λ c. f (g c)) b is)

change_apart : (m n : ℕ) (f g : BlockState → BlockState) → (m ≡ n → ⊥) → (b : Numbered) → change m f (change n g b) ≡ change n g (change m f b)
change_apart m n f g apart b = by (nat_eq b.number m) (nat_eq b.number n) refl refl
  where
    by : (t u : Bool) → nat_eq b.number m ≡ t → nat_eq b.number n ≡ u → change m f (change n g b) ≡ change n g (change m f b)
    by true true is so = absurd (apart (sym (eqb-true b.number m is) ∙ eqb-true b.number n so))
    by true false is so =
        ap (change m f) (change_no n g b so) ∙ change_yes m f b is ∙ sym (change_no n g (record b { block = f b.block }) so)
        ∙ ap (change n g) (sym (change_yes m f b is))
    by false true is so =
        ap (change m f) (change_yes n g b so) ∙ change_no m f (record b { block = g b.block }) is ∙ sym (change_yes n g b so)
        ∙ ap (change n g) (sym (change_no m f b is))
    by false false is so =
        ap (change m f) (change_no n g b so) ∙ change_no m f b is ∙ sym (change_no n g b so) ∙ ap (change n g) (sym (change_no m f b is))

pub block_twice : (n : ℕ) (f g : BlockState → BlockState) (bs : List Numbered) → with_block n f (with_block n g bs) ≡ with_block n (λ b. f (g b)) bs
block_twice n f g [] = refl
block_twice n f g (b ∷ bs) = ap₂ (λ c cs. c ∷ cs) (change_twice n f g b) (block_twice n f g bs)

-- a change that leaves the block as it is
pub block_id : (n : ℕ) (bs : List Numbered) → with_block n (λ b. b) bs ≡ bs
block_id n [] = refl
block_id n (b ∷ bs) = ap₂ (λ c cs. c ∷ cs) (by (nat_eq b.number n)) (block_id n bs)
  where
    by : (t : Bool) → cond t b b ≡ b
    by true = refl
    by false = refl

pub block_apart : (m n : ℕ) (f g : BlockState → BlockState) (bs : List Numbered) → (m ≡ n → ⊥) → with_block m f (with_block n g bs) ≡ with_block n g (with_block m f bs)
block_apart m n f g [] apart = refl
block_apart m n f g (b ∷ bs) apart = ap₂ (λ c cs. c ∷ cs) (change_apart m n f g apart b) (block_apart m n f g bs apart)

-- two changes of blocks that are equal
pub block_equal : (n : ℕ) (f g : BlockState → BlockState) (bs : List Numbered) → ((b : BlockState) → f b ≡ g b) → with_block n f bs ≡ with_block n g bs
block_equal n f g [] same = refl
block_equal n f g (b ∷ bs) same =
    ap₂ (λ (c : BlockState) (cs : List Numbered). cond (nat_eq b.number n) (record b { block = c }) b ∷ cs) (same b.block) (block_equal n f g bs same)

pub numbers_same : (n : ℕ) (f : BlockState → BlockState) (bs : List Numbered) → numbers_of (with_block n f bs) ≡ numbers_of bs
numbers_same n f [] = refl
numbers_same n f (b ∷ bs) = ap₂ (λ (m : ℕ) (ms : List ℕ). m ∷ ms) (change_number n f b) (numbers_same n f bs)

-- no block of this number
pub block_none : (n : ℕ) (f : BlockState → BlockState) (bs : List Numbered) → (In n (numbers_of bs) → ⊥) → with_block n f bs ≡ bs
block_none n f [] none = refl
block_none n f (b ∷ bs) none =
    ap₂ (λ c cs. c ∷ cs) (change_no n f b (ne_eqb b.number n (λ same. none (inl (sym same))))) (block_none n f bs (λ i. none (inr i)))

pub block_append : (n : ℕ) (f : BlockState → BlockState) (bs cs : List Numbered) → with_block n f (bs ++ cs) ≡ with_block n f bs ++ with_block n f cs
block_append n f [] cs = refl
block_append n f (b ∷ bs) cs = ap (λ ds. change n f b ∷ ds) (block_append n f bs cs)

-- ---- what holds of one block

pub of_changed : (n : ℕ) (f : BlockState → BlockState) (P : Numbered → Type 0) (bs : List Numbered) → OfNumber n (λ b. P (record b { block = f b.block })) bs → OfNumber n P (with_block n f bs)
of_changed n f P [] h = h
of_changed n f P (b ∷ bs) h = by (nat_eq b.number n) refl h (of_changed n f P bs)
  where
    by : (t : Bool) → nat_eq b.number n ≡ t → MatchBool t (P (record b { block = f b.block })) (OfNumber n (λ c. P (record c { block = f c.block })) bs)
        → (OfNumber n (λ c. P (record c { block = f c.block })) bs → OfNumber n P (with_block n f bs))
        → OfNumber n P (cond t (record b { block = f b.block }) b ∷ with_block n f bs)
    by true is h rest = subst (λ t. MatchBool t (P (record b { block = f b.block })) (OfNumber n P (with_block n f bs))) (sym is) h
    by false is h rest = subst (λ t. MatchBool t (P b) (OfNumber n P (with_block n f bs))) (sym is) (rest h)

pub of_before : (n : ℕ) (f : BlockState → BlockState) (P : Numbered → Type 0) (bs : List Numbered) → OfNumber n P (with_block n f bs) → OfNumber n (λ b. P (record b { block = f b.block })) bs
of_before n f P [] h = h
of_before n f P (b ∷ bs) h = by (nat_eq b.number n) refl h (of_before n f P bs)
  where
    by : (t : Bool) → nat_eq b.number n ≡ t → OfNumber n P (cond t (record b { block = f b.block }) b ∷ with_block n f bs)
        → (OfNumber n P (with_block n f bs) → OfNumber n (λ c. P (record c { block = f c.block })) bs)
        → MatchBool t (P (record b { block = f b.block })) (OfNumber n (λ c. P (record c { block = f c.block })) bs)
    by true is h rest = subst (λ t. MatchBool t (P (record b { block = f b.block })) (OfNumber n P (with_block n f bs))) is h
    by false is h rest = rest (subst (λ t. MatchBool t (P b) (OfNumber n P (with_block n f bs))) is h)

pub of_more : (n : ℕ) (P Q : Numbered → Type 0) (bs : List Numbered) → ((b : Numbered) → P b → Q b) → OfNumber n P bs → OfNumber n Q bs
of_more n P Q [] so h = h
of_more n P Q (b ∷ bs) so h = by (nat_eq b.number n) h (of_more n P Q bs so)
  where
    by : (t : Bool) → MatchBool t (P b) (OfNumber n P bs) → (OfNumber n P bs → OfNumber n Q bs) → MatchBool t (Q b) (OfNumber n Q bs)
    by true h rest = so b h
    by false h rest = rest h

-- what holds of any value that the block has
pub of_value : {X : Type 0} (n : ℕ) (f : Numbered → X) (P : Numbered → Type 0) (Q : X → Type 0) (bs : List Numbered) → ((x : X) → OfNumber n (λ b. x ≡ f b) bs → Q x) → OfNumber n P bs
    → OfNumber n (λ b. Q (f b)) bs
of_value n f P Q [] so there = there
of_value n f P Q (b ∷ bs) so there = by (nat_eq b.number n) so there (of_value n f P Q bs)
  where
    by : (t : Bool) → ((x : _) → MatchBool t (x ≡ f b) (OfNumber n (λ c. x ≡ f c) bs) → Q x) → MatchBool t (P b) (OfNumber n P bs)
        → (((x : _) → OfNumber n (λ c. x ≡ f c) bs → Q x) → OfNumber n P bs → OfNumber n (λ c. Q (f c)) bs) → MatchBool t (Q (f b)) (OfNumber n (λ c. Q (f c)) bs)
    by true so there rest = so (f b) refl
    by false so there rest = rest so there

pub of_both : (n : ℕ) (P Q R : Numbered → Type 0) (bs : List Numbered) → ((b : Numbered) → P b → Q b → R b) → OfNumber n P bs → OfNumber n Q bs → OfNumber n R bs
of_both n P Q R [] so h k = h
of_both n P Q R (b ∷ bs) so h k = by (nat_eq b.number n) h k (of_both n P Q R bs so)
  where
    by : (t : Bool) → MatchBool t (P b) (OfNumber n P bs) → MatchBool t (Q b) (OfNumber n Q bs) → (OfNumber n P bs → OfNumber n Q bs → OfNumber n R bs) → MatchBool t (R b) (OfNumber n R bs)
    by true h k rest = so b h k
    by false h k rest = rest h k

-- what holds of a block holds of a member with its number, and the other way round
pub of_member : (n : ℕ) (P : Numbered → Type 0) (bs : List Numbered) → OfNumber n P bs → (b : Numbered) × In b bs × (b.number ≡ n) × P b
of_member n P [] h = absurd h
of_member n P (b ∷ bs) h = by (nat_eq b.number n) refl h (of_member n P bs)
  where
    by : (t : Bool) → nat_eq b.number n ≡ t → MatchBool t (P b) (OfNumber n P bs) → (OfNumber n P bs → (c : Numbered) × In c bs × (c.number ≡ n) × P c)
        → (c : Numbered) × In c (b ∷ bs) × (c.number ≡ n) × P c
    by true is h rest = (b, inl refl, eqb-true b.number n is, h)
    by false is h rest = let (c, i, same, holds) = rest h in (c, inr i, same, holds)

pub number_in : (b : Numbered) (bs : List Numbered) → In b bs → In b.number (numbers_of bs)
number_in b bs i = map_in (λ (c : Numbered). c.number) b bs i

-- the first number is not that of a later block
pub later_apart : (c : Numbered) (cs : List Numbered) → AreDistinct (numbers_of (c ∷ cs)) → (b : Numbered) → In b cs → c.number ≡ b.number → ⊥
later_apart c cs distinct b i same = distinct.0 (subst (λ m. In m (numbers_of cs)) (sym same) (number_in b cs i))

pub of_in : (n : ℕ) (P : Numbered → Type 0) (bs : List Numbered) → AreDistinct (numbers_of bs) → (b : Numbered) → In b bs → b.number ≡ n → P b → OfNumber n P bs
of_in n P [] distinct b i same h = absurd i
of_in n P (c ∷ cs) distinct b (inl is) same h =
    subst (λ t. MatchBool t (P c) (OfNumber n P cs)) (sym (eq-eqb c.number n (ap (λ (d : Numbered). d.number) (sym is) ∙ same))) (subst P is h)
of_in n P (c ∷ cs) distinct b (inr i) same h =
    subst (λ t. MatchBool t (P c) (OfNumber n P cs)) (sym (ne_eqb c.number n (λ is. later_apart c cs distinct b i (is ∙ sym same))))
    (of_in n P cs distinct.1 b i same h)

pub of_at : (n : ℕ) (P : Numbered → Type 0) (bs : List Numbered) → AreDistinct (numbers_of bs) → OfNumber n P bs → (b : Numbered) → In b bs → b.number ≡ n → P b
of_at n P [] distinct h b i same = absurd i
of_at n P (c ∷ cs) distinct h b (inl is) same =
    subst P (sym is) (subst (λ t. MatchBool t (P c) (OfNumber n P cs)) (eq-eqb c.number n (ap (λ (d : Numbered). d.number) (sym is) ∙ same)) h)
of_at n P (c ∷ cs) distinct h b (inr i) same =
    of_at n P cs distinct.1 (subst (λ t. MatchBool t (P c) (OfNumber n P cs)) (ne_eqb c.number n (λ is. later_apart c cs distinct b i (is ∙ sym same))) h) b i same

-- two members with one number are one
pub one_of : (bs : List Numbered) → AreDistinct (numbers_of bs) → (b c : Numbered) → In b bs → In c bs → b.number ≡ c.number → b ≡ c
one_of [] distinct b c i j same = absurd i
one_of (d ∷ ds) distinct b c (inl is) (inl so) same = is ∙ sym so
one_of (d ∷ ds) distinct b c (inl is) (inr j) same = absurd (later_apart d ds distinct c j (ap (λ (a : Numbered). a.number) (sym is) ∙ same))
one_of (d ∷ ds) distinct b c (inr i) (inl so) same = absurd (later_apart d ds distinct b i (ap (λ (a : Numbered). a.number) (sym so) ∙ sym same))
one_of (d ∷ ds) distinct b c (inr i) (inr j) same = one_of ds distinct.1 b c i j same

-- a change of another block
pub of_other_changed : (m n : ℕ) (f : BlockState → BlockState) (P : Numbered → Type 0) (bs : List Numbered) → (m ≡ n → ⊥) → OfNumber m P bs → OfNumber m P (with_block n f bs)
of_other_changed m n f P [] apart h = h
of_other_changed m n f P (b ∷ bs) apart h = by (nat_eq b.number n) refl (nat_eq b.number m) refl h (of_other_changed m n f P bs apart)
  where
    by : (t : Bool) → nat_eq b.number n ≡ t → (u : Bool) → nat_eq b.number m ≡ u → MatchBool u (P b) (OfNumber m P bs) → (OfNumber m P bs → OfNumber m P (with_block n f bs))
        → OfNumber m P (cond t (record b { block = f b.block }) b ∷ with_block n f bs)
    by true is true so h rest = absurd (apart (sym (eqb-true b.number m so) ∙ eqb-true b.number n is))
    by true is false so h rest = subst (λ u. MatchBool u (P (record b { block = f b.block })) (OfNumber m P (with_block n f bs))) (sym so) (rest h)
    by false is true so h rest = subst (λ u. MatchBool u (P b) (OfNumber m P (with_block n f bs))) (sym so) h
    by false is false so h rest = subst (λ u. MatchBool u (P b) (OfNumber m P (with_block n f bs))) (sym so) (rest h)

pub of_other_before : (m n : ℕ) (f : BlockState → BlockState) (P : Numbered → Type 0) (bs : List Numbered) → (m ≡ n → ⊥) → OfNumber m P (with_block n f bs) → OfNumber m P bs
of_other_before m n f P [] apart h = h
of_other_before m n f P (b ∷ bs) apart h = by (nat_eq b.number n) refl (nat_eq b.number m) refl h (of_other_before m n f P bs apart)
  where
    by : (t : Bool) → nat_eq b.number n ≡ t → (u : Bool) → nat_eq b.number m ≡ u → OfNumber m P (cond t (record b { block = f b.block }) b ∷ with_block n f bs)
        → (OfNumber m P (with_block n f bs) → OfNumber m P bs) → MatchBool u (P b) (OfNumber m P bs)
    by true is true so h rest = absurd (apart (sym (eqb-true b.number m so) ∙ eqb-true b.number n is))
    by true is false so h rest = rest (subst (λ u. MatchBool u (P (record b { block = f b.block })) (OfNumber m P (with_block n f bs))) so h)
    by false is true so h rest = subst (λ u. MatchBool u (P b) (OfNumber m P (with_block n f bs))) so h
    by false is false so h rest = rest (subst (λ u. MatchBool u (P b) (OfNumber m P (with_block n f bs))) so h)

pub block_same : (n : ℕ) (f g : BlockState → BlockState) (bs : List Numbered) → AreDistinct (numbers_of bs) → OfBlock n (λ b. f b ≡ g b) bs → with_block n f bs ≡ with_block n g bs
block_same n f g bs distinct same = map_same (change n f) (change n g) bs (λ b i. by b i (nat_eq b.number n) refl)
  where
    by : (b : Numbered) → In b bs → (t : Bool) → nat_eq b.number n ≡ t → change n f b ≡ change n g b
    by b i true is =
        change_yes n f b is ∙ ap (λ (c : BlockState). record b { block = c }) (of_at n (λ c. f c.block ≡ g c.block) bs distinct same b i (eqb-true b.number n is))
        ∙ sym (change_yes n g b is)
    by b i false is = change_no n f b is ∙ sym (change_no n g b is)

-- more blocks at the end
pub of_appended : (n : ℕ) (P : Numbered → Type 0) (bs cs : List Numbered) → OfNumber n P bs → OfNumber n P (bs ++ cs)
of_appended n P [] cs h = absurd h
of_appended n P (b ∷ bs) cs h = by (nat_eq b.number n) h (of_appended n P bs cs)
  where
    by : (t : Bool) → MatchBool t (P b) (OfNumber n P bs) → (OfNumber n P bs → OfNumber n P (bs ++ cs)) → MatchBool t (P b) (OfNumber n P (bs ++ cs))
    by true h rest = h
    by false h rest = rest h

pub of_unappended : (n : ℕ) (P : Numbered → Type 0) (bs : List Numbered) (c : Numbered) → (c.number ≡ n → ⊥) → OfNumber n P (bs ++ c ∷ []) → OfNumber n P bs
of_unappended n P [] c apart h = subst (λ t. MatchBool t (P c) ⊥) (ne_eqb c.number n apart) h
of_unappended n P (b ∷ bs) c apart h = by (nat_eq b.number n) h (of_unappended n P bs c apart)
  where
    by : (t : Bool) → MatchBool t (P b) (OfNumber n P (bs ++ c ∷ [])) → (OfNumber n P (bs ++ c ∷ []) → OfNumber n P bs) → MatchBool t (P b) (OfNumber n P bs)
    by true h rest = h
    by false h rest = rest h

-- ---- rows by their places

pub row_at_in : (bs : List Numbered) → AreDistinct (numbers_of bs) → (b : Numbered) → In b bs → (n k : ℕ) → b.number ≡ n → row_at bs n k ≡ slice_get b.block.rows k
row_at_in [] distinct b i n k same = absurd i
row_at_in (c ∷ cs) distinct b (inl is) n k same =
    ap (λ t. cond t (slice_get c.block.rows k) (row_at cs n k)) (eq-eqb c.number n (ap (λ (d : Numbered). d.number) (sym is) ∙ same))
    ∙ ap (λ (d : Numbered). slice_get d.block.rows k) (sym is)
row_at_in (c ∷ cs) distinct b (inr i) n k same =
    ap (λ t. cond t (slice_get c.block.rows k) (row_at cs n k)) (ne_eqb c.number n (λ is. later_apart c cs distinct b i (is ∙ sym same)))
    ∙ row_at_in cs distinct.1 b i n k same

pub row_at_none : (bs : List Numbered) (n k : ℕ) → (In n (numbers_of bs) → ⊥) → row_at bs n k ≡ None
row_at_none [] n k none = refl
row_at_none (b ∷ bs) n k none =
    ap (λ t. cond t (slice_get b.block.rows k) (row_at bs n k)) (ne_eqb b.number n (λ same. none (inl (sym same)))) ∙ row_at_none bs n k (λ i. none (inr i))

pub row_at_some : (bs : List Numbered) (n k : ℕ) (r : Row) → row_at bs n k ≡ Some r → (b : Numbered) × In b bs × (b.number ≡ n) × (slice_get b.block.rows k ≡ Some r)
row_at_some [] n k r is = absurd (cc)
row_at_some (b ∷ bs) n k r is = by (nat_eq b.number n) refl is (row_at_some bs n k r)
  where
    by : (t : Bool) → nat_eq b.number n ≡ t → cond t (slice_get b.block.rows k) (row_at bs n k) ≡ Some r
        → (row_at bs n k ≡ Some r → (c : Numbered) × In c bs × (c.number ≡ n) × (slice_get c.block.rows k ≡ Some r))
        → (c : Numbered) × In c (b ∷ bs) × (c.number ≡ n) × (slice_get c.block.rows k ≡ Some r)
    by true same is rest = (b, inl refl, eqb-true b.number n same, is)
    by false same is rest = let (c, i, number, at) = rest is in (c, inr i, number, at)

pub row_at_other : (m n k : ℕ) (f : BlockState → BlockState) (bs : List Numbered) → (m ≡ n → ⊥) → row_at (with_block n f bs) m k ≡ row_at bs m k
row_at_other m n k f [] apart = refl
row_at_other m n k f (b ∷ bs) apart = by (nat_eq b.number n) refl (row_at_other m n k f bs apart)
  where
    by : (t : Bool) → nat_eq b.number n ≡ t → row_at (with_block n f bs) m k ≡ row_at bs m k
        → row_at (cond t (record b { block = f b.block }) b ∷ with_block n f bs) m k ≡ row_at (b ∷ bs) m k
    by true is rest =
        let other = ne_eqb b.number m (λ same. apart (sym same ∙ eqb-true b.number n is)) in
        ap (λ t. cond t (slice_get (f b.block).rows k) (row_at (with_block n f bs) m k)) other ∙ rest
        ∙ sym (ap (λ t. cond t (slice_get b.block.rows k) (row_at bs m k)) other)
    by false is rest = ap (λ (r : Option Row). cond (nat_eq b.number m) (slice_get b.block.rows k) r) rest

-- a block without rows at the end adds no row
pub row_at_appended : (bs : List Numbered) (new : Numbered) → new.block.rows ≡ [] → (m k : ℕ) → row_at (bs ++ new ∷ []) m k ≡ row_at bs m k
row_at_appended [] new empty m k = ap (λ rows. cond (nat_eq new.number m) (slice_get rows k) None) empty ∙ by (nat_eq new.number m)
  where
    by : (t : Bool) → cond t (slice_get {X = Row} [] k) None ≡ None
    by true = refl
    by false = refl
row_at_appended (b ∷ bs) new empty m k = ap (λ (r : Option Row). cond (nat_eq b.number m) (slice_get b.block.rows k) r) (row_at_appended bs new empty m k)

-- ---- what the row that leaves is makes no difference

pub mover_with_row : (k : ℕ) (any : Row) (b : BlockState) → mover_in k (with_row k any b) ≡ mover_in k b
mover_with_row k any b = ap (λ rows. option_map (λ (r : Row). r.entity) (slice_get rows k)) (swap_any b.rows k any no_row)

pub left_with_row : (n k : ℕ) (any : Row) (bs : List Numbered) → left n k (with_block n (with_row k any) bs) ≡ left n k bs
left_with_row n k any bs =
    ap (filter (λ b. not (is_emptied n b)))
    (block_twice n (without_row k) (with_row k any) bs
    ∙ block_equal n (λ b. without_row k (with_row k any b)) (without_row k) bs (λ b. ap (λ rows. record b { rows = rows }) (swap_any b.rows k any no_row)))
