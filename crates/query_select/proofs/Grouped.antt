-- Blocks by archetype: those of some archetypes, one archetype after another, are the blocks of these archetypes in another order.
use Rattle.std.proofs.Common.{◌≡◌, ℕ, ◌≤◌, inl, inr, nat_eq, Bool, true, false, ◌||◌, cond, List, [], ◌∷◌, ◌++◌, length, filter, sum_by, refl, sym, ap, ap₂, ◌∙◌, arith}
use Rattle.std.specs.List.{flat_map}
use Rattle.std.proofs.lemmas.Bool.{eq-eqb, eqb-true, ne_eqb, cases_eq}
use Rattle.std.proofs.lemmas.List.{length-map}
use Rattle.std.proofs.lemmas.List.Concat.{length-flat_map}
use Rattle.std.proofs.lemmas.Grind.{flat_map-append}
use Rattle.ent_types.specs.TypeSets.{has_type}
use Rattle.world_model.specs.Members.{In, IsRising}
use Rattle.world_laws.proofs.Perms.{Perm, empty, keep, swap, follow, perm_self, perm_is, perm_back, perm_before, perm_middle, perm_length}
use Rattle.world_laws.proofs.Types.{has_in}
use Rattle.archetype_store.specs.Stores.{Numbered, numbers_in}
use Rattle.query_select.specs.Visits.{blocks_among}

-- ---- lists

pub filter_on : {X : Type 0} (p q : X → Bool) (xs : List X) → ((x : X) → In x xs → p x ≡ q x) → filter p xs ≡ filter q xs
filter_on p q [] same = refl
filter_on p q (x ∷ xs) same = ap₂ (λ b rest. cond b (x ∷ rest) rest) (same x (inl refl)) (filter_on p q xs (λ y i. same y (inr i)))

pub flat_map_on : {X Y : Type 0} (f g : X → List Y) (xs : List X) → ((x : X) → In x xs → f x ≡ g x) → flat_map f xs ≡ flat_map g xs
flat_map_on f g [] same = refl
flat_map_on f g (x ∷ xs) same = ap₂ (λ ys zs. ys ++ zs) (same x (inl refl)) (flat_map_on f g xs (λ y i. same y (inr i)))

pub flat_map_twice : {X Y Z : Type 0} (g : Y → List Z) (f : X → List Y) (xs : List X) → flat_map g (flat_map f xs) ≡ flat_map (λ x. flat_map g (f x)) xs
flat_map_twice g f [] = refl
flat_map_twice g f (x ∷ xs) = flat_map-append g (f x) (flat_map f xs) ∙ ap (λ zs. flat_map g (f x) ++ zs) (flat_map_twice g f xs)

swap_lists : {X : Type 0} (xs ys zs : List X) → Perm X (xs ++ (ys ++ zs)) (ys ++ (xs ++ zs))
swap_lists [] ys zs = perm_self (ys ++ zs)
swap_lists {X} (x ∷ xs) ys zs = follow (keep x (swap_lists xs ys zs)) (back (perm_middle ys x (xs ++ zs)))
  where
    back : Perm X (ys ++ (x ∷ (xs ++ zs))) (x ∷ (ys ++ (xs ++ zs))) → Perm X (x ∷ (ys ++ (xs ++ zs))) (ys ++ (x ∷ (xs ++ zs)))
    back p = perm_back p

pub perm_flat_map : {X Y : Type 0} (f : X → List Y) {xs ys : List X} → Perm X xs ys → Perm Y (flat_map f xs) (flat_map f ys)
perm_flat_map f empty = empty
perm_flat_map f (keep x p) = perm_before (f x) (perm_flat_map f p)
perm_flat_map f (swap x y zs) = swap_lists (f x) (f y) (flat_map f zs)
perm_flat_map f (follow p q) = follow (perm_flat_map f p) (perm_flat_map f q)

none_pass : {X : Type 0} (xs : List X) → filter (λ x. false) xs ≡ []
none_pass [] = refl
none_pass (x ∷ xs) = none_pass xs

-- what passes one test and what passes another
two_groups : {X : Type 0} (p q : X → Bool) → ((x : X) → p x ≡ true → q x ≡ false) → (xs : List X) → Perm X (filter p xs ++ filter q xs) (filter (λ x. p x || q x) xs)
two_groups p q apart [] = empty
two_groups {X} p q apart (x ∷ xs) = by (p x) (q x) (apart x) (two_groups p q apart xs)
  where
    by : (b c : Bool) → (b ≡ true → c ≡ false) → Perm X (filter p xs ++ filter q xs) (filter (λ y. p y || q y) xs)
        → Perm X (cond b (x ∷ filter p xs) (filter p xs) ++ cond c (x ∷ filter q xs) (filter q xs)) (cond (b || c) (x ∷ filter (λ y. p y || q y) xs) (filter (λ y. p y || q y) xs))
    by true true a rest = let no_way : true ≡ false = a refl in absurd (cc)
    by true false a rest = keep x rest
    by false true a rest = follow (perm_middle (filter p xs) x (filter q xs)) (keep x rest)
    by false false a rest = rest

-- ---- blocks

abbrev pub of_archetype : List Numbered → ℕ → List Numbered
of_archetype blocks a = filter (λ (b : Numbered). nat_eq b.archetype a) blocks

equal_both : (a b : ℕ) → nat_eq a b ≡ nat_eq b a
equal_both a b =
    elim (cases_eq a b) [
      | inl same ↦ eq-eqb a b same ∙ sym (eq-eqb b a (sym same))
      | inr apart ↦ ne_eqb a b apart ∙ sym (ne_eqb b a (λ e. apart (sym e)))
    ]

pub grouped : (blocks : List Numbered) (ids : List ℕ) → IsRising ids → Perm Numbered (flat_map (of_archetype blocks) ids) (blocks_among ids blocks)
grouped blocks [] rising = perm_is (sym (none_pass blocks))
grouped blocks (a ∷ ids) rising =
    follow (perm_before (of_archetype blocks a) (grouped blocks ids rising.1))
    (follow (two_groups (λ (b : Numbered). nat_eq b.archetype a) (λ (b : Numbered). has_type ids b.archetype) apart blocks)
    (perm_is (filter_on (λ (b : Numbered). nat_eq b.archetype a || has_type ids b.archetype) (λ (b : Numbered). has_type (a ∷ ids) b.archetype) blocks
    (λ b i. ap (λ t. t || has_type ids b.archetype) (equal_both b.archetype a)))))
  where
    apart : (b : Numbered) → nat_eq b.archetype a ≡ true → has_type ids b.archetype ≡ false
    apart b e = by (has_type ids b.archetype) refl
      where
        by : (t : Bool) → has_type ids b.archetype ≡ t → t ≡ false
        by true h = let above = rising.0 b.archetype (has_in b.archetype ids h) in let same = eqb-true b.archetype a e in absurd (omega arith)
        by false h = refl

-- ---- how many there are

-- the blocks of some archetypes, counted one archetype after another
pub counted : (blocks : List Numbered) (ids : List ℕ) → IsRising ids → sum_by (λ (a : ℕ). length (numbers_in a blocks)) ids ≡ length (blocks_among ids blocks)
counted blocks ids rising =
    by ids ∙ sym (length-flat_map (of_archetype blocks) ids) ∙ perm_length (grouped blocks ids rising)
  where
    by : (bs : List ℕ) → sum_by (λ (a : ℕ). length (numbers_in a blocks)) bs ≡ sum_by (λ (a : ℕ). length (of_archetype blocks a)) bs
    by bs = ap (λ (f : ℕ → ℕ). sum_by f bs) (λ i a. length-map (of_archetype blocks a) (λ (b : Numbered). b.number) i)

few_pass : {X : Type 0} (p : X → Bool) (xs : List X) → length (filter p xs) ≤ length xs
few_pass p [] = omega arith
few_pass p (x ∷ xs) = by (p x) (few_pass p xs)
  where
    by : (b : Bool) → length (filter p xs) ≤ length xs → length (cond b (x ∷ filter p xs) (filter p xs)) ≤ length (x ∷ xs)
    by true h = omega arith
    by false h = omega arith

pub counted_few : (blocks : List Numbered) (ids : List ℕ) → IsRising ids → sum_by (λ (a : ℕ). length (numbers_in a blocks)) ids ≤ length blocks
counted_few blocks ids rising = let most = few_pass (λ (b : Numbered). has_type ids b.archetype) blocks in let is = counted blocks ids rising in omega arith
