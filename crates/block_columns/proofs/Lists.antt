-- Lists by place, and lists from which an element was removed.
use Rattle.std.proofs.Common.{ℕ, zero, suc, inl, inr, ◌≡◌, ◌≢◌, ◌<◌, ◌≤◌, ◌+◌, ◌-◌, ◌⊎◌, ◌∙◌, Bool, true, false, cond, nat_eq, sym, ap, refl, subst, List, [], ◌∷◌, ◌++◌, length, get_or, take, map, arith, get_or-set_other, get_or-set_same}
use Rattle.std.proofs.Math.ListN.{set}
use Rattle.std.proofs.lemmas.Bool.{cases_eq, cases_lt, cond-true, cond-false, ne_eqb, eq-eqb}
use Rattle.std.proofs.lemmas.List.{map-set, take-map, length-map, get_or-map, get_or-take, get_or_default, ext_get_or, length-set, length-take-le, length-append, get_or_append_left, get_or_push}
use Rattle.std.specs.List.{swap_remove}
use Rattle.block_columns.specs.Places.{tabulated, at_places}

-- ---- removing an element

pub map-swap_remove : {A B : Type 0} (f : A → B) (xs : List A) (i : ℕ) (d : A) (e : B) → i < length xs → map f (swap_remove xs i d) ≡ swap_remove (map f xs) i e
map-swap_remove f xs i d e within =
    let last : length xs - 1 < length xs = omega arith in
    sym (take-map f (length xs - 1) (set xs i (get_or xs (length xs - 1) d)))
    ∙ (ap (take (length xs - 1)) (map-set f xs i (get_or xs (length xs - 1) d))
    ∙ (ap (λ y. take (length xs - 1) (set (map f xs) i y)) (sym (get_or-map f xs (length xs - 1) d e last))
    ∙ ap (λ n. take (n - 1) (set (map f xs) i (get_or (map f xs) (n - 1) e))) (sym (length-map xs f))))

pub length-swap_remove : {A : Type 0} (xs : List A) (row : ℕ) (d : A) → length (swap_remove xs row d) ≡ length xs - 1
length-swap_remove xs row d =
    let le : length xs - 1 ≤ length (set xs row (get_or xs (length xs - 1) d)) = omega (arith, length-set xs row (get_or xs (length xs - 1) d)) in
    length-take-le (length xs - 1) (set xs row (get_or xs (length xs - 1) d)) le

-- where the element at a place was among n, before the one at `row` was removed
abbrev pub source : ℕ → ℕ → ℕ → ℕ
source n row k = cond (nat_eq k row) (n - 1) k

pub source_within : (n row k : ℕ) → k < n - 1 → source n row k < n
source_within n row k h = by (nat_eq k row)
  where
    by : (b : Bool) → cond b (n - 1) k < n
    by true = omega arith
    by false = omega arith

pub swapped_at : {A : Type 0} (xs : List A) (row k : ℕ) (d e : A) → row < length xs → k < length xs - 1 → get_or (swap_remove xs row d) k e ≡ get_or xs (source (length xs) row k) e
swapped_at xs row k d e within h =
    get_or-take (length xs - 1) (set xs row (get_or xs (length xs - 1) d)) k e h ∙ by (cases_eq k row)
  where
    by : (k ≡ row) ⊎ (k ≢ row) → get_or (set xs row (get_or xs (length xs - 1) d)) k e ≡ get_or xs (source (length xs) row k) e
    by (inl t) =
        let last : length xs - 1 < length xs = omega arith in
        ap (λ j. get_or (set xs row (get_or xs (length xs - 1) d)) j e) t
        ∙ (get_or-set_same xs row (get_or xs (length xs - 1) d) e within
        ∙ (get_or_default xs (length xs - 1) d e last ∙ ap (λ j. get_or xs j e) (sym (cond-true (nat_eq k row) (length xs - 1) k (eq-eqb k row t)))))
    by (inr t) = get_or-set_other xs row k (get_or xs (length xs - 1) d) e t ∙ ap (λ j. get_or xs j e) (sym (cond-false (nat_eq k row) (length xs - 1) k (ne_eqb k row t)))

-- ---- tables

pub length-tabulated : {A : Type 0} (f : ℕ → A) (p n : ℕ) → length (tabulated f p n) ≡ n
length-tabulated f p zero = refl
length-tabulated f p (suc n) = ap suc (length-tabulated f (p + 1) n)

get_from : {A : Type 0} (f : ℕ → A) (p n k : ℕ) (d : A) → k < n → get_or (tabulated f p n) k d ≡ f (p + k)
get_from f p zero k d h = absurd (omega arith)
get_from f p (suc n) zero d h = let same : p ≡ p + 0 = omega arith in ap f same
get_from f p (suc n) (suc k) d h =
    let less : k < n = omega arith in
    let same : (p + 1) + k ≡ p + suc k = omega arith in
    get_from f (p + 1) n k d less ∙ ap f same

pub get_or-tabulated : {A : Type 0} (f : ℕ → A) (n k : ℕ) (d : A) → k < n → get_or (tabulated f 0 n) k d ≡ f k
get_or-tabulated f n k d h = let same : 0 + k ≡ k = omega arith in get_from f 0 n k d h ∙ ap f same

pub length-at_places : {A : Type 0} (f : ℕ → A → A) (p : ℕ) (xs : List A) → length (at_places f p xs) ≡ length xs
length-at_places f p [] = refl
length-at_places f p (x ∷ xs) = ap suc (length-at_places f (p + 1) xs)

changed_from : {A : Type 0} (f : ℕ → A → A) (p : ℕ) (xs : List A) (k : ℕ) (d : A) → k < length xs → get_or (at_places f p xs) k d ≡ f (p + k) (get_or xs k d)
changed_from f p [] k d h = absurd (omega arith)
changed_from f p (x ∷ xs) zero d h = let same : p ≡ p + 0 = omega arith in ap (λ j. f j x) same
changed_from f p (x ∷ xs) (suc k) d h =
    let less : k < length xs = omega arith in
    let same : (p + 1) + k ≡ p + suc k = omega arith in
    changed_from f (p + 1) xs k d less ∙ ap (λ j. f j (get_or xs k d)) same

pub get_or-at_places : {A : Type 0} (f : ℕ → A → A) (xs : List A) (k : ℕ) (d : A) → k < length xs → get_or (at_places f 0 xs) k d ≡ f k (get_or xs k d)
get_or-at_places f xs k d h = let same : 0 + k ≡ k = omega arith in changed_from f 0 xs k d h ∙ ap (λ j. f j (get_or xs k d)) same

-- ---- a table by what it was before

pub same_table : {A : Type 0} (f g : ℕ → A) (n : ℕ) (d : A) → ((k : ℕ) → k < n → g k ≡ f k) → tabulated g 0 n ≡ tabulated f 0 n
same_table f g n d same =
    ext_get_or d _ _ (length-tabulated g 0 n ∙ sym (length-tabulated f 0 n)) (λ k h.
    let within : k < n = subst (λ m. k < m) (length-tabulated g 0 n) h in
    get_or-tabulated g n k d within ∙ (same k within ∙ sym (get_or-tabulated f n k d within)))

-- one place more
pub pushed_table : {A : Type 0} (f g : ℕ → A) (n : ℕ) (d x : A) → ((k : ℕ) → k < n → g k ≡ f k) → g n ≡ x → tabulated g 0 (n + 1) ≡ tabulated f 0 n ++ x ∷ []
pushed_table f g n d x same new =
    let size = length-tabulated f 0 n in
    ext_get_or d _ _ (length-tabulated g 0 (n + 1) ∙ (ap (λ m. m + 1) (sym size) ∙ sym (length-append (tabulated f 0 n) (x ∷ [])))) (λ k h.
    let within : k < n + 1 = subst (λ m. k < m) (length-tabulated g 0 (n + 1)) h in
    elim (cases_lt k n) [
      | inl old ↦
          let there : k < length (tabulated f 0 n) = subst (λ m. k < m) (sym size) old in
          get_or-tabulated g (n + 1) k d within
          ∙ (same k old ∙ (sym (get_or-tabulated f n k d old) ∙ sym (get_or_append_left (tabulated f 0 n) (x ∷ []) d k there)))
      | inr last ↦
          let here : k ≡ n = omega arith in
          get_or-tabulated g (n + 1) k d within
          ∙ (ap g here ∙ (new ∙ sym (get_or_push (tabulated f 0 n) x d k (size ∙ sym here))))
    ])

-- one place less; the last one's element is now at `row`
pub swapped_table : {A : Type 0} (f g : ℕ → A) (n row : ℕ) (d : A) → row < n → ((k : ℕ) → k < n - 1 → g k ≡ f (source n row k)) → tabulated g 0 (n - 1) ≡ swap_remove (tabulated f 0 n) row d
swapped_table f g n row d within same =
    let size = length-tabulated f 0 n in
    let there : row < length (tabulated f 0 n) = subst (λ m. row < m) (sym size) within in
    ext_get_or d _ _ (length-tabulated g 0 (n - 1) ∙ sym (length-swap_remove (tabulated f 0 n) row d ∙ ap (λ m. m - 1) size)) (λ k h.
    let front : k < n - 1 = subst (λ m. k < m) (length-tabulated g 0 (n - 1)) h in
    let short : k < length (tabulated f 0 n) - 1 = subst (λ m. k < m - 1) (sym size) front in
    get_or-tabulated g (n - 1) k d front
    ∙ (same k front
    ∙ (sym (get_or-tabulated f n (source n row k) d (source_within n row k front))
    ∙ (ap (λ m. get_or (tabulated f 0 n) (source m row k) d) (sym size)
    ∙ sym (swapped_at (tabulated f 0 n) row k d d there short)))))

-- another element at one place
pub set_table : {A : Type 0} (f g : ℕ → A) (n row : ℕ) (d x : A) → row < n → ((k : ℕ) → k < n → k ≢ row → g k ≡ f k) → g row ≡ x → tabulated g 0 n ≡ set (tabulated f 0 n) row x
set_table f g n row d x within same here =
    let size = length-tabulated f 0 n in
    let there : row < length (tabulated f 0 n) = subst (λ m. row < m) (sym size) within in
    ext_get_or d _ _ (length-tabulated g 0 n ∙ (sym size ∙ sym (length-set (tabulated f 0 n) row x))) (λ k h.
    let short : k < n = subst (λ m. k < m) (length-tabulated g 0 n) h in
    get_or-tabulated g n k d short ∙ elim (cases_eq k row) [
      | inl at ↦ ap g at ∙ (here ∙ (sym (get_or-set_same (tabulated f 0 n) row x d there) ∙ ap (λ j. get_or (set (tabulated f 0 n) row x) j d) (sym at)))
      | inr other ↦ same k short other ∙ (sym (get_or-tabulated f n k d short) ∙ sym (get_or-set_other (tabulated f 0 n) row k x d other))
    ])

-- each element changed by its place
pub changed_table : {A : Type 0} (f g : ℕ → A) (h : ℕ → A → A) (n : ℕ) (d : A) → ((k : ℕ) → k < n → g k ≡ h k (f k)) → tabulated g 0 n ≡ at_places h 0 (tabulated f 0 n)
changed_table f g h n d same =
    let size = length-tabulated f 0 n in
    ext_get_or d _ _ (length-tabulated g 0 n ∙ (sym size ∙ sym (length-at_places h 0 (tabulated f 0 n)))) (λ k l.
    let short : k < n = subst (λ m. k < m) (length-tabulated g 0 n) l in
    let there : k < length (tabulated f 0 n) = subst (λ m. k < m) (sym size) short in
    get_or-tabulated g n k d short
    ∙ (same k short ∙ (ap (h k) (sym (get_or-tabulated f n k d short)) ∙ sym (get_or-at_places h (tabulated f 0 n) k d there))))
