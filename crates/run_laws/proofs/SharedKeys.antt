-- In playback order the first neighbours with one key and two items have the least shared key and its two least items.
use Rattle.std.proofs.Common.{◌≡◌, ℕ, ℤ, ◌<◌, ◌≤◌, ◌⊎◌, inl, inr, nat_lt, nat_eq, Bool, true, false, ◌&&◌, ◌||◌, if◌then◌else◌, List, [], ◌∷◌, map, filter, Option, Some, None, refl, sym, ap, ap₂, ◌∙◌, subst, arith, eqb-true, ltb-true, ltb-false, lt-ltb, true≢false}
use Rattle.std.specs.Prelude.{int_lt}
use Rattle.std.specs.Ordering.{int_eq}
use Rattle.std.specs.List.{flat_map}
use Rattle.std.proofs.lemmas.Bool.{and_parts, and_from}
use Rattle.std.proofs.lemmas.Bool.Decides.{Decides-int_eq, nat_tests}
use Rattle.std.proofs.lemmas.Int.{ints}
use Rattle.world_model.specs.Members.{In}
use Rattle.world_laws.proofs.Members.{in_left, in_right, in_map, map_in, in_filter, filter_passes}
use Rattle.run_model.specs.Run.{Entry}
use Rattle.run_model.specs.Buffers.{before, insert_by, sorted_by, arranged, SharedKey, share_key, shared_by, shared_keys, shared_before, first_of, shared_key, neighbours_from, shared_neighbours}
use Rattle.run_laws.proofs.Sorts.{in_insert, in_sorted, sorted_in, key_once, key_same, key_self, false_when}
use Rattle.run_laws.proofs.Order.{Ordered, in_flat_map}
use Rattle.run_laws.proofs.Arrange.{inner, Before, before_is}

-- ---- the least of a list

module _ {X : Type 0} (lt : X → X → Bool) (same : (x y : X) → lt x y ≡ false → lt y x ≡ false → x ≡ y) where
  first_insert : (y : X) (s : List X) (k : X) → first_of s ≡ Some k → lt y k ≡ false → first_of (insert_by lt y s) ≡ Some k
  first_insert y [] k e less = absurd (cc)
  first_insert y (z ∷ zs) k e less = by (lt z y) refl
    where
      is : z ≡ k
      is = cc

      by : (b : Bool) → lt z y ≡ b → first_of (if b then z ∷ insert_by lt y zs else y ∷ z ∷ zs) ≡ Some k
      by true h = ap (λ u. Some u) is
      by false h = ap (λ u. Some u) (same y k less (subst (λ u. lt u y ≡ false) is h))

  first_alone : (y : X) (s : List X) → ((j : X) → In j s → lt j y ≡ false) → first_of (insert_by lt y s) ≡ Some y
  first_alone y [] h = refl
  first_alone y (z ∷ zs) h = ap (λ b. first_of (if b then z ∷ insert_by lt y zs else y ∷ z ∷ zs)) (h z (inl refl))

  pub least_is : (xs : List X) (k : X) → In k xs → ((j : X) → In j xs → lt j k ≡ false) → first_of (sorted_by lt xs) ≡ Some k
  least_is [] k i least = absurd i
  least_is (y ∷ ys) k (inl e) least =
      first_alone y (sorted_by lt ys) (λ j i. subst (λ u. lt j u ≡ false) e (least j (inr (in_sorted lt j ys i)))) ∙ ap (λ u. Some u) (sym e)
  least_is (y ∷ ys) k (inr i) least =
      first_insert y (sorted_by lt ys) k (least_is ys k i (λ j m. least j (inr m))) (least y (inl refl))

-- ---- tests

share_is : (x y : Entry) → share_key x y ≡ true → (x.command.key ≡ y.command.key) × (x.item < y.item)
share_is x y h =
    let parts = and_parts (int_eq x.command.key y.command.key) (nat_lt x.item y.item) h in
    ((Decides-int_eq x.command.key y.command.key).0 parts.0, ltb-true x.item y.item parts.1)

is_share : (x y : Entry) → x.command.key ≡ y.command.key → x.item < y.item → share_key x y ≡ true
is_share x y e less = and_from (int_eq x.command.key y.command.key) (nat_lt x.item y.item) ((Decides-int_eq x.command.key y.command.key).1 e) (lt-ltb x.item y.item less)

triple_same : (i j m n : ℕ) → (nat_lt i m || (nat_eq i m && nat_lt j n)) ≡ false → (nat_lt m i || (nat_eq m i && nat_lt n j)) ≡ false → (i ≡ m) × (j ≡ n)
triple_same i j m n e f = grind (arith, nat_tests)

keys_same : (a b : SharedKey) → shared_before a b ≡ false → shared_before b a ≡ false → a ≡ b
keys_same a b e f = by (int_lt a.key b.key) (int_lt b.key a.key) refl refl e f
  where
    by : (p q : Bool) → int_lt a.key b.key ≡ p → int_lt b.key a.key ≡ q
        → (p || (int_eq a.key b.key && (nat_lt a.first_item b.first_item || (nat_eq a.first_item b.first_item && nat_lt a.second_item b.second_item)))) ≡ false
        → (q || (int_eq b.key a.key && (nat_lt b.first_item a.first_item || (nat_eq b.first_item a.first_item && nat_lt b.second_item a.second_item)))) ≡ false → a ≡ b
    by true q g h e f = absurd (true≢false e)
    by false true g h e f = absurd (true≢false f)
    by false false g h e f =
        let key : a.key ≡ b.key = key_same a.key b.key g h in
        let items = triple_same a.first_item a.second_item b.first_item b.second_item
        (ap (λ t. t && (nat_lt a.first_item b.first_item || (nat_eq a.first_item b.first_item && nat_lt a.second_item b.second_item))) (sym ((Decides-int_eq a.key b.key).1 key)) ∙ e)
        (ap (λ t. t && (nat_lt b.first_item a.first_item || (nat_eq b.first_item a.first_item && nat_lt b.second_item a.second_item))) (sym ((Decides-int_eq b.key a.key).1 (sym key))) ∙ f) in
        ap₂ (λ (k : ℤ) (ij : ℕ × ℕ). (let s : SharedKey = record { key = k; first_item = ij.0; second_item = ij.1 } in s)) key (ap₂ (λ (i j : ℕ). (i, j)) items.0 items.1)

-- a triple isn't before another one of which the key isn't greater, nor then the items
not_earlier : (i j m n : ℕ) → m ≤ i → (m ≡ i → n ≤ j) → (nat_lt i m || (nat_eq i m && nat_lt j n)) ≡ false
not_earlier i j m n first second = by (nat_lt i m) (nat_eq i m) refl refl
  where
    by : (b c : Bool) → nat_lt i m ≡ b → nat_eq i m ≡ c → (b || (c && nat_lt j n)) ≡ false
    by true c e f = let less = ltb-true i m e in absurd (omega arith)
    by false true e f =
        let same : i ≡ m = eqb-true i m f in
        let few : n ≤ j = second (sym same) in
        false_when (nat_lt j n) (λ g. (let less = ltb-true j n g in omega arith))
    by false false e f = refl

-- ---- playback order

abbrev Le : Entry → Entry → Type 0
Le x y = (int_lt y.command.key x.command.key ≡ false) × (x.command.key ≡ y.command.key → x.item ≤ y.item)

key_through : (x y z : ℤ) → int_lt y x ≡ false → int_lt z y ≡ false → int_lt z x ≡ false
key_through x y z e f = grind (arith, ints)

items_rise : (i p m j q n : ℕ) → (nat_lt i j || (nat_eq i j && (nat_lt p q || (nat_eq p q && nat_lt m n)))) ≡ true → i ≤ j
items_rise i p m j q n e = grind (arith, nat_tests)

le_before : (x y : Entry) → before x y ≡ true → Le x y
le_before x y h = by (before_is x y h)
  where
    by : Before x y → Le x y
    by (inl e) = (key_once x.command.key y.command.key e, λ same. absurd (key_self y.command.key (subst (λ k. int_lt k y.command.key ≡ true) same e)))
    by (inr both) = (
      subst (λ k. int_lt k x.command.key ≡ false) both.0 (false_when (int_lt x.command.key x.command.key) (key_self x.command.key)),
      λ same. items_rise x.item x.place x.command.number y.item y.place y.command.number both.1,
    )

le_after : (x y : Entry) → before y x ≡ false → Le x y
le_after x y h = by (int_lt y.command.key x.command.key) refl h
  where
    by : (b : Bool) → int_lt y.command.key x.command.key ≡ b → (b || (int_eq y.command.key x.command.key && inner y x)) ≡ false → Le x y
    by true e h = absurd (true≢false h)
    by false e h = (e, λ same. items (nat_lt y.item x.item) refl (sym (ap (λ t. t && inner y x) ((Decides-int_eq y.command.key x.command.key).1 (sym same))) ∙ h))
      where
        items : (b : Bool) → nat_lt y.item x.item ≡ b
            → (b || (nat_eq y.item x.item && (nat_lt y.place x.place || (nat_eq y.place x.place && nat_lt y.command.number x.command.number)))) ≡ false → x.item ≤ y.item
        items true e h = absurd (true≢false h)
        items false e h = let least = ltb-false y.item x.item e in omega arith

le_then : (x y z : Entry) → Le x y → Le y z → Le x z
le_then x y z h k = (
  key_through x.command.key y.command.key z.command.key h.0 k.0,
  λ same. (
      let here : x.command.key ≡ y.command.key = key_same x.command.key y.command.key (subst (λ u. int_lt u y.command.key ≡ false) (sym same) k.0) h.0 in
      let a = h.1 here in let b = k.1 (sym here ∙ same) in omega arith),
)

insert_ordered : (x : Entry) (ys : List Entry) → Ordered Le ys → Ordered Le (insert_by before x ys)
insert_ordered x [] h = ((λ y i. absurd i), tt)
insert_ordered x (y ∷ ys) h = by (before y x) refl (insert_ordered x ys h.1)
  where
    by : (b : Bool) → before y x ≡ b → Ordered Le (insert_by before x ys) → Ordered Le (if b then y ∷ insert_by before x ys else x ∷ y ∷ ys)
    by true e rest = ((λ z i. behind z (in_insert before z x ys i)), rest)
      where
        behind : (z : Entry) → (z ≡ x) ⊎ In z ys → Le y z
        behind z (inl f) = subst (Le y) (sym f) (le_before y x e)
        behind z (inr j) = h.0 z j
    by false e rest = (behind, h)
      where
        behind : (z : Entry) → (z ≡ y) ⊎ In z ys → Le x z
        behind z (inl f) = subst (Le x) (sym f) (le_after x y e)
        behind z (inr j) = le_then x y z (le_after x y e) (h.0 z j)

arranged_ordered : (es : List Entry) → Ordered Le (sorted_by before es)
arranged_ordered [] = tt
arranged_ordered (x ∷ xs) = insert_ordered x (sorted_by before xs) (arranged_ordered xs)

-- ---- what neighbours say

-- no two entries share a key, or these two do, and no two do that have a lower key or lower items
record IsShared (zs : List Entry) (k : SharedKey) : Type 0 where
  first : Entry
  second : Entry
  first_in : In first zs
  second_in : In second zs
  share : share_key first second ≡ true
  is : k ≡ shared_by first second
  least : (a b : Entry) → In a zs → In b zs → share_key a b ≡ true → shared_before (shared_by a b) k ≡ false

abbrev Describes : List Entry → Option SharedKey → Type 0
Describes zs None = (a b : Entry) → In a zs → In b zs → share_key a b ≡ false
Describes zs (Some k) = IsShared zs k

no_self : (x : Entry) → share_key x x ≡ false
no_self x = false_when (share_key x x) (λ e. (let (key, less) = share_is x x e in omega arith))

-- two neighbours that share a key
neighbours_share : (x y : Entry) (ys : List Entry) → Ordered Le (x ∷ y ∷ ys) → share_key x y ≡ true → IsShared (x ∷ y ∷ ys) (shared_by x y)
neighbours_share x y ys h e = record {
  first = x;
  second = y;
  first_in = inl refl;
  second_in = inr (inl refl);
  share = e;
  is = refl;
  least = λ a b i j f. (
      let (key, less) = share_is a b f in
      let xa : Le x a = from_x a i in
      false_when (shared_before (shared_by a b) (shared_by x y)) (λ g. never a b key less xa (second b j) g));
}
  where
    from_x : (a : Entry) → In a (x ∷ y ∷ ys) → Le x a
    from_x a (inl e) = subst (Le x) (sym e) (false_when (int_lt x.command.key x.command.key) (key_self x.command.key), λ same. omega arith)
    from_x a (inr i) = h.0 a i

    -- the second one of another pair is the first one here, or not before the second one here
    second : (b : Entry) → In b (x ∷ y ∷ ys) → (b ≡ x) ⊎ (y.command.key ≡ b.command.key → y.item ≤ b.item)
    second b (inl e) = inl e
    second b (inr (inl e)) = inr (λ same. subst (λ (u : Entry). y.item ≤ u.item) (sym e) (omega arith))
    second b (inr (inr j)) = inr (h.1.0 b j).1

    never : (a b : Entry) → a.command.key ≡ b.command.key → a.item < b.item → Le x a → (b ≡ x) ⊎ (y.command.key ≡ b.command.key → y.item ≤ b.item)
        → shared_before (shared_by a b) (shared_by x y) ≡ true → ⊥
    never a b key less xa other g = true≢false (sym g ∙ by (int_lt a.command.key x.command.key) (int_eq a.command.key x.command.key) xa.0 (Decides-int_eq a.command.key x.command.key).0)
      where
        items : x.item ≡ a.item → (b ≡ x) ⊎ (y.command.key ≡ b.command.key → y.item ≤ b.item) → a.command.key ≡ x.command.key → y.item ≤ b.item
        items equal (inl e) same = let f : b.item ≡ x.item = ap (λ (u : Entry). u.item) e in absurd (omega arith)
        items equal (inr at) same = at (sym (share_is x y e).0 ∙ (sym same ∙ key))

        by : (p q : Bool) → p ≡ false → (q ≡ true → a.command.key ≡ x.command.key)
            → (p || (q && (nat_lt a.item x.item || (nat_eq a.item x.item && nat_lt b.item y.item)))) ≡ false
        by true q e f = absurd (true≢false e)
        by false false e f = refl
        by false true e f =
            let same : a.command.key ≡ x.command.key = f refl in
            let low : x.item ≤ a.item = xa.1 (sym same) in
            not_earlier a.item b.item x.item y.item low (λ equal. items equal other same)

-- neighbours that don't share a key: what holds of the rest holds of all
neighbours_apart : (x y : Entry) (ys : List Entry) → Ordered Le (x ∷ y ∷ ys) → share_key x y ≡ false → (r : Option SharedKey) → Describes (y ∷ ys) r → Describes (x ∷ y ∷ ys) r
neighbours_apart x y ys h apart r d = by r d
  where
    -- a pair with the first entry is one with the second entry too
    moves : (b : Entry) → In b (y ∷ ys) → share_key x b ≡ true → (share_key y b ≡ true) × (shared_by x b ≡ shared_by y b)
    moves b i e =
        let (key, less) = share_is x b e in
        let xy : Le x y = h.0 y (inl refl) in
        let yb : Le y b = from_y b i in
        let low : x.command.key ≡ y.command.key = key_same x.command.key y.command.key (subst (λ u. int_lt u y.command.key ≡ false) (sym key) yb.0) xy.0 in
        let items : x.item ≡ y.item = same_items low (xy.1 low) in
        (is_share y b (sym low ∙ key) (subst (λ n. n < b.item) items less), ap₂ (λ (k : ℤ) (n : ℕ). (let s : SharedKey = record { key = k; first_item = n; second_item = b.item } in s)) low items)
      where
        from_y : (b : Entry) → In b (y ∷ ys) → Le y b
        from_y b (inl e) = subst (Le y) (sym e) (false_when (int_lt y.command.key y.command.key) (key_self y.command.key), λ same. omega arith)
        from_y b (inr j) = h.1.0 b j

        same_items : x.command.key ≡ y.command.key → x.item ≤ y.item → x.item ≡ y.item
        same_items low less = by (nat_lt x.item y.item) refl
          where
            by : (b : Bool) → nat_lt x.item y.item ≡ b → x.item ≡ y.item
            by true e = absurd (true≢false (sym (is_share x y low (ltb-true x.item y.item e)) ∙ apart))
            by false e = let least = ltb-false x.item y.item e in omega arith

    -- the first entry is the second one of no pair
    never : (a : Entry) → In a (x ∷ y ∷ ys) → share_key a x ≡ true → ⊥
    never a (inl f) e = let (key, less) = share_is a x e in let g : a.item ≡ x.item = ap (λ (u : Entry). u.item) f in omega arith
    never a (inr i) e = let (key, less) = share_is a x e in let low = (h.0 a i).1 (sym key) in omega arith

    by : (r : Option SharedKey) → Describes (y ∷ ys) r → Describes (x ∷ y ∷ ys) r
    by None d = none
      where
        none : (a b : Entry) → In a (x ∷ y ∷ ys) → In b (x ∷ y ∷ ys) → share_key a b ≡ false
        none a b i (inl f) = false_when (share_key a b) (λ e. never a i (subst (λ u. share_key a u ≡ true) f e))
        none a b (inl f) (inr j) = false_when (share_key a b) (λ e. true≢false (sym (moves b j (subst (λ u. share_key u b ≡ true) f e)).0 ∙ d y b (inl refl) j))
        none a b (inr i) (inr j) = d a b i j
    by (Some k) d = record {
      first = d.first;
      second = d.second;
      first_in = inr d.first_in;
      second_in = inr d.second_in;
      share = d.share;
      is = d.is;
      least = least;
    }
      where
        least : (a b : Entry) → In a (x ∷ y ∷ ys) → In b (x ∷ y ∷ ys) → share_key a b ≡ true → shared_before (shared_by a b) k ≡ false
        least a b i (inl f) e = absurd (never a i (subst (λ u. share_key a u ≡ true) f e))
        least a b (inl f) (inr j) e =
            let (also, same) = moves b j (subst (λ u. share_key u b ≡ true) f e) in
            subst (λ s. shared_before s k ≡ false) (sym (ap (λ u. shared_by u b) f ∙ same)) (d.least y b (inl refl) j also)
        least a b (inr i) (inr j) e = d.least a b i j e

neighbours_tell : (x : Entry) (xs : List Entry) → Ordered Le (x ∷ xs) → Describes (x ∷ xs) (neighbours_from x xs)
neighbours_tell x [] h = alone
  where
    alone : (a b : Entry) → In a (x ∷ []) → In b (x ∷ []) → share_key a b ≡ false
    alone a b (inl e) (inl f) = subst (λ u. share_key u b ≡ false) (sym e) (subst (λ u. share_key x u ≡ false) (sym f) (no_self x))
    alone a b (inr i) j = absurd i
    alone a b (inl e) (inr j) = absurd j
neighbours_tell x (y ∷ ys) h = by (share_key x y) refl (neighbours_tell y ys h.1)
  where
    by : (b : Bool) → share_key x y ≡ b → Describes (y ∷ ys) (neighbours_from y ys) → Describes (x ∷ y ∷ ys) (if b then Some (shared_by x y) else neighbours_from y ys)
    by true e rest = neighbours_share x y ys h e
    by false e rest = neighbours_apart x y ys h e (neighbours_from y ys) rest

-- ---- what is described is the shared key

described : (es zs : List Entry) → ((a : Entry) → In a es → In a zs) → ((a : Entry) → In a zs → In a es) → (r : Option SharedKey) → Describes zs r → shared_key es ≡ r
unfolding shared_key
described es zs there back None none = ap (λ ks. first_of (sorted_by shared_before ks)) (empty (shared_keys es) every)
  where
    every : (k : SharedKey) → In k (shared_keys es) → ⊥
    every k i =
        let (a, j, m) = in_flat_map (λ x. map (shared_by x) (filter (share_key x) es)) k es i in
        let (b, n, e) = in_map (shared_by a) k (filter (share_key a) es) m in
        true≢false (sym (filter_passes (share_key a) b es n) ∙ none a b (there a j) (there b (in_filter (share_key a) b es n)))

    empty : (ks : List SharedKey) → ((k : SharedKey) → In k ks → ⊥) → ks ≡ []
    empty [] h = refl
    empty (k ∷ ks) h = absurd (h k (inl refl))
described es zs there back (Some k) d =
    least_is shared_before keys_same (shared_keys es) k (subst (λ s. In s (shared_keys es)) (sym d.is) (pair_in d.first d.second (back d.first d.first_in) (back d.second d.second_in) d.share)) least
  where
    in_pairs : (f : Entry → List SharedKey) (a : Entry) (xs : List Entry) (s : SharedKey) → In a xs → In s (f a) → In s (flat_map f xs)
    in_pairs f a [] s i j = absurd i
    in_pairs f a (x ∷ xs) s (inl e) j = in_left s (f x) (flat_map f xs) (subst (λ u. In s (f u)) e j)
    in_pairs f a (x ∷ xs) s (inr i) j = in_right s (f x) (flat_map f xs) (in_pairs f a xs s i j)

    kept : (a b : Entry) (xs : List Entry) → In b xs → share_key a b ≡ true → In b (filter (share_key a) xs)
    kept a b [] i e = absurd i
    kept a b (x ∷ xs) (inl f) e = subst (λ t. In b (if t then x ∷ filter (share_key a) xs else filter (share_key a) xs)) (sym (subst (λ u. share_key a u ≡ true) f e)) (inl f)
    kept a b (x ∷ xs) (inr i) e = more (share_key a x) (kept a b xs i e)
      where
        more : (t : Bool) → In b (filter (share_key a) xs) → In b (if t then x ∷ filter (share_key a) xs else filter (share_key a) xs)
        more true j = inr j
        more false j = j

    pair_in : (a b : Entry) → In a es → In b es → share_key a b ≡ true → In (shared_by a b) (shared_keys es)
    pair_in a b i j e = in_pairs (λ x. map (shared_by x) (filter (share_key x) es)) a es (shared_by a b) i (map_in (shared_by a) b (filter (share_key a) es) (kept a b es j e))

    least : (s : SharedKey) → In s (shared_keys es) → shared_before s k ≡ false
    least s i =
        let (a, j, m) = in_flat_map (λ x. map (shared_by x) (filter (share_key x) es)) s es i in
        let (b, n, e) = in_map (shared_by a) s (filter (share_key a) es) m in
        subst (λ u. shared_before u k ≡ false) (sym e) (d.least a b (there a j) (there b (in_filter (share_key a) b es n)) (filter_passes (share_key a) b es n))

pub neighbours_are_shared : (es : List Entry) → shared_neighbours (arranged es) ≡ shared_key es
unfolding arranged
neighbours_are_shared es =
    sym (described es (sorted_by before es) (λ a i. sorted_in before a es i) (λ a i. in_sorted before a es i) (shared_neighbours (sorted_by before es)) (tell (sorted_by before es) (arranged_ordered es)))
  where
    tell : (zs : List Entry) → Ordered Le zs → Describes zs (shared_neighbours zs)
    tell [] h = λ a b i j. absurd i
    tell (x ∷ xs) h = neighbours_tell x xs h
