-- The entries of a run are in the order in which they were recorded: by item, then place, then number. So no two of a
-- buffer agree in all three.
use Rattle.std.proofs.Common.{◌≡◌, ℕ, ◌+◌, ◌<◌, ◌≤◌, ◌⊎◌, inl, inr, Bool, true, false, if◌then◌else◌, List, [], ◌∷◌, ◌++◌, filter, Option, refl, sym, subst, arith, ⊎_elim}
use Rattle.std.specs.List.{flat_map}
use Rattle.ent_types.specs.declared.type_info.TypeInfo.{TypeInfo}
use Rattle.world_model.specs.Members.{In}
use Rattle.world_model.specs.Row.{Row}
use Rattle.world_model.specs.World.{Home, Block, World}
use Rattle.expr_eval.specs.Values.{OwnRow, OtherRows}
use Rattle.scenario_record.specs.declared.record.CommandEntry.{CommandEntry}
use Rattle.scenario_record.specs.declared.record.SystemEntry.{SystemEntry}
use Rattle.run_model.specs.Clock.{Clock}
use Rattle.run_model.specs.Query.{matches, is_visited}
use Rattle.run_model.specs.Job.{own_of, others_in}
use Rattle.run_model.specs.Commands.{Recorded, is_recorded, recorded_as, recorded_from}
use Rattle.run_model.specs.Run.{MatchedRow, Entry, entries_at, cells_after, recorded_of, matched_in, matched, entries_of, run}
use Rattle.world_laws.proofs.Members.{in_append, in_map, in_filter}
use Rattle.run_laws.specs.Entries.{AreDifferent}

module _ {A : Type 0} (R : A → A → Type 0) where
  -- each element is related to all that come after it
  abbrev pub Ordered : List A → Type 0
  Ordered [] = Unit {0}
  Ordered (x ∷ xs) = ((y : A) → In y xs → R x y) × Ordered xs

  ordered_append : (xs ys : List A) → Ordered xs → Ordered ys → ((x y : A) → In x xs → In y ys → R x y) → Ordered (xs ++ ys)
  ordered_append [] ys a b cross = b
  ordered_append (x ∷ xs) ys a b cross = (
    (λ y i. ⊎_elim (λ j. a.0 y j) (λ j. cross x y (inl refl) j) (in_append y xs ys i)),
    ordered_append xs ys a.1 b (λ z y i j. cross z y (inr i) j),
  )

pub in_flat_map : {A B : Type 0} (f : A → List B) (y : B) (xs : List A) → In y (flat_map f xs) → (x : A) × In x xs × In y (f x)
in_flat_map f y [] h = absurd h
in_flat_map {A} f y (x ∷ xs) h = by (in_append y (f x) (flat_map f xs) h) (in_flat_map f y xs)
  where
    by : In y (f x) ⊎ In y (flat_map f xs) → (In y (flat_map f xs) → (z : A) × In z xs × In y (f z)) → (z : A) × In z (x ∷ xs) × In y (f z)
    by (inl i) rest = (x, inl refl, i)
    by (inr i) rest = let (z, j, k) = rest i in (z, inr j, k)

-- ---- what is recorded for one row

abbrev Lower : Recorded → Recorded → Type 0
Lower c d = c.number < d.number

module _ (registry : List TypeInfo) (own : OwnRow) (others : OtherRows) where
  numbers_above : (n : ℕ) (recorded : List ℕ) (cs : List CommandEntry) (d : Recorded) → In d (recorded_from registry own others n recorded cs) → n ≤ d.number
  numbers_above n recorded [] d h = absurd h
  numbers_above n recorded (c ∷ cs) d h = by (is_recorded registry own others recorded c) h (λ also. numbers_above (n + 1) also cs d)
    where
      by : (b : Bool) → In d ((if b then recorded_as registry own others n c ∷ [] else []) ++ recorded_from registry own others (n + 1) (if b then n ∷ recorded else recorded) cs)
          → ((also : List ℕ) → In d (recorded_from registry own others (n + 1) also cs) → n + 1 ≤ d.number) → n ≤ d.number
      by true (inl e) rest = subst (λ (x : Recorded). n ≤ x.number) (sym e) (omega arith)
      by true (inr i) rest = let a = rest (n ∷ recorded) i in omega arith
      by false i rest = let a = rest recorded i in omega arith

  numbers_rise : (n : ℕ) (recorded : List ℕ) (cs : List CommandEntry) → Ordered Lower (recorded_from registry own others n recorded cs)
  numbers_rise n recorded [] = tt
  numbers_rise n recorded (c ∷ cs) = by (is_recorded registry own others recorded c) (λ also. numbers_rise (n + 1) also cs)
    where
      by : (b : Bool) → ((also : List ℕ) → Ordered Lower (recorded_from registry own others (n + 1) also cs))
          → Ordered Lower ((if b then recorded_as registry own others n c ∷ [] else []) ++ recorded_from registry own others (n + 1) (if b then n ∷ recorded else recorded) cs)
      by true rest = ((λ d i. (let a = numbers_above (n + 1) (n ∷ recorded) cs d i in omega arith)), rest (n ∷ recorded))
      by false rest = rest recorded

-- ---- the rows that match

abbrev Before : ℕ → ℕ → ℕ → ℕ → Type 0
Before i k j l = (i < j) ⊎ ((i ≡ j) × (k < l))

abbrev MatchedFirst : MatchedRow → MatchedRow → Type 0
MatchedFirst m n = Before m.item m.place n.item n.place

module _ (registry : List TypeInfo) (s : SystemEntry) where
  abbrev IsBehind : ℕ → ℕ → MatchedRow → Type 0
  IsBehind item k m = (m.item ≡ item) × (k ≤ m.place)

  rows_behind : (item : ℕ) (home : Home) (k : ℕ) (rs : List Row) (m : MatchedRow) → In m (matched_in registry s item home k rs) → IsBehind item k m
  rows_behind item home k [] m h = absurd h
  rows_behind item home k (r ∷ rs) m h = by (matches registry s (record { home = home; row = r })) h (rows_behind item home (k + 1) rs m)
    where
      later : IsBehind item (k + 1) m → IsBehind item k m
      later a = let b = a.1 in (a.0, omega arith)

      by : (b : Bool) → In m ((if b then record { item = item; place = k; at = record { home = home; row = r } } ∷ [] else []) ++ matched_in registry s item home (k + 1) rs)
          → (In m (matched_in registry s item home (k + 1) rs) → IsBehind item (k + 1) m) → IsBehind item k m
      by true (inl e) rest = subst (IsBehind item k) (sym e) (refl, omega arith)
      by true (inr i) rest = later (rest i)
      by false i rest = later (rest i)

  rows_ordered : (item : ℕ) (home : Home) (k : ℕ) (rs : List Row) → Ordered MatchedFirst (matched_in registry s item home k rs)
  rows_ordered item home k [] = tt
  rows_ordered item home k (r ∷ rs) = by (matches registry s (record { home = home; row = r })) (rows_ordered item home (k + 1) rs)
    where
      by : (b : Bool) → Ordered MatchedFirst (matched_in registry s item home (k + 1) rs)
          → Ordered MatchedFirst ((if b then record { item = item; place = k; at = record { home = home; row = r } } ∷ [] else []) ++ matched_in registry s item home (k + 1) rs)
      by true rest = ((λ m i. (let a = rows_behind item home (k + 1) rs m i in let e = a.0 in let f = a.1 in inr (sym e, omega arith))), rest)
      by false rest = rest

module _ (clock : Clock) (registry : List TypeInfo) (s : SystemEntry) (last : Option ℕ) where
  met_behind : (item : ℕ) (bs : List Block) (m : MatchedRow) → In m (matched clock registry s last item bs) → item ≤ m.item
  met_behind item [] m h = absurd h
  met_behind item (b ∷ bs) m h = by (is_visited registry clock s last b) h (λ next. met_behind next bs m)
    where
      by : (t : Bool) → In m ((if t then matched_in registry s item b.home 0 b.rows else []) ++ matched clock registry s last (if t then item + 1 else item) bs)
          → ((next : ℕ) → In m (matched clock registry s last next bs) → next ≤ m.item) → item ≤ m.item
      by true i rest = ⊎_elim
          (λ j. (let a = rows_behind registry s item b.home 0 b.rows m j in let e = a.0 in omega arith))
          (λ j. (let a = rest (item + 1) j in omega arith))
          (in_append m (matched_in registry s item b.home 0 b.rows) (matched clock registry s last (item + 1) bs) i)
      by false i rest = rest item i

  met_ordered : (item : ℕ) (bs : List Block) → Ordered MatchedFirst (matched clock registry s last item bs)
  met_ordered item [] = tt
  met_ordered item (b ∷ bs) = by (is_visited registry clock s last b) (λ next. met_ordered next bs)
    where
      by : (t : Bool) → ((next : ℕ) → Ordered MatchedFirst (matched clock registry s last next bs))
          → Ordered MatchedFirst ((if t then matched_in registry s item b.home 0 b.rows else []) ++ matched clock registry s last (if t then item + 1 else item) bs)
      by true rest = ordered_append MatchedFirst (matched_in registry s item b.home 0 b.rows) (matched clock registry s last (item + 1) bs)
          (rows_ordered registry s item b.home 0 b.rows) (rest (item + 1))
          (λ m n i j. (let a = rows_behind registry s item b.home 0 b.rows m i in let e = a.0 in let c = met_behind (item + 1) bs n j in inl (omega arith)))
      by false rest = rest item

-- ---- entries

abbrev EntryFirst : Entry → Entry → Type 0
EntryFirst x y = Before x.item x.place y.item y.place ⊎ ((x.item ≡ y.item) × (x.place ≡ y.place) × (x.command.number < y.command.number))

at_ordered : (m : MatchedRow) (ds : List Recorded) → Ordered Lower ds → Ordered EntryFirst (entries_at m ds)
at_ordered m [] h = tt
at_ordered m (d ∷ ds) h = (
  (λ y i. (let (c, j, e) = in_map (λ command. (let x : Entry = record { item = m.item; place = m.place; command = command } in x)) y ds i in
      subst (λ z. EntryFirst (record { item = m.item; place = m.place; command = d }) z) (sym e) (inr (refl, refl, h.0 c j)))),
  at_ordered m ds h.1,
)

abbrev IsAt : MatchedRow → Entry → Type 0
IsAt m x = (x.item ≡ m.item) × (x.place ≡ m.place)

entries_are_at : (m : MatchedRow) (ds : List Recorded) (x : Entry) → In x (entries_at m ds) → IsAt m x
entries_are_at m ds x i =
    let (c, j, e) = in_map (λ command. (let x : Entry = record { item = m.item; place = m.place; command = command } in x)) x ds i in
    subst (IsAt m) (sym e) (refl, refl)

flat_ordered : (says : MatchedRow → List Recorded) → ((m : MatchedRow) → Ordered Lower (says m)) → (ms : List MatchedRow) → Ordered MatchedFirst ms
    → Ordered EntryFirst (flat_map (λ m. entries_at m (says m)) ms)
flat_ordered says each [] h = tt
flat_ordered says each (m ∷ ms) h =
    ordered_append EntryFirst (entries_at m (says m)) (flat_map (λ m. entries_at m (says m)) ms) (at_ordered m (says m) (each m)) (flat_ordered says each ms h.1) cross
  where
    cross : (x y : Entry) → In x (entries_at m (says m)) → In y (flat_map (λ m. entries_at m (says m)) ms) → EntryFirst x y
    cross x y i j =
        let (n, k, l) = in_flat_map (λ m. entries_at m (says m)) y ms j in
        let a = entries_are_at m (says m) x i in let b = entries_are_at n (says n) y l in
        let e = a.0 in let f = a.1 in let g = b.0 in let o = b.1 in
        inl (⊎_elim (λ less. inl (omega arith)) (λ (both : (m.item ≡ n.item) × (m.place < n.place)). (let p = both.0 in let q = both.1 in inr (omega arith, omega arith))) (h.0 n k))

never : (u v : Entry) → EntryFirst u v → u.item ≡ v.item → u.place ≡ v.place → u.command.number ≡ v.command.number → ⊥
never u v (inl (inl less)) p q n = omega arith
never u v (inl (inr both)) p q n = let c = both.1 in omega arith
never u v (inr both) p q n = let c = both.2 in omega arith

pub ordered_differ : (es : List Entry) → Ordered EntryFirst es → AreDifferent es
ordered_differ [] h x y i j p q n = absurd i
ordered_differ (z ∷ zs) h x y (inl e) (inl f) p q n = cc
ordered_differ (z ∷ zs) h x y (inl e) (inr j) p q n = absurd (never z y (h.0 y j) (subst (λ (u : Entry). u.item ≡ y.item) e p) (subst (λ (u : Entry). u.place ≡ y.place) e q) (subst (λ (u : Entry). u.command.number ≡ y.command.number) e n))
ordered_differ (z ∷ zs) h x y (inr i) (inl f) p q n = absurd (never z x (h.0 x i) (sym (subst (λ (u : Entry). x.item ≡ u.item) f p)) (sym (subst (λ (u : Entry). x.place ≡ u.place) f q)) (sym (subst (λ (u : Entry). x.command.number ≡ u.command.number) f n)))
ordered_differ (z ∷ zs) h x y (inr i) (inr j) p q n = ordered_differ zs h.1 x y i j p q n

pub buffers_differ : (clock : Clock) (s : SystemEntry) (last : Option ℕ) (frame : ℕ) (w : World) (goes : Entry → Bool)
    → AreDifferent (filter goes (run clock s last frame w).entries)
unfolding run
buffers_differ clock s last frame w goes x y i j =
    ordered_differ es (flat_ordered (recorded_of w.registry s others frame) (λ m. rises m) (matched clock w.registry s last 0 w.blocks) (met_ordered clock w.registry s last 0 w.blocks))
    x y (in_filter goes x es i) (in_filter goes y es j)
  where
    others : OtherRows
    others = others_in w

    es : List Entry
    es = entries_of clock w.registry s last frame others w.blocks

    rises : (m : MatchedRow) → Ordered Lower (recorded_of w.registry s others frame m)
    rises m = numbers_rise w.registry (own_of w.registry (record { frame = frame; item = m.item; place = m.place }) m.at.home m.at.row.entity
        (cells_after w.registry s others (record { frame = frame; item = m.item; place = m.place }) m.at)) others 0 [] s.command
