-- The mask of the rows that match.
use Rattle.std.proofs.Common.{◌≡◌, ℕ, ◌+◌, ◌<◌, ◌≤◌, nat_lt, Bool, true, false, not, ◌&&◌, ◌||◌, ◌↔◌, IsTrue, cond, List, [], ◌∷◌, ◌++◌, map, length, filter, refl, sym, ap, ap₂, ◌∙◌, arith, suc}
use Rattle.std.specs.List.{list_all, list_any, range_with_len}
use Rattle.std.proofs.lemmas.Bool.{and_parts, false_from_ne_true, ltb-true}
use Rattle.ent_types.specs.declared.type_info.TypeInfo.{TypeInfo}
use Rattle.ent_types.specs.declared.value.Value.{Value}
use Rattle.ent_types.specs.TypeLookups.{is_enableable_at}
use Rattle.ent_types.specs.TypeSets.{has_type, is_subset_of, meets}
use Rattle.enable_bits.specs.Masks.{has, IsMask, places_where}
use Rattle.enable_bits.proofs.MaskLemmas.{mask_is, rows_that_pass, has-places_where, places_where-IsMask}
use Rattle.world_model.specs.Part.{PartOf}
use Rattle.world_model.specs.Row.{Row}
use Rattle.world_model.specs.World.{Home}
use Rattle.world_model.specs.Found.{Found}
use Rattle.chunk_block.specs.Blocks.{BlockState, AreDistinct, HaveTypes, column_types, new_types, row_in}
use Rattle.archetype_store.specs.Stores.{shape_list}
use Rattle.scenario_record.specs.declared.record.SystemEntry.{SystemEntry}
use Rattle.run_model.specs.Clock.{versions}
use Rattle.run_model.specs.Query.{PlacedRow, are_tags_seen, is_empty, is_off, is_on, matches, matching_rows, passes}
use Rattle.run_laws.proofs.Lists.{all_eq, any_eq}
use Rattle.run_laws.proofs.Matches.{matches_pass}
use Rattle.query_select.specs.Rows.{is_off_in, is_on_in, matching_places}
use Rattle.query_select.proofs.Off.{off_same}

-- ---- the places of the rows that match

module _ (registry : List TypeInfo) (s : SystemEntry) (home : Home) where
  places_from : (rows : List Row) (start : ℕ) (test : ℕ → Bool)
      → ((k j : ℕ) → k ≡ start + j → j < length rows → test k ≡ matches registry s (record { home = home; row = row_in j rows }))
      → map (λ (p : PlacedRow). p.place) (matching_rows registry versions s home start rows) ≡ filter test (range_with_len start (length rows))
  places_from [] start test is = refl
  places_from (r ∷ rs) start test is =
      by (matches registry s (record { home = home; row = r })) (places_from rs (start + 1) test (λ k j e below. is k (suc j) (omega arith) (omega arith)))
      ∙ ap (λ b. cond b (start ∷ filter test (range_with_len (start + 1) (length rs))) (filter test (range_with_len (start + 1) (length rs)))) (sym (is start 0 (omega arith) (omega arith)))
    where
      by : (b : Bool) → map (λ (p : PlacedRow). p.place) (matching_rows registry versions s home (start + 1) rs) ≡ filter test (range_with_len (start + 1) (length rs))
          → map (λ (p : PlacedRow). p.place) (cond b (record { place = start; row = r } ∷ []) [] ++ matching_rows registry versions s home (start + 1) rs)
          ≡ cond b (start ∷ filter test (range_with_len (start + 1) (length rs))) (filter test (range_with_len (start + 1) (length rs)))
      by true rest = ap (λ ps. start ∷ ps) rest
      by false rest = rest

  -- a mask of the rows that match has their places
  pub mask_places : (mask : List ℕ) (rows : List Row) → IsMask mask → length rows ≤ 128
      → ((k : ℕ) → k < 128 → has mask k ≡ (nat_lt k (length rows) && matches registry s (record { home = home; row = row_in k rows })))
      → mask ≡ matching_places registry s home rows
  mask_places mask rows is_mask few is =
      mask_is mask (λ k. nat_lt k (length rows) && matches registry s (record { home = home; row = row_in k rows })) is_mask is
      ∙ rows_that_pass (length rows) (λ k. matches registry s (record { home = home; row = row_in k rows })) few
      ∙ sym (places_from rows 0 (λ k. matches registry s (record { home = home; row = row_in k rows })) (λ k j e below. ap (λ i. matches registry s (record { home = home; row = row_in i rows })) (let same : k ≡ j = omega arith in same)))

-- ---- tests

pub and_true : (b : Bool) → (b && true) ≡ b
and_true true = refl
and_true false = refl

and_false : (b : Bool) → (b && false) ≡ false
and_false true = refl
and_false false = refl

-- the tests that ask for no bit first, then those on `any` and `none`
shuffled : (a b c d r : Bool) → (a && (b && (c && (d && r)))) ≡ ((a && (d && r)) && (b && c))
shuffled true true true d r = sym (and_true (d && r))
shuffled true true false d r = sym (and_false (d && r))
shuffled true false c d r = sym (and_false (d && r))
shuffled false b c d r = refl

-- the test on `any` last
reordered : (a e n d : Bool) → (a && (e && (n && (d && true)))) ≡ (((a && n) && d) && e)
reordered true true true d = refl
reordered true true false d = refl
reordered true false true d = sym (and_false d)
reordered true false false d = refl
reordered false e n d = refl

-- of types that a row has, all are on where none is off
all_on : (has off : ℕ → Bool) (ts : List ℕ) → list_all has ts ≡ true → list_all (λ t. has t && not (off t)) ts ≡ list_all (λ t. not (off t)) ts
all_on has off [] h = refl
all_on has off (t ∷ ts) h =
    let parts = and_parts (has t) (list_all has ts) h in
    ap₂ (λ a b. (a && not (off t)) && b) parts.0 (all_on has off ts parts.1)

-- of types that a row has, all are off where none is on
all_off : (has off : ℕ → Bool) (ts : List ℕ) → list_all has ts ≡ true → list_all (λ t. has t && off t) ts ≡ not (list_any (λ t. has t && not (off t)) ts)
all_off has off [] h = refl
all_off has off (t ∷ ts) h =
    let parts = and_parts (has t) (list_all has ts) h in
    ap₂ (λ a b. (a && off t) && b) parts.0 (all_off has off ts parts.1) ∙ by (off t) (list_any (λ u. has u && not (off u)) ts)
    ∙ ap (λ a. not ((a && not (off t)) || list_any (λ u. has u && not (off u)) ts)) (sym parts.0)
  where
    by : (o r : Bool) → (o && not r) ≡ not (not o || r)
    by true r = refl
    by false r = refl

-- the tests on types that ask for no bit
abbrev pub admits : SystemEntry → List ℕ → Bool
admits s types = is_subset_of s.all types && (is_subset_of s.disabled types && (not (meets s.absent types) && are_tags_seen s types))

module _ (registry : List TypeInfo) (s : SystemEntry) where
  -- types pass by three tests
  pub passes_are : (types : List ℕ) → passes registry s types
      ≡ (admits s types && ((is_empty s.any || meets s.any types) && not (list_any (λ t. has_type types t && not (is_enableable_at registry t)) s.none)))
  passes_are types =
      shuffled (is_subset_of s.all types) (is_empty s.any || meets s.any types) (not (list_any (λ t. has_type types t && not (is_enableable_at registry t)) s.none))
      (is_subset_of s.disabled types) (not (meets s.absent types) && are_tags_seen s types)

  module _ (x : Found) where
    abbrev types : List ℕ
    types = x.home.types

    pub none_match : admits s types ≡ false → matches registry s x ≡ false
    none_match refuses = false_from_ne_true (matches registry s x) (λ h. absurd (cc (sym refuses ∙ (and_parts (admits s types) _ (sym (passes_are types) ∙ matches_pass registry s x h)).0)))

    pub match_by_bits : admits s types ≡ true
        → matches registry s x ≡ (((list_all (λ t. not (is_off registry t x.row.cells)) s.all && not (list_any (is_on registry x) s.none)) && not (list_any (is_on registry x) s.disabled))
        && (is_empty s.any || list_any (is_on registry x) s.any))
    match_by_bits admitted =
        let first = and_parts (is_subset_of s.all types) _ admitted in
        let second = and_parts (is_subset_of s.disabled types) _ first.1 in
        ap₂ (λ a p. a && ((is_empty s.any || list_any (is_on registry x) s.any) && (not (list_any (is_on registry x) s.none) && p)))
        (all_on (has_type types) (λ t. is_off registry t x.row.cells) s.all first.0)
        (ap₂ (λ d r. d && r) (all_off (has_type types) (λ t. is_off registry t x.row.cells) s.disabled second.0) second.1)
        ∙ reordered (list_all (λ t. not (is_off registry t x.row.cells)) s.all) (is_empty s.any || list_any (is_on registry x) s.any) (not (list_any (is_on registry x) s.none))
        (not (list_any (is_on registry x) s.disabled))

-- ---- masks

none_pass : {X : Type 0} (xs : List X) → filter (λ x. false) xs ≡ []
none_pass [] = refl
none_pass (x ∷ xs) = none_pass xs

-- no row matches
pub empty_places : (registry : List TypeInfo) (s : SystemEntry) (home : Home) (rows : List Row) → admits s home.types ≡ false → [] ≡ matching_places registry s home rows
empty_places registry s home rows refuses =
    sym (places_from registry s home rows 0 (λ k. false) (λ k j e below. sym (none_match registry s (record { home = home; row = row_in j rows }) refuses)) ∙ none_pass (range_with_len 0 (length rows)))

module _ (registry : List TypeInfo) (s : SystemEntry) (b : BlockState) (distinct : AreDistinct (column_types b.columns)) (have : HaveTypes (column_types b.columns) b.rows)
    (shapes : shape_list b.columns ≡ shape_list (new_types registry b.types)) (few : length b.rows ≤ 128) (shared : List (PartOf Value)) where
  abbrev home : Home
  home = record { types = b.types; shared = shared }

  abbrev row_at : ℕ → Found
  row_at k = record { home = home; row = row_in k b.rows }

  -- those of the tests that a mask is cut down by
  abbrev is_kept : ℕ → Bool
  is_kept k = ((list_all (λ t. not (is_off_in b k t)) s.all && not (list_any (is_on_in b k) s.none)) && not (list_any (is_on_in b k) s.disabled))

  module _ (admitted : admits s b.types ≡ true) where
    kept_match : (k : ℕ) → k < length b.rows → matches registry s (row_at k) ≡ (is_kept k && (is_empty s.any || list_any (is_on_in b k) s.any))
    kept_match k below =
        match_by_bits registry s (row_at k) admitted
        ∙ sym (ap₂ (λ (p q : Bool × Bool). ((p.0 && not p.1) && not q.0) && (is_empty s.any || q.1))
        (ap₂ (λ a n. (a, n)) (all_eq (λ t. not (is_off_in b k t)) (λ t. not (is_off registry t (row_in k b.rows).cells)) s.all (λ t i. ap not (off t))) (on s.none))
        (ap₂ (λ d n. (d, n)) (on s.disabled) (on s.any)))
      where
        off : (t : ℕ) → is_off_in b k t ≡ is_off registry t (row_in k b.rows).cells
        off t = off_same registry b distinct have shapes k t below

        on : (ts : List ℕ) → list_any (is_on_in b k) ts ≡ list_any (is_on registry (row_at k)) ts
        on ts = any_eq (is_on_in b k) (is_on registry (row_at k)) ts (λ t i. ap (λ o. has_type b.types t && not o) (off t))

    module _ (first all none disabled : List ℕ) (first_is : first ≡ places_where (λ k. nat_lt k (length b.rows)))
        (all_is : (k : ℕ) → k < 128 → has all k ≡ (has first k && list_all (λ t. not (is_off_in b k t)) s.all))
        (none_is : (k : ℕ) → k < 128 → has none k ≡ (has all k && not (list_any (is_on_in b k) s.none)))
        (disabled_is : (k : ℕ) → k < 128 → has disabled k ≡ (has none k && not (list_any (is_on_in b k) s.disabled))) where
      kept_is : (k : ℕ) → k < 128 → has disabled k ≡ (nat_lt k (length b.rows) && is_kept k)
      kept_is k below =
          disabled_is k below
          ∙ ap (λ p. p && not (list_any (is_on_in b k) s.disabled)) (none_is k below
          ∙ ap (λ p. p && not (list_any (is_on_in b k) s.none)) (all_is k below
          ∙ ap (λ p. p && list_all (λ t. not (is_off_in b k t)) s.all) (ap (λ m. has m k) first_is ∙ has-places_where (λ j. nat_lt j (length b.rows)) k below)))
          ∙ regrouped (nat_lt k (length b.rows)) (list_all (λ t. not (is_off_in b k t)) s.all) (not (list_any (is_on_in b k) s.none)) (not (list_any (is_on_in b k) s.disabled))
        where
          regrouped : (l a n d : Bool) → (((l && a) && n) && d) ≡ (l && ((a && n) && d))
          regrouped true a n d = refl
          regrouped false a n d = refl

      -- a test of the rows that are there
      within : (k : ℕ) (p q : Bool) → (k < length b.rows → p ≡ q) → (nat_lt k (length b.rows) && p) ≡ (nat_lt k (length b.rows) && q)
      within k p q same = by (nat_lt k (length b.rows)) refl
        where
          by : (l : Bool) → nat_lt k (length b.rows) ≡ l → (l && p) ≡ (l && q)
          by true e = same (ltb-true k (length b.rows) e)
          by false e = refl

      -- without types of `any`
      pub places_of_all : is_empty s.any ≡ true → IsMask disabled → disabled ≡ matching_places registry s home b.rows
      places_of_all none_asked is_mask =
          mask_places registry s home disabled b.rows is_mask few
          (λ k below. kept_is k below
          ∙ within k (is_kept k) (matches registry s (row_at k)) (λ there. sym (kept_match k there ∙ ap (λ e. is_kept k && (e || list_any (is_on_in b k) s.any)) none_asked ∙ and_true (is_kept k))))

      -- with some
      pub places_of_any : is_empty s.any ≡ false → (lacking : List ℕ)
          → ((k : ℕ) → k < 128 → has lacking k ≡ (has disabled k && not (list_any (is_on_in b k) s.any)))
          → places_where (λ k. has disabled k && not (has lacking k)) ≡ matching_places registry s home b.rows
      places_of_any asked lacking lacking_is =
          mask_places registry s home (places_where (λ k. has disabled k && not (has lacking k))) b.rows (places_where-IsMask (λ k. has disabled k && not (has lacking k))) few
          (λ k below. has-places_where (λ j. has disabled j && not (has lacking j)) k below
          ∙ ap (λ l. has disabled k && not l) (lacking_is k below)
          ∙ both (has disabled k) (list_any (is_on_in b k) s.any)
          ∙ ap (λ d. d && list_any (is_on_in b k) s.any) (kept_is k below)
          ∙ grouped (nat_lt k (length b.rows)) (is_kept k) (list_any (is_on_in b k) s.any)
          ∙ within k (is_kept k && list_any (is_on_in b k) s.any) (matches registry s (row_at k))
          (λ there. sym (kept_match k there ∙ ap (λ e. is_kept k && (e || list_any (is_on_in b k) s.any)) asked)))
        where
          both : (d e : Bool) → (d && not (d && not e)) ≡ (d && e)
          both true true = refl
          both true false = refl
          both false e = refl

          grouped : (l d e : Bool) → ((l && d) && e) ≡ (l && (d && e))
          grouped true d e = refl
          grouped false d e = refl

-- whether there are no types
pub empty_is : (b : Bool) (ts : List ℕ) → IsTrue b ↔ (ts ≡ []) → b ≡ is_empty ts
empty_is true [] h = refl
empty_is true (t ∷ ts) h = let none : t ∷ ts ≡ [] = h.0 refl in absurd (cc)
empty_is false [] h = let no_way : false ≡ true = h.1 refl in absurd (cc)
empty_is false (t ∷ ts) h = refl
