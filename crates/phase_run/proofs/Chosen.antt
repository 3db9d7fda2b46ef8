-- The visits of a run: to which blocks they are, and how many there are.
use Rattle.std.proofs.Common.{ℕ, ◌≡◌, ◌∙◌, ◌+◌, ◌≤◌, ◌<◌, inl, inr, nat_lt, Bool, true, false, ◌&&◌, cond, refl, sym, ap, subst, List, [], ◌∷◌, length, map, Option, arith}
use Rattle.std.specs.Prelude.{⊤}
use Rattle.std.specs.Bool.{MatchBool}
use Rattle.std.proofs.lemmas.Bool.{and_parts, eq-eqb, lt-ltb, ltb-true, ne_eqb}
use Rattle.ent_types.specs.declared.type_info.TypeInfo.{TypeInfo}
use Rattle.enable_bits.specs.Masks.{has, IsMask, places_where}
use Rattle.enable_bits.proofs.MaskLemmas.{has-places_where, has-test, places_where-IsMask}
use Rattle.world_model.specs.Members.{In, AreDistinct, one_if, tally}
use Rattle.world_model.specs.Row.{Row}
use Rattle.world_model.specs.World.{Block, Home}
use Rattle.world_laws.proofs.Members.{in_map, tally_more}
use Rattle.chunk_block.specs.Blocks.{row_in}
use Rattle.structural_ops.specs.Freezing.{block_at}
use Rattle.structural_ops.specs.Numbered.{OfNumbered}
use Rattle.scenario_record.specs.declared.record.SystemEntry.{SystemEntry}
use Rattle.run_model.specs.Clock.{versions}
use Rattle.run_model.specs.Query.{is_visited, has_shared, matches, passes}
use Rattle.query_select.specs.declared.visits.Visit.{Visit}
use Rattle.query_select.specs.Rows.{matching_places}
use Rattle.query_select.specs.Visits.{numbered_visits}
use Rattle.query_select.proofs.RowMasks.{mask_places}

abbrev pub visit_block : Visit → ℕ
visit_block v = v.block

-- ---- the rows of a visit

module _ (registry : List TypeInfo) (s : SystemEntry) (home : Home) (rows : List Row) (few : length rows ≤ 128) where
  abbrev test : ℕ → Bool
  test k = nat_lt k (length rows) && matches registry s (record { home = home; row = row_in k rows })

  places_are : places_where test ≡ matching_places registry s home rows
  places_are = mask_places registry s home (places_where test) rows (places_where-IsMask test) few (λ k below. has-places_where test k below)

  pub places_mask : IsMask (matching_places registry s home rows)
  places_mask = subst IsMask places_are (places_where-IsMask test)

  pub places_match : (k : ℕ) → k < length rows → has (matching_places registry s home rows) k ≡ matches registry s (record { home = home; row = row_in k rows })
  places_match k below =
      ap (λ m. has m k) (sym places_are)
      ∙ has-places_where test k (omega arith)
      ∙ ap (λ b. b && matches registry s (record { home = home; row = row_in k rows })) (lt-ltb k (length rows) below)

  pub places_within : (k : ℕ) → has (matching_places registry s home rows) k ≡ true → k < length rows
  places_within k is =
      let here : (nat_lt k 128 && test k) ≡ true = sym (has-test test k) ∙ (ap (λ m. has m k) places_are ∙ is) in
      ltb-true k (length rows) (and_parts (nat_lt k (length rows)) _ (and_parts (nat_lt k 128) (test k) here).1).0

-- ---- the visits

module _ (registry : List TypeInfo) (s : SystemEntry) (last : Option ℕ) where
  abbrev pub chosen : List ℕ → List Block → List Visit
  chosen ns bs = numbered_visits versions registry s last ns bs

  abbrev pub visit_at : ℕ → Block → Visit
  visit_at n b = record { block = n; rows = matching_places registry s b.home b.rows }

  pub chosen_first : (n : ℕ) (b : Block) (ns : List ℕ) (bs : List Block)
      → chosen (n ∷ ns) (b ∷ bs) ≡ cond (is_visited registry versions s last b) (visit_at n b ∷ chosen ns bs) (chosen ns bs)
  chosen_first n b ns bs = by (is_visited registry versions s last b) refl
    where
      by : (t : Bool) → is_visited registry versions s last b ≡ t → chosen (n ∷ ns) (b ∷ bs) ≡ cond t (visit_at n b ∷ chosen ns bs) (chosen ns bs)
      by true is = rw is refl
      by false is = rw is refl

  -- a visit to the block of its number
  pub record IsVisit (ns : List ℕ) (bs : List Block) (v : Visit) : Type 0 where
    pub there : OfNumbered v.block (λ _. ⊤) ns bs
    pub visited : is_visited registry versions s last (block_at v.block ns bs) ≡ true
    pub rows : v.rows ≡ matching_places registry s (block_at v.block ns bs).home (block_at v.block ns bs).rows

  pub number_there : (ns : List ℕ) (bs : List Block) (v : Visit) → In v (chosen ns bs) → In v.block ns
  number_there [] bs v i = i
  number_there (n ∷ ns) [] v i = absurd i
  number_there (n ∷ ns) (b ∷ bs) v i = by (is_visited registry versions s last b) (subst (In v) (chosen_first n b ns bs) i) (number_there ns bs v)
    where
      by : (t : Bool) → In v (cond t (visit_at n b ∷ chosen ns bs) (chosen ns bs)) → (In v (chosen ns bs) → In v.block ns) → In v.block (n ∷ ns)
      by true (inl same) rest = inl (ap visit_block same)
      by true (inr j) rest = inr (rest j)
      by false j rest = inr (rest j)

  -- a visit to a later block
  visit_later : (n : ℕ) (b : Block) (ns : List ℕ) (bs : List Block) (v : Visit) → (n ≡ v.block → ⊥) → IsVisit ns bs v → IsVisit (n ∷ ns) (b ∷ bs) v
  visit_later n b ns bs v apart is =
      let other = ne_eqb n v.block apart in
      let same : block_at v.block (n ∷ ns) (b ∷ bs) ≡ block_at v.block ns bs = ap (λ t. cond t b (block_at v.block ns bs)) other in
      record {
        there = subst (λ t. MatchBool t ⊤ (OfNumbered v.block (λ _. ⊤) ns bs)) (sym other) is.there;
        visited = ap (is_visited registry versions s last) same ∙ is.visited;
        rows = is.rows ∙ ap (λ (c : Block). matching_places registry s c.home c.rows) (sym same);
      }

  visit_here : (n : ℕ) (b : Block) (ns : List ℕ) (bs : List Block) → is_visited registry versions s last b ≡ true → IsVisit (n ∷ ns) (b ∷ bs) (visit_at n b)
  visit_here n b ns bs is =
      let found = eq-eqb n n refl in
      let same : block_at n (n ∷ ns) (b ∷ bs) ≡ b = ap (λ t. cond t b (block_at n ns bs)) found in
      record {
        there = subst (λ t. MatchBool t ⊤ (OfNumbered n (λ _. ⊤) ns bs)) (sym found) tt;
        visited = ap (is_visited registry versions s last) same ∙ is;
        rows = ap (λ (c : Block). matching_places registry s c.home c.rows) (sym same);
      }

  pub is_visit : (ns : List ℕ) (bs : List Block) → AreDistinct ns → (v : Visit) → In v (chosen ns bs) → IsVisit ns bs v
  is_visit [] bs distinct v i = absurd i
  is_visit (n ∷ ns) [] distinct v i = absurd i
  is_visit (n ∷ ns) (b ∷ bs) distinct v i =
      by (is_visited registry versions s last b) refl (subst (In v) (chosen_first n b ns bs) i) (is_visit ns bs distinct.1 v)
    where
      later : In v (chosen ns bs) → (In v (chosen ns bs) → IsVisit ns bs v) → IsVisit (n ∷ ns) (b ∷ bs) v
      later j rest = visit_later n b ns bs v (λ same. distinct.0 (subst (λ m. In m ns) (sym same) (number_there ns bs v j))) (rest j)

      by : (t : Bool) → is_visited registry versions s last b ≡ t → In v (cond t (visit_at n b ∷ chosen ns bs) (chosen ns bs)) → (In v (chosen ns bs) → IsVisit ns bs v)
          → IsVisit (n ∷ ns) (b ∷ bs) v
      by true is (inl same) rest = subst (IsVisit (n ∷ ns) (b ∷ bs)) (sym same) (visit_here n b ns bs is)
      by true is (inr j) rest = later j rest
      by false is j rest = later j rest

  -- no block is visited twice
  pub chosen_once : (ns : List ℕ) (bs : List Block) → AreDistinct ns → AreDistinct (map visit_block (chosen ns bs))
  chosen_once [] bs distinct = tt
  chosen_once (n ∷ ns) [] distinct = tt
  chosen_once (n ∷ ns) (b ∷ bs) distinct =
      subst (λ (vs : List Visit). AreDistinct (map visit_block vs)) (sym (chosen_first n b ns bs)) (by (is_visited registry versions s last b) (chosen_once ns bs distinct.1))
    where
      first : In n (map visit_block (chosen ns bs)) → ⊥
      first i = let (v, j, same) = in_map visit_block n (chosen ns bs) i in distinct.0 (subst (λ m. In m ns) (sym same) (number_there ns bs v j))

      by : (t : Bool) → AreDistinct (map visit_block (chosen ns bs)) → AreDistinct (map visit_block (cond t (visit_at n b ∷ chosen ns bs) (chosen ns bs)))
      by true rest = (first, rest)
      by false rest = rest

  -- ---- how many

  pub chosen_count : (ns : List ℕ) (bs : List Block) → length ns ≡ length bs → length (chosen ns bs) ≡ tally (is_visited registry versions s last) bs
  chosen_count [] [] long = refl
  chosen_count [] (b ∷ bs) long = absurd (omega (arith, long))
  chosen_count (n ∷ ns) [] long = refl
  chosen_count (n ∷ ns) (b ∷ bs) long =
      ap (λ (vs : List Visit). length vs) (chosen_first n b ns bs) ∙ by (is_visited registry versions s last b) (chosen_count ns bs (omega arith))
    where
      by : (t : Bool) → length (chosen ns bs) ≡ tally (is_visited registry versions s last) bs
          → length (cond t (visit_at n b ∷ chosen ns bs) (chosen ns bs)) ≡ one_if t + tally (is_visited registry versions s last) bs
      by true rest = omega (arith, rest)
      by false rest = omega (arith, rest)

  pub visited_passes : (b : Block) → is_visited registry versions s last b ≡ true → passes registry s b.home.types ≡ true
  visited_passes b is = (and_parts (passes registry s b.home.types) (has_shared s b.home) (and_parts (passes registry s b.home.types && has_shared s b.home) _ is).0).0

  pub chosen_few : (ns : List ℕ) (bs : List Block) → length ns ≡ length bs → length (chosen ns bs) ≤ tally (λ (b : Block). passes registry s b.home.types) bs
  chosen_few ns bs long =
      let count = chosen_count ns bs long in
      let more = tally_more (is_visited registry versions s last) (λ (b : Block). passes registry s b.home.types) visited_passes bs in
      omega (arith, count, more)
