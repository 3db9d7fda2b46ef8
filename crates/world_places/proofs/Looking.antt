-- What the places of a table say of the rows of a world.
use Rattle.std.proofs.Common.{◌≡◌, ℕ, ◌+◌, ◌≤◌, inl, inr, Bool, true, false, nat_eq, List, [], ◌∷◌, length, find, slice_get, Option, Some, None, option_map, is_some, refl, sym, ap, ap₂, ◌∙◌, subst, arith, length-append}
use Rattle.std.specs.Option.{option_or}
use Rattle.std.proofs.lemmas.Bool.{eqb-true, eqb-false}
use Rattle.std.proofs.lemmas.Option.{none-some, same_Some}
use Rattle.std.proofs.lemmas.List.Folds.{find-append}
use Rattle.ent_types.specs.declared.entity.Entity.{Entity}
use Rattle.ent_types.specs.declared.type_info.TypeInfo.{TypeInfo}
use Rattle.entity_table.specs.declared.table.Place.{Place}
use Rattle.entity_table.specs.Table.{Table, place_of, alive_count}
use Rattle.world_model.specs.Members.{In, tally, AreDistinct}
use Rattle.world_model.specs.Row.{Row}
use Rattle.world_model.specs.Found.{Found, placed_in, placed, is_of, found}
use Rattle.archetype_store.specs.Stores.{Numbered, OfNumber}
use Rattle.world_laws.proofs.Members.{none_found, tally_append}
use Rattle.world_places.specs.Placing.{home_of, world_blocks, row_at, numbers_of, IsPlaced, IsThere}
use Rattle.world_places.proofs.Rows.{entity_in, Lacks, Only, lacks_tally, lacks_found, only_tally, only_found, found_rows, tally_rows, length_rows}
use Rattle.world_places.proofs.Numbers.{of_in, of_more, of_both, of_member, later_apart, row_at_in, row_at_some}

-- ---- places

pub place_is : (p : Place) (n k : ℕ) → p.block ≡ n → p.row ≡ k → p ≡ record { block = n; row = k }
place_is p n k block row = ap₂ (λ (m j : ℕ). let made : Place = record { block = m; row = j } in made) block row

-- ---- the rows of an entity in a list of blocks

-- no row is the entity's
abbrev pub AllLack : Entity → List Numbered → Type 0
AllLack e bs = (b : Numbered) → In b bs → Lacks e b.block.rows

-- the block of a number, and no other one, has a row of the entity, at one place
pub record OneHas (e : Entity) (n k : ℕ) (bs : List Numbered) : Type 0 where
  pub here : (b : Numbered) → In b bs → b.number ≡ n → Only e k b.block.rows
  pub others : (b : Numbered) → In b bs → (b.number ≡ n → ⊥) → Lacks e b.block.rows

one_rest : (e : Entity) (n k : ℕ) (b : Numbered) (bs : List Numbered) → OneHas e n k (b ∷ bs) → OneHas e n k bs
one_rest e n k b bs one = record { here = λ c i. one.here c (inr i); others = λ c i. one.others c (inr i) }

module _ (e : Entity) where
  lack_found : (b : Numbered) → Lacks e b.block.rows → find (is_of e) (placed_in (home_of b) b.block.rows) ≡ None
  lack_found b lacks =
      found_rows e (home_of b) b.block.rows ∙ ap (option_map (λ r. let x : Found = record { home = home_of b; row = r } in x)) (lacks_found e b.block.rows lacks)

  pub none_tally : (bs : List Numbered) → AllLack e bs → tally (is_of e) (placed (world_blocks bs)) ≡ 0
  none_tally [] lack = refl
  none_tally (b ∷ bs) lack =
      let sums = tally_append (is_of e) (placed_in (home_of b) b.block.rows) (placed (world_blocks bs)) in
      let here = tally_rows e (home_of b) b.block.rows in
      let none = lacks_tally e b.block.rows (lack b (inl refl)) in
      let rest = none_tally bs (λ c i. lack c (inr i)) in
      omega arith

  pub one_tally : (n k : ℕ) (bs : List Numbered) → AreDistinct (numbers_of bs) → OneHas e n k bs → tally (is_of e) (placed (world_blocks bs)) ≤ 1
  one_tally n k [] distinct one = omega arith
  one_tally n k (b ∷ bs) distinct one = by (nat_eq b.number n) refl (one_tally n k bs distinct.1 (one_rest e n k b bs one))
    where
      sums : tally (is_of e) (placed (world_blocks (b ∷ bs))) ≡ tally (is_of e) (placed_in (home_of b) b.block.rows) + tally (is_of e) (placed (world_blocks bs))
      sums = tally_append (is_of e) (placed_in (home_of b) b.block.rows) (placed (world_blocks bs))

      by : (t : Bool) → nat_eq b.number n ≡ t → tally (is_of e) (placed (world_blocks bs)) ≤ 1 → tally (is_of e) (placed (world_blocks (b ∷ bs))) ≤ 1
      by true is few =
          let number : b.number ≡ n = eqb-true b.number n is in
          let here = tally_rows e (home_of b) b.block.rows in
          let this = only_tally e k b.block.rows (one.here b (inl refl) number) in
          let rest = none_tally bs (λ c i. one.others c (inr i) (λ same. later_apart b bs distinct c i (number ∙ sym same))) in
          omega (arith, sums)
      by false is few =
          let here = tally_rows e (home_of b) b.block.rows in
          let none = lacks_tally e b.block.rows (one.others b (inl refl) (eqb-false b.number n is)) in
          omega (arith, sums)

  pub one_found : (n k : ℕ) (r : Row) (bs : List Numbered) → AreDistinct (numbers_of bs) → OneHas e n k bs → (b : Numbered) → In b bs → b.number ≡ n → slice_get b.block.rows k ≡ Some r
      → found e (world_blocks bs) ≡ Some (record { home = home_of b; row = r })
  one_found n k r [] distinct one b i number at = absurd i
  one_found n k r (c ∷ cs) distinct one b (inl is) number at =
      find-append (is_of e) (placed_in (home_of c) c.block.rows) (placed (world_blocks cs))
      ∙ ap (λ (o : Option Found). option_or o (find (is_of e) (placed (world_blocks cs))))
      (found_rows e (home_of c) c.block.rows
      ∙ ap (option_map (λ (q : Row). let x : Found = record { home = home_of c; row = q } in x))
      (only_found e k r c.block.rows (one.here c (inl refl) (ap (λ (d : Numbered). d.number) (sym is) ∙ number)) (ap (λ (d : Numbered). slice_get d.block.rows k) (sym is) ∙ at)))
      ∙ ap (λ (d : Numbered). let x : Option Found = Some (record { home = home_of d; row = r }) in x) (sym is)
  one_found n k r (c ∷ cs) distinct one b (inr i) number at =
      find-append (is_of e) (placed_in (home_of c) c.block.rows) (placed (world_blocks cs))
      ∙ ap (λ (o : Option Found). option_or o (find (is_of e) (placed (world_blocks cs))))
      (lack_found c (one.others c (inl refl) (λ same. later_apart c cs distinct b i (same ∙ sym number))))
      ∙ one_found n k r cs distinct.1 (one_rest e n k c cs one) b i number at

-- how many rows there are
pub placed_length : (b : Numbered) (bs : List Numbered) → length (placed (world_blocks (b ∷ bs))) ≡ length b.block.rows + length (placed (world_blocks bs))
placed_length b bs =
    let sums = length-append (placed_in (home_of b) b.block.rows) (placed (world_blocks bs)) in
    let here = length_rows (home_of b) b.block.rows in
    omega arith

blocks_filled : (bs : List Numbered) → ((b : Numbered) → In b bs → 1 ≤ length b.block.rows) → length bs ≤ length (placed (world_blocks bs))
blocks_filled [] filled = omega arith
blocks_filled (b ∷ bs) filled =
    let rest = blocks_filled bs (λ c i. filled c (inr i)) in
    let here = filled b (inl refl) in
    let sums = placed_length b bs in
    omega arith

-- there are no more blocks than alive entities
pub few_blocks : {registry : List TypeInfo} {blocks : List Numbered} {table : Table} → IsPlaced registry blocks table → length blocks ≤ alive_count table
few_blocks {registry} {blocks} {table} placed_is =
    let few = blocks_filled blocks placed_is.filled in
    let counted = placed_is.counted in
    omega arith

-- ---- what is there of an entity with a place

-- what a row's block has, the block of the place's number has, and the other way round
pub has_of : {blocks : List Numbered} {e : Entity} {p : Place} (there : IsThere blocks e p) (P : Numbered → Type 0) → P there.block → OfNumber p.block P blocks
has_of {blocks} {e} {p} there P h = of_more p.block (λ b. b ≡ there.block) P blocks (λ b is. subst P (sym is) h) there.is

pub had_of : {blocks : List Numbered} {e : Entity} {p : Place} (there : IsThere blocks e p) (P : Numbered → Type 0) → OfNumber p.block P blocks → P there.block
had_of {blocks} {e} {p} there P h =
    let (b, i, number, both) = of_member p.block (λ b. P there.block) blocks (of_both p.block (λ b. b ≡ there.block) P (λ b. P there.block) blocks (λ b is holds. subst P is holds) there.is h) in
    both

module _ {registry : List TypeInfo} {blocks : List Numbered} {table : Table} (placed_is : IsPlaced registry blocks table) where
  -- an entity that is the one of a row has that row's place
  pub place_at_row : (b : Numbered) → In b blocks → (k : ℕ) (e : Entity) → entity_in b.block.rows k ≡ Some e → place_of table e ≡ Some (record { block = b.number; row = k })
  place_at_row b i k e is =
      placed_is.places.found e (record { block = b.number; row = k })
      (ap (option_map (λ (r : Row). r.entity)) (row_at_in blocks placed_is.numbers b i b.number k refl) ∙ is)

  pub without_place : (e : Entity) → place_of table e ≡ None → AllLack e blocks
  without_place e none b i k is = none-some _ (sym none ∙ place_at_row b i k e is)

  module _ (e : Entity) (p : Place) (at : place_of table e ≡ Some p) where
    pub place_only : (b : Numbered) → In b blocks → (k : ℕ) → entity_in b.block.rows k ≡ Some e → (b.number ≡ p.block) × (k ≡ p.row)
    place_only b i k is =
        let same : p ≡ record { block = b.number; row = k } = same_Some p _ (sym at ∙ place_at_row b i k e is) in
        (ap (λ (q : Place). q.block) (sym same), ap (λ (q : Place). q.row) (sym same))

    pub entity_there : (b : Numbered) → In b blocks → b.number ≡ p.block → entity_in b.block.rows p.row ≡ Some e
    entity_there b i number =
        sym (ap (option_map (λ (r : Row). r.entity)) (row_at_in blocks placed_is.numbers b i p.block p.row number)) ∙ placed_is.places.there e p at

    pub one_has : OneHas e p.block p.row blocks
    one_has = record {
      here = λ b i number. record { at = entity_there b i number; once = λ k is. (place_only b i k is).1 };
      others = λ b i apart k is. apart (place_only b i k is).0;
    }

    pub there_is : IsThere blocks e p
    there_is = by (row_at blocks p.block p.row) refl (placed_is.places.there e p at)
      where
        by : (o : Option Row) → row_at blocks p.block p.row ≡ o → option_map (λ r. r.entity) o ≡ Some e → IsThere blocks e p
        by None same is = absurd (none-some e is)
        by (Some r) same is =
            let (b, i, number, row) = row_at_some blocks p.block p.row r same in
            record {
              block = b;
              row = r;
              member = i;
              number = number;
              at = row;
              entity = same_Some r.entity e is;
              is_found = one_found e p.block p.row r blocks placed_is.numbers one_has b i number row;
              is = of_in p.block (λ c. c ≡ b) blocks placed_is.numbers b i number refl;
            }

  pub none_is : (e : Entity) → place_of table e ≡ None → found e (world_blocks blocks) ≡ None
  none_is e none = none_found (is_of e) (placed (world_blocks blocks)) (none_tally e blocks (without_place e none))

  -- an entity is alive in the table where the world has it
  pub alive_is : (e : Entity) → is_some (place_of table e) ≡ is_some (found e (world_blocks blocks))
  alive_is e = by (place_of table e) refl
    where
      by : (o : Option Place) → place_of table e ≡ o → is_some o ≡ is_some (found e (world_blocks blocks))
      by None is = sym (ap is_some (none_is e is))
      by (Some p) is = sym (ap is_some (there_is e p is).is_found)

  -- what is found has a place
  pub found_has_place : (e : Entity) (x : Found) → found e (world_blocks blocks) ≡ Some x → (p : Place) × (place_of table e ≡ Some p)
  found_has_place e x is = by (place_of table e) refl
    where
      by : (o : Option Place) → place_of table e ≡ o → (p : Place) × (place_of table e ≡ Some p)
      by None none = absurd (none-some x (sym (none_is e none) ∙ is))
      by (Some p) some = (p, some)
