-- In which block an entity is, and what is found of it.
use Rattle.std.proofs.Common.{◌≡◌, ℕ, ◌≤◌, ◌⊎◌, inl, inr, cond, List, [], ◌∷◌, Option, Some, None, option_map, refl, sym, ap, ◌∙◌, subst, arith}
use Rattle.std.proofs.lemmas.Bool.{cases_eq}
use Rattle.ent_types.specs.declared.entity.Entity.{Entity}
use Rattle.ent_types.specs.declared.type_info.TypeInfo.{TypeInfo}
use Rattle.entity_table.specs.declared.table.Place.{Place}
use Rattle.entity_table.specs.Table.{Table, place_of}
use Rattle.world_model.specs.Members.{In, tally}
use Rattle.world_model.specs.Row.{Row}
use Rattle.world_model.specs.World.{Home, Block}
use Rattle.world_model.specs.Found.{Found, placed, is_of, found}
use Rattle.world_model.specs.Enter.{enter}
use Rattle.archetype_store.specs.Stores.{Numbered}
use Rattle.world_laws.proofs.Same.{entity_self}
use Rattle.world_laws.proofs.Perms.{perm_back, perm_in}
use Rattle.world_laws.proofs.Entering.{enter_perm}
use Rattle.world_laws.proofs.Meanings.{find_only}
use Rattle.world_places.specs.Placing.{IsPlaced, world_blocks, numbers_of, number_in}
use Rattle.world_places.proofs.Rows.{lacks_has, only_has}
use Rattle.world_places.proofs.Numbers.{number_in as number_among}
use Rattle.world_places.proofs.Looking.{AllLack, OneHas, none_tally, one_tally, without_place, one_has, there_is}

module _ (e : Entity) where
  lack_number : (bs : List Numbered) → AllLack e bs → number_in (world_blocks bs) (numbers_of bs) e ≡ None
  lack_number [] lack = refl
  lack_number (b ∷ bs) lack =
      ap (λ t. cond t (Some b.number) (number_in (world_blocks bs) (numbers_of bs) e)) (lacks_has e b.block.rows (lack b (inl refl)))
      ∙ lack_number bs (λ c i. lack c (inr i))

  one_number : (n k : ℕ) (bs : List Numbered) → OneHas e n k bs → In n (numbers_of bs) → number_in (world_blocks bs) (numbers_of bs) e ≡ Some n
  one_number n k [] one i = absurd i
  one_number n k (b ∷ bs) one i = by (cases_eq b.number n) i (one_number n k bs (record { here = λ c j. one.here c (inr j); others = λ c j. one.others c (inr j) }))
    where
      by : (b.number ≡ n) ⊎ (b.number ≡ n → ⊥) → In n (numbers_of (b ∷ bs)) → (In n (numbers_of bs) → number_in (world_blocks bs) (numbers_of bs) e ≡ Some n)
          → number_in (world_blocks (b ∷ bs)) (numbers_of (b ∷ bs)) e ≡ Some n
      by (inl same) i rest =
          ap (λ t. cond t (Some b.number) (number_in (world_blocks bs) (numbers_of bs) e)) (only_has e k b.block.rows (one.here b (inl refl) same)) ∙ ap Some same
      by (inr apart) (inl is) rest = absurd (apart (sym is))
      by (inr apart) (inr i) rest =
          ap (λ t. cond t (Some b.number) (number_in (world_blocks bs) (numbers_of bs) e)) (lacks_has e b.block.rows (one.others b (inl refl) apart)) ∙ rest i

module _ {registry : List TypeInfo} {blocks : List Numbered} {table : Table} (placed_is : IsPlaced registry blocks table) where
  -- an entity is in the block of its place
  pub number_is : (e : Entity) → number_in (world_blocks blocks) (numbers_of blocks) e ≡ option_map (λ p. p.block) (place_of table e)
  number_is e = by (place_of table e) refl
    where
      by : (o : Option Place) → place_of table e ≡ o → number_in (world_blocks blocks) (numbers_of blocks) e ≡ option_map (λ p. p.block) o
      by None none = lack_number e blocks (without_place placed_is e none)
      by (Some p) at =
          let there = there_is placed_is e p at in
          one_number e p.block p.row blocks (one_has placed_is e p at) (subst (λ n. In n (numbers_of blocks)) there.number (number_among there.block blocks there.member))

  one_at_most : (e : Entity) → tally (is_of e) (placed (world_blocks blocks)) ≤ 1
  one_at_most e = by (place_of table e) refl
    where
      by : (o : Option Place) → place_of table e ≡ o → tally (is_of e) (placed (world_blocks blocks)) ≤ 1
      by None none = let no_one = none_tally e blocks (without_place placed_is e none) in omega arith
      by (Some p) at = one_tally e p.block p.row blocks placed_is.numbers (one_has placed_is e p at)

  -- each row is the one that is found by its entity
  pub row_found : (x : Found) → In x (placed (world_blocks blocks)) → found x.row.entity (world_blocks blocks) ≡ Some x
  row_found x i = find_only (is_of x.row.entity) x (placed (world_blocks blocks)) i (entity_self x.row.entity) (one_at_most x.row.entity)

  -- a row that has entered is found, with its home
  pub entered_found : (capacity now : ℕ) (home : Home) (row : Row) (bs : List Block) → world_blocks blocks ≡ enter capacity now home row bs
      → found row.entity (world_blocks blocks) ≡ Some (record { home = home; row = row })
  entered_found capacity now home row bs is =
      row_found (record { home = home; row = row })
      (subst (λ cs. In (let x : Found = record { home = home; row = row } in x) (placed cs)) (sym is)
      (perm_in (record { home = home; row = row }) (perm_back (enter_perm capacity now home row bs)) (inl refl)))
