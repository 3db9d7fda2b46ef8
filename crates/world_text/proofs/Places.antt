-- What is read at the places of a walk over the alive entities.
use Rattle.std.proofs.Common.{ℕ, ◌≡◌, ◌<◌, ◌∙◌, inl, inr, Bool, true, false, cond, nat_eq, sym, ap, ap₂, refl, subst, List, [], ◌∷◌, ◌++◌, length, map, slice_get, Option, Some, None, option_map, arith, get_or, zero, suc}
use Rattle.std.specs.Bool.{MatchBool}
use Rattle.std.specs.List.{flat_map}
use Rattle.std.proofs.lemmas.Option.{none-some, slice_get-get_or, slice_get_within}
use Rattle.ent_types.specs.declared.entity.Entity.{Entity}
use Rattle.ent_types.specs.declared.type_info.TypeInfo.{TypeInfo}
use Rattle.entity_table.specs.declared.table.Place.{Place}
use Rattle.world_model.specs.Members.{In}
use Rattle.world_model.specs.Row.{Row}
use Rattle.world_model.specs.World.{capacity}
use Rattle.world_model.specs.Found.{Found, placed}
use Rattle.world_model.specs.Lawful.{IsLawfulRow}
use Rattle.world_model.specs.Versions.{IsLawfulCode}
use Rattle.world_laws.proofs.Members.{map_in}
use Rattle.chunk_block.specs.Blocks.{BlockState, new_types, no_row, row_in}
use Rattle.archetype_store.specs.Stores.{Numbered, OfNumber, StoreState}
use Rattle.world_places.specs.Placing.{home_of, numbers_of, world_block, world_blocks}
use Rattle.world_rows.specs.Reading.{CanRead, found_at}
use Rattle.world_rows.proofs.CodeLawful.{code_rows}
use Rattle.structural_ops.specs.Numbered.{IsStoreOf}
use Rattle.structural_ops.specs.Places.{found_at_place, found_in}
use Rattle.structural_ops.specs.Worlds.{WorldState}
use Rattle.structural_ops.proofs.Present.{row_placed}
use Rattle.world_text.specs.Lines.{row_line}
use Rattle.world_text.specs.ByPlace.{line_at, line_of}

get_in : {X : Type 0} (xs : List X) (i : ℕ) (d : X) → i < length xs → In (get_or xs i d) xs
get_in [] i d below = absurd (omega arith)
get_in (x ∷ xs) zero d below = inl refl
get_in (x ∷ xs) (suc i) d below = inr (get_in xs i d (omega arith))

-- nothing of the block is lent, and its rows are lawful
record IsReadable (registry : List TypeInfo) (b : Numbered) : Type 0 where
  columns : b.block.columns ≡ new_types registry b.block.types
  rows : (r : Row) → In r b.block.rows → IsLawfulRow registry (record { home = home_of b; row = r })

module _ (registry : List TypeInfo) (p : Place) where
  abbrev row_of : Numbered → Row → Found
  row_of b r = record { home = home_of b; row = r }

  -- a row that is found at the place can be read there
  readable_in : (x : Found) (bs : List Numbered) → ((b : Numbered) → In b bs → IsReadable registry b) → found_in p (numbers_of bs) (world_blocks bs) ≡ Some x → OfNumber p.block (CanRead registry p.row) bs
  readable_in x [] each is = absurd (none-some x is)
  readable_in x (b ∷ bs) each is = by (nat_eq b.number p.block) is (readable_in x bs (λ c i. each c (inr i)))
    where
      here : (o : Option Row) → slice_get b.block.rows p.row ≡ o → option_map (row_of b) o ≡ Some x → CanRead registry p.row b
      here None at found = absurd (none-some x found)
      here (Some r) at found =
          let readable = each b (inl refl) in
          let below = slice_get_within b.block.rows p.row r at in
          record { there = below; columns = readable.columns; lawful = readable.rows (row_in p.row b.block.rows) (get_in b.block.rows p.row no_row below) }

      by : (t : Bool) → cond t (option_map (row_of b) (slice_get b.block.rows p.row)) (found_in p (numbers_of bs) (world_blocks bs)) ≡ Some x
          → (found_in p (numbers_of bs) (world_blocks bs) ≡ Some x → OfNumber p.block (CanRead registry p.row) bs) → MatchBool t (CanRead registry p.row b) (OfNumber p.block (CanRead registry p.row) bs)
      by true found rest = here (slice_get b.block.rows p.row) refl found
      by false found rest = rest found

  -- the line of a row is that of its place
  module _ (before after : List ℕ) where
    abbrev HasLine : Numbered → Type 0
    HasLine b = (p.row < length b.block.rows) × (after ≡ before ++ row_line registry (found_at p.row b))

    pub line_there : (bs : List Numbered) → OfNumber p.block HasLine bs → after ≡ before ++ line_at registry bs p
    line_there [] is = absurd is
    line_there (b ∷ bs) is = by (nat_eq b.number p.block) is (line_there bs)
      where
        by : (t : Bool) → MatchBool t (HasLine b) (OfNumber p.block HasLine bs) → (OfNumber p.block HasLine bs → after ≡ before ++ line_at registry bs p)
            → after ≡ before ++ line_of registry (cond t (option_map (row_of b) (slice_get b.block.rows p.row)) (found_in p (numbers_of bs) (world_blocks bs)))
        by true here rest = here.1 ∙ sym (ap (λ o. before ++ line_of registry (option_map (row_of b) o)) (slice_get-get_or b.block.rows p.row no_row here.0))
        by false later rest = rest later

-- ---- a walk over entities with their places

module _ (registry : List TypeInfo) (g : Entity × Place → Option Found) where
  pub walked_text : (walked : List (Entity × Place)) (xs : List Found) → map g walked ≡ map Some xs → flat_map (λ (e : Entity × Place). line_of registry (g e)) walked ≡ flat_map (row_line registry) xs
  walked_text [] [] same = refl
  walked_text [] (x ∷ xs) same = absurd (cc)
  walked_text (e ∷ es) [] same = absurd (cc)
  walked_text (e ∷ es) (x ∷ xs) same =
      let here : g e ≡ Some x = cc in
      let rest : map g es ≡ map Some xs = cc in
      ap₂ (λ (o : Option Found) (text : List ℕ). line_of registry o ++ text) here (walked_text es xs rest)

  pub walked_some : (walked : List (Entity × Place)) (xs : List Found) → map g walked ≡ map Some xs → (e : Entity × Place) → In e walked → (x : Found) × (g e ≡ Some x)
  walked_some [] xs same e i = absurd i
  walked_some (d ∷ ds) [] same e i = absurd (cc)
  walked_some (d ∷ ds) (x ∷ xs) same e (inl is) = let here : g d ≡ Some x = cc in (x, ap g is ∙ here)
  walked_some (d ∷ ds) (x ∷ xs) same e (inr i) = let rest : map g ds ≡ map Some xs = cc in walked_some ds xs rest e i

-- the walk of a world, over a store that has the world's blocks
module _ (w : WorldState) (s : StoreState) (is : IsStoreOf w s) (walked : List (Entity × Place)) (xs : List Found) (same : map (λ (e : Entity × Place). found_at_place w e.1) walked ≡ map Some xs) where
  by_store : map (λ (e : Entity × Place). found_in e.1 (numbers_of s.blocks) (world_blocks s.blocks)) walked ≡ map Some xs
  by_store =
      subst (λ ns. map (λ (e : Entity × Place). found_in e.1 ns (world_blocks s.blocks)) walked ≡ map Some xs) (sym is.numbers)
      (subst (λ bs. map (λ (e : Entity × Place). found_in e.1 w.numbers bs) walked ≡ map Some xs) (sym is.blocks) same)

  pub lines_walked : flat_map (λ (e : Entity × Place). line_at w.world.registry s.blocks e.1) walked ≡ flat_map (row_line w.world.registry) xs
  lines_walked = walked_text w.world.registry (λ (e : Entity × Place). found_in e.1 (numbers_of s.blocks) (world_blocks s.blocks)) walked xs by_store

  module _ (lawful : IsLawfulCode (capacity w.world.registry) w.world) where
    store_readable : (b : Numbered) → In b s.blocks → IsReadable w.world.registry b
    store_readable b i = record {
      columns = ap (λ (c : BlockState). c.columns) (is.whole b i);
      rows = λ r j. code_rows (capacity w.world.registry) w.world lawful (record { home = home_of b; row = r })
          (subst (λ bs. In (let x : Found = record { home = home_of b; row = r } in x) (placed bs)) is.blocks (row_placed (world_block b) r (world_blocks s.blocks) (map_in world_block b s.blocks i) j));
    }

    pub can_read_walked : (e : Entity × Place) → In e walked → OfNumber e.1.block (CanRead w.world.registry e.1.row) s.blocks
    can_read_walked e i =
        let (x, found) = walked_some w.world.registry (λ (d : Entity × Place). found_in d.1 (numbers_of s.blocks) (world_blocks s.blocks)) walked xs by_store e i in
        readable_in w.world.registry e.1 x s.blocks store_readable found
