-- The lines of the blocks of a world, as a walk over them gives them.
use Rattle.std.proofs.Common.{ℕ, ◌≡◌, ◌+◌, ◌≤◌, ◌∙◌, inl, suc, true, false, cond, sym, ap, refl, subst, append_assoc, append-nil, codes, List, [], ◌∷◌, ◌++◌, length, zip, arith}
use Rattle.std.specs.Fmt.{decimal}
use Rattle.std.specs.List.{flat_map}
use Rattle.std.proofs.lemmas.List.{length-map}
use Rattle.chunk_layout.specs.Capacity.{column_bytes}
use Rattle.chunk_layout.specs.Places.{places_from}
use Rattle.ent_types.specs.declared.type_info.TypeInfo.{TypeInfo}
use Rattle.ent_types.specs.Registries.{type_at}
use Rattle.ent_types.specs.TypeLookups.{has_column_at}
use Rattle.world_model.specs.Members.{In}
use Rattle.world_model.specs.Row.{Row}
use Rattle.world_model.specs.World.{World, capacity}
use Rattle.world_model.specs.Found.{Found, placed}
use Rattle.world_model.specs.Versions.{IsLawfulCode}
use Rattle.world_laws.proofs.Members.{in_map, map_in}
use Rattle.chunk_block.specs.Blocks.{BlockState}
use Rattle.archetype_store.specs.Stores.{Numbered, StoreState, numbered_blocks}
use Rattle.world_places.specs.Placing.{home_of, world_block, world_blocks}
use Rattle.world_rows.proofs.CodeLawful.{code_blocks, code_room, code_rows}
use Rattle.structural_ops.specs.Numbered.{IsStoreOf}
use Rattle.structural_ops.specs.Worlds.{WorldState}
use Rattle.structural_ops.proofs.Present.{row_placed}
use Rattle.world_text.specs.Layout.{block_line, block_lines, column_text, layout_line, layout_text, places_of}
use Rattle.world_text.specs.Lines.{word_text}
use Rattle.world_text.specs.Listed.{IsListed}
use Rattle.world_text.proofs.Appended.{five_pieces, three_pieces, two_pieces}

-- ---- pieces of lines

-- a type without a column
pub column_without : (registry : List TypeInfo) (t place : ℕ) (a b c : List ℕ) → b ≡ a ++ codes " " → c ≡ b ++ (type_at registry t).name → has_column_at registry t ≡ false
    → c ≡ a ++ column_text registry (t, place)
unfolding column_text
column_without registry t place a b c space name none =
    two_pieces a (codes " ") (type_at registry t).name b c space name
    ∙ ap (λ (text : List ℕ). a ++ (codes " " ++ text)) (sym (append-nil (type_at registry t).name))
    ∙ ap (λ has. a ++ (codes " " ++ ((type_at registry t).name ++ cond has (codes "@" ++ decimal place) []))) (sym none)

-- a type with a column
pub column_with : (registry : List TypeInfo) (t place : ℕ) (a b c d : List ℕ) → b ≡ a ++ codes " " → c ≡ b ++ (type_at registry t).name → d ≡ c ++ word_text (codes "@") (decimal place)
    → has_column_at registry t ≡ true → d ≡ a ++ column_text registry (t, place)
unfolding column_text word_text
column_with registry t place a b c d space name number some =
    three_pieces a (codes " ") (type_at registry t).name (codes "@" ++ decimal place) b c d space name number
    ∙ ap (λ has. a ++ (codes " " ++ ((type_at registry t).name ++ cond has (codes "@" ++ decimal place) []))) (sym some)

pub head_is : (blocks : ℕ) (a b c : List ℕ) → b ≡ a ++ word_text (codes "layout blocks=") (decimal blocks) → c ≡ b ++ codes "\n" → c ≡ a ++ layout_line blocks
unfolding layout_line word_text
head_is blocks a b c count end =
    two_pieces a (codes "layout blocks=" ++ decimal blocks) (codes "\n") b c count end
    ∙ ap (λ (text : List ℕ). a ++ text) (append_assoc (codes "layout blocks=") (decimal blocks) (codes "\n"))

-- the line of a block, piece by piece
pub block_is : (registry : List TypeInfo) (k : ℕ) (types : List ℕ) (rows : ℕ) (a b c d e f g : List ℕ)
    → b ≡ a ++ word_text (codes "block ") (decimal k) → c ≡ b ++ word_text (codes " rows=") (decimal rows) → d ≡ c ++ word_text (codes " capacity=") (decimal (capacity registry types))
    → e ≡ d ++ codes " ids@64" → f ≡ e ++ flat_map (column_text registry) (zip types (places_of registry types)) → g ≡ f ++ codes "\n"
    → g ≡ a ++ block_line registry k types rows
unfolding block_line word_text
block_is registry k types rows a b c d e f g place count most ids columns end =
    let rest = five_pieces b (codes " rows=" ++ decimal rows) (codes " capacity=" ++ decimal (capacity registry types)) (codes " ids@64") (flat_map (column_text registry) (zip types (places_of registry types))) (codes "\n")
    c d e f g count most ids columns end in
    two_pieces a (codes "block " ++ decimal k) _ b g place rest
    ∙ ap (λ (text : List ℕ). a ++ text)
    (append_assoc (codes "block ") (decimal k) _
    ∙ ap (λ (text : List ℕ). codes "block " ++ (decimal k ++ text))
    (append_assoc (codes " rows=") (decimal rows) _ ∙ ap (λ (text : List ℕ). codes " rows=" ++ (decimal rows ++ text)) (append_assoc (codes " capacity=") (decimal (capacity registry types)) _)))

-- ---- the types of a block

-- a type more was appended
pub one_column : (registry : List TypeInfo) (t : ℕ) (ts : List ℕ) (place : ℕ) (ps a b : List ℕ) → b ≡ a ++ column_text registry (t, place)
    → b ++ flat_map (column_text registry) (zip ts ps) ≡ a ++ flat_map (column_text registry) (zip (t ∷ ts) (place ∷ ps))
one_column registry t ts place ps a b is =
    ap (λ (text : List ℕ). text ++ flat_map (column_text registry) (zip ts ps)) is
    ∙ append_assoc a (column_text registry (t, place)) (flat_map (column_text registry) (zip ts ps))

pub as_many_places : (start n : ℕ) (sizes : List ℕ) → length (places_from start n sizes) ≡ length sizes
as_many_places start n [] = refl
as_many_places start n (size ∷ sizes) = ap suc (as_many_places (start + column_bytes n size) n sizes)

-- ---- lines

module _ (registry : List TypeInfo) where
  -- the lines of blocks with their numbers, the first of which is at place k
  abbrev pub lines_from : ℕ → List (ℕ × BlockState) → List ℕ
  lines_from k [] = []
  lines_from k (e ∷ es) = block_line registry k e.1.types (length e.1.rows) ++ lines_from (k + 1) es

  pub lines_are : (k : ℕ) (bs : List Numbered) → lines_from k (numbered_blocks bs) ≡ block_lines registry k (world_blocks bs)
  lines_are k [] = refl
  lines_are k (b ∷ bs) = ap (λ (text : List ℕ). block_line registry k b.block.types (length b.block.rows) ++ text) (lines_are (k + 1) bs)

pub layout_text-is : (w : World) → layout_text w ≡ layout_line (length w.blocks) ++ block_lines w.registry 0 w.blocks
unfolding layout_text
layout_text-is w = refl

-- ---- the blocks of a store that has those of a world

module _ (w : WorldState) (s : StoreState) (is : IsStoreOf w s) where
  pub as_many_blocks : length s.blocks ≡ length w.world.blocks
  as_many_blocks = sym (length-map s.blocks world_block) ∙ ap length is.blocks

  pub lines_of_world : lines_from w.world.registry 0 (numbered_blocks s.blocks) ≡ block_lines w.world.registry 0 w.world.blocks
  lines_of_world = lines_are w.world.registry 0 s.blocks ∙ ap (block_lines w.world.registry 0) is.blocks

  module _ (lawful : IsLawfulCode (capacity w.world.registry) w.world) where
    block_listed : (b : Numbered) → In b s.blocks → IsListed w.world.registry b.block
    block_listed b i = by b.block.rows refl (code_blocks (capacity w.world.registry) w.world lawful (world_block b) there).some
      where
        there : In (world_block b) w.world.blocks
        there = subst (In (world_block b)) is.blocks (map_in world_block b s.blocks i)

        by : (rows : List Row) → b.block.rows ≡ rows → 1 ≤ length b.block.rows → IsListed w.world.registry b.block
        by [] same some = absurd (let none : length b.block.rows ≡ 0 = ap length same in omega arith)
        by (r ∷ rows) same some =
            let x : Found = record { home = home_of b; row = r } in
            let found : In x (placed w.world.blocks) = row_placed (world_block b) r w.world.blocks there (subst (In r) (sym same) (inl refl)) in
            record {
              known = (code_rows (capacity w.world.registry) w.world lawful x found).home.known;
              room = (let room = code_room (capacity w.world.registry) w.world lawful x found in omega arith);
              capacity_is = ap (λ (c : BlockState). c.capacity) (is.whole b i);
            }

    pub all_listed : (e : ℕ × BlockState) → In e (numbered_blocks s.blocks) → IsListed w.world.registry e.1
    all_listed e i =
        let (b, j, same) = in_map (λ (b : Numbered). (let p : ℕ × BlockState = (b.number, b.block) in p)) e s.blocks i in
        subst (λ (p : ℕ × BlockState). IsListed w.world.registry p.1) (sym same) (block_listed b j)
