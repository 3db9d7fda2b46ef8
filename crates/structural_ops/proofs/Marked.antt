-- Blocks of which every type and the order are marked, one block after another.
use Rattle.std.proofs.Common.{ℕ, ◌≡◌, ◌<◌, ◌∙◌, ◌⊎◌, inl, inr, refl, sym, ap, subst, List, [], ◌∷◌, map, length, fold}
use Rattle.std.specs.Prelude.{⊤}
use Rattle.std.proofs.lemmas.Bool.{cases_eq}
use Rattle.std.proofs.lemmas.List.{length-set}
use Rattle.world_model.specs.Enter.{marks_at}
use Rattle.world_model.specs.Members.{AreDistinct}
use Rattle.world_model.specs.Row.{Row}
use Rattle.world_model.specs.World.{mark_type}
use Rattle.world_laws.proofs.Blocks.{marks_types}
use Rattle.ent_types.specs.declared.entity.Entity.{Entity}
use Rattle.entity_table.specs.declared.table.Place.{Place}
use Rattle.chunk_block.specs.Blocks.{BlockState, row_in, with_mark}
use Rattle.archetype_store.specs.Stores.{Numbered, OfBlock, StoreState, with_block, with_block_in}
use Rattle.world_places.specs.Placing.{numbers_of, order_marked}
use Rattle.world_places.proofs.Numbers.{block_same, block_twice, of_changed, of_more, of_other_changed}
use Rattle.world_places.proofs.Steps.{types_folded}
use Rattle.world_rows.specs.Marks.{all_marked}
use Rattle.structural_ops.specs.Attaching.{all_written, row_named}

-- a change of a block that keeps what holds of each block
pub kept_by : (P : BlockState → Type 0) (f : BlockState → BlockState) → ((b : BlockState) → P b → P (f b)) → (m n : ℕ) (bs : List Numbered) → OfBlock m P bs → OfBlock m P (with_block n f bs)
kept_by P f keeps m n bs of = by (cases_eq m n)
  where
    by : (m ≡ n) ⊎ (m ≡ n → ⊥) → OfBlock m P (with_block n f bs)
    by (inl same) =
        subst (λ k. OfBlock m P (with_block k f bs)) same
        (of_changed m f (λ b. P b.block) bs (of_more m (λ b. P b.block) (λ b. P (f b.block)) bs (λ b holds. keeps b.block holds) of))
    by (inr apart) = of_other_changed m n f (λ b. P b.block) bs apart of

-- a row stays where another is named
pub row_still : (n k : ℕ) (e : Entity) (p : Place) (bs : List Numbered) → OfBlock p.block (λ b. p.row < length b.rows) bs → OfBlock p.block (λ b. p.row < length b.rows) (with_block n (row_named k e) bs)
row_still n k e p bs of =
    kept_by (λ b. p.row < length b.rows) (row_named k e)
    (λ b below. subst (λ i. p.row < i) (sym (length-set b.rows k (record (row_in k b.rows) { entity = e }))) below) p.block n bs of

-- each type keeps its mark
pub marks_still : (now m n : ℕ) (bs : List Numbered) → OfBlock m (λ b. map mark_type b.marks ≡ b.types) bs → OfBlock m (λ b. map mark_type b.marks ≡ b.types) (with_block n (all_written now) bs)
marks_still now m n bs of = kept_by (λ b. map mark_type b.marks ≡ b.types) (all_written now) (λ b same. marks_types now b.types) m n bs of

-- types marked one after another
marked_folded : (n now : ℕ) (types : List ℕ) (s : StoreState)
    → all_marked n now types s ≡ record s { blocks = fold (λ cs t. with_block n (λ b. record b { marks = with_mark t now b.marks }) cs) s.blocks types }
marked_folded n now [] s = refl
marked_folded n now (t ∷ ts) s = marked_folded n now ts (with_block_in n (λ b. record b { marks = with_mark t now b.marks }) s)

-- all types of a block, and then its order
pub marked_is : (n now : ℕ) (types : List ℕ) (s : StoreState) → AreDistinct (numbers_of s.blocks) → AreDistinct types → OfBlock n (λ b. types ≡ b.types) s.blocks
    → OfBlock n (λ b. map mark_type b.marks ≡ types) s.blocks → with_block_in n (order_marked now) (all_marked n now types s) ≡ with_block_in n (all_written now) s
marked_is n now types s distinct once are each =
    ap (with_block_in n (order_marked now))
    (marked_folded n now types s ∙ ap (λ (bs : List Numbered). record s { blocks = bs }) (types_folded n s.blocks distinct now types once each))
    ∙ ap (λ (bs : List Numbered). record s { blocks = bs })
    (block_twice n (order_marked now) (λ b. record b { marks = marks_at now types }) s.blocks
    ∙ block_same n (λ b. record b { marks = marks_at now types; order = now }) (all_written now) s.blocks distinct
    (of_more n (λ b. types ≡ b.block.types) (λ b. record (b.block) { marks = marks_at now types; order = now } ≡ all_written now b.block) s.blocks
    (λ b same. ap (λ ts. record (b.block) { marks = marks_at now ts; order = now }) same) are))
