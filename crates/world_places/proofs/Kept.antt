-- A change of a block that keeps its entities, types and columns keeps all places.
use Rattle.std.proofs.Common.{◌≡◌, ℕ, ◌≤◌, inl, inr, Bool, true, false, cond, nat_eq, List, [], ◌∷◌, length, map, slice_get, Option, option_map, refl, sym, ap, ◌∙◌, subst, arith}
use Rattle.std.proofs.lemmas.Bool.{eqb-true, eqb-false}
use Rattle.std.proofs.lemmas.List.{length-map}
use Rattle.std.proofs.lemmas.Option.{slice_get-map}
use Rattle.ent_types.specs.declared.entity.Entity.{Entity}
use Rattle.ent_types.specs.declared.type_info.TypeInfo.{TypeInfo}
use Rattle.entity_table.specs.Table.{Table}
use Rattle.world_model.specs.Members.{In, AreDistinct}
use Rattle.world_model.specs.Row.{Row}
use Rattle.world_model.specs.Found.{placed}
use Rattle.chunk_block.specs.Blocks.{BlockState, new_types}
use Rattle.archetype_store.specs.Stores.{Numbered, with_block}
use Rattle.world_laws.proofs.Members.{in_map}
use Rattle.world_places.specs.Placing.{world_blocks, row_at, entity_at, AreAtPlaces, IsPlaced, order_marked, types_marked}
use Rattle.world_places.proofs.Rows.{entity_in}
use Rattle.world_places.proofs.Numbers.{change, change_yes, change_no, numbers_same}
use Rattle.world_places.proofs.Looking.{placed_length}

abbrev pub entities : BlockState → List Entity
entities b = map (λ r. r.entity) b.rows

pub record Keeps (old new : BlockState) : Type 0 where
  pub types : new.types ≡ old.types
  pub columns : new.columns ≡ old.columns
  pub rows : entities new ≡ entities old

pub keeps_length : (old new : BlockState) → Keeps old new → length new.rows ≡ length old.rows
keeps_length old new keeps =
    let a = length-map new.rows (λ (r : Row). r.entity) in
    let b = length-map old.rows (λ (r : Row). r.entity) in
    let same = ap length keeps.rows in
    omega arith

pub keeps_entity : (old new : BlockState) → Keeps old new → (k : ℕ) → entity_in new.rows k ≡ entity_in old.rows k
keeps_entity old new keeps k =
    sym (slice_get-map (λ (r : Row). r.entity) new.rows k) ∙ ap (λ es. slice_get es k) keeps.rows ∙ slice_get-map (λ (r : Row). r.entity) old.rows k

-- the places are those where the same entities are
pub same_places : (table : Table) (old new : List Numbered) → ((n k : ℕ) → entity_at new n k ≡ entity_at old n k) → AreAtPlaces table old → AreAtPlaces table new
same_places table old new same places = record {
  there = λ e p at. same p.block p.row ∙ places.there e p at;
  found = λ e p is. places.found e p (sym (same p.block p.row) ∙ is);
}

module _ (n : ℕ) (f : BlockState → BlockState) where
  pub kept_entities : (bs : List Numbered) → ((b : Numbered) → In b bs → b.number ≡ n → Keeps b.block (f b.block)) → (m k : ℕ) → entity_at (with_block n f bs) m k ≡ entity_at bs m k
  kept_entities [] keeps m k = refl
  kept_entities (b ∷ bs) keeps m k = by (nat_eq b.number n) refl (kept_entities bs (λ c i. keeps c (inr i)) m k)
    where
      in_order : (t : Bool) (rows qs : List Row) (xs ys : Option Row) → entity_in rows k ≡ entity_in qs k → option_map (λ r. r.entity) xs ≡ option_map (λ r. r.entity) ys
          → option_map (λ r. r.entity) (cond t (slice_get rows k) xs) ≡ option_map (λ r. r.entity) (cond t (slice_get qs k) ys)
      in_order true rows qs xs ys here rest = here
      in_order false rows qs xs ys here rest = rest

      by : (t : Bool) → nat_eq b.number n ≡ t → entity_at (with_block n f bs) m k ≡ entity_at bs m k
          → entity_at (cond t (record b { block = f b.block }) b ∷ with_block n f bs) m k ≡ entity_at (b ∷ bs) m k
      by true is rest =
          in_order (nat_eq b.number m) (f b.block).rows b.block.rows (row_at (with_block n f bs) m k) (row_at bs m k)
          (keeps_entity b.block (f b.block) (keeps b (inl refl) (eqb-true b.number n is)) k) rest
      by false is rest = in_order (nat_eq b.number m) b.block.rows b.block.rows (row_at (with_block n f bs) m k) (row_at bs m k) refl rest

  pub kept_length : (bs : List Numbered) → ((b : Numbered) → In b bs → b.number ≡ n → Keeps b.block (f b.block)) → length (placed (world_blocks (with_block n f bs))) ≡ length (placed (world_blocks bs))
  kept_length [] keeps = refl
  kept_length (b ∷ bs) keeps = by (nat_eq b.number n) refl (kept_length bs (λ c i. keeps c (inr i)))
    where
      by : (t : Bool) → nat_eq b.number n ≡ t → length (placed (world_blocks (with_block n f bs))) ≡ length (placed (world_blocks bs))
          → length (placed (world_blocks (cond t (record b { block = f b.block }) b ∷ with_block n f bs))) ≡ length (placed (world_blocks (b ∷ bs)))
      by true is rest =
          let new = placed_length (record b { block = f b.block }) (with_block n f bs) in
          let old = placed_length b bs in
          let same = keeps_length b.block (f b.block) (keeps b (inl refl) (eqb-true b.number n is)) in
          omega arith
      by false is rest =
          let new = placed_length b (with_block n f bs) in
          let old = placed_length b bs in
          omega arith

  -- what holds of a changed block, by what it was
  pub changed_member : (bs : List Numbered) (P : Numbered → Type 0) → ((b : Numbered) → In b bs → b.number ≡ n → P (record b { block = f b.block }))
      → ((b : Numbered) → In b bs → (b.number ≡ n → ⊥) → P b) → (b : Numbered) → In b (with_block n f bs) → P b
  changed_member bs P here others b i =
      let (c, j, is) = in_map (change n f) b bs i in
      subst P (sym is) (by c j (nat_eq c.number n) refl)
    where
      by : (c : Numbered) → In c bs → (t : Bool) → nat_eq c.number n ≡ t → P (change n f c)
      by c j true is = subst P (sym (change_yes n f c is)) (here c j (eqb-true c.number n is))
      by c j false is = subst P (sym (change_no n f c is)) (others c j (eqb-false c.number n is))

pub kept_placed : {registry : List TypeInfo} {blocks : List Numbered} {table : Table} → IsPlaced registry blocks table → (n : ℕ) (f : BlockState → BlockState)
    → ((b : Numbered) → In b blocks → b.number ≡ n → Keeps b.block (f b.block)) → IsPlaced registry (with_block n f blocks) table
kept_placed {registry} {blocks} {table} placed_is n f keeps = record {
  numbers = subst AreDistinct (sym (numbers_same n f blocks)) placed_is.numbers;
  filled = changed_member n f blocks (λ b. 1 ≤ length b.block.rows)
      (λ b i number. let same = keeps_length b.block (f b.block) (keeps b i number) in let some = placed_is.filled b i in omega arith)
      (λ b i apart. placed_is.filled b i);
  whole = changed_member n f blocks (λ b. b.block.columns ≡ new_types registry b.block.types)
      (λ b i number. (keeps b i number).columns ∙ placed_is.whole b i ∙ ap (new_types registry) (sym (keeps b i number).types))
      (λ b i apart. placed_is.whole b i);
  places = same_places table blocks (with_block n f blocks) (kept_entities n f blocks keeps) placed_is.places;
  counted = placed_is.counted ∙ sym (kept_length n f blocks keeps);
}

-- marks change no place
pub order_placed : {registry : List TypeInfo} {blocks : List Numbered} {table : Table} → IsPlaced registry blocks table → (n now : ℕ) → IsPlaced registry (with_block n (order_marked now) blocks) table
order_placed placed_is n now = kept_placed placed_is n (order_marked now) (λ b i number. record { types = refl; columns = refl; rows = refl })

pub marks_placed : {registry : List TypeInfo} {blocks : List Numbered} {table : Table} → IsPlaced registry blocks table → (n now : ℕ) (types : List ℕ) → IsPlaced registry (with_block n (types_marked now types) blocks) table
marks_placed placed_is n now types = kept_placed placed_is n (types_marked now types) (λ b i number. record { types = refl; columns = refl; rows = refl })
