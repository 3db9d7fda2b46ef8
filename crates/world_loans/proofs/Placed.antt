-- A change of each block that keeps its number, types, columns and entities keeps all places.
use Rattle.std.proofs.Common.{◌≡◌, ℕ, ◌≤◌, inl, inr, Bool, true, false, cond, nat_eq, List, [], ◌∷◌, length, map, slice_get, option_map, refl, sym, ap, ap₂, ◌∙◌, subst, arith}
use Rattle.ent_types.specs.declared.type_info.TypeInfo.{TypeInfo}
use Rattle.entity_table.specs.Table.{Table}
use Rattle.world_model.specs.Members.{In, AreDistinct}
use Rattle.world_model.specs.Row.{Row}
use Rattle.world_model.specs.Found.{placed}
use Rattle.chunk_block.specs.Blocks.{new_types}
use Rattle.archetype_store.specs.Stores.{Numbered}
use Rattle.world_laws.proofs.Members.{in_map}
use Rattle.world_places.specs.Placing.{world_blocks, row_at, entity_at, numbers_of, IsPlaced}
use Rattle.world_places.proofs.Kept.{Keeps, keeps_entity, keeps_length, same_places}
use Rattle.world_places.proofs.Looking.{placed_length}
use Rattle.world_places.proofs.Rows.{entity_in}

pub record KeepsPlaces (old new : Numbered) : Type 0 where
  pub number : new.number ≡ old.number
  pub block : Keeps old.block new.block

module _ (g : Numbered → Numbered) where
  pub numbers_stay : (bs : List Numbered) → ((b : Numbered) → In b bs → (g b).number ≡ b.number) → numbers_of (map g bs) ≡ numbers_of bs
  numbers_stay [] same = refl
  numbers_stay (b ∷ bs) same = ap₂ (λ (n : ℕ) (ns : List ℕ). n ∷ ns) (same b (inl refl)) (numbers_stay bs (λ c i. same c (inr i)))

  entities_stay : (bs : List Numbered) → ((b : Numbered) → In b bs → KeepsPlaces b (g b)) → (n k : ℕ) → entity_at (map g bs) n k ≡ entity_at bs n k
  entities_stay [] keeps n k = refl
  entities_stay (b ∷ bs) keeps n k =
      ap (λ m. option_map (λ (r : Row). r.entity) (cond (nat_eq m n) (slice_get (g b).block.rows k) (row_at (map g bs) n k))) (keeps b (inl refl)).number
      ∙ in_order (nat_eq b.number n) (keeps_entity b.block (g b).block (keeps b (inl refl)).block k) (entities_stay bs (λ c i. keeps c (inr i)) n k)
    where
      in_order : (t : Bool) → entity_in (g b).block.rows k ≡ entity_in b.block.rows k → entity_at (map g bs) n k ≡ entity_at bs n k
          → option_map (λ (r : Row). r.entity) (cond t (slice_get (g b).block.rows k) (row_at (map g bs) n k)) ≡ option_map (λ (r : Row). r.entity) (cond t (slice_get b.block.rows k) (row_at bs n k))
      in_order true here rest = here
      in_order false here rest = rest

  count_stays : (bs : List Numbered) → ((b : Numbered) → In b bs → KeepsPlaces b (g b)) → length (placed (world_blocks (map g bs))) ≡ length (placed (world_blocks bs))
  count_stays [] keeps = refl
  count_stays (b ∷ bs) keeps =
      let new = placed_length (g b) (map g bs) in
      let old = placed_length b bs in
      let same = keeps_length b.block (g b).block (keeps b (inl refl)).block in
      let rest = count_stays bs (λ c i. keeps c (inr i)) in
      omega arith

  pub all_placed : {registry : List TypeInfo} {blocks : List Numbered} {table : Table} → IsPlaced registry blocks table → ((b : Numbered) → In b blocks → KeepsPlaces b (g b)) → IsPlaced registry (map g blocks) table
  all_placed {registry} {blocks} {table} is keeps = record {
    numbers = subst AreDistinct (sym (numbers_stay blocks (λ b i. (keeps b i).number))) is.numbers;
    filled = λ c j.
        let (b, i, same) = in_map g c blocks j in
        let size = keeps_length b.block (g b).block (keeps b i).block in
        let some = is.filled b i in
        subst (λ (d : Numbered). 1 ≤ length d.block.rows) (sym same) (omega arith);
    whole = λ c j.
        let (b, i, same) = in_map g c blocks j in
        let kept = (keeps b i).block in
        subst (λ (d : Numbered). d.block.columns ≡ new_types registry d.block.types) (sym same) (kept.columns ∙ is.whole b i ∙ ap (new_types registry) (sym kept.types));
    places = same_places table blocks (map g blocks) (entities_stay blocks keeps) is.places;
    counted = is.counted ∙ sym (count_stays blocks keeps);
  }
