-- Elements that are taken out of a row and put back, as they were or changed.
use Rattle.std.proofs.Common.{ℕ, ◌≡◌, ◌/◌, ◌<◌, ◌∙◌, true, sym, ap, subst, List, [], ◌∷◌, length, Some}
use Rattle.std.proofs.lemmas.List.{length-map}
use Rattle.ent_types.specs.declared.entity.Entity.{Entity}
use Rattle.ent_types.specs.declared.type_info.FieldInfo.{FieldInfo}
use Rattle.ent_types.specs.declared.value.Value.{Value}
use Rattle.ent_types.specs.TypeLookups.{fields_at, is_buffer_at}
use Rattle.entity_table.specs.declared.table.Place.{Place}
use Rattle.entity_table.specs.Table.{place_of}
use Rattle.buffer_store.specs.Buffers.{Buffer, buffer, count_of}
use Rattle.world_model.specs.Operations.{element_count, with_values as values_with}
use Rattle.world_model.specs.Row.{Cell}
use Rattle.block_columns.specs.Types.{TakesElements}
use Rattle.chunk_block.specs.Blocks.{OfType, content_at, new_types, row_in}
use Rattle.archetype_store.specs.Stores.{OfBlock, OfNumber, StoreState}
use Rattle.world_rows.specs.Reading.{found_at}
use Rattle.world_rows.specs.Writes.{AllTake, CanWrite, Elements, Write, row_writes, written}
use Rattle.world_rows.proofs.ByType.{cell_content, shape_is}
use Rattle.world_rows.proofs.Changes.{values_alike, values_put_back, values_put_last, written_back}
use Rattle.world_rows.proofs.Composed.{can_first, can_rest}
use Rattle.world_rows.proofs.Fitting.{buffer_own, elements_take}
use Rattle.structural_ops.specs.Worlds.{CanPut, IsConsistent}
use Rattle.structural_ops.specs.declared.tables.Tables.{Tables}
use Rattle.structural_ops.proofs.Looked.{lawful_there, of_block, of_number, row_there, there}
use Rattle.structural_ops.proofs.Written.{can_write, its, its_row, put_type}

-- other elements after none
abbrev pub refill : ℕ → ℕ → List Value → List Write
refill t width vs = Elements t width [] ∷ Elements t width vs ∷ []

module _ (w : Tables) (is : IsConsistent w) (e : Entity) (p : Place) (at : place_of w.table.table e ≡ Some p) (t : ℕ) (can : OfNumber p.block (CanPut w t p) w.store.blocks)
    (buffers : is_buffer_at w.registry t ≡ true) where
  abbrev width : ℕ
  width = length (fields_at w.registry t)

  abbrev had : List Value
  had = (content_at t (its_row w is e p at).cells).values

  takes : (vs : List Value) → AllTake (refill t width vs) (new_types w.registry (its w is e p at).block.types)
  takes vs =
      let one = elements_take w.registry (its w is e p at).block.types t (put_type w is e p at t can) buffers in
      (one [], (one vs, tt))

  pub can_take : CanWrite p.block p.row (Elements t (length (fields_at w.registry t)) [] ∷ []) w.store
  can_take = can_write w is e p at (Elements t width [] ∷ []) ((takes []).0, tt)

  pub can_put_back : (new : Buffer Value) → new.width ≡ length (fields_at w.registry t) → (s : StoreState) → s ≡ written p.block p.row (Elements t (length (fields_at w.registry t)) [] ∷ []) w.store
      → OfBlock p.block (λ b. (p.row < length b.rows) × OfType t (TakesElements new) b.columns) s.blocks
  can_put_back new wide s took =
      subst (λ (r : StoreState). OfBlock p.block (λ b. (p.row < length b.rows) × OfType t (TakesElements new) b.columns) r.blocks) (sym took)
      (subst (λ n. OfBlock p.block (λ b. (p.row < length b.rows) × OfType t (TakesElements (buffer n new.values)) b.columns) (written p.block p.row (Elements t width [] ∷ []) w.store).blocks) (sym wide)
      (can_first p.block p.row (Elements t width new.values) [] (written p.block p.row (Elements t width [] ∷ []) w.store)
      (can_rest p.block p.row (Elements t width []) (Elements t width new.values ∷ []) w.store (can_write w is e p at (refill t width new.values) (takes new.values)))))

  -- what is taken out
  pub taken_is : (elements : Buffer Value) → OfBlock p.block (λ b. OfType t (λ shape. elements ≡ buffer (length shape.kinds) (content_at t (row_in p.row b.rows).cells).values) b.columns) w.store.blocks
      → elements ≡ buffer (length (fields_at w.registry t)) (content_at t (its_row w is e p at).cells).values
  taken_is elements took =
      shape_is w.registry t (its w is e p at).block.types (λ shape. elements ≡ buffer (length shape.kinds) had) (put_type w is e p at t can) (buffer_own w.registry t buffers)
      (subst (OfType t (λ shape. elements ≡ buffer (length shape.kinds) had)) (is.agrees.placed.whole (its w is e p at) (there w is e p at).member)
      (of_number w is e p at (λ b. OfType t (λ shape. elements ≡ buffer (length shape.kinds) (content_at t (row_in p.row b.block.rows).cells).values) b.block.columns) took))
      ∙ ap (λ n. buffer n had) (length-map (fields_at w.registry t) (λ (f : FieldInfo). f.kind))

  -- the row with other elements
  pub refilled_is : (h : List Value → List Value)
      → row_writes (refill t (length (fields_at w.registry t)) (h (content_at t (its_row w is e p at).cells).values)) (its_row w is e p at)
      ≡ record (its_row w is e p at) { cells = values_with t h (its_row w is e p at).cells }
  refilled_is h =
      values_put_last w.registry (found_at p.row (its w is e p at)) (lawful_there w is e p at) t [] (h had)
      ∙ ap (λ (cells : List Cell). record (its_row w is e p at) { cells = cells }) (values_alike w.registry (found_at p.row (its w is e p at)) (lawful_there w is e p at) t h)

  -- nothing has changed when they are back
  pub back_is : written p.block p.row (refill t (length (fields_at w.registry t)) (content_at t (its_row w is e p at).cells).values) w.store ≡ w.store
  back_is =
      written_back p.block p.row (refill t width had) w.store is.agrees.placed.numbers
      (of_block w is e p at (λ b. (p.row < length b.block.rows) × (row_writes (refill t width had) (row_in p.row b.block.rows) ≡ row_in p.row b.block.rows))
      (row_there w is e p at, values_put_back w.registry (found_at p.row (its w is e p at)) (lawful_there w is e p at) t []))

  -- the store with the elements put back
  pub refilled_store : (took put : StoreState) (new : Buffer Value) (vs : List Value) → took ≡ written p.block p.row (Elements t (length (fields_at w.registry t)) [] ∷ []) w.store
      → put ≡ written p.block p.row (Elements t (length (fields_at w.registry t)) new.values ∷ []) took → new.values ≡ vs
      → put ≡ written p.block p.row (refill t (length (fields_at w.registry t)) vs) w.store
  refilled_store took put new vs first second values =
      second
      ∙ ap (written p.block p.row (Elements t width new.values ∷ [])) first
      ∙ ap (λ us. written p.block p.row (refill t width us) w.store) values

  -- the model counts the same elements
  pub counted : (elements : Buffer Value) → elements ≡ buffer (length (fields_at w.registry t)) (content_at t (its_row w is e p at).cells).values
      → element_count w.registry t (its_row w is e p at).cells ≡ count_of elements
  counted elements are = ap (λ vs. length vs / width) (cell_content t (its_row w is e p at).cells) ∙ sym (ap count_of are)
