-- Playback keeps a world lawful.
use Rattle.std.proofs.Common.{◌≡◌, ℕ, List, [], ◌∷◌, inl, inr, Option, Some, None, refl, sym, ◌∙◌, subst}
use Rattle.ent_types.specs.declared.entity.Entity.{Entity}
use Rattle.ent_types.specs.declared.type_info.TypeInfo.{TypeInfo}
use Rattle.ent_types.specs.declared.value.Value.{Value}
use Rattle.ent_types.specs.Fitting.{null_entity}
use Rattle.world_model.specs.World.{World}
use Rattle.world_model.specs.Part.{by_type}
use Rattle.world_model.specs.Found.{Found, found}
use Rattle.world_model.specs.Operations.{Act, Operation, Create, On, sight, decide, decide_create, acted, operate}
use Rattle.world_model.specs.Lawful.{IsLawful, HasRoomForParts}
use Rattle.world_laws.proofs.Kept.{operate_lawful}
use Rattle.run_model.specs.Run.{Entry}
use Rattle.run_model.specs.Buffers.{before, arranged}
use Rattle.run_model.specs.Playback.{PlaybackState, made_for, operation_of, done_by, after_entry, after_entries, playback}
use Rattle.world_laws.proofs.Built.{operate_registry}
use Rattle.run_laws.specs.Suits.{OperationSuits, AllSuit}
use Rattle.run_laws.proofs.Sorts.{in_sorted}

module _ (capacity : List ℕ → ℕ) (room : HasRoomForParts capacity) where
  pub done_registry : (w : World) (o : Option Operation) → (done_by capacity w o).world.registry ≡ w.registry
  done_registry w None = refl
  done_registry w (Some operation) = operate_registry capacity w operation

  pub done_lawful : (w : World) (o : Option Operation) → OperationSuits w.registry o → IsLawful capacity w → IsLawful capacity (done_by capacity w o).world
  done_lawful w None suits lawful = lawful
  done_lawful w (Some operation) suits lawful = operate_lawful capacity room w operation suits lawful

  record IsPlayed (registry : List TypeInfo) (w : World) : Type 0 where
    lawful : IsLawful capacity w
    same : w.registry ≡ registry

  on_played : (registry : List TypeInfo) (p : PlaybackState) (entries : List Entry) → AllSuit registry entries → IsPlayed registry p.world → IsPlayed registry (after_entries capacity p entries).world
  on_played registry p [] suits h = h
  on_played registry p (x ∷ xs) suits h =
      on_played registry (after_entry capacity p x) xs (λ y i. suits y (inr i)) (record {
        lawful = done_lawful p.world (operation_of (made_for p.made_entities x) x.command.change)
            (subst (λ r. OperationSuits r (operation_of (made_for p.made_entities x) x.command.change)) (sym h.same) (suits x (inl refl) (made_for p.made_entities x))) h.lawful;
        same = done_registry p.world (operation_of (made_for p.made_entities x) x.command.change) ∙ h.same;
      })

  played_is : (w : World) (entries : List Entry) → AllSuit w.registry entries → IsLawful capacity w → IsPlayed w.registry (playback capacity w entries).world
  unfolding playback arranged
  played_is w entries suits lawful =
      on_played w.registry (record { world = w; made_entities = []; notes = [] }) (arranged entries) (λ x i. suits x (in_sorted before x entries i)) (record { lawful = lawful; same = refl })

  pub played_lawful : (w : World) (entries : List Entry) → AllSuit w.registry entries → IsLawful capacity w → IsLawful capacity (playback capacity w entries).world
  played_lawful w entries suits lawful = (played_is w entries suits lawful).lawful

  pub played_registry : (w : World) (entries : List Entry) → AllSuit w.registry entries → IsLawful capacity w → (playback capacity w entries).world.registry ≡ w.registry
  played_registry w entries suits lawful = (played_is w entries suits lawful).same
