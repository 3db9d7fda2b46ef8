-- A command that names no placeholder asks for one thing, whatever placeholders stand for.
use Rattle.std.proofs.Common.{◌≡◌, ℕ, Bool, false, ◌||◌, List, [], ◌∷◌, inl, inr, Option, Some, option_map, unwrap_or, refl, ap, ap₂, ◌∙◌, true≢false}
use Rattle.std.specs.List.{list_any}
use Rattle.std.proofs.lemmas.Bool.{or_parts}
use Rattle.ent_types.specs.declared.entity.Entity.{Entity}
use Rattle.ent_types.specs.declared.value.Value.{Value}
use Rattle.ent_types.specs.declared.value.Value.TheVariants as values
use Rattle.ent_types.specs.Fitting.{null_entity}
use Rattle.world_model.specs.Members.{In}
use Rattle.world_model.specs.Part.{PartOf}
use Rattle.world_model.specs.Operations.{Act, On}
use Rattle.world_model.specs.Operations as world
use Rattle.world_places.proofs.Lists.{map_same}
use Rattle.command_record.specs.declared.command.Target.{Target}
use Rattle.command_record.specs.declared.command.Target.TheVariants.{Live, Placeholder}
use Rattle.command_record.specs.declared.command.CmdValue.{CmdValue}
use Rattle.command_record.specs.declared.command.CmdValue.TheVariants.{Int, Ref}
use Rattle.command_record.specs.declared.command.CmdPart.{CmdPart}
use Rattle.command_record.specs.declared.command.Command.{Command}
use Rattle.command_record.specs.declared.command.Command.TheVariants.{Create, Destroy, Add, Remove, Set, SetShared, SetEnabled, Instantiate, Append, Clear}
use Rattle.command_record.specs.declared.chain.Entry.{Entry}
use Rattle.playback.specs.Asked.{entity_for, value_for, part_for, on_target, operation_for}
use Rattle.playback.specs.Named.{names_target, names_value, names_part, names_in, names_among}

none_of : {X : Type 0} (test : X → Bool) (xs : List X) → list_any test xs ≡ false → (x : X) → In x xs → test x ≡ false
none_of test [] h x i = absurd i
none_of test (y ∷ ys) h x i = by (or_parts (test y) (list_any test ys) h) i (none_of test ys)
  where
    by : (test y ≡ false) × (list_any test ys ≡ false) → In x (y ∷ ys) → (list_any test ys ≡ false → (z : _) → In z ys → test z ≡ false) → test x ≡ false
    by both (inl e) rest = ap test e ∙ both.0
    by both (inr j) rest = rest both.1 x j

-- no entry of a list names a placeholder
pub none_named : (es : List Entry) → names_among es ≡ false → (x : Entry) → In x es → names_in x.command ≡ false
none_named es h x i = none_of (λ (e : Entry). names_in e.command) es h x i

module _ (f g : ℕ → ℕ → Option Entity) where
  entity_free : (t : Target) → names_target t ≡ false → entity_for f t ≡ entity_for g t
  entity_free (Live e) h = refl
  entity_free (Placeholder row number) h = absurd (true≢false h)

  value_free : (v : CmdValue) → names_value v ≡ false → value_for f v ≡ value_for g v
  value_free (Int z) h = refl
  value_free (Ref t) h = ap (λ o. values.Ref (unwrap_or o null_entity)) (entity_free t h)

  part_free : (p : CmdPart) → names_part p ≡ false → part_for f p ≡ part_for g p
  part_free p h =
      ap (λ (vs : List Value). let q : PartOf Value = record { type_id = p.ty.0; values = vs } in q)
      (map_same (value_for f) (value_for g) p.values (λ v i. value_free v (none_of names_value p.values h v i)))

  act_free : (t : Target) → names_target t ≡ false → (a b : Act Value) → a ≡ b → on_target f t a ≡ on_target g t b
  act_free t h a b same = ap₂ (λ o c. option_map (λ e. On e c) o) (entity_free t h) same

  both_free : (t : Target) (p : CmdPart) → (names_target t || names_part p) ≡ false → (act : PartOf Value → Act Value) → on_target f t (act (part_for f p)) ≡ on_target g t (act (part_for g p))
  both_free t p h act =
      let both = or_parts (names_target t) (names_part p) h in
      act_free t both.0 (act (part_for f p)) (act (part_for g p)) (ap act (part_free p both.1))

  pub operation_free : (c : Command) → names_in c ≡ false → operation_for f c ≡ operation_for g c
  operation_free (Create parts) h =
      ap (λ ps. Some (world.Create ps)) (map_same (part_for f) (part_for g) parts (λ p i. part_free p (none_of names_part parts h p i)))
  operation_free (Destroy target) h = act_free target h world.Destroy world.Destroy refl
  operation_free (Add target part) h = both_free target part h world.Add
  operation_free (Remove target ty) h = act_free target h (world.Remove ty.0) (world.Remove ty.0) refl
  operation_free (Set target part) h = both_free target part h world.Set
  operation_free (SetShared target part) h = both_free target part h world.SetShared
  operation_free (SetEnabled target ty on) h = act_free target h (world.SetEnabled ty.0 on) (world.SetEnabled ty.0 on) refl
  operation_free (Instantiate source) h = act_free source h world.Instantiate world.Instantiate refl
  operation_free (Append target part) h = both_free target part h world.Append
  operation_free (Clear target ty) h = act_free target h (world.Clear ty.0) (world.Clear ty.0) refl
