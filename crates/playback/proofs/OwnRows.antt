-- Entries that name placeholders of their own rows alone ask for what the definitions ask for, and are told apart as there.
use Rattle.std.proofs.Common.{◌≡◌, ℕ, List, map, Option, Some, option_map, unwrap_or, refl, sym, ap, ap₂, ◌∙◌, subst}
use Rattle.std.proofs.lemmas.List.{map-id}
use Rattle.ent_types.specs.declared.entity.Entity.{Entity}
use Rattle.ent_types.specs.declared.point.Point.{Point}
use Rattle.ent_types.specs.declared.type_info.TypeInfo.{TypeInfo}
use Rattle.ent_types.specs.declared.value.Value.{Value}
use Rattle.ent_types.specs.declared.value.Value.TheVariants as values
use Rattle.ent_types.specs.Fitting.{null_entity}
use Rattle.world_model.specs.Part.{PartOf, part_map}
use Rattle.world_model.specs.Operations.{Act, act_map, Operation, On}
use Rattle.world_model.specs.Operations as world
use Rattle.world_laws.proofs.Members.{map_in}
use Rattle.world_places.proofs.Lists.{map_same, map_twice}
use Rattle.run_model.specs.Commands.{GivenValue, Known, MadeBy, Change, Creates, ActsOn}
use Rattle.run_model.specs.Commands as model
use Rattle.run_model.specs.Run as run
use Rattle.run_model.specs.Playback.{value_given, operation_of}
use Rattle.run_laws.specs.Entries.{AreDifferent}
use Rattle.run_laws.specs.Suits.{OperationSuits, AllSuit as AllSuitDefined}
use Rattle.command_record.specs.declared.command.Target.{Target}
use Rattle.command_record.specs.declared.command.Target.TheVariants.{Live, Placeholder}
use Rattle.command_record.specs.declared.command.CmdValue.{CmdValue}
use Rattle.command_record.specs.declared.command.CmdValue.TheVariants.{Int, Ref}
use Rattle.command_record.specs.declared.command.CmdPart.{CmdPart}
use Rattle.command_record.specs.declared.command.Command.{Command}
use Rattle.command_record.specs.declared.command.Command.TheVariants.{Create, Destroy, Add, Remove, Set, SetShared, SetEnabled, Instantiate, Append, Clear}
use Rattle.command_record.specs.declared.chain.Entry.{Entry}
use Rattle.command_record.specs.Entries.{target_of, value_of, part_of, change_of, entry_at, entries_at, OwnTarget, OwnValue, OwnPart, OwnCommand}
use Rattle.playback.specs.Asked.{value_for, part_for, on_target, operation_for, AllSuit}
use Rattle.playback.specs.Laws.{NameOwnRows}
use Rattle.playback.specs.Order.{AreApart}

-- ---- what a command asks for

module _ (made : ℕ → ℕ → Option Entity) (place : ℕ) where
  value_is : (v : CmdValue) → OwnValue place v → value_for made v ≡ value_given (made place) (value_of v)
  value_is (Int z) own = refl
  value_is (Ref (Live e)) own = refl
  value_is (Ref (Placeholder row number)) own = ap (λ r. values.Ref (unwrap_or (made r number) null_entity)) own

  part_is : (p : CmdPart) → OwnPart place p → part_for made p ≡ part_map (value_given (made place)) (part_of p)
  part_is p own =
      ap (λ (vs : List Value). let q : PartOf Value = record { type_id = p.ty.0; values = vs } in q)
      (map_same (value_for made) (λ v. value_given (made place) (value_of v)) p.values (λ v i. value_is v (own v i))
      ∙ sym (map_twice (value_given (made place)) value_of p.values))

  act_is : (t : Target) → OwnTarget place t → (a : Act Value) (b : Act GivenValue) → a ≡ act_map (value_given (made place)) b
      → on_target made t a ≡ operation_of (made place) (ActsOn (target_of t) b)
  act_is (Live e) own a b same = ap (λ c. Some (On e c)) same
  act_is (Placeholder row number) own a b same = ap₂ (λ r c. option_map (λ e. On e c) (made r number)) own same

  pub operation_is : (c : Command) → OwnCommand place c → operation_for made c ≡ operation_of (made place) (change_of c)
  operation_is (Create parts) own =
      ap (λ ps. Some (world.Create ps))
      (map_same (part_for made) (λ p. part_map (value_given (made place)) (part_of p)) parts (λ p i. part_is p (own p i))
      ∙ sym (map_twice (part_map (value_given (made place))) part_of parts))
  operation_is (Destroy target) own = act_is target own world.Destroy world.Destroy refl
  operation_is (Add target part) own = act_is target own.0 (world.Add (part_for made part)) (world.Add (part_of part)) (ap world.Add (part_is part own.1))
  operation_is (Remove target ty) own = act_is target own (world.Remove ty.0) (world.Remove ty.0) refl
  operation_is (Set target part) own = act_is target own.0 (world.Set (part_for made part)) (world.Set (part_of part)) (ap world.Set (part_is part own.1))
  operation_is (SetShared target part) own =
      act_is target own.0 (world.SetShared (part_for made part)) (world.SetShared (part_of part)) (ap world.SetShared (part_is part own.1))
  operation_is (SetEnabled target ty on) own = act_is target own (world.SetEnabled ty.0 on) (world.SetEnabled ty.0 on) refl
  operation_is (Instantiate source) own = act_is source own world.Instantiate world.Instantiate refl
  operation_is (Append target part) own =
      act_is target own.0 (world.Append (part_for made part)) (world.Append (part_of part)) (ap world.Append (part_is part own.1))
  operation_is (Clear target ty) own = act_is target own (world.Clear ty.0) (world.Clear ty.0) refl

pub own_suit : (registry : List TypeInfo) (point : Point) (es : List Entry) → NameOwnRows es → AllSuitDefined registry (entries_at point es) → AllSuit registry es
own_suit registry point es own suits x i made =
    subst (OperationSuits registry) (sym (operation_is made x.row x.command (own x i)))
    (suits (entry_at point x) (map_in (entry_at point) x es i) (made x.row))

-- ---- which entry the definitions see

-- an entry by what the definitions see of it, with placeholders of its own row
abbrev target_back : ℕ → model.Target → Target
target_back place (model.Live e) = Live e
target_back place (model.Placeholder number) = Placeholder place number

abbrev value_back : ℕ → GivenValue → CmdValue
value_back place (Known (values.Int z)) = Int z
value_back place (Known (values.Ref e)) = Ref (Live e)
value_back place (MadeBy number) = Ref (Placeholder place number)

abbrev part_back : ℕ → PartOf GivenValue → CmdPart
part_back place p = record { ty = record { 0 = p.type_id }; values = map (value_back place) p.values }

abbrev act_back : ℕ → Target → Act GivenValue → Command
act_back place t world.Destroy = Destroy t
act_back place t (world.Add p) = Add t (part_back place p)
act_back place t (world.Remove ty) = Remove t (record { 0 = ty })
act_back place t (world.Set p) = Set t (part_back place p)
act_back place t (world.SetShared p) = SetShared t (part_back place p)
act_back place t (world.SetEnabled ty on) = SetEnabled t (record { 0 = ty }) on
act_back place t world.Instantiate = Instantiate t
act_back place t (world.Append p) = Append t (part_back place p)
act_back place t (world.Clear ty) = Clear t (record { 0 = ty })

abbrev command_back : ℕ → Change → Command
command_back place (Creates parts) = Create (map (part_back place) parts)
command_back place (ActsOn t a) = act_back place (target_back place t) a

abbrev entry_back : run.Entry → Entry
entry_back x = record { key = x.command.key; item = x.item; row = x.place; number = x.command.number; command = command_back x.place x.command.change }

module _ (place : ℕ) where
  value_told : (v : CmdValue) → OwnValue place v → value_back place (value_of v) ≡ v
  value_told (Int z) own = refl
  value_told (Ref (Live e)) own = refl
  value_told (Ref (Placeholder row number)) own = ap (λ r. Ref (Placeholder r number)) (sym own)

  target_told : (t : Target) → OwnTarget place t → target_back place (target_of t) ≡ t
  target_told (Live e) own = refl
  target_told (Placeholder row number) own = ap (λ r. Placeholder r number) (sym own)

  part_told : (p : CmdPart) → OwnPart place p → part_back place (part_of p) ≡ p
  part_told p own =
      ap (λ (vs : List CmdValue). let q : CmdPart = record { ty = p.ty; values = vs } in q)
      (map_twice (value_back place) value_of p.values
      ∙ map_same (λ v. value_back place (value_of v)) (λ v. v) p.values (λ v i. value_told v (own v i)) ∙ map-id p.values)

  command_told : (c : Command) → OwnCommand place c → command_back place (change_of c) ≡ c
  command_told (Create parts) own =
      ap Create (map_twice (part_back place) part_of parts
      ∙ map_same (λ p. part_back place (part_of p)) (λ p. p) parts (λ p i. part_told p (own p i)) ∙ map-id parts)
  command_told (Destroy target) own = ap Destroy (target_told target own)
  command_told (Add target part) own = ap₂ Add (target_told target own.0) (part_told part own.1)
  command_told (Remove target ty) own = ap (λ t. Remove t ty) (target_told target own)
  command_told (Set target part) own = ap₂ Set (target_told target own.0) (part_told part own.1)
  command_told (SetShared target part) own = ap₂ SetShared (target_told target own.0) (part_told part own.1)
  command_told (SetEnabled target ty on) own = ap (λ t. SetEnabled t ty on) (target_told target own)
  command_told (Instantiate source) own = ap Instantiate (target_told source own)
  command_told (Append target part) own = ap₂ Append (target_told target own.0) (part_told part own.1)
  command_told (Clear target ty) own = ap (λ t. Clear t ty) (target_told target own)

entry_told : (point : Point) (x : Entry) → OwnCommand x.row x.command → entry_back (entry_at point x) ≡ x
entry_told point x own = ap (λ (c : Command). let y : Entry = record x { command = c } in y) (command_told x.row x.command own)

pub own_apart : (point : Point) (es : List Entry) → NameOwnRows es → AreDifferent (entries_at point es) → AreApart es
own_apart point es own differ x y i j p q n =
    sym (entry_told point x (own x i))
    ∙ ap entry_back (differ (entry_at point x) (entry_at point y) (map_in (entry_at point) x es i) (map_in (entry_at point) y es j) p q n)
    ∙ entry_told point y (own y j)
