-- A command suits the types if its change does, for it doesn't count which entities its references name.
use Rattle.std.proofs.Common.{◌≡◌, ℕ, zero, suc, ◌&&◌, Bool, true, false, if◌then◌else◌, inl, inr, List, [], ◌∷◌, map, length, take, drop, Option, Some, None, option_map, refl, sym, ap, ap₂, ◌∙◌, subst}
use Rattle.ent_types.specs.declared.entity.Entity.{Entity}
use Rattle.ent_types.specs.declared.kinds.FieldKind.{FieldKind}
use Rattle.ent_types.specs.declared.kinds.FieldKind.TheVariants.{I32, I64, Ref as RefKind}
use Rattle.ent_types.specs.declared.type_info.FieldInfo.{FieldInfo}
use Rattle.ent_types.specs.declared.type_info.TypeInfo.{TypeInfo}
use Rattle.ent_types.specs.declared.value.Value.{Value}
use Rattle.ent_types.specs.declared.value.Value.TheVariants as values
use Rattle.ent_types.specs.declared.limits.TheConstants.{MOST_ELEMENTS}
use Rattle.ent_types.specs.Fitting.{null_entity, fits_field, fits_fields, fits_elements, fits_type}
use Rattle.ent_types.specs.Registries.{type_at}
use Rattle.ent_types.specs.Types.{is_buffer}
use Rattle.ent_types.specs.TypeLookups.{fields_at}
use Rattle.world_model.specs.Members.{In, AreDistinct}
use Rattle.world_model.specs.Part.{PartOf, part_type, part_map}
use Rattle.world_model.specs.Fits.{IsFitting, IsElement}
use Rattle.world_model.specs.Lawful.{ActSuits}
use Rattle.world_model.specs.Operations.{Act, act_map, On}
use Rattle.world_model.specs.Operations as world
use Rattle.world_laws.proofs.Members.{in_map, map_in}
use Rattle.run_model.specs.Commands.{GivenValue, ActsOn}
use Rattle.run_model.specs.Commands as model
use Rattle.run_model.specs.Playback.{value_given, operation_of}
use Rattle.run_laws.specs.Suits.{OperationSuits}
use Rattle.run_laws.specs.Suits as texts
use Rattle.command_record.specs.declared.command.Target.{Target}
use Rattle.command_record.specs.declared.command.Target.TheVariants.{Live, Placeholder}
use Rattle.command_record.specs.declared.command.CmdValue.{CmdValue}
use Rattle.command_record.specs.declared.command.CmdValue.TheVariants.{Int, Ref}
use Rattle.command_record.specs.declared.command.CmdPart.{CmdPart}
use Rattle.command_record.specs.declared.command.Command.{Command}
use Rattle.command_record.specs.declared.command.Command.TheVariants.{Create, Destroy, Add, Remove, Set, SetShared, SetEnabled, Instantiate, Append, Clear}
use Rattle.command_record.specs.declared.chain.Entry.{Entry}
use Rattle.command_record.specs.Entries.{target_of, value_of, part_of, change_of}
use Rattle.expr_eval.specs.Values.{OwnRow, OtherRows}
use Rattle.expr_trees.specs.declared.tree.CommandText.{CommandText}
use Rattle.run_laws.proofs.EntriesSuit.{deed_suits}
use Rattle.playback.specs.Asked.{value_for, part_for, on_target, operation_for, CommandSuits, AllSuit}

-- ---- values that differ only in the entities that they name

abbrev shape : Value → Value
shape (values.Int z) = values.Int z
shape (values.Ref e) = values.Ref null_entity

field_shape : (kind : FieldKind) (v : Value) → fits_field kind (shape v) ≡ fits_field kind v
field_shape I32 (values.Int z) = refl
field_shape I64 (values.Int z) = refl
field_shape RefKind (values.Int z) = refl
field_shape I32 (values.Ref e) = refl
field_shape I64 (values.Ref e) = refl
field_shape RefKind (values.Ref e) = refl

fields_shape : (fields : List FieldInfo) (vs : List Value) → fits_fields fields (map shape vs) ≡ fits_fields fields vs
fields_shape [] [] = refl
fields_shape [] (v ∷ vs) = refl
fields_shape (f ∷ fs) [] = refl
fields_shape (f ∷ fs) (v ∷ vs) = ap₂ (λ (a b : Bool). a && b) (field_shape f.kind v) (fields_shape fs vs)

taken : (n : ℕ) (vs : List Value) → take n (map shape vs) ≡ map shape (take n vs)
taken zero vs = refl
taken (suc n) [] = refl
taken (suc n) (v ∷ vs) = ap (λ us. shape v ∷ us) (taken n vs)

dropped : (n : ℕ) (vs : List Value) → drop n (map shape vs) ≡ map shape (drop n vs)
dropped zero vs = refl
dropped (suc n) [] = refl
dropped (suc n) (v ∷ vs) = dropped n vs

elements_shape : (most : ℕ) (fields : List FieldInfo) (vs : List Value) → fits_elements most fields (map shape vs) ≡ fits_elements most fields vs
unfolding fits_elements
elements_shape most fields [] = refl
elements_shape zero fields (v ∷ vs) = refl
elements_shape (suc most) fields (v ∷ vs) =
    ap₂ (λ (a b : Bool). a && b)
    (ap (fits_fields fields) (taken (length fields) (v ∷ vs)) ∙ fields_shape fields (take (length fields) (v ∷ vs)))
    (ap (fits_elements most fields) (dropped (length fields) (v ∷ vs)) ∙ elements_shape most fields (drop (length fields) (v ∷ vs)))

type_shape : (info : TypeInfo) (vs : List Value) → fits_type info (map shape vs) ≡ fits_type info vs
unfolding fits_type
type_shape info vs = by (is_buffer info.kind)
  where
    by : (b : Bool) → (if b then fits_elements MOST_ELEMENTS info.fields (map shape vs) else fits_fields info.fields (map shape vs))
        ≡ (if b then fits_elements MOST_ELEMENTS info.fields vs else fits_fields info.fields vs)
    by true = elements_shape MOST_ELEMENTS info.fields vs
    by false = fields_shape info.fields vs

-- ---- parts and operations

-- each placeholder stands for some entity, so that no operation is left out
abbrev always : ℕ → Option Entity
always n = Some null_entity

module _ (registry : List TypeInfo) (made : ℕ → ℕ → Option Entity) where
  abbrev given : CmdPart → PartOf Value
  given p = part_map (value_given always) (part_of p)

  values_shape : (vs : List CmdValue) → map shape (map (value_for made) vs) ≡ map shape (map (value_given always) (map value_of vs))
  values_shape [] = refl
  values_shape (Int z ∷ vs) = ap (λ us. values.Int z ∷ us) (values_shape vs)
  values_shape (Ref (Live e) ∷ vs) = ap (λ us. values.Ref null_entity ∷ us) (values_shape vs)
  values_shape (Ref (Placeholder row number) ∷ vs) = ap (λ us. values.Ref null_entity ∷ us) (values_shape vs)

  part_suits : (p : CmdPart) → IsFitting registry (given p) → IsFitting registry (part_for made p)
  part_suits p h = record {
    known = h.known;
    fit = sym (type_shape (type_at registry p.ty.0) (map (value_for made) p.values))
        ∙ (ap (fits_type (type_at registry p.ty.0)) (values_shape p.values)
        ∙ (type_shape (type_at registry p.ty.0) (map (value_given always) (map value_of p.values)) ∙ h.fit));
  }

  element_suits : (p : CmdPart) → IsElement registry (given p) → IsElement registry (part_for made p)
  element_suits p h = record {
    known = h.known;
    buffer = h.buffer;
    fit = sym (fields_shape (fields_at registry p.ty.0) (map (value_for made) p.values))
        ∙ (ap (fits_fields (fields_at registry p.ty.0)) (values_shape p.values)
        ∙ (fields_shape (fields_at registry p.ty.0) (map (value_given always) (map value_of p.values)) ∙ h.fit));
  }

  on_suits : (t : Target) (a : Act Value) (b : Act GivenValue) → OperationSuits registry (operation_of always (ActsOn (target_of t) b))
      → (ActSuits registry (act_map (value_given always) b) → ActSuits registry a) → OperationSuits registry (on_target made t a)
  on_suits (Live e) a b h suits = suits h
  on_suits (Placeholder row number) a b h suits = by (made row number)
    where
      by : (o : Option Entity) → OperationSuits registry (option_map (λ e. On e a) o)
      by None = tt
      by (Some e) = suits h

  parts_suit : (ps : List CmdPart) → ((q : PartOf Value) → In q (map (part_map (value_given always)) (map part_of ps)) → IsFitting registry q)
      → (q : PartOf Value) → In q (map (part_for made) ps) → IsFitting registry q
  parts_suit ps h q i =
      let (p, j, e) = in_map (part_for made) q ps i in
      subst (IsFitting registry) (sym e)
      (part_suits p (h (given p) (map_in (part_map (value_given always)) (part_of p) (map part_of ps) (map_in part_of p ps j))))

  types_same : (ps : List CmdPart) → map part_type (map (part_for made) ps) ≡ map part_type (map (part_map (value_given always)) (map part_of ps))
  types_same [] = refl
  types_same (p ∷ ps) = ap (λ ts. p.ty.0 ∷ ts) (types_same ps)

  asked_suits : (c : Command) → OperationSuits registry (operation_of always (change_of c)) → OperationSuits registry (operation_for made c)
  asked_suits (Create ps) h = (parts_suit ps h.0, subst AreDistinct (sym (types_same ps)) h.1)
  asked_suits (Destroy t) h = on_suits t world.Destroy world.Destroy h (λ s. s)
  asked_suits (Add t p) h = on_suits t (world.Add (part_for made p)) (world.Add (part_of p)) h (part_suits p)
  asked_suits (Remove t ty) h = on_suits t (world.Remove ty.0) (world.Remove ty.0) h (λ s. s)
  asked_suits (Set t p) h = on_suits t (world.Set (part_for made p)) (world.Set (part_of p)) h (λ s. (part_suits p s.0, s.1, s.2))
  asked_suits (SetShared t p) h = on_suits t (world.SetShared (part_for made p)) (world.SetShared (part_of p)) h (λ s. (part_suits p s.0, s.1))
  asked_suits (SetEnabled t ty on) h = on_suits t (world.SetEnabled ty.0 on) (world.SetEnabled ty.0 on) h (λ s. s)
  asked_suits (Instantiate t) h = on_suits t world.Instantiate world.Instantiate h (λ s. s)
  asked_suits (Append t p) h = on_suits t (world.Append (part_for made p)) (world.Append (part_of p)) h (element_suits p)
  asked_suits (Clear t ty) h = on_suits t (world.Clear ty.0) (world.Clear ty.0) h (λ s. s)

pub command_suits : (registry : List TypeInfo) (c : Command) → ((made : ℕ → Option Entity) → OperationSuits registry (operation_of made (change_of c)))
    → CommandSuits registry c
command_suits registry c h made = asked_suits registry made c (h always)

pub text_suits : (registry : List TypeInfo) (own : OwnRow) (others : OtherRows) (act : CommandText) (c : Command)
    → texts.CommandSuits registry act → change_of c ≡ model.change_of registry own others act → CommandSuits registry c
text_suits registry own others act c suits is =
    command_suits registry c (λ made. subst (λ change. OperationSuits registry (operation_of made change)) (sym is) (deed_suits registry own others made act suits))

pub alone_suits : (registry : List TypeInfo) (own : OwnRow) (others : OtherRows) (act : CommandText) (x : Entry)
    → texts.CommandSuits registry act → change_of x.command ≡ model.change_of registry own others act → AllSuit registry (x ∷ [])
alone_suits registry own others act x suits is y (inl e) = subst (λ (z : Entry). CommandSuits registry z.command) (sym e) (text_suits registry own others act x.command suits is)
alone_suits registry own others act x suits is y (inr i) = absurd i
