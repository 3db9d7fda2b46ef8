-- A registry that was read is lawful.
use Rattle.std.proofs.Common.{ℕ, ◌≡◌, ◌≤◌, ◌<◌, ◌+◌, List, [], ◌∷◌, ◌++◌, Bool, true, false, not, length, length-append, is_some, Some, Ok, refl, sym, ap, ◌∙◌, subst, arith}
use Rattle.std.specs.Prelude.{codes}
use Rattle.std.specs.List.{list_all}
use Rattle.std.proofs.lemmas.Bool.{and_from, not-false, not_from_false}
use Rattle.std.proofs.lemmas.List.Folds.{list_all-append}
use Rattle.toml.specs.Data.{Data, Members}
use Rattle.ent_types.specs.declared.kinds.Kind.{Kind}
use Rattle.ent_types.specs.declared.kinds.Kind.TheVariants.{Plain, Tag, Shared, Cleanup}
use Rattle.ent_types.specs.declared.type_info.FieldInfo.{FieldInfo}
use Rattle.ent_types.specs.declared.type_info.TypeInfo.{TypeInfo}
use Rattle.ent_types.specs.Types.{same_name, is_buffer, is_lawful_type}
use Rattle.ent_types.specs.Registries.{type_named, built_in_types, IsLawfulRegistry}
use Rattle.ent_types.proofs.RegistryLemmas.{IsLawfulRegistry-push, IsLawfulRegistry-built_in}
use Rattle.scenario_record.specs.declared.fault.Cause.TheVariants.{BadWord, BadShape, DuplicateName}
use Rattle.scenario_record.specs.Readings.{under, ◌>>=◌, unless, or_fault, fault_if}
use Rattle.scenario_tables.specs.ReadKeys.{known_table, required, optional, truth, text, name, list_up_to, each_over}
use Rattle.scenario_tables.specs.ReadTypes.{kind_named, kind, field_in, one_more_field, fields, new_type, type_keys, type_in, one_more_type, registry_of}
use Rattle.scenario_tables.specs.ReadTop.{types}
use Rattle.read_laws.proofs.Inversions.{then_ok, ok_same, under_ok, or_fault_ok, fault_ok, optional_ok, list_up_to_ok, each_over_ok}
use Rattle.read_laws.proofs.Choices.{either, nothing}

-- ---- fields

one_field : (fs gs : List FieldInfo) (d : Data) → one_more_field fs d ≡ Ok gs → length gs ≡ length fs + 1
one_field fs gs d is =
    let s = then_ok (λ s. field_in fs s >>= λ f. Ok (fs ++ f ∷ [])) (text d) gs is in
    let f = then_ok (λ f. Ok (fs ++ f ∷ [])) (field_in fs s.0) gs s.2 in
    ap length (sym (ok_same (fs ++ f.0 ∷ []) gs f.2)) ∙ length-append fs (f.0 ∷ [])

few_fields : (d : Data) (fs : List FieldInfo) → fields d ≡ Ok fs → length fs ≤ 64
few_fields d fs is =
    let all = then_ok (each_over one_more_field [] 0) (list_up_to 64 d) fs is in
    let few = list_up_to_ok 64 d all.0 all.1 in
    let count = each_over_ok (λ n gs. length gs ≡ n) one_more_field 64 (λ i gs hs e below first got. one_field gs hs e got ∙ ap (λ n. n + 1) first) 0 [] fs all.0 (omega (arith, few)) refl all.2 in
    omega (arith, few, count)

-- ---- a type

-- no word names the kind of a buffer
plain_kind : (s : List ℕ) (k : Kind) → kind_named s ≡ Some k → is_buffer k ≡ false
plain_kind s k =
    let P : Kind → Type 0 = λ x. is_buffer x ≡ false in
    either P (same_name s (codes "plain")) Plain k _ refl
    (either P (same_name s (codes "tag")) Tag k _ refl
    (either P (same_name s (codes "shared")) Shared k _ refl
    (either P (same_name s (codes "cleanup")) Cleanup k _ refl
    (nothing P k))))

kind_ok : (d : Data) (k : Kind) → kind d ≡ Ok k → is_buffer k ≡ false
kind_ok d k is =
    let s = then_ok (λ s. or_fault BadWord (kind_named s)) (text d) k is in
    plain_kind s.0 k (or_fault_ok BadWord (kind_named s.0) k s.2)

record HasFewFields (t : TypeInfo) : Type 0 where
  pub few : length t.fields ≤ 64
  pub plain : is_buffer t.kind ≡ false

few_fields_of : (ms : Members) (t : TypeInfo) → type_keys ms ≡ Ok t → HasFewFields t
few_fields_of ms t is =
    let whole : List ℕ → Kind → List FieldInfo → Bool → TypeInfo = λ n k fs e. record { name = n; kind = k; fields = fs; enableable = e } in
    let kinds = optional (codes "kind") Plain kind ms in
    let lists = optional (codes "fields") [] fields ms in
    let truths = optional (codes "enableable") false truth ms in
    let n = then_ok (λ n. kinds >>= λ k. lists >>= λ fs. truths >>= λ e. Ok (whole n k fs e)) (required (codes "name") name ms) t is in
    let k = then_ok (λ k. lists >>= λ fs. truths >>= λ e. Ok (whole n.0 k fs e)) kinds t n.2 in
    let fs = then_ok (λ fs. truths >>= λ e. Ok (whole n.0 k.0 fs e)) lists t k.2 in
    let e = then_ok (λ e. Ok (whole n.0 k.0 fs.0 e)) truths t fs.2 in
    subst HasFewFields (ok_same (whole n.0 k.0 fs.0 e.0) t e.2) (record {
      few = optional_ok (λ gs. length gs ≤ 64) (codes "fields") [] fields ms fs.0 (omega arith) (λ d got. few_fields d fs.0 got) fs.1;
      plain = optional_ok (λ x. is_buffer x ≡ false) (codes "kind") Plain kind ms k.0 refl (λ d got. kind_ok d k.0 got) k.1;
    })

record IsNew (registry : List TypeInfo) (t : TypeInfo) : Type 0 where
  pub lawful : is_lawful_type t ≡ true
  pub few : length t.fields ≤ 64
  pub plain : is_buffer t.kind ≡ false
  pub new : is_some (type_named registry t.name) ≡ false

new_ok : (registry : List TypeInfo) (info t : TypeInfo) → HasFewFields info → new_type registry info ≡ Ok t → IsNew registry t
new_ok registry info t few is =
    let named = unless (fault_if (is_some (type_named registry info.name)) DuplicateName) (Ok info) in
    let shape = fault_ok (not (is_lawful_type info)) BadShape (under (codes "name") named) t is in
    let fresh = fault_ok (is_some (type_named registry info.name)) DuplicateName (Ok info) t (under_ok (codes "name") named t shape.1) in
    subst (IsNew registry) (ok_same info t fresh.1) (record { lawful = not-false _ shape.0; few = few.few; plain = few.plain; new = fresh.0 })

type_ok : (registry : List TypeInfo) (d : Data) (t : TypeInfo) → type_in registry d ≡ Ok t → IsNew registry t
unfolding type_in
type_ok registry d t is =
    let ms = then_ok (λ ms. type_keys ms >>= new_type registry) (known_table (codes "name" ∷ codes "kind" ∷ codes "fields" ∷ codes "enableable" ∷ []) d) t is in
    let info = then_ok (new_type registry) (type_keys ms.0) t ms.2 in
    new_ok registry info.0 t (few_fields_of ms.0 info.0 info.1) info.2

-- ---- all types

record IsReadUpTo (count : ℕ) (registry : List TypeInfo) : Type 0 where
  pub lawful : IsLawfulRegistry registry
  pub plain : list_all (λ t. not (is_buffer t.kind)) registry ≡ true
  pub counted : length registry ≡ 3 + count

one_type : (i : ℕ) (r s : List TypeInfo) (d : Data) → i < 253 → IsReadUpTo i r → one_more_type r d ≡ Ok s → IsReadUpTo (i + 1) s
one_type i r s d below first is =
    let t = then_ok (λ t. Ok (r ++ t ∷ [])) (type_in r d) s is in
    let new = type_ok r d t.0 t.1 in
    subst (IsReadUpTo (i + 1)) (ok_same (r ++ t.0 ∷ []) s t.2) (record {
      lawful = IsLawfulRegistry-push r first.lawful t.0 new.lawful new.few new.new (omega (arith, first.counted));
      plain = list_all-append (λ (u : TypeInfo). not (is_buffer u.kind)) r (t.0 ∷ []) ∙ and_from _ _ first.plain (and_from _ _ (not_from_false _ new.plain) refl);
      counted = length-append r (t.0 ∷ []) ∙ omega (arith, first.counted);
    })

three : length built_in_types ≡ 3
unfolding built_in_types
three = refl

no_buffer_built_in : list_all (λ (t : TypeInfo). not (is_buffer t.kind)) built_in_types ≡ true
unfolding built_in_types
no_buffer_built_in = refl

-- a registry that is lawful, and has no buffer
pub record IsReadRegistry (registry : List TypeInfo) : Type 0 where
  pub lawful : IsLawfulRegistry registry
  pub plain : list_all (λ t. not (is_buffer t.kind)) registry ≡ true

registry_ok : (d : Data) (r : List TypeInfo) → registry_of d ≡ Ok r → IsReadRegistry r
registry_ok d r is =
    let all = then_ok (each_over one_more_type built_in_types 0) (list_up_to 253 d) r is in
    let whole = each_over_ok IsReadUpTo one_more_type 253 one_type 0 built_in_types r all.0 (omega (arith, list_up_to_ok 253 d all.0 all.1))
    (record { lawful = IsLawfulRegistry-built_in; plain = no_buffer_built_in; counted = three }) all.2 in
    record { lawful = whole.lawful; plain = whole.plain }

pub types_ok : (ms : Members) (r : List TypeInfo) → types ms ≡ Ok r → IsReadRegistry r
types_ok ms r is =
    optional_ok IsReadRegistry (codes "type") built_in_types registry_of ms r (record { lawful = IsLawfulRegistry-built_in; plain = no_buffer_built_in })
    (λ d got. registry_ok d r got) is
