-- The scope of a real place knows only the names of the place.
use Rattle.std.proofs.Common.{ℕ, ◌≡◌, ◌<◌, List, [], Bool, true, false, not, cond, Some, None, length, refl, sym, ap, ◌∙◌, subst, arith}
use Rattle.std.specs.Prelude.{codes}
use Rattle.std.proofs.lemmas.Bool.{and_parts, and_from, both_ways, ltb-true, lt-ltb, not-true}
use Rattle.std.proofs.lemmas.Option.{none-some, cond_some, option_and_then_some}
use Rattle.std.proofs.lemmas.List.Quantifiers.{position-Some}
use Rattle.ent_types.specs.declared.entity.TypeId.{TypeId}
use Rattle.ent_types.specs.declared.kinds.Kind.{Kind}
use Rattle.ent_types.specs.declared.kinds.Kind.TheVariants.{Plain, Tag, Shared, Cleanup, Buffer}
use Rattle.ent_types.specs.declared.kinds.FieldKind.TheVariants.{I32}
use Rattle.ent_types.specs.declared.type_info.FieldInfo.{FieldInfo}
use Rattle.ent_types.specs.declared.type_info.TypeInfo.{TypeInfo}
use Rattle.ent_types.specs.Registries.{type_at, IsLawfulRegistry}
use Rattle.ent_types.specs.Types.{same_name, is_buffer, is_ref_kind, field_named, kind_of_field}
use Rattle.ent_types.specs.TypeLookups.{fields_at, kind_at}
use Rattle.ent_types.specs.TypeSets.{has_type}
use Rattle.ent_types.proofs.LawfulTypes.{tag_has_no_field, is_lawful_type-at}
use Rattle.expr_trees.specs.declared.tree.BinaryOp.TheVariants.{Min, Max}
use Rattle.expr_trees.specs.declared.tree.RefExpr.{RefExpr}
use Rattle.expr_trees.specs.declared.tree.RefExpr.TheVariants as refs
use Rattle.expr_trees.specs.declared.tree.Variable.{Variable}
use Rattle.expr_trees.specs.declared.tree.Variable.TheVariants.{Frame, Chunk, Row, Index, Version, N}
use Rattle.expr_grammar.specs.declared.words.Call.{Call}
use Rattle.expr_grammar.specs.declared.words.Call.TheVariants as calls
use Rattle.expr_grammar.specs.declared.words.FieldUse.{FieldUse}
use Rattle.expr_grammar.specs.declared.words.FieldUse.TheVariants.{Number, Entity, Looked}
use Rattle.expr_read.specs.declared.scope.TextPlace.{TextPlace}
use Rattle.expr_read.specs.declared.scope.TextPlace.TheVariants.{Spawn, Event, System}
use Rattle.expr_read.specs.declared.scope.Made.{Made}
use Rattle.expr_read.specs.ScopeOf.{is_system, is_own, system_variable, variable_of, plain_call, system_call, call_of, made_reference, own_reference, reference_of, suits, suited_field, is_open, may_name, field_of, scope_of}
use Rattle.scenario_record.specs.TextNames.{has_values, has_field, has_number, is_n, is_frame, none_made, ref_fits, names_of_a_system, names_without_a_row, names_of_a_spawn, names_of_an_event}
use Rattle.read_laws.proofs.Choices.{either, nothing}
use Rattle.read_laws.proofs.TextsFit.{Serves}

-- ---- words

row_variable : (n : List ℕ) (v : Variable) → system_variable n ≡ Some v → not (is_n v) ≡ true
row_variable n v =
    let P : Variable → Type 0 = λ w. not (is_n w) ≡ true in
    either P (same_name n (codes "frame")) Frame v _ refl
    (either P (same_name n (codes "chunk")) Chunk v _ refl
    (either P (same_name n (codes "row")) Row v _ refl
    (either P (same_name n (codes "index")) Index v _ refl
    (either P (same_name n (codes "version")) Version v _ refl
    (nothing P v)))))

-- the calls that ask nothing of the world
abbrev AsksNothing : Call → Type 0
AsksNothing (calls.Two op) = Unit {0}
AsksNothing calls.Pick = Unit {0}
AsksNothing calls.Get = ⊥
AsksNothing calls.Alive = ⊥
AsksNothing calls.Has = ⊥
AsksNothing calls.Same = ⊥
AsksNothing calls.On = ⊥

asks_nothing : (n : List ℕ) (c : Call) → plain_call n ≡ Some c → AsksNothing c
asks_nothing n c =
    either AsksNothing (same_name n (codes "min")) (calls.Two Min) c _ tt
    (either AsksNothing (same_name n (codes "max")) (calls.Two Max) c _ tt
    (either AsksNothing (same_name n (codes "pick")) calls.Pick c _ tt
    (nothing AsksNothing c)))

-- ---- fields

no_field : FieldInfo
no_field = record { name = []; kind = I32 }

-- a field that is found is there, and suits
suited_there : (role : FieldUse) (info : TypeInfo) (f : List ℕ) (i : ℕ) → suited_field role info f ≡ Some i
    → (i < length info.fields) × (suits role (kind_of_field info i) ≡ true)
unfolding field_named no_field
suited_there role info f i is =
    option_and_then_some (λ k. cond (suits role (kind_of_field info k)) (Some k) None) (field_named info f) i is
    (λ k found suited.
    let (suits_k, same) = cond_some (suits role (kind_of_field info k)) k i suited in
    let within : k < length info.fields = (position-Some (λ (g : FieldInfo). same_name f g.name) info.fields k no_field found).0 in
    (subst (λ j. j < length info.fields) same within, subst (λ j. suits role (kind_of_field info j) ≡ true) same suits_k))

pub record IsOpenField (types : List TypeInfo) (place : TextPlace) (bound : List ℕ) (role : FieldUse) (ty : TypeId) (i : ℕ) : Type 0 where
  pub known : ty.0 < length types
  pub named : may_name place bound role ty (kind_at types ty.0) ≡ true
  pub within : i < length (fields_at types ty.0)
  pub suits : suits role (kind_of_field (type_at types ty.0) i) ≡ true

pub open_field : (types : List TypeInfo) (place : TextPlace) (bound : List ℕ) (role : FieldUse) (ty : TypeId) (f : List ℕ) (i : ℕ)
    → field_of types place bound role ty f ≡ Some i → IsOpenField types place bound role ty i
open_field types place bound role ty f i = by (is_open types place bound role ty) refl
  where
    by : (b : Bool) → is_open types place bound role ty ≡ b → cond b (suited_field role (type_at types ty.0) f) None ≡ Some i → IsOpenField types place bound role ty i
    by false _ is = absurd (none-some i is)
    by true opens is =
        let (known, named) = and_parts _ _ opens in
        let (within, suited) = suited_there role (type_at types ty.0) f i is in
        record { known = ltb-true _ _ known; named = named; within = within; suits = suited }

module _ (types : List TypeInfo) (lawful : IsLawfulRegistry types) where
  -- a type with a field is no tag
  values_of_kind : (info : TypeInfo) (kind : Kind) → info.kind ≡ kind → (kind ≡ Tag → length info.fields ≡ 0) → is_buffer kind ≡ false → (i : ℕ) → i < length info.fields
      → has_values kind ≡ true
  values_of_kind info Plain is none plain i within = refl
  values_of_kind info Tag is none plain i within = absurd (omega (arith, none refl))
  values_of_kind info Shared is none plain i within = refl
  values_of_kind info Cleanup is none plain i within = refl
  values_of_kind info Buffer is none plain i within = absurd cc

  pub field_there : (ty : TypeId) (i : ℕ) → ty.0 < length types → i < length (fields_at types ty.0) → is_buffer (kind_at types ty.0) ≡ false
      → has_field types ty i ≡ true
  field_there ty i known within plain =
      let info : TypeInfo = type_at types ty.0 in
      let no_tag : info.kind ≡ Tag → length info.fields ≡ 0 = tag_has_no_field info (is_lawful_type-at types lawful ty.0 known) in
      and_from _ _ (lt-ltb _ _ known)
      (and_from _ _ (lt-ltb _ _ within) (values_of_kind info info.kind refl no_tag plain i within))

  number_there : (place : TextPlace) (bound : List ℕ) (role : FieldUse) (ty : TypeId) (i : ℕ) → IsOpenField types place bound role ty i
      → is_buffer (kind_at types ty.0) ≡ false → not (is_ref_kind (kind_of_field (type_at types ty.0) i)) ≡ true → has_number types ty i ≡ true
  number_there place bound role ty i opens plain number = and_from _ _ (field_there ty i opens.known opens.within plain) number

  -- ---- systems

  module _ (bound : List ℕ) (is_bound : ℕ → Bool) (binds : (t : ℕ) → has_type bound t ≡ true → is_bound t ≡ true) (made : List Made) where
    pub own_reference_ok : (named : ℕ → Bool) (fits : Bool) (n : List ℕ) (r : RefExpr)
        → ((m : RefExpr) → fits ≡ true → made_reference made n ≡ Some m → ref_fits (names_of_a_system types is_bound) named m ≡ true)
        → (scope_of types System bound made).reference fits n ≡ Some r → ref_fits (names_of_a_system types is_bound) named r ≡ true
    own_reference_ok named fits n r by_name =
        let P : RefExpr → Type 0 = λ q. ref_fits (names_of_a_system types is_bound) named q ≡ true in
        either P (same_name n (codes "null")) refs.Null r _ refl
        (either P (same_name n (codes "self")) refs.Me r _ refl
        (by fits refl))
      where
        by : (b : Bool) → fits ≡ b → cond b (made_reference made n) None ≡ Some r → ref_fits (names_of_a_system types is_bound) named r ≡ true
        by true may is = by_name r may is
        by false may is = absurd (none-some r is)

    pub system_serves : Serves (scope_of types System bound made) (names_of_a_system types is_bound)
    system_serves = record {
      variable = row_variable;
      own_number = λ ty f i is.
          let opens = open_field types System bound Number ty f i is in
          let (own, plain) = and_parts _ _ opens.named in
          and_from _ _ (binds ty.0 own) (number_there System bound Number ty i opens (not-true _ plain) opens.suits);
      own_ref = λ ty f i is.
          let opens = open_field types System bound Entity ty f i is in
          let (own, plain) = and_parts _ _ opens.named in
          and_from _ _ (binds ty.0 own) (and_from _ _ (field_there ty i opens.known opens.within (not-true _ plain)) opens.suits);
      looked_up = λ n ty f i call is.
          let opens = open_field types System bound Looked ty f i is in
          number_there System bound Looked ty i opens (not-true _ opens.named) opens.suits;
      asked = λ n ty call allowed. (and_parts _ _ allowed).0;
      tested = λ n ty call allowed. allowed;
      alive = λ n call. refl;
      same = λ n call. refl;
      reference = λ n r is. own_reference_ok none_made false n r (λ m may _. absurd cc) is;
    }

  -- ---- places without a row

  module _ (place : TextPlace) (rowless : is_system place ≡ false) (variable : Variable → Bool)
      (knows : (n : List ℕ) (v : Variable) → variable_of place n ≡ Some v → variable v ≡ true) where
    no_own : {P : Type 0} (ty : TypeId) → is_own place [] ty ≡ true → P
    no_own ty own = absurd (both_ways _ rowless (and_parts _ _ own).0)

    no_call : (n : List ℕ) (c : Call) → call_of place n ≡ Some c → AsksNothing c
    no_call n c call = asks_nothing n c (sym (ap (λ b. cond b (system_call n) (plain_call n)) rowless) ∙ call)

    pub null_alone : (fits : Bool) (n : List ℕ) (r : RefExpr) → reference_of place [] fits n ≡ Some r → ref_fits (names_without_a_row variable) none_made r ≡ true
    null_alone fits n r is =
        let P : RefExpr → Type 0 = λ q. ref_fits (names_without_a_row variable) none_made q ≡ true in
        let null = same_name n (codes "null") in
        either P null refs.Null r None refl (nothing P r)
        (sym (ap (λ b. cond null (Some refs.Null) (cond b (own_reference [] fits n) None)) rowless) ∙ is)

    pub rowless_serves : Serves (scope_of types place [] []) (names_without_a_row variable)
    rowless_serves = record {
      variable = knows;
      own_number = λ ty f i is. no_own ty (and_parts _ _ (open_field types place [] Number ty f i is).named).0;
      own_ref = λ ty f i is. no_own ty (and_parts _ _ (open_field types place [] Entity ty f i is).named).0;
      looked_up = λ n ty f i call is. absurd (no_call n calls.Get call);
      asked = λ n ty call allowed. absurd (no_call n calls.Has call);
      tested = λ n ty call allowed. absurd (no_call n calls.On call);
      alive = λ n call. absurd (no_call n calls.Alive call);
      same = λ n call. absurd (no_call n calls.Same call);
      reference = null_alone false;
    }

  n_alone : (n : List ℕ) (v : Variable) → variable_of Spawn n ≡ Some v → is_n v ≡ true
  n_alone n v =
      let P : Variable → Type 0 = λ w. is_n w ≡ true in
      either P (same_name n (codes "n")) N v None refl (nothing P v)

  frame_alone : (n : List ℕ) (v : Variable) → variable_of Event n ≡ Some v → is_frame v ≡ true
  frame_alone n v =
      let P : Variable → Type 0 = λ w. is_frame w ≡ true in
      either P (same_name n (codes "frame")) Frame v None refl (nothing P v)

  pub spawn_serves : Serves (scope_of types Spawn [] []) names_of_a_spawn
  spawn_serves = rowless_serves Spawn refl is_n n_alone

  pub event_serves : Serves (scope_of types Event [] []) names_of_an_event
  event_serves = rowless_serves Event refl is_frame frame_alone

  pub event_reference : (n : List ℕ) (r : RefExpr) → (scope_of types Event [] []).reference true n ≡ Some r → ref_fits names_of_an_event none_made r ≡ true
  event_reference = null_alone Event refl is_frame frame_alone true
