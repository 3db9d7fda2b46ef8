use Rattle.std.proofs.Common.{ℕ, ◌≡◌, ◌∙◌, ◌+◌, ◌*◌, ◌<◌, ◌≤◌, Bool, true, false, cond, nat_lt, ap, ap₂, sym, subst, refl, List, Some, None, Option, length, slice_get, arith}
use Rattle.std.specs.Prelude.{option_and_then}
use Rattle.std.proofs.lemmas.Bool.{lt-ltb, le-ltb}
use Rattle.ent_types.specs.declared.value.Value.{Value}
use Rattle.ent_types.specs.TypeLookups.{fields_at, is_buffer_at}
use Rattle.buffer_store.specs.Buffers.{count_of}
use Rattle.world_model.specs.Reads.{buffer_of, element_of}
use Rattle.structural_ops.specs.Freezing.{FrozenState, is_lent}
use Rattle.structural_ops.specs.Worlds.{state_of}
use Rattle.structural_ops.proofs.Sighted.{can_read_type, has_buffer, lacks_buffer, no_buffer, past_buffer}
use Rattle.structural_ops.proofs.frozen.Frozen.element.Goals as goal

-- without elements there is none, whatever the field
nothing : (b : Bool) (h : List Value → Option Value) (o : Option (List Value)) → o ≡ None → cond b (option_and_then h o) None ≡ None
nothing true h o is = ap (option_and_then h) is
nothing false h o is = refl

pub returns-in_err-place : goal.returns-in_err-place
returns-in_err-place c =
    let w = c.self.inside.tables in
    let width = length (fields_at w.registry c.args.ty.0) in
    c.from_residual.ensures
    ∙ sym (nothing (nat_lt c.args.field width) (λ (vs : List Value). slice_get vs (c.args.k * width + c.args.field)) _
    (no_buffer w c.self.invariant c.args.e c.args.ty.0 (sym c.place_of.ensures.value ∙ c.in_err-place.was)))
    ∙ ap (λ (f : FrozenState). element_of f.state.world c.args.e c.args.ty.0 c.args.k c.args.field) c.self.view_is

pub elements_in-requires-clause-buffer : goal.elements_in-requires-clause-buffer
elements_in-requires-clause-buffer c = ap (λ (f : FrozenState). is_buffer_at f.state.world.registry c.args.ty.0) c.self.view_is ∙ c.requires.buffer

pub elements_in-requires-clause-there : goal.elements_in-requires-clause-there
elements_in-requires-clause-there c =
    can_read_type c.self.inside.tables c.self.invariant c.args.e c.in_ok-place.place (sym c.place_of.ensures.value ∙ c.in_ok-place.was) c.args.ty.0
    (ap (λ (f : FrozenState). is_lent f c.args.ty.0) c.self.view_is ∙ c.requires.held)

pub returns-in_err-elements : goal.returns-in_err-elements
returns-in_err-elements c =
    let w = c.self.inside.tables in
    let width = length (fields_at w.registry c.args.ty.0) in
    c.from_residual-in_err-elements.ensures
    ∙ sym (nothing (nat_lt c.args.field width) (λ (vs : List Value). slice_get vs (c.args.k * width + c.args.field)) _
    (lacks_buffer w c.self.invariant c.args.e c.args.ty.0 c.in_ok-place.place (sym c.place_of.ensures.value ∙ c.in_ok-place.was) c.in_err-elements.ensures))
    ∙ ap (λ (f : FrozenState). element_of f.state.world c.args.e c.args.ty.0 c.args.k c.args.field) c.self.view_is

pub returns-then-from-fields : goal.returns-then-from-fields
returns-then-from-fields c =
    let w = c.self.inside.tables in
    let width = length (fields_at w.registry c.args.ty.0) in
    let past : width ≤ c.args.field = (let few = c.if-from-fields.true in let from = c.from.ensures in let size = ap length c.fields.ensures.value in omega arith) in
    sym (ap (λ b. cond b (option_and_then (λ (vs : List Value). slice_get vs (c.args.k * width + c.args.field)) (buffer_of (state_of w).world c.args.e c.args.ty.0)) None) (le-ltb c.args.field width past))
    ∙ ap (λ (f : FrozenState). element_of f.state.world c.args.e c.args.ty.0 c.args.k c.args.field) c.self.view_is

pub returns-then-k-len : goal.returns-then-k-len
returns-then-k-len c =
    let w = c.self.inside.tables in
    let d = c.in_ok-elements.elements.now in
    let width = length (fields_at w.registry c.args.ty.0) in
    let below : c.args.field < width = (let more = c.if-from-fields.false in let from = c.from.ensures in let size = ap length c.fields.ensures.value in omega arith) in
    let few : count_of d ≤ c.args.k = subst (λ n. n ≤ c.args.k) c.len.ensures.value c.if-k-len.true in
    sym (ap (λ o. cond (nat_lt c.args.field width) o None)
    (past_buffer w c.self.invariant c.args.e c.args.ty.0 c.in_ok-place.place (sym c.place_of.ensures.value ∙ c.in_ok-place.was)
    (ap (λ (f : FrozenState). is_lent f c.args.ty.0) c.self.view_is ∙ c.requires.held) (ap (λ (f : FrozenState). is_buffer_at f.state.world.registry c.args.ty.0) c.self.view_is ∙ c.requires.buffer)
    d c.in_ok-elements.ensures c.args.k c.args.field below few)
    ∙ same (nat_lt c.args.field width))
    ∙ ap (λ (f : FrozenState). element_of f.state.world c.args.e c.args.ty.0 c.args.k c.args.field) c.self.view_is
  where
    same : (b : Bool) → (let o : Option Value = cond b None None in o) ≡ None
    same true = refl
    same false = refl

pub value-requires-clause-field : goal.value-requires-clause-field
value-requires-clause-field c =
    let w = c.self.inside.tables in
    let d = c.in_ok-elements.elements.now in
    let got = has_buffer w c.self.invariant c.args.e c.args.ty.0 c.in_ok-place.place (sym c.place_of.ensures.value ∙ c.in_ok-place.was) d c.in_ok-elements.ensures in
    let more = c.if-from-fields.false in
    let from = c.from.ensures in
    let size = ap length c.fields.ensures.value in
    let width = got.0 in
    omega arith

pub returns : goal.returns
returns c =
    let w = c.self.inside.tables in
    let d = c.in_ok-elements.elements.now in
    let width = length (fields_at w.registry c.args.ty.0) in
    let got = has_buffer w c.self.invariant c.args.e c.args.ty.0 c.in_ok-place.place (sym c.place_of.ensures.value ∙ c.in_ok-place.was) d c.in_ok-elements.ensures in
    let below : c.args.field < width = (let more = c.if-from-fields.false in let from = c.from.ensures in let size = ap length c.fields.ensures.value in omega arith) in
    sym c.value.ensures
    ∙ ap (λ n. slice_get d.values (c.args.k * n + c.args.field)) got.0
    ∙ sym (ap₂ (λ (b : Bool) (o : Option (List Value)). cond b (option_and_then (λ (vs : List Value). slice_get vs (c.args.k * width + c.args.field)) o) None) (lt-ltb c.args.field width below) got.1)
    ∙ ap (λ (f : FrozenState). element_of f.state.world c.args.e c.args.ty.0 c.args.k c.args.field) c.self.view_is
