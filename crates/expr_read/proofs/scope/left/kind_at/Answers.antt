use Rattle.std.proofs.Common.{ℕ, zero, suc, ◌≡◌, ◌<◌, ◌≤◌, List, [], ◌∷◌, Some, None, length, map, get_or, refl, ap, ◌∙◌, arith}
use Rattle.ent_types.specs.declared.type_info.FieldInfo.{FieldInfo}
use Rattle.ent_types.specs.Types.{is_ref}
use Rattle.expr_grammar.specs.Machine.{kind_at}
use Rattle.expr_read.proofs.scope.left.kind_at.Goals as goal

none_at : (fields : List FieldInfo) (at : ℕ) → length fields ≤ at → None ≡ kind_at (map is_ref fields) at
none_at [] zero past = refl
none_at [] (suc at) past = refl
none_at (f ∷ fields) zero past = absurd (omega arith)
none_at (f ∷ fields) (suc at) past = none_at fields at (omega arith)

some_at : (fields : List FieldInfo) (at : ℕ) (f : FieldInfo) → at < length fields → f ≡ get_or fields at f → Some (is_ref f) ≡ kind_at (map is_ref fields) at
some_at [] at f within is = absurd (omega arith)
some_at (x ∷ fields) zero f within is = ap (λ y. Some (is_ref y)) is
some_at (x ∷ fields) (suc at) f within is = some_at fields at f (omega arith) is

pub returns-in-None-clause-value : goal.returns-in-None-clause-value
returns-in-None-clause-value c = none_at c.args.fields.now c.args.at c.in-None.ensures.lookup.3

pub returns-in-Some-clause-value : goal.returns-in-Some-clause-value
returns-in-Some-clause-value c =
    ap Some c.is_ref.ensures ∙ some_at c.args.fields.now c.args.at c.in-Some.field.now c.in-Some.ensures.lookup.3.0 c.in-Some.ensures.lookup.1
