use Rattle.std.proofs.Common.{◌≡◌, ◌+◌, ◌<◌, ◌++◌, ◌∷◌, [], ◌∙◌, arith, ap, drop, get_or, length, subst, sym, List}
use Rattle.ent_types.specs.declared.kinds.FieldKind.TheVariants.{I32}
use Rattle.ent_types.specs.declared.value.Value.{Value}
use Rattle.ent_types.specs.TypeLookups.{fields_at}
use Rattle.expr_trees.specs.declared.tree.ValueExpr.{ValueExpr}
use Rattle.run_model.specs.Job.{no_row}
use Rattle.run_laws.specs.Suits.{AreOfKinds, IsOfKind}
use Rattle.world_spawns.specs.Parts.{value_for}
use Rattle.world_spawns.proofs.Given.{as_many, in_at, kind_there, left_at, one_given, values_from}
use Rattle.world_spawns.proofs.no_row.NoRow.part.Goals as goal

pub value-requires-clause-kind : goal.value-requires-clause-kind
value-requires-clause-kind c =
    let text = c.text-item.result in
    let fields = fields_at c.args.registry.now c.args.from.now.ty.0 in
    let kinds : AreOfKinds fields c.as_slice-text-items.result.now = subst (AreOfKinds fields) (sym c.as_slice-text-items.ensures) c.requires.suits.values in
    subst (λ (v : ValueExpr). IsOfKind c.field_kind-kind.result v) (sym c.text-item.is)
    (subst (λ kind. IsOfKind kind (get_or c.as_slice-text-items.result.now c.loop-at.at text)) (sym c.field_kind-kind.ensures)
    (kind_there (record { name = []; kind = I32 }) text fields c.as_slice-text-items.result.now kinds c.loop-at.at c.loop-at-test.true))

pub value-requires-clause-reads : goal.value-requires-clause-reads
value-requires-clause-reads c =
    c.requires.reads c.text-item.result
    (in_at c.args.from.now.values c.loop-at.at c.text-item.result (subst (λ (vs : List ValueExpr). c.loop-at.at < length vs) c.as_slice-text-items.ensures c.loop-at-test.true)
    (subst (λ (vs : List ValueExpr). c.text-item.result ≡ get_or vs c.loop-at.at c.text-item.result) c.as_slice-text-items.ensures c.text-item.is))

pub loop-at-preserved : goal.loop-at-preserved
loop-at-preserved c =
    let registry = c.args.registry.now in
    let own = no_row c.args.self.now.n c.args.self.now.frame in
    let t = c.args.from.now.ty.0 in
    let at = c.loop-at.at in
    let items = c.as_slice-text-items.result.now in
    let text = c.text-item.result in
    let below : at < length (fields_at registry t) =
    (let many = as_many (fields_at registry t) c.args.from.now.values c.requires.suits.values in let same = ap length c.as_slice-text-items.ensures in let test = c.loop-at-test.true in omega arith) in
    ap (λ (vs : List Value). vs ++ values_from registry own t (at + 1) (drop (at + 1) items))
    (c.in_ok-push.ensures.ok ∙ ap (λ (v : Value). c.loop-at.values ++ v ∷ []) (c.value.ensures ∙ ap (λ kind. value_for own kind text) c.field_kind-kind.ensures))
    ∙ one_given registry own t at text (drop (at + 1) items) c.loop-at.values below
    ∙ ap (λ (vs : List ValueExpr). c.loop-at.values ++ values_from registry own t at vs) (sym (left_at items at text c.loop-at-test.true c.text-item.is))
    ∙ c.loop-at.invariant
