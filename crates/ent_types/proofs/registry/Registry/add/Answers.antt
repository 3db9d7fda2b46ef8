use Rattle.std.proofs.Common.{arith, sym, ◌∙◌}
use Rattle.std.proofs.lemmas.Result.{err_from_is_err_and}
use Rattle.ent_types.proofs.RefusalLemmas.{too_wide, duplicate, is_new, too_many, none_due}
use Rattle.ent_types.proofs.RegistryLemmas.{is_some-type_named, IsLawfulRegistry-push, type_names-push}
use Rattle.ent_types.proofs.registry.Registry.add.Goals as goal

pub returns-then-len-gt-MOST_FIELDS-clause-answer : goal.returns-then-len-gt-MOST_FIELDS-clause-answer
returns-then-len-gt-MOST_FIELDS-clause-answer c = too_wide c.args.self.now c.args.info (omega arith)

pub returns-then-is_some-clause-answer : goal.returns-then-is_some-clause-answer
returns-then-is_some-clause-answer c =
    duplicate c.args.self.now c.args.info c.find.result c.find.ensures.place (omega arith) c.if-is_some.ensures

pub returns-then-number-ge-MOST_TYPES-clause-answer : goal.returns-then-number-ge-MOST_TYPES-clause-answer
returns-then-number-ge-MOST_TYPES-clause-answer c =
    too_many c.args.self.now c.args.info c.find.result c.find.ensures.place (omega arith) c.if-is_some.ensures (rw (← c.self.view_is) (omega arith))

pub push-requires : goal.push-requires
push-requires c =
    sym (is_some-type_named c.self.inside.types.items c.self.inside.names.keys c.args.info.name c.self.invariant.1)
    ∙ is_new c.args.self.now c.args.info c.find.result c.find.ensures.place (omega arith) c.self.inside.types.items c.self.view_is c.if-is_some.ensures

pub returns-in_err-push-clause-answer : goal.returns-in_err-push-clause-answer
returns-in_err-push-clause-answer c =
    let p = err_from_is_err_and c.from_residual.result c.from_residual.ensures.1 in
    rw
    (p.1, p.2)
    (none_due c.args.self.now c.args.info c.find.result c.find.ensures.place (omega arith) c.if-is_some.ensures (rw (← c.self.view_is) (omega arith)))

pub invariant_of-self-2 : goal.invariant_of-self-2
invariant_of-self-2 c =
    rw
    (c.in_ok-push.ensures.types, c.in_ok-push.ensures.names) (
      IsLawfulRegistry-push c.self.inside.types.items c.self.invariant.0 c.args.info c.requires (omega arith)
          (is_new c.args.self.now c.args.info c.find.result c.find.ensures.place (omega arith) c.self.inside.types.items c.self.view_is c.if-is_some.ensures) (omega arith),
      type_names-push c.self.inside.types.items c.self.inside.names.keys c.args.info c.self.invariant.1,
    )

pub returns-clause-answer : goal.returns-clause-answer
returns-clause-answer c = (none_due c.args.self.now c.args.info c.find.result c.find.ensures.place (omega arith) c.if-is_some.ensures (rw (← c.self.view_is) (omega arith)), rw (← c.self.view_is) (omega arith))
