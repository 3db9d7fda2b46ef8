use Rattle.std.proofs.Common.{◌≡◌, [], ◌∷◌, ◌++◌, refl, ◌∙◌, subst, arith}
use Rattle.std.proofs.lemmas.List.{nil_from_length}
use Rattle.archetype_store.specs.Attached.{EndsHollow}
use Rattle.archetype_store.proofs.Attached.{last-gone, last-roomy, none-added}
use Rattle.archetype_store.proofs.store.ArchetypeStore.remove_last.Goals as goal

pub loop-number-init : goal.loop-number-init
loop-number-init c = (refl, (refl, (c.is_sound.ensures, λ old ends. ends)))

pub remove_block-requires : goal.remove_block-requires
remove_block-requires c =
    let ends : EndsHollow (c.pop.new.self.items ++ c.in-Some.number ∷ []) c.requires.old c.loop-number.self =
    subst (λ ns. EndsHollow ns c.requires.old c.loop-number.self) c.in-Some.ensures.items (c.loop-number.invariant.1.1.1 c.requires.old c.requires.ends) in
    last-roomy c.pop.new.self.items c.in-Some.number c.requires.old c.loop-number.self c.loop-number.invariant.1.1.0.numbers ends

pub loop-number-preserved : goal.loop-number-preserved
loop-number-preserved c = (
  c.remove_block.ensures.registry ∙ c.loop-number.invariant.0,
  (
    c.remove_block.ensures.archetypes ∙ c.loop-number.invariant.1.0,
    (
      c.is_sound-in-Some.ensures,
      λ old ends.
          let left : EndsHollow (c.pop.new.self.items ++ c.in-Some.number ∷ []) old c.loop-number.self =
          subst (λ ns. EndsHollow ns old c.loop-number.self) c.in-Some.ensures.items (c.loop-number.invariant.1.1.1 old ends) in
          last-gone c.pop.new.self.items c.in-Some.number old c.loop-number.self c.loop-number.invariant.1.1.0.numbers left c.remove_block.new.self c.remove_block.ensures.archetypes c.remove_block.ensures.blocks,
    ),
  ),
)

pub returns-clause-registry : goal.returns-clause-registry
returns-clause-registry c = c.loop-number.invariant.0

pub returns-clause-archetypes : goal.returns-clause-archetypes
returns-clause-archetypes c = c.loop-number.invariant.1.0

pub returns-clause-blocks : goal.returns-clause-blocks
returns-clause-blocks c old ends =
    let none : c.loop-number.left.items ≡ [] = nil_from_length c.loop-number.left.items (omega (arith, c.in_default.ensures.cases.0, c.loop-number.left.ok.0)) in
    none-added old c.loop-number.self (subst (λ ns. EndsHollow ns old c.loop-number.self) none (c.loop-number.invariant.1.1.1 old ends))
