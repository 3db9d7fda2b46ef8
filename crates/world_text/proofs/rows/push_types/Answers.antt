use Rattle.std.proofs.Common.{◌≡◌, ◌++◌, ◌∙◌, inl, inr, ap, refl, sym, subst, List, ℕ}
use Rattle.std.specs.List.{flat_map}
use Rattle.std.proofs.lemmas.List.{append-nil, append_assoc}
use Rattle.world_model.specs.Members.{In}
use Rattle.world_places.proofs.Numbers.{of_more, of_both}
use Rattle.world_rows.specs.Reading.{found_at}
use Rattle.world_text.specs.Lines.{type_text}
use Rattle.world_text.proofs.rows.push_types.Goals as goal

pub loop-ty-init : goal.loop-ty-init
loop-ty-init c =
    let is : c.into_iter-ty-iterator.result ≡ c.args.types.now = c.into_iter-ty-iterator.ensures.into_iter_gives ∙ c.iter-ty-items.ensures.value in
    of_more c.args.place.block _ _ c.args.store.now.blocks
    (λ b can. (ap (λ ts. c.args.line.now.items ++ flat_map (type_text c.args.registry.now (found_at c.args.place.row b)) ts) (is ∙ can.1), (can.0, λ t i. subst (In t) (is ∙ can.1) i)))
    c.requires

pub push_type-requires : goal.push_type-requires
push_type-requires c =
    of_more c.args.place.block _ _ c.args.store.now.blocks (λ b is. (is.1.0, is.1.1 c.in-Some.ty.0 (subst (In c.in-Some.ty.0) (sym c.in-Some.ensures.steps) (inl refl)))) c.loop-ty.invariant

pub loop-ty-preserved : goal.loop-ty-preserved
loop-ty-preserved c =
    of_both c.args.place.block _ _ _ c.args.store.now.blocks
    (λ b is pushed. (
      ap (λ (items : List ℕ). items ++ flat_map (type_text c.args.registry.now (found_at c.args.place.row b)) c.next.new.self) pushed
          ∙ append_assoc c.loop-ty.line.items (type_text c.args.registry.now (found_at c.args.place.row b) c.in-Some.ty.0) (flat_map (type_text c.args.registry.now (found_at c.args.place.row b)) c.next.new.self)
          ∙ ap (λ ts. c.loop-ty.line.items ++ flat_map (type_text c.args.registry.now (found_at c.args.place.row b)) ts) (sym c.in-Some.ensures.steps)
          ∙ is.0,
      (is.1.0, λ t i. is.1.1 t (subst (In t) (sym c.in-Some.ensures.steps) (inr i))),
    ))
    c.loop-ty.invariant c.in_ok-push_type.ensures

pub returns : goal.returns
returns c =
    of_more c.args.place.block _ _ c.args.store.now.blocks
    (λ b is.
    sym (append-nil c.loop-ty.line.items)
    ∙ ap (λ ts. c.loop-ty.line.items ++ flat_map (type_text c.args.registry.now (found_at c.args.place.row b)) ts) (sym c.in-None.ensures.steps.0)
    ∙ is.0)
    c.loop-ty.invariant
