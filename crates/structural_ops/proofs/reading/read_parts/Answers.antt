use Rattle.std.proofs.Common.{◌≡◌, ◌++◌, ◌∷◌, [], ◌∙◌, inl, inr, ap, refl, sym, subst, map, List}
use Rattle.std.proofs.lemmas.List.{append-nil, append_assoc, map-append}
use Rattle.ent_types.specs.declared.value.Value.{Value}
use Rattle.world_model.specs.Members.{In}
use Rattle.world_model.specs.Part.{PartOf, part_of as seen}
use Rattle.world_places.proofs.Numbers.{of_more, of_both}
use Rattle.world_rows.specs.Reading.{found_at, parts_in}
use Rattle.world_rows.specs.Rows.{part_in}
use Rattle.structural_ops.proofs.reading.read_parts.Goals as goal

pub loop-ty-init : goal.loop-ty-init
loop-ty-init c =
    let is : c.into_iter-ty-iterator.result ≡ c.args.types.now = c.into_iter-ty-iterator.ensures.into_iter_gives ∙ c.iter-ty-items.ensures.value in
    of_more c.args.place.block _ _ c.args.store.now.blocks
    (λ b can. (ap (λ ts. map seen c.args.parts.now.items ++ parts_in c.args.place.row b ts) is, (can.0, λ t i. can.1 t (subst (In t) is i))))
    c.requires

pub read_part-requires : goal.read_part-requires
read_part-requires c =
    of_more c.args.place.block _ _ c.args.store.now.blocks (λ b is. (is.1.0, is.1.1 c.in-Some.ty.0 (subst (In c.in-Some.ty.0) (sym c.in-Some.ensures.steps) (inl refl)))) c.loop-ty.invariant

pub loop-ty-preserved : goal.loop-ty-preserved
loop-ty-preserved c =
    of_both c.args.place.block _ _ _ c.args.store.now.blocks
    (λ b is read. (
      ap (λ (ps : List (PartOf Value)). ps ++ parts_in c.args.place.row b c.next.new.self)
          (ap (map seen) c.in_ok-push.ensures.items ∙ map-append seen c.loop-ty.parts.items (c.in_ok-part.part ∷ []) ∙ ap (λ p. map seen c.loop-ty.parts.items ++ p ∷ []) read)
          ∙ append_assoc (map seen c.loop-ty.parts.items) (part_in (found_at c.args.place.row b) c.in-Some.ty.0 ∷ []) (parts_in c.args.place.row b c.next.new.self)
          ∙ ap (λ ts. map seen c.loop-ty.parts.items ++ parts_in c.args.place.row b ts) (sym c.in-Some.ensures.steps)
          ∙ is.0,
      (is.1.0, λ t i. is.1.1 t (subst (In t) (sym c.in-Some.ensures.steps) (inr i))),
    ))
    c.loop-ty.invariant c.in_ok-part.ensures

pub returns : goal.returns
returns c =
    of_more c.args.place.block _ _ c.args.store.now.blocks
    (λ b is.
    sym (append-nil (map seen c.loop-ty.parts.items)) ∙ ap (λ ts. map seen c.loop-ty.parts.items ++ parts_in c.args.place.row b ts) (sym c.in-None.ensures.steps.0) ∙ is.0)
    c.loop-ty.invariant
