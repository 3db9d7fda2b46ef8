use Rattle.std.proofs.Common.{◌≡◌, ◌+◌, ◌++◌, ◌<◌, ◌∙◌, ℕ, List, ◌∷◌, arith, inl, inr, refl, sym, ap, subst, get_or, drop, length, zip}
use Rattle.std.specs.List.{flat_map}
use Rattle.std.proofs.lemmas.List.{drop_more}
use Rattle.world_model.specs.Members.{In}
use Rattle.world_text.specs.Layout.{column_text}
use Rattle.world_text.proofs.Listing.{one_column}
use Rattle.world_text.proofs.layout.push_columns.Goals as goal

pub loop-ty-init : goal.loop-ty-init
loop-ty-init c =
    let is : c.into_iter-ty-iterator.result ≡ c.args.types.now = c.into_iter-ty-iterator.ensures.into_iter_gives ∙ c.iter-ty-items.ensures.value in
    record {
      text = ap (λ ts. c.args.line.now.items ++ flat_map (column_text c.args.registry.now) (zip ts c.args.places.now)) is;
      known = λ t i. c.requires.known t (subst (In t) is i);
      count = (let same : length c.into_iter-ty-iterator.result ≡ length c.args.types.now = ap length is in let places = c.requires.places in omega arith);
    }

pub push_column-requires : goal.push_column-requires
push_column-requires c = c.loop-ty.invariant.known c.in-Some.ty.0 (subst (In c.in-Some.ty.0) (sym c.in-Some.ensures.steps) (inl refl))

pub loop-ty-preserved : goal.loop-ty-preserved
loop-ty-preserved c =
    let registry = c.args.registry.now in
    let places = c.args.places.now in
    let at = c.loop-ty.at in
    let steps = c.in-Some.ensures.steps in
    let below : at < length places = (let count = c.loop-ty.invariant.count in let more = ap length steps in omega arith) in
    record {
      text = one_column registry c.in-Some.ty.0 c.next.new.self (get_or places at 0) (drop (at + 1) places) c.loop-ty.line.items c.push_column.new.line.items c.in_ok-push_column.ensures
          ∙ ap (λ (ps : List ℕ). c.loop-ty.line.items ++ flat_map (column_text registry) (zip (c.in-Some.ty.0 ∷ c.next.new.self) ps)) (sym (drop_more places at 0 below))
          ∙ ap (λ (ts : List ℕ). c.loop-ty.line.items ++ flat_map (column_text registry) (zip ts (drop at places))) (sym steps)
          ∙ c.loop-ty.invariant.text;
      known = λ t i. c.loop-ty.invariant.known t (subst (In t) (sym steps) (inr i));
      count = (let count = c.loop-ty.invariant.count in let more = ap length steps in omega arith);
    }
