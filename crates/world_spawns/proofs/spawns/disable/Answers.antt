use Rattle.std.proofs.Common.{◌≡◌, ◌∙◌, ℕ, List, ap, inl, inr, refl, subst, sym}
use Rattle.std.specs.Prelude.{fold}
use Rattle.ent_types.specs.declared.type_info.TypeInfo.{TypeInfo}
use Rattle.world_model.specs.Fits.{IsKnown}
use Rattle.world_model.specs.Members.{In}
use Rattle.world_model.specs.Scenes.{switched_off}
use Rattle.world_model.specs.World.{World, capacity}
use Rattle.world_spawns.proofs.Made.{off_is, registry_off}
use Rattle.world_spawns.proofs.spawns.disable.Goals as goal

pub loop-ty-init : goal.loop-ty-init
loop-ty-init c =
    let w = c.args.world.now.world in
    let is : c.into_iter-ty-iterator.result ≡ c.args.types.now = c.into_iter-ty-iterator.ensures.into_iter_gives ∙ c.iter-ty-items.ensures.value in
    record {
      world = ap (λ (ts : List ℕ). fold (switched_off (capacity w.registry) c.args.e) w ts) is;
      registry = refl;
      known = λ t i. c.requires t (subst (In t) is i);
    }

pub set_enabled-requires : goal.set_enabled-requires
set_enabled-requires c =
    subst (λ (r : List TypeInfo). IsKnown r c.in-Some.ty.0) (sym c.loop-ty.invariant.registry)
    (c.loop-ty.invariant.known c.in-Some.ty.0 (subst (In c.in-Some.ty.0) (sym c.in-Some.ensures.steps) (inl refl)))

pub loop-ty-preserved : goal.loop-ty-preserved
loop-ty-preserved c =
    let first = c.args.world.now.world.registry in
    let e = c.args.e in
    let t = c.in-Some.ty.0 in
    let mid = c.loop-ty.world.world in
    let off : c.set_enabled.new.self.world ≡ switched_off (capacity first) e mid t =
    off_is c.loop-ty.world c.set_enabled.new.self e t c.set_enabled.result c.set_enabled.ensures ∙ ap (λ (r : List TypeInfo). switched_off (capacity r) e mid t) c.loop-ty.invariant.registry in
    record {
      world = ap (λ (w : World). fold (switched_off (capacity first) e) w c.next.new.self) off
          ∙ ap (λ (ts : List ℕ). fold (switched_off (capacity first) e) mid ts) (sym c.in-Some.ensures.steps)
          ∙ c.loop-ty.invariant.world;
      registry = ap (λ (w : World). w.registry) off ∙ registry_off (capacity first) e mid t ∙ c.loop-ty.invariant.registry;
      known = λ u i. c.loop-ty.invariant.known u (subst (In u) (sym c.in-Some.ensures.steps) (inr i));
    }
