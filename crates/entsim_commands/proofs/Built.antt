-- A scenario of a form that is built is a simple one: its run has no command buffers and no scenes.
use Rattle.std.proofs.Common.{◌≡◌, List, [], ◌∷◌, Bool, true, not, length, eqb, inl, inr, ap, ◌∙◌, refl, arith}
use Rattle.std.specs.List.{list_all}
use Rattle.std.proofs.lemmas.Bool.{and_parts, eqb-true}
use Rattle.world_model.specs.Members.{In}
use Rattle.scenario_record.specs.declared.record.EventAct.{EventAct}
use Rattle.scenario_record.specs.declared.record.EventAct.TheVariants.{Operate, Load, Unload}
use Rattle.scenario_record.specs.declared.record.EventEntry.{EventEntry}
use Rattle.scenario_record.specs.declared.record.Scenario.{Scenario}
use Rattle.scenario_check.specs.Built.{is_built, is_built_act, is_built_system}
use Rattle.frame_run.specs.Simple.{IsOperation, IsSimple}

passes : {A : Type 0} (p : A → Bool) (x : A) (xs : List A) → list_all p xs ≡ true → In x xs → p x ≡ true
passes p x [] all i = absurd i
passes p x (y ∷ ys) all (inl e) = ap p e ∙ (and_parts (p y) (list_all p ys) all).0
passes p x (y ∷ ys) all (inr i) = passes p x ys (and_parts (p y) (list_all p ys) all).1 i

none_left : {A : Type 0} (xs : List A) → eqb (length xs) 0 ≡ true → xs ≡ []
none_left [] is = refl
none_left (x ∷ xs) is = let none : length (x ∷ xs) ≡ 0 = eqb-true _ _ is in absurd (omega (arith, none))

operates : (act : EventAct) → is_built_act act ≡ true → IsOperation act
operates (Operate c) is = tt
operates (Load file label delay) is = absurd cc
operates (Unload label) is = absurd cc

pub built_is_simple : (s : Scenario) → is_built s ≡ true → IsSimple s
unfolding is_built
built_is_simple s built =
    let rest = (and_parts (not s.unbuilt) _ built).1 in
    let (systems, events) = and_parts (list_all is_built_system s.system) (list_all (λ (e : EventEntry). is_built_act e.act) s.event) rest in
    record {
      commands = λ y i. none_left y.command (passes is_built_system y s.system systems i);
      events = λ e i. operates e.act (passes (λ (x : EventEntry). is_built_act x.act) e s.event events i);
    }
