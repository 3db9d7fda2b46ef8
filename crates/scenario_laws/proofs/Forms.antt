-- What a scenario of a form that is run has: no system records a command, and each event is a structural change.
use Rattle.std.proofs.Common.{◌≡◌, List, [], ◌∷◌, true, not, length, eqb, refl, arith}
use Rattle.std.specs.List.{list_all}
use Rattle.std.proofs.lemmas.Bool.{and_parts, eqb-true}
use Rattle.world_model.specs.Members.{In}
use Rattle.expr_trees.specs.declared.tree.CommandText.{CommandText}
use Rattle.scenario_record.specs.declared.record.Scenario.{Scenario}
use Rattle.scenario_record.specs.declared.record.SystemEntry.{SystemEntry}
use Rattle.scenario_record.specs.declared.record.EventEntry.{EventEntry}
use Rattle.scenario_record.specs.declared.record.EventAct.{EventAct}
use Rattle.scenario_record.specs.declared.record.EventAct.TheVariants.{Operate, Load, Unload}
use Rattle.scenario_check.specs.Built.{is_built_system, is_built_act, is_built}
use Rattle.scenario_laws.proofs.Members.{passes}

none_left : {A : Type 0} (xs : List A) → eqb (length xs) 0 ≡ true → xs ≡ []
none_left [] is = refl
none_left (x ∷ xs) is = let none = eqb-true (length (x ∷ xs)) 0 is in absurd (omega (arith, none))

change_of : (act : EventAct) → is_built_act act ≡ true → (c : CommandText) × (act ≡ Operate c)
change_of (Operate c) is = (c, refl)
change_of (Load file label delay) is = absurd cc
change_of (Unload label) is = absurd cc

parts_of : (s : Scenario) → is_built s ≡ true → (list_all is_built_system s.system ≡ true) × (list_all (λ (e : EventEntry). is_built_act e.act) s.event ≡ true)
unfolding is_built
parts_of s built = and_parts (list_all is_built_system s.system) _ (and_parts (not s.unbuilt) _ built).1

pub has_no_command : (s : Scenario) → is_built s ≡ true → (y : SystemEntry) → In y s.system → y.command ≡ []
has_no_command s built y here = none_left y.command (passes is_built_system y s.system (parts_of s built).0 here)

pub is_a_change : (s : Scenario) → is_built s ≡ true → (e : EventEntry) → In e s.event → (c : CommandText) × (e.act ≡ Operate c)
is_a_change s built e here = change_of e.act (passes (λ (x : EventEntry). is_built_act x.act) e s.event (parts_of s built).1 here)
