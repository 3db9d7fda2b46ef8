-- Worked cases, each by computing. A definition that is changed by mistake breaks one of them.
use Rattle.std.proofs.Common.{◌≡◌, ℕ, ℤ, pos, negsuc, Bool, true, false, List, [], ◌∷◌, map, Some, None, refl}
use Rattle.ent_types.specs.declared.entity.Entity.{Entity}
use Rattle.ent_types.specs.declared.kinds.Kind.TheVariants.{Plain, Tag, Shared}
use Rattle.ent_types.specs.declared.kinds.FieldKind.TheVariants.{I32, I64, Ref as RefKind}
use Rattle.ent_types.specs.declared.point.Point.{Point}
use Rattle.ent_types.specs.declared.point.Point.TheVariants.{BeginSimulation, EndSimulation}
use Rattle.ent_types.specs.declared.skip.Skip.TheVariants.{NoEntity}
use Rattle.ent_types.specs.declared.type_info.TypeInfo.{TypeInfo}
use Rattle.ent_types.specs.declared.value.Part.{Part}
use Rattle.ent_types.specs.declared.value.Value.{Value}
use Rattle.ent_types.specs.declared.value.Value.TheVariants.{Int, Ref}
use Rattle.ent_types.specs.Fitting.{null_entity}
use Rattle.world_model.specs.Part.{PartOf}
use Rattle.world_model.specs.Row.{Cell, Row}
use Rattle.world_model.specs.World.{Block, World}
use Rattle.world_model.specs.Found.{Found, placed}
use Rattle.world_model.specs.Enter.{enter}
use Rattle.world_model.specs.Leave.{leave}
use Rattle.world_model.specs.Write.{rewrite}
use Rattle.world_model.specs.Operations.{Destroy, Set, operate}
use Rattle.expr_eval.specs.Values.{value, value_step}
use Rattle.expr_trees.specs.declared.tree.Assign.{Assign}
use Rattle.expr_trees.specs.declared.tree.CommandText.{CommandText}
use Rattle.expr_trees.specs.declared.tree.CommandText.TheVariants as texts
use Rattle.expr_trees.specs.declared.tree.Expr.{Expr}
use Rattle.expr_trees.specs.declared.tree.Expr.TheOpen.{Expr-F}
use Rattle.expr_trees.specs.declared.tree.Expr.TheFolds.{fold-roll-Expr}
use Rattle.expr_trees.specs.declared.tree.Expr.TheViews.{roll-Expr}
use Rattle.scenario_record.specs.declared.record.CommandEntry.{CommandEntry}
use Rattle.expr_trees.specs.declared.tree.RefExpr.TheVariants as refs
use Rattle.expr_trees.specs.declared.tree.ValueExpr.TheVariants as values
use Rattle.scenario_record.specs.declared.record.SystemEntry.{SystemEntry}
use Rattle.run_model.specs.declared.lines.NoteLine.TheVariants.{CommandSkip, Unplayed, KeyShared, SceneArrived, SceneAbsent, Unloaded as UnloadedLine, UnloadCancelled, UnloadNone, ScenePending}
use Rattle.run_model.specs.Clock.{moments}
use Rattle.run_model.specs.Query.{matches, passes, has_shared, is_visited}
use Rattle.run_model.specs.Commands.{Live, Placeholder, MadeBy, Change, Creates, ActsOn, Recorded, recorded_by}
use Rattle.run_model.specs.Run.{MatchedRow, Entry, matched, run}
use Rattle.run_model.specs.Buffers.{arranged, shared_key}
use Rattle.run_model.specs.Playback.{playback}
use Rattle.world_model.specs.Scenes.{built, moved}
use Rattle.run_model.specs.Job.{no_row}
use Rattle.run_model.specs.Loads.{Absent, Spelled, Load, LoadState, Requested, Arrived, Refused, Unloaded, SceneState, due_from, due_arrived, requested, unloaded, pending_lines}
use Rattle.run_model.specs.Tasks.{no_others, runs_in}
use Rattle.run_model.specs.Frames.{Buffer, State, Stops, Noted, buffers_of, after_point, after_system, end_of, Finished}
use Rattle.run_model.specs.Phases.{conflicts, phases}

-- ---- types: 0 Disabled, 1 Prefab, 2 SceneTag, 3 P(v:i32), 4 the enableable tag Act, 5 Link(to:ref), 6 the shared Team(id:i64)

abbrev pub registry : List TypeInfo
registry =
    record { name = []; kind = Tag; fields = []; enableable = false }
    ∷ record { name = []; kind = Tag; fields = []; enableable = false }
    ∷ record { name = []; kind = Shared; fields = record { name = []; kind = I64 } ∷ []; enableable = false }
    ∷ record { name = []; kind = Plain; fields = record { name = []; kind = I32 } ∷ []; enableable = false }
    ∷ record { name = []; kind = Tag; fields = []; enableable = true }
    ∷ record { name = []; kind = Plain; fields = record { name = []; kind = RefKind } ∷ []; enableable = false }
    ∷ record { name = []; kind = Shared; fields = record { name = []; kind = I64 } ∷ []; enableable = false }
    ∷ []

-- a system with these lists of types
abbrev pub asks : List ℕ → List ℕ → List ℕ → List ℕ → List ℕ → SystemEntry
asks all any none disabled absent = record {
  name = [];
  group = [];
  before = [];
  after = [];
  first = false;
  last = false;
  every = 1;
  all = all;
  any = any;
  none = none;
  disabled = disabled;
  absent = absent;
  include_disabled = false;
  include_prefab = false;
  changed = [];
  order_changed = false;
  shared = [];
  set = [];
  enable = [];
  command = [];
}

abbrev entity : ℕ → Entity
entity index = record { index = index; version = 1 }

abbrev cell : ℕ → List Value → Bool → Cell
cell t values off = record { type_id = t; values = values; off = off }

abbrev row : ℕ → List Cell → Row
row index cells = record { entity = entity index; cells = cells; dying = false }

-- a row of P and Act, which is disabled or not
abbrev with_act : Bool → Found
with_act off = record {
  home = record { types = 3 ∷ 4 ∷ []; shared = [] };
  row = row 0 (cell 3 (Int (pos 7) ∷ []) false ∷ cell 4 [] off ∷ []);
}

-- a row of a tag and P
abbrev with_tag : ℕ → Found
with_tag t = record { home = record { types = t ∷ 3 ∷ []; shared = [] }; row = row 0 (cell t [] false ∷ cell 3 (Int (pos 7) ∷ []) false ∷ []) }

-- ---- the five lists

all_wants_it_on : matches registry (asks (3 ∷ 4 ∷ []) [] [] [] []) (with_act true) ≡ false
all_wants_it_on = refl

all_takes_it_on : matches registry (asks (3 ∷ 4 ∷ []) [] [] [] []) (with_act false) ≡ true
all_takes_it_on = refl

all_passes_where_it_is_off : passes registry (asks (3 ∷ 4 ∷ []) [] [] [] []) (3 ∷ 4 ∷ []) ≡ true
all_passes_where_it_is_off = refl

any_wants_one_on : matches registry (asks [] (4 ∷ 5 ∷ []) [] [] []) (with_act true) ≡ false
any_wants_one_on = refl

any_takes_one_on : matches registry (asks [] (5 ∷ 4 ∷ []) [] [] []) (with_act false) ≡ true
any_takes_one_on = refl

none_passes_over_what_is_off : matches registry (asks (3 ∷ []) [] (4 ∷ []) [] []) (with_act true) ≡ true
none_passes_over_what_is_off = refl

none_refuses_what_is_on : matches registry (asks (3 ∷ []) [] (4 ∷ []) [] []) (with_act false) ≡ false
none_refuses_what_is_on = refl

none_passes_if_it_can_be_off : passes registry (asks (3 ∷ []) [] (4 ∷ []) [] []) (3 ∷ 4 ∷ []) ≡ true
none_passes_if_it_can_be_off = refl

none_of_a_plain_type_doesnt_pass : passes registry (asks (4 ∷ []) [] (3 ∷ []) [] []) (3 ∷ 4 ∷ []) ≡ false
none_of_a_plain_type_doesnt_pass = refl

disabled_wants_it_off : matches registry (asks (3 ∷ []) [] [] (4 ∷ []) []) (with_act true) ≡ true
disabled_wants_it_off = refl

disabled_refuses_what_is_on : matches registry (asks (3 ∷ []) [] [] (4 ∷ []) []) (with_act false) ≡ false
disabled_refuses_what_is_on = refl

absent_refuses_what_is_off : matches registry (asks (3 ∷ []) [] [] [] (4 ∷ [])) (with_act true) ≡ false
absent_refuses_what_is_off = refl

absent_doesnt_pass : passes registry (asks (3 ∷ []) [] [] [] (4 ∷ [])) (3 ∷ 4 ∷ []) ≡ false
absent_doesnt_pass = refl

-- ---- the two tags

disabled_rows_are_hidden : matches registry (asks (3 ∷ []) [] [] [] []) (with_tag 0) ≡ false
disabled_rows_are_hidden = refl

prefabs_are_hidden : passes registry (asks (3 ∷ []) [] [] [] []) (1 ∷ 3 ∷ []) ≡ false
prefabs_are_hidden = refl

included_rows_are_seen : matches registry (record (asks (3 ∷ []) [] [] [] []) { include_disabled = true }) (with_tag 0) ≡ true
included_rows_are_seen = refl

one_tag_doesnt_include_the_other : matches registry (record (asks (3 ∷ []) [] [] [] []) { include_disabled = true }) (with_tag 1) ≡ false
one_tag_doesnt_include_the_other = refl

a_tag_in_all_is_seen : matches registry (asks (1 ∷ 3 ∷ []) [] [] [] []) (with_tag 1) ≡ true
a_tag_in_all_is_seen = refl

a_tag_in_any_is_seen : matches registry (asks (3 ∷ []) (0 ∷ []) [] [] []) (with_tag 0) ≡ true
a_tag_in_any_is_seen = refl

-- ---- filters

abbrev team : ℕ → PartOf Value
team id = record { type_id = 6; values = Int (pos id) ∷ [] }

abbrev of_team : ℕ → SystemEntry
of_team id = record (asks (3 ∷ 6 ∷ []) [] [] [] []) { shared = (let p : Part = record { ty = record { 0 = 6 }; values = Int (pos id) ∷ [] } in p) ∷ [] }

the_team_is_asked_for : has_shared (of_team 2) (record { types = 3 ∷ 6 ∷ []; shared = team 2 ∷ [] }) ≡ true
the_team_is_asked_for = refl

another_team_isnt : has_shared (of_team 2) (record { types = 3 ∷ 6 ∷ []; shared = team 1 ∷ [] }) ≡ false
another_team_isnt = refl

-- a block of P with one row, where P was marked at a moment, and the order at another
abbrev marked_at : ℕ → ℕ → Block
marked_at moment order = record {
  home = record { types = 3 ∷ []; shared = [] };
  marks = record { type_id = 3; moment = moment } ∷ [];
  rows = row 0 (cell 3 (Int (pos 7) ∷ []) false ∷ []) ∷ [];
  order = order;
}

abbrev watches : SystemEntry
watches = record (asks (3 ∷ []) [] [] [] []) { changed = 3 ∷ [] }

never_run : is_visited registry (moments 1) watches None (marked_at 1 1) ≡ true
never_run = refl

marked_at_the_last_run : is_visited registry (moments 1) watches (Some 5) (marked_at 5 9) ≡ false
marked_at_the_last_run = refl

marked_after_the_last_run : is_visited registry (moments 1) watches (Some 5) (marked_at 6 1) ≡ true
marked_after_the_last_run = refl

order_after_the_last_run : is_visited registry (moments 1) (record (asks (3 ∷ []) [] [] [] []) { order_changed = true }) (Some 5) (marked_at 1 6) ≡ true
order_after_the_last_run = refl

no_filter_looks_at_no_mark : is_visited registry (moments 1) (asks (3 ∷ []) [] [] [] []) (Some 5) (marked_at 1 1) ≡ true
no_filter_looks_at_no_mark = refl

-- ---- a run: Link.to = self, on two rows of which one is hidden by an enableable tag

abbrev link : ℕ → Entity → Bool → Row
link index to off = row index (cell 4 [] off ∷ cell 5 (Ref to ∷ []) false ∷ [])

abbrev links : World
links = record {
  registry = registry;
  blocks = record {
    home = record { types = 4 ∷ 5 ∷ []; shared = [] };
    marks = record { type_id = 4; moment = 1 } ∷ record { type_id = 5; moment = 1 } ∷ [];
    rows = link 0 null_entity false ∷ link 1 null_entity true ∷ [];
    order = 1;
  } ∷ [];
  free = [];
  made = 2;
  first_entity_version = 1;
  moment = 4;
}

abbrev pub points_home : SystemEntry
points_home = record (asks (4 ∷ 5 ∷ []) [] [] [] []) {
  set = (let a : Assign = record { ty = record { 0 = 5 }; field = 0; value = values.Ref refs.Me } in a) ∷ [];
}

-- the row that matches is written, its type is marked with the moment of the run, and nothing else changes
a_run : run (moments 1) points_home None 1 links ≡ (record {
  world = record links {
    moment = 5;
    blocks = record {
      home = record { types = 4 ∷ 5 ∷ []; shared = [] };
      marks = record { type_id = 4; moment = 1 } ∷ record { type_id = 5; moment = 5 } ∷ [];
      rows = link 0 (entity 0) false ∷ link 1 null_entity true ∷ [];
      order = 1;
    } ∷ [];
  };
  visits = 1;
  passing = 1;
  entries = [];
})
unfolding run
a_run = refl

-- items are the visited blocks alone: the first block has no row that matches
items_are_visited_blocks : map {B = ℕ × ℕ} (λ (m : MatchedRow). (m.item, m.place)) (matched (moments 1) registry points_home None 0
    (record {
      home = record { types = 4 ∷ 5 ∷ []; shared = [] };
      marks = record { type_id = 4; moment = 1 } ∷ record { type_id = 5; moment = 1 } ∷ [];
      rows = link 2 null_entity true ∷ [];
      order = 1;
    } ∷ record {
      home = record { types = 4 ∷ 5 ∷ []; shared = [] };
      marks = record { type_id = 4; moment = 1 } ∷ record { type_id = 5; moment = 1 } ∷ [];
      rows = link 1 null_entity true ∷ link 0 null_entity false ∷ [];
      order = 1;
    } ∷ []))
    ≡ (0, 1) ∷ []
items_are_visited_blocks = refl

-- the moment of a run is kept as the last one of its system
the_last_run_is_kept : (after_system (moments 1) (λ types. 128) false 1 0 points_home (record { world = links; lasts = None ∷ None ∷ []; waiting = []; loads = []; lines = [] })).lasts
    ≡ Some 5 ∷ None ∷ []
unfolding run
the_last_run_is_kept = refl

-- ---- recording: the first command makes an entity, and the second one destroys it

abbrev number : ℤ → Expr
number z = roll-Expr (Expr-F.Number z)

is_number : (z : ℤ) → value (no_row 0 1) no_others (number z) ≡ z
is_number z = fold-roll-Expr ℤ (value_step (no_row 0 1) no_others) (Expr-F.Number z)

abbrev command : ℤ → CommandText → CommandEntry
command when act = record { buffer = EndSimulation; when = number when; key = number (pos 0); act = act }

abbrev numbers : List CommandEntry → List ℕ
numbers cs = map (λ (r : Recorded). r.number) (recorded_by registry (no_row 0 1) no_others cs)

both_are_recorded : numbers (command (pos 1) (texts.Create [] []) ∷ command (pos 1) (texts.Destroy (refs.Made 0)) ∷ []) ≡ 0 ∷ 1 ∷ []
both_are_recorded = rw (is_number (pos 1)) refl

nothing_without_its_maker : numbers (command (pos 0) (texts.Create [] []) ∷ command (pos 1) (texts.Destroy (refs.Made 0)) ∷ command (pos 1) (texts.Destroy refs.Null) ∷ []) ≡ 2 ∷ []
nothing_without_its_maker = rw (is_number (pos 0), is_number (pos 1)) refl

-- ---- buffers

abbrev entry : ℤ → ℕ → ℕ → ℕ → Entry
entry key item place number = record {
  item = item;
  place = place;
  command = record { key = key; point = EndSimulation; number = number; change = ActsOn (Live (entity 0)) Destroy };
}

in_playback_order : arranged (entry (pos 0) 0 0 0 ∷ entry (negsuc 1) 0 2 0 ∷ entry (pos 0) 0 0 1 ∷ entry (negsuc 0) 0 1 0 ∷ entry (pos 0) 1 0 0 ∷ entry (pos 0) 0 3 0 ∷ [])
    ≡ (entry (negsuc 1) 0 2 0 ∷ entry (negsuc 0) 0 1 0 ∷ entry (pos 0) 0 0 0 ∷ entry (pos 0) 0 0 1 ∷ entry (pos 0) 0 3 0 ∷ entry (pos 0) 1 0 0 ∷ [])
unfolding arranged
in_playback_order = refl

a_key_of_one_item_isnt_shared : shared_key (entry (pos 7) 0 0 0 ∷ entry (pos 7) 0 1 0 ∷ entry (pos 8) 1 0 0 ∷ []) ≡ None
unfolding shared_key
a_key_of_one_item_isnt_shared = refl

the_least_key_and_items : shared_key (entry (pos 9) 0 0 0 ∷ entry (pos 9) 1 0 0 ∷ entry (pos 7) 3 0 0 ∷ entry (pos 7) 2 0 0 ∷ entry (pos 7) 5 0 0 ∷ [])
    ≡ Some (record { key = pos 7; first_item = 2; second_item = 3 })
unfolding shared_key
the_least_key_and_items = refl

-- ---- playback: create n, set self Link(n), destroy n, destroy n

abbrev says : ℕ → Change → Entry
says number change = record { item = 0; place = 0; command = record { key = pos 0; point = EndSimulation; number = number; change = change } }

abbrev one_link : World
one_link = record {
  registry = registry;
  blocks = record {
    home = record { types = 5 ∷ []; shared = [] };
    marks = record { type_id = 5; moment = 1 } ∷ [];
    rows = row 0 (cell 5 (Ref null_entity ∷ []) false ∷ []) ∷ [];
    order = 1;
  } ∷ [];
  free = [];
  made = 1;
  first_entity_version = 1;
  moment = 7;
}

abbrev linked : Entity → World
linked to = record one_link {
  blocks = record {
    home = record { types = 5 ∷ []; shared = [] };
    marks = record { type_id = 5; moment = 7 } ∷ [];
    rows = row 0 (cell 5 (Ref to ∷ []) false ∷ []) ∷ [];
    order = 1;
  } ∷ [];
}

abbrev set_link : Entry
set_link = says 1 (ActsOn (Live (entity 0)) (Set (record { type_id = 5; values = MadeBy 0 ∷ [] })))

abbrev destroy_made : ℕ → Entry
destroy_made number = says number (ActsOn (Placeholder 0) Destroy)

placeholders_are_replaced : (playback (λ types. 128) one_link (says 0 (Creates []) ∷ set_link ∷ destroy_made 2 ∷ destroy_made 3 ∷ [])).world
    ≡ record (linked (entity 1)) { free = record { index = 1; version = 2 } ∷ []; made = 2 }
unfolding playback arranged operate enter leave rewrite
placeholders_are_replaced = refl

later_destroys_are_skipped : (playback (λ types. 128) one_link (says 0 (Creates []) ∷ set_link ∷ destroy_made 2 ∷ destroy_made 3 ∷ destroy_made 4 ∷ [])).notes
    ≡ record { entry = destroy_made 3; cause = NoEntity } ∷ record { entry = destroy_made 4; cause = NoEntity } ∷ []
unfolding playback arranged operate enter leave rewrite
later_destroys_are_skipped = refl

-- a target that wasn't made is skipped, and as a value it is null
what_wasnt_made : (playback (λ types. 128) (linked (entity 9)) (set_link ∷ destroy_made 2 ∷ [])).world ≡ linked null_entity
unfolding playback arranged operate enter leave rewrite
what_wasnt_made = refl

-- two rows that each make an entity, and later link to it

abbrev two_links : World
two_links = record one_link {
  blocks = record {
    home = record { types = 5 ∷ []; shared = [] };
    marks = record { type_id = 5; moment = 1 } ∷ [];
    rows = row 0 (cell 5 (Ref null_entity ∷ []) false ∷ []) ∷ row 1 (cell 5 (Ref null_entity ∷ []) false ∷ []) ∷ [];
    order = 1;
  } ∷ [];
  made = 2;
}

abbrev at_row : ℕ → ℕ → Change → Entry
at_row place number change = record { item = 0; place = place; command = record { key = pos number; point = EndSimulation; number = number; change = change } }

abbrev links_itself : ℕ → Entry
links_itself place = at_row place 1 (ActsOn (Live (entity place)) (Set (record { type_id = 5; values = MadeBy 0 ∷ [] })))

each_row_has_its_own : map (λ (x : Found). x.row.cells)
    (placed (playback (λ types. 128) two_links (at_row 1 0 (Creates []) ∷ links_itself 1 ∷ at_row 0 0 (Creates []) ∷ links_itself 0 ∷ [])).world.blocks)
    ≡ (cell 5 (Ref (entity 2) ∷ []) false ∷ []) ∷ (cell 5 (Ref (entity 3) ∷ []) false ∷ []) ∷ [] ∷ [] ∷ []
unfolding playback arranged operate enter leave rewrite
each_row_has_its_own = refl

-- ---- frames

every_second_frame : map (λ frame. runs_in frame (record (asks [] [] [] [] []) { every = 2 })) (1 ∷ 2 ∷ 3 ∷ []) ≡ true ∷ false ∷ true ∷ []
every_second_frame = refl

abbrev to_point : Point → ℕ → Entry
to_point point number = record { item = 0; place = 0; command = record { key = pos 0; point = point; number = number; change = ActsOn (Live (entity 9)) Destroy } }

-- one buffer for each point to which something goes, in the order of the points
two_buffers : map (λ (b : Buffer). b.entries) (buffers_of 0 (asks [] [] [] [] []) 1 (to_point EndSimulation 0 ∷ to_point BeginSimulation 1 ∷ to_point EndSimulation 2 ∷ []))
    ≡ (to_point BeginSimulation 1 ∷ []) ∷ (to_point EndSimulation 0 ∷ to_point EndSimulation 2 ∷ []) ∷ []
two_buffers = refl

abbrev waits : Point → List Entry → Buffer
waits point entries = record { system = 0; name = []; frame = 1; point = point; entries = entries }

abbrev waiting : List Buffer → State
waiting buffers = record { world = one_link; lasts = None ∷ []; waiting = buffers; loads = []; lines = [] }

-- a point plays its own buffers; what goes to another point stays and is unplayed at the end
unplayed_at_the_end : end_of (after_point (moments 1) (λ types. 128) false 3 EndSimulation
    (waiting (waits EndSimulation (to_point EndSimulation 4 ∷ []) ∷ waits BeginSimulation (to_point BeginSimulation 1 ∷ []) ∷ [])))
    ≡ Finished (Noted (CommandSkip 3 [] EndSimulation 0 0 4 NoEntity) ∷ Noted (Unplayed 1 [] BeginSimulation 1) ∷ []) (record one_link { moment = 8 })
unfolding playback arranged operate shared_key
unplayed_at_the_end = refl

-- a shared key ends the run, after the buffers before it
ends_at_a_shared_key : after_point (moments 1) (λ types. 128) false 2 EndSimulation
    (waiting (waits EndSimulation (to_point EndSimulation 4 ∷ []) ∷ waits EndSimulation (entry (pos 7) 0 0 0 ∷ entry (pos 7) 1 0 0 ∷ []) ∷ []))
    ≡ Stops (Noted (CommandSkip 2 [] EndSimulation 0 0 4 NoEntity) ∷ Noted (KeyShared 2 [] EndSimulation (pos 7) 0 1) ∷ [])
unfolding playback arranged operate shared_key
ends_at_a_shared_key = refl

-- ---- phases: one writes Link; one asks for the enableable tag Act; one asks for Link alone, which it neither reads nor names

what_is_only_asked_for_doesnt_conflict : conflicts registry points_home (asks (5 ∷ []) [] [] [] []) ≡ false
what_is_only_asked_for_doesnt_conflict = refl

two_writers_conflict : conflicts registry points_home points_home ≡ true
two_writers_conflict = refl

a_watcher_conflicts_with_the_writer : conflicts registry (record (asks (5 ∷ []) [] [] [] []) { changed = 5 ∷ [] }) points_home ≡ true
a_watcher_conflicts_with_the_writer = refl

phases_of_three : phases registry (points_home ∷ asks (5 ∷ []) [] [] [] [] ∷ points_home ∷ [])
    ≡ (points_home ∷ asks (5 ∷ []) [] [] [] [] ∷ []) ∷ (points_home ∷ []) ∷ []
phases_of_three = refl

-- ---- scenes: the load A is due in frame 2, B arrived, C was refused

abbrev load : ℕ → ℕ → LoadState → Load
load name due state = record { name = name ∷ []; due = due; file = Absent; state = state }

abbrev three_loads : SceneState
three_loads = record { world = one_link; loads = load 65 2 Requested ∷ load 66 1 Arrived ∷ load 67 1 Refused ∷ []; lines = [] }

none_is_due_yet : due_from 1 0 three_loads.loads ≡ []
none_is_due_yet = refl

one_is_due : due_from 2 0 three_loads.loads ≡ 0 ∷ []
one_is_due = refl

an_absent_file_is_refused_when_due : due_arrived (λ types. 128) 2 three_loads
    ≡ record three_loads { loads = load 65 2 Refused ∷ load 66 1 Arrived ∷ load 67 1 Refused ∷ []; lines = SceneAbsent (65 ∷ []) 2 ∷ [] }
an_absent_file_is_refused_when_due = refl

what_isnt_due_is_cancelled : unloaded (λ types. 128) 1 (65 ∷ []) three_loads
    ≡ record three_loads { loads = load 65 2 Unloaded ∷ load 66 1 Arrived ∷ load 67 1 Refused ∷ []; lines = UnloadCancelled (65 ∷ []) 1 ∷ [] }
what_isnt_due_is_cancelled = refl

what_was_refused_isnt_there : unloaded (λ types. 128) 1 (67 ∷ []) three_loads ≡ record three_loads { lines = UnloadNone (67 ∷ []) 1 ∷ [] }
what_was_refused_isnt_there = refl

what_wasnt_requested_isnt_there : unloaded (λ types. 128) 1 (68 ∷ []) three_loads ≡ record three_loads { lines = UnloadNone (68 ∷ []) 1 ∷ [] }
what_wasnt_requested_isnt_there = refl

what_arrived_ends : (unloaded (λ types. 128) 1 (66 ∷ []) three_loads).lines ≡ UnloadedLine (66 ∷ []) 1 0 ∷ []
what_arrived_ends = refl

-- with a delay of 0 a scene arrives at once
arrives_at_once : (requested (λ types. 128) 3 (Spelled []) (68 ∷ []) 0 three_loads).lines ≡ SceneArrived (68 ∷ []) 3 0 ∷ []
unfolding built moved
arrives_at_once = refl

arrives_later : requested (λ types. 128) 3 Absent (68 ∷ []) 2 three_loads
    ≡ record three_loads { loads = load 65 2 Requested ∷ load 66 1 Arrived ∷ load 67 1 Refused ∷ load 68 5 Requested ∷ [] }
arrives_later = refl

what_waits_is_pending : pending_lines three_loads.loads ≡ ScenePending (65 ∷ []) ∷ []
what_waits_is_pending = refl
