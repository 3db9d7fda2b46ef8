-- What the names of a text mean in a spawn, an event or a system.
use Rattle.std.specs.Prelude.{ℕ, List, [], ◌∷◌, Bool, true, false, not, ◌&&◌, ◌||◌, ◌==◌, ◌+◌, nat_lt, length, codes, find, map, if◌then◌else◌, Option, Some, None, option_map, option_and_then}
use Rattle.std.specs.List.{list_any}
use Rattle.ent_types.specs.declared.entity.TypeId.{TypeId}
use Rattle.ent_types.specs.declared.kinds.Kind.{Kind}
use Rattle.ent_types.specs.declared.kinds.FieldKind.{FieldKind}
use Rattle.ent_types.specs.declared.type_info.TypeInfo.{TypeInfo}
use Rattle.ent_types.specs.Names.{is_name}
use Rattle.ent_types.specs.Registries.{type_id_named, type_at}
pub use Rattle.ent_types.specs.Types.{is_shared}
use Rattle.ent_types.specs.Types.{same_name, is_ref, is_ref_kind, is_buffer, has_column, field_named, kind_of_field}
use Rattle.ent_types.specs.declared.entity.TheConstants.TypeId.{SCENE_TAG}
use Rattle.ent_types.specs.TypeSets.{has_type}
use Rattle.expr_read.specs.declared.scope.TextPlace.{TextPlace}
use Rattle.expr_read.specs.declared.scope.TextPlace.TheVariants.{Spawn, Event, System}
use Rattle.expr_read.specs.declared.scope.Made.{Made}
use Rattle.expr_read.specs.declared.scope.Scope.{Scope as TextScope}
use Rattle.expr_trees.specs.declared.tree.BinaryOp.TheVariants.{Min, Max}
use Rattle.expr_trees.specs.declared.tree.RefExpr.{RefExpr}
use Rattle.expr_trees.specs.declared.tree.RefExpr.TheVariants as refs
use Rattle.expr_trees.specs.declared.tree.Variable.{Variable}
use Rattle.expr_trees.specs.declared.tree.Variable.TheVariants.{Frame, Chunk, Row, Index, Version, N}
use Rattle.expr_grammar.specs.declared.words.Call.{Call}
use Rattle.expr_grammar.specs.declared.words.Call.TheVariants as calls
use Rattle.expr_grammar.specs.declared.words.FieldUse.{FieldUse}
use Rattle.expr_grammar.specs.declared.words.FieldUse.TheVariants.{Number, Entity, Looked, Assigned}
use Rattle.expr_grammar.specs.declared.words.TypeUse.{TypeUse}
use Rattle.expr_grammar.specs.declared.words.TypeUse.TheVariants.{Asked, Own, Switched, Removed, Enabled, Added, Set, Shared}
use Rattle.expr_grammar.specs.Scopes.{Scope}

abbrev pub is_system : TextPlace → Bool
is_system Spawn = false
is_system Event = false
is_system System = true

-- ---- variables and calls

-- a system knows its own row, an event the frame, and a spawn the number of the row
abbrev pub system_variable : List ℕ → Option Variable
system_variable name =
    if same_name name (codes "frame") then Some Frame
    else if same_name name (codes "chunk") then Some Chunk
    else if same_name name (codes "row") then Some Row
    else if same_name name (codes "index") then Some Index
    else if same_name name (codes "version") then Some Version
    else None

abbrev pub variable_of : TextPlace → List ℕ → Option Variable
variable_of Spawn name = if same_name name (codes "n") then Some N else None
variable_of Event name = if same_name name (codes "frame") then Some Frame else None
variable_of System name = system_variable name

-- the calls that ask nothing of the world
abbrev pub plain_call : List ℕ → Option Call
plain_call name =
    if same_name name (codes "min") then Some (calls.Two Min)
    else if same_name name (codes "max") then Some (calls.Two Max)
    else if same_name name (codes "pick") then Some calls.Pick
    else None

abbrev pub system_call : List ℕ → Option Call
system_call name =
    if same_name name (codes "get") then Some calls.Get
    else if same_name name (codes "alive") then Some calls.Alive
    else if same_name name (codes "has") then Some calls.Has
    else if same_name name (codes "same") then Some calls.Same
    else if same_name name (codes "on") then Some calls.On
    else plain_call name

abbrev pub call_of : TextPlace → List ℕ → Option Call
call_of place name = if is_system place then system_call name else plain_call name

-- ---- references

-- what an earlier command of the same buffer makes under this name
abbrev pub made_reference : List Made → List ℕ → Option RefExpr
made_reference made name = option_map (λ m. refs.Made m.number) (find (λ m. m.same_buffer && same_name name m.name) made)

-- in a system
abbrev pub own_reference : List Made → Bool → List ℕ → Option RefExpr
own_reference made fits name =
    if same_name name (codes "self") then Some refs.Me
    else if fits then made_reference made name
    else None

-- `fits` says whether a made name fits
abbrev pub reference_of : TextPlace → List Made → Bool → List ℕ → Option RefExpr
reference_of place made fits name =
    if same_name name (codes "null") then Some refs.Null
    else if is_system place then own_reference made fits name
    else None

-- whether a command may make this name: it is a name but `null` and `self`, and no earlier command makes it
abbrev pub is_new_name : List Made → List ℕ → Bool
is_new_name made name =
    is_name name && not (same_name name (codes "null") || (same_name name (codes "self") || list_any (λ m. same_name name m.name) made))

-- ---- types and fields

abbrev pub is_known : List TypeInfo → TypeId → Bool
is_known types ty = nat_lt ty.0 (length types)

-- whether each row that the system visits has the type
abbrev pub is_own : TextPlace → List ℕ → TypeId → Bool
is_own place bound ty = is_system place && has_type bound ty.0

-- whether fields of a type of this kind may be named so
abbrev pub may_name : TextPlace → List ℕ → FieldUse → TypeId → Kind → Bool
may_name place bound Number ty kind = is_own place bound ty && not (is_buffer kind)
may_name place bound Entity ty kind = is_own place bound ty && not (is_buffer kind)
may_name place bound Looked ty kind = not (is_buffer kind)
may_name place bound Assigned ty kind = is_own place bound ty && has_column kind

-- whether a field that holds this may be named so
abbrev pub suits : FieldUse → FieldKind → Bool
suits Number kind = not (is_ref_kind kind)
suits Entity kind = is_ref_kind kind
suits Looked kind = not (is_ref_kind kind)
suits Assigned kind = true

-- the place of the field of this name, where it suits
abbrev pub suited_field : FieldUse → TypeInfo → List ℕ → Option ℕ
suited_field role info name =
    option_and_then (λ i. if suits role (kind_of_field info i) then Some i else None) (field_named info name)

abbrev pub is_open : List TypeInfo → TextPlace → List ℕ → FieldUse → TypeId → Bool
is_open types place bound role ty = is_known types ty && may_name place bound role ty (type_at types ty.0).kind

abbrev pub field_of : List TypeInfo → TextPlace → List ℕ → FieldUse → TypeId → List ℕ → Option ℕ
field_of types place bound role ty name = if is_open types place bound role ty then suited_field role (type_at types ty.0) name else None

abbrev pub has_field : List TypeInfo → TextPlace → List ℕ → FieldUse → TypeId → Bool
has_field types place bound role ty =
    is_open types place bound role ty && list_any (λ f. suits role f.kind) (type_at types ty.0).fields

-- whether each field of the type is a ref field
abbrev pub refs_of : List TypeInfo → TypeId → List Bool
refs_of types ty = map is_ref (type_at types ty.0).fields

abbrev pub is_ref_at : List TypeInfo → TypeId → ℕ → Bool
is_ref_at types ty i = is_ref_kind (kind_of_field (type_at types ty.0) i)

-- the built-in type that only a load of a scene gives
abbrev pub is_scene_tag : TypeId → Bool
is_scene_tag ty = ty.0 == SCENE_TAG.0

-- whether a type that is known may be named so
abbrev pub may_stand : TextPlace → List ℕ → TypeUse → TypeId → TypeInfo → Bool
may_stand place bound Asked ty info = true
may_stand place bound Own ty info = not (is_shared info.kind)
may_stand place bound Switched ty info = is_own place bound ty && info.enableable
may_stand place bound Removed ty info = not (is_scene_tag ty)
may_stand place bound Enabled ty info = info.enableable
may_stand place bound Added ty info = not (is_scene_tag ty) && not (is_buffer info.kind)
may_stand place bound Set ty info = has_column info.kind
may_stand place bound Shared ty info = is_shared info.kind && not (is_scene_tag ty)

abbrev pub allows_of : List TypeInfo → TextPlace → List ℕ → TypeUse → TypeId → Bool
allows_of types place bound role ty = is_known types ty && may_stand place bound role ty (type_at types ty.0)

abbrev pub is_listed : List TypeId → TypeId → Bool
is_listed used ty = list_any (λ u. u.0 == ty.0) used

-- whether one of these types passes, where the first has this number
abbrev pub some_type_from : (TypeId → Bool) → ℕ → List TypeInfo → Bool
some_type_from passes n [] = false
some_type_from passes n (t ∷ ts) = passes (record { 0 = n }) || some_type_from passes (n + 1) ts

-- whether some type that isn't in the list may be named so
abbrev pub has_type_left : List TypeInfo → TextPlace → List ℕ → TypeUse → List TypeId → Bool
has_type_left types place bound role used =
    some_type_from (λ ty. allows_of types place bound role ty && not (is_listed used ty)) 0 types

-- ---- the scope of a text at this place, where these types are bound and earlier commands make these names
abbrev pub scope_of : List TypeInfo → TextPlace → List ℕ → List Made → Scope
scope_of types place bound made =
    record {
      variable = variable_of place;
      call = call_of place;
      reference = reference_of place made;
      find = type_id_named types;
      field = field_of types place bound;
      has_field = has_field types place bound;
      allows = allows_of types place bound;
      has_type = has_type_left types place bound;
      holds = is_listed;
      refs = refs_of types;
      is_ref = is_ref_at types;
      is_new = is_new_name made;
    }

-- the scope of a text
abbrev pub scope_at : TextScope → Scope
scope_at s = scope_of s.registry.now s.place s.bound.now s.made.now
