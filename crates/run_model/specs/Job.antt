-- The job of a system on a row: its assignments in order, then its enable texts in order. Each text sees the row as those
-- before it left it.
use Rattle.std.specs.Prelude.{ℕ, pos, false, List, [], ◌∷◌, ◌++◌, map, unwrap_or, option_and_then, slice_get, slice_set}
use Rattle.ent_types.specs.declared.entity.Entity.{Entity}
use Rattle.ent_types.specs.declared.kinds.FieldKind.{FieldKind}
use Rattle.ent_types.specs.declared.type_info.TypeInfo.{TypeInfo}
use Rattle.ent_types.specs.declared.value.Value.{Value}
use Rattle.ent_types.specs.declared.value.Value.TheVariants.{Int, Ref}
use Rattle.ent_types.specs.Fitting.{fit, null_entity}
use Rattle.ent_types.specs.TypeLookups.{field_kind_at}
use Rattle.world_model.specs.Row.{Cell}
use Rattle.world_model.specs.World.{Home, World}
use Rattle.world_model.specs.Found.{Found, found, values_of}
use Rattle.world_model.specs.Operations.{with_values, switched}
use Rattle.expr_eval.specs.Values.{OwnRow, OtherRows, value, value_ref, is_true}
use Rattle.expr_eval.specs.Rows.{others_of}
use Rattle.expr_trees.specs.declared.tree.ValueExpr.{ValueExpr}
use Rattle.expr_trees.specs.declared.tree.ValueExpr.TheVariants.{Int as IntExpr, Ref as RefExpr}
use Rattle.expr_trees.specs.declared.tree.Assign.{Assign}
use Rattle.expr_trees.specs.declared.tree.Switch.{Switch}
use Rattle.scenario_record.specs.declared.record.SystemEntry.{SystemEntry}
use Rattle.run_model.specs.Query.{is_on}

-- ---- what an expression sees

-- where a system visits a row: in which frame, in which item (visited block), and at which place of the block
pub record Spot : Type 0 where
  pub frame : ℕ
  pub item : ℕ
  pub place : ℕ

-- a row with these cells
abbrev pub row_with : Home → Entity → List Cell → Found
row_with home me cells = record { home = home; row = record { entity = me; cells = cells; dying = false } }

-- the own row of an entity with these cells, which also sees the shared values of its home
abbrev pub own_of : List TypeInfo → Spot → Home → Entity → List Cell → OwnRow
own_of registry spot home me cells = record {
  field = λ ty i. unwrap_or (option_and_then (λ values. slice_get values i) (values_of ty.0 (row_with home me cells))) (Int (pos 0));
  on = λ ty. is_on registry (row_with home me cells) ty.0;
  me = me;
  item = spot.item;
  row = spot.place;
  frame = spot.frame;
  n = 0;
}

-- what a text sees that no row has: the number of a row in its spawn, and the frame of an event
abbrev pub no_row : ℕ → ℕ → OwnRow
no_row n frame = record {
  field = λ ty i. Int (pos 0);
  on = λ ty. false;
  me = null_entity;
  item = 0;
  row = 0;
  frame = frame;
  n = n;
}

-- the other rows of a world; a run sees those of the world in which it began
abbrev pub others_in : World → OtherRows
others_in w = others_of (λ e. found e w.blocks)

-- the value of a text, as a field of the kind keeps it
abbrev pub fitted : FieldKind → OwnRow → OtherRows → ValueExpr → Value
fitted kind own others (IntExpr e) = fit kind (Int (value own others e))
fitted kind own others (RefExpr r) = fit kind (Ref (value_ref own r))

-- ---- texts that write

pub data Text : Type 0 where
  Assigns : Assign → Text
  Switches : Switch → Text

-- the texts of a system in the order in which it does them
abbrev pub texts_of : SystemEntry → List Text
texts_of s = map Assigns s.set ++ map Switches s.enable

abbrev pub written_type : Text → ℕ
written_type (Assigns a) = a.ty.0
written_type (Switches w) = w.ty.0

-- the types that a system writes
abbrev pub writes : SystemEntry → List ℕ
writes s = map written_type (texts_of s)

module _ (registry : List TypeInfo) (others : OtherRows) where
  abbrev pub after_text : OwnRow → Text → List Cell → List Cell
  after_text own (Assigns a) cells =
      with_values a.ty.0 (λ values. slice_set values a.field (fitted (field_kind_at registry a.ty.0 a.field) own others a.value)) cells
  after_text own (Switches w) cells = switched w.ty.0 (is_true (value own others w.value)) cells

  -- the cells of an entity after some texts, which are done in order
  abbrev pub after_texts : Spot → Home → Entity → List Text → List Cell → List Cell
  after_texts spot home me [] cells = cells
  after_texts spot home me (t ∷ ts) cells = after_texts spot home me ts (after_text (own_of registry spot home me cells) t cells)
