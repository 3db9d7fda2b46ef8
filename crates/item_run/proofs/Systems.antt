-- What the texts of an item's system need is there, and the item after its texts were done.
use Rattle.std.proofs.Common.{ℕ, ◌≡◌, true, sym, ap, refl, subst, List, [], map, ◌∙◌}
use Rattle.ent_types.specs.TypeSets.{has_type}
use Rattle.enable_bits.specs.Masks.{has, IsMask, places_between, places_where}
use Rattle.world_model.specs.Members.{In}
use Rattle.world_laws.proofs.Members.{in_left, in_right, map_in}
use Rattle.expr_trees.specs.declared.tree.Assign.{Assign}
use Rattle.expr_trees.specs.declared.tree.Switch.{Switch}
use Rattle.block_laws.specs.Lending.{piece_types}
use Rattle.chunk_block.specs.Blocks.{LoanState}
use Rattle.run_model.specs.Job.{Assigns, Switches, Text, texts_of, written_type}
use Rattle.run_laws.specs.Runnable.{Sources, SystemReads}
use Rattle.item_run.specs.Items.{IsItem, ItemState}
use Rattle.item_run.specs.Writing.{AreReady, CanAssign, CanSwitch, Does}
use Rattle.item_run.proofs.Done.{pieces_same, reads_after, rows_after}

empty_mask : IsMask []
unfolding places_where places_between
empty_mask = refl

module _ (i : ItemState) (is : IsItem i) where
  pub ready : AreReady i.at
  ready = record { rows = is.rows; fit = is.fit }

  written : (t : Text) → In t (texts_of i.system) → has_type (piece_types i.at.loan.pieces) (written_type t) ≡ true
  written t j = is.written (written_type t) (map_in written_type t (texts_of i.system) j)

  pub can_assign : (a : Assign) → In a i.system.set → CanAssign i.at a
  can_assign a j =
      let runs = is.runs.assigns a j in
      record {
        lent = written (Assigns a) (in_left (Assigns a) (map Assigns i.system.set) (map Switches i.system.enable) (map_in Assigns a i.system.set j));
        field = runs.field;
        kind = runs.kind;
        reads = is.reads.assigns a j;
      }

  pub can_switch : (w : Switch) → In w i.system.enable → CanSwitch i.at w
  can_switch w j =
      let runs = is.runs.switches w j in
      record {
        lent = written (Switches w) (in_right (Switches w) (map Assigns i.system.set) (map Switches i.system.enable) (map_in Switches w i.system.enable j));
        enableable = runs.enableable;
        reads = is.reads.switches w j;
      }

  -- no row is left
  pub item_after : (texts : List Text) (mask left : List ℕ) (new : LoanState) → Does i.at texts mask new → left ≡ [] → IsItem (record i { at = record (i.at) { loan = new }; left = left })
  item_after texts mask left new does none = record {
    rows = rows_after i.at new does.loan is.rows;
    runs = is.runs;
    reads = reads_after i.at new does.loan (λ (s : Sources). SystemReads s i.system) is.reads;
    written = λ t j. ap (λ ts. has_type ts t) (pieces_same i.at new does.loan) ∙ is.written t j;
    fit = does.fit;
    mask = subst IsMask (sym none) empty_mask;
    within = λ k there. absurd (cc (sym there ∙ ap (λ (m : List ℕ). has m k) none));
  }
