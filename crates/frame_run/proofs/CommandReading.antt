-- Where each field counts as there and each type can be read, the texts of a command may be evaluated.
use Rattle.std.proofs.Common.{◌≡◌, ℕ, Bool, true, List}
use Rattle.world_model.specs.Members.{In}
use Rattle.ent_types.specs.declared.entity.TypeId.{TypeId}
use Rattle.expr_trees.specs.declared.tree.CommandText.{CommandText}
use Rattle.expr_trees.specs.declared.tree.CommandText.TheVariants as texts
use Rattle.expr_trees.specs.declared.tree.PartExpr.{PartExpr}
use Rattle.expr_trees.specs.declared.tree.ValueExpr.{ValueExpr}
use Rattle.expr_trees.specs.declared.tree.ValueExpr.TheVariants as values
use Rattle.run_laws.specs.Runnable.{CommandReads, PartReads, Sources, ValueReads}
use Rattle.world_spawns.proofs.MayRead.{may_read, ref_may}

module _ (own : TypeId → ℕ → Bool) (others : TypeId → Bool) (there : (ty : TypeId) (i : ℕ) → own ty i ≡ true) (open_ : (ty : TypeId) → others ty ≡ true) where
  abbrev all : Sources
  all = record { own = own; others = others }

  value_may : (v : ValueExpr) → ValueReads all v
  value_may (values.Int e) = may_read own others there open_ e
  value_may (values.Ref r) = ref_may own others there open_ r

  part_may : (p : PartExpr) → PartReads all p
  part_may p v i = value_may v

  pub command_may : (c : CommandText) → CommandReads all c
  command_may (texts.Create name parts) = λ p i. part_may p
  command_may (texts.Destroy r) = ref_may own others there open_ r
  command_may (texts.Add r p) = (ref_may own others there open_ r, part_may p)
  command_may (texts.Set r p) = (ref_may own others there open_ r, part_may p)
  command_may (texts.SetShared r p) = (ref_may own others there open_ r, part_may p)
  command_may (texts.Remove r ty) = ref_may own others there open_ r
  command_may (texts.Enable r ty) = ref_may own others there open_ r
  command_may (texts.Disable r ty) = ref_may own others there open_ r
  command_may (texts.Instantiate name r) = ref_may own others there open_ r
