use Rattle.std.proofs.Common.{refl, true}
use Rattle.world_spawns.proofs.MayRead.{may_read, ref_may}
use Rattle.world_spawns.proofs.no_row.NoRow.value.Goals as goal

pub eval-requires : goal.eval-requires
eval-requires c = may_read (λ ty i. true) (λ ty. true) (λ ty i. refl) (λ ty. refl) _

pub eval_ref-requires : goal.eval_ref-requires
eval_ref-requires c = ref_may (λ ty i. true) (λ ty. true) (λ ty i. refl) (λ ty. refl) _
