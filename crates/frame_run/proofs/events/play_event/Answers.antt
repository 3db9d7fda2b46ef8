use Rattle.std.proofs.Common.{refl}
use Rattle.frame_run.proofs.CommandReading.{command_may}
use Rattle.frame_run.proofs.events.play_event.Goals as goal

pub command_of-requires : goal.command_of-requires
command_of-requires c = record { reads = command_may _ _ (λ ty i. refl) (λ ty. refl) c.args.act.now }
