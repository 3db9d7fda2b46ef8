use Rattle.run_laws.proofs.Order.{buffers_differ}
use Rattle.run_laws.proofs.entries_of_a_buffer_differ.Goals as goal

pub returns : goal.returns
returns c = λ clock s last frame w goes. buffers_differ clock s last frame w goes
