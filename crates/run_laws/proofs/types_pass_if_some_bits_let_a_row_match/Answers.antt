use Rattle.run_laws.proofs.Bits.{some_bits, bits_pass}
use Rattle.run_laws.proofs.types_pass_if_some_bits_let_a_row_match.Goals as goal

pub returns : goal.returns
returns c = λ registry lawful s query x cells. (some_bits registry lawful s x cells query, bits_pass registry s x)
