use Rattle.block_tests.proofs.lending.write_items.Goals as goal

pub returns : goal.returns
returns c = λ b of. c.switch_off.ensures b (c.put_one.ensures b of)
