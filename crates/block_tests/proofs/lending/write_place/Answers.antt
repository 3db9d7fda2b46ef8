use Rattle.block_tests.proofs.lending.write_place.Goals as goal

pub returns : goal.returns
returns c = λ b of. c.switch_off.ensures b (c.refer.ensures b (c.store-3.ensures b (c.store-2.ensures b (c.store.ensures b of))))
