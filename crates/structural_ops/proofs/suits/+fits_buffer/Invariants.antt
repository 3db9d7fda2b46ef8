use Rattle.structural_ops.proofs.suits.+fits_buffer.Given as goal

abbrev pub decreases-fits_buffer : goal.decreases-fits_buffer
decreases-fits_buffer l = l.most
