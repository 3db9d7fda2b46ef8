use Rattle.std.proofs.Common.{length}
use Rattle.structural_ops.proofs.suits.+fits_fields.Given as goal

abbrev pub decreases-fits_fields : goal.decreases-fits_fields
decreases-fits_fields l = length l.fields.now
