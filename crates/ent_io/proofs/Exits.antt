-- The exits by `?`: what an error that was handed on says of the text and of the counts of faults. The causes mostly
-- need no answer; these are for functions in which a tactic stops before it reads them.
use Rattle.std.proofs.Common.{◌≡◌, ℕ, List, Option, Result, Ok, Err, subst}
use Rattle.std.specs.Prelude.{IsErr}
use Rattle.ent_io.specs.declared.writing.SinkEnd.{SinkEnd}
use Rattle.ent_io.specs.declared.writing.SinkEnd.TheVariants.{Failed, Memory as SinkMemory}
use Rattle.ent_io.specs.declared.end.TextEnd.{TextEnd}
use Rattle.ent_io.specs.declared.end.TextEnd.TheVariants.{WriteFault as TextFault, Memory as TextMemory}
use Rattle.ent_io.specs.declared.end.End.{End}
use Rattle.ent_io.specs.declared.end.End.TheVariants.{ReadFault, WriteFault, Memory}
use Rattle.ent_io.specs.Sink.{SinkCause}
use Rattle.ent_io.specs.End.{TextCause, Cause, text_end_of, end_of, status_of}
use Rattle.ent_io.specs.Status.{StatusWrites, StatusCauses}
use Rattle.ent_io.specs.Text.{AppendsPrefix, Writes}

-- whichever error it is, a prefix was appended
pub exit_writes : {T E : Type 0} (r : Result T E) (whole : List ℕ) (old new : Option (List ℕ)) → IsErr r → AppendsPrefix whole old new → Writes r whole old new
exit_writes (Ok value) whole old new is prefix = cc
exit_writes (Err error) whole old new is prefix = prefix

-- the cause of a sink's end is that of a writer's end
pub text_cause_of_sink : (end : SinkEnd) (before now : ℕ) → SinkCause end before now → TextCause (text_end_of end) before now
text_cause_of_sink Failed before now cause = cause
text_cause_of_sink SinkMemory before now cause = cause

-- the cause of a writer's end, beside a store that stays
pub cause_of_text : (end : TextEnd) (sb sn kb kn : ℕ) → sn ≡ sb → TextCause end kb kn → Cause (end_of end) sb sn kb kn
cause_of_text TextFault sb sn kb kn same cause = (same, cause)
cause_of_text TextMemory sb sn kb kn same cause = (same, cause)

-- a cause since a moment at which both counts were as before
pub cause_since : (end : End) (sb sm sn kb km kn : ℕ) → sm ≡ sb → km ≡ kb → Cause end sm sn km kn → Cause end sb sn kb kn
cause_since end sb sm sn kb km kn store sink cause = subst (λ n. Cause end n sn kb kn) store (subst (λ n. Cause end sm sn n kn) sink cause)

-- the status of an end: a prefix was appended
pub status_writes : (end : End) (whole : List ℕ) (old new : Option (List ℕ)) → AppendsPrefix whole old new → StatusWrites (status_of end) whole old new
status_writes ReadFault whole old new prefix = prefix
status_writes WriteFault whole old new prefix = prefix
status_writes Memory whole old new prefix = prefix

-- the status of an end has its causes
pub status_causes : (end : End) (sb sn kb kn : ℕ) → Cause end sb sn kb kn → StatusCauses (status_of end) sb sn kb kn
status_causes ReadFault sb sn kb kn cause = cause
status_causes WriteFault sb sn kb kn cause = cause
status_causes Memory sb sn kb kn cause = cause
