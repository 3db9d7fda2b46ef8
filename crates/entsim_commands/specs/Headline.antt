-- What the top call promises.
use Rattle.std.specs.Prelude.{◌≡◌, ℕ, List, Option, None, Some}
use Rattle.ent_io.specs.Text.{appended, AppendsPrefix}
use Rattle.ent_io.specs.declared.end.Status.{Status}
use Rattle.ent_io.specs.declared.end.Status.TheVariants.{Done, BadWords, Refused, KeyShared, ReadFault, WriteFault, Memory}
use Rattle.entsim_commands.specs.Words.{Command}
use Rattle.entsim_commands.specs.Outcome.{Outcome}

-- the status is the outcome's, and exactly its text was appended
abbrev pub IsGiven : Outcome → Status → Option (List ℕ) → Option (List ℕ) → Type 0
IsGiven o status old new = (status ≡ o.status) × (new ≡ appended old o.text)

-- The headline: the status and the text are those of the outcome. Where the store or the sink failed, or memory ran
-- out, a prefix of the text was appended.
abbrev pub Ends : Outcome → Status → Option (List ℕ) → Option (List ℕ) → Type 0
Ends o Done old new = IsGiven o Done old new
Ends o BadWords old new = IsGiven o BadWords old new
Ends o Refused old new = IsGiven o Refused old new
Ends o KeyShared old new = IsGiven o KeyShared old new
Ends o ReadFault old new = AppendsPrefix o.text old new
Ends o WriteFault old new = AppendsPrefix o.text old new
Ends o Memory old new = AppendsPrefix o.text old new

-- what comes of words that are no command
abbrev pub OfBadWords : Status → Type 0
OfBadWords Done = ⊥
OfBadWords BadWords = Unit {0}
OfBadWords Refused = ⊥
OfBadWords KeyShared = ⊥
OfBadWords ReadFault = Unit {0}
OfBadWords WriteFault = Unit {0}
OfBadWords Memory = Unit {0}

-- what comes of a command: no form that is run has keys that could be shared
abbrev pub OfCommand : Status → Type 0
OfCommand Done = Unit {0}
OfCommand BadWords = ⊥
OfCommand Refused = Unit {0}
OfCommand KeyShared = ⊥
OfCommand ReadFault = Unit {0}
OfCommand WriteFault = Unit {0}
OfCommand Memory = Unit {0}

-- BadWords comes exactly by the words, whatever is told
abbrev pub WordsDecide : Option Command → Status → Type 0
WordsDecide None status = OfBadWords status
WordsDecide (Some command) status = OfCommand status
