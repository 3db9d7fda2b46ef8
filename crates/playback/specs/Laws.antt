-- What the laws of playback speak of.
use Rattle.std.specs.Prelude.{◌≡◌, List}
use Rattle.world_model.specs.Members.{In}
use Rattle.run_model.specs.Playback.{Note as SeenNote}
use Rattle.command_record.specs.declared.chain.Entry.{Entry}
use Rattle.command_record.specs.Entries.{NamesOwnRow}
use Rattle.playback.specs.declared.player.Note.{Note}

-- no two entries agree in row and number
abbrev pub AreOnce : List Entry → Type 0
AreOnce es = (x y : Entry) → In x es → In y es → x.row ≡ y.row → x.number ≡ y.number → x ≡ y

-- each entry names placeholders of its own row alone
abbrev pub NameOwnRows : List Entry → Type 0
NameOwnRows es = (e : Entry) → In e es → NamesOwnRow e

-- a note of the definitions
abbrev pub note_seen : SeenNote → Note
note_seen n = record { item = n.entry.item; row = n.entry.place; number = n.entry.command.number; skip = n.cause }
