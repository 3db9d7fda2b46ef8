-- When entries are played.
use Rattle.command_record.specs.declared.chain.Entry.{Entry}
use Rattle.command_record.specs.declared.turn.Turn.{Turn}

abbrev pub turn_of : Entry → Turn
turn_of e = record { key = e.key; item = e.item; row = e.row; number = e.number }
