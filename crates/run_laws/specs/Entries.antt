-- Lists of entries.
use Rattle.std.specs.Prelude.{◌≡◌, List}
use Rattle.world_model.specs.Members.{In}
use Rattle.run_model.specs.Run.{Entry}

-- no two entries agree in item, place and number
abbrev pub AreDifferent : List Entry → Type 0
AreDifferent es = (x y : Entry) → In x es → In y es → x.item ≡ y.item → x.place ≡ y.place → x.command.number ≡ y.command.number → x ≡ y
