use Rattle.std.proofs.Common.{◌≡◌, map, take}
use Rattle.world_model.specs.Part.{part_of as seen}
use Rattle.playback.specs.Asked.{part_for}
use Rattle.playback.specs.Makers.{made_in}
use Rattle.playback.proofs.made.Made.fill.Given as goal

abbrev pub invariant-loop-part : goal.invariant-loop-part
invariant-loop-part l = map seen l.parts.items ≡ map (part_for (made_in l.self l.item)) (take l.part-index l.from)
