use Rattle.std.proofs.Common.{◌≡◌, ◌++◌, take}
use Rattle.workload_make.specs.Scene.{u16_bytes, u32_bytes}
use Rattle.std.specs.List.{flat_map}
use Rattle.workload_make.proofs.scene.push_part.Given as goal

abbrev pub invariant-loop-field : goal.invariant-loop-field
invariant-loop-field l = l.bytes.items ≡ l.fn.bytes.items ++ (u16_bytes l.fn.place ++ flat_map u32_bytes (take l.field-index l.fields))
