-- The words that a line has for a point of a frame, and for why a scene file was refused.
use Rattle.std.specs.Prelude.{ℕ, List, codes}
use Rattle.ent_types.specs.declared.point.Point.{Point}
use Rattle.ent_types.specs.declared.point.Point.TheVariants.{BeginInitialization, EndInitialization, BeginSimulation, EndSimulation, BeginPresentation}
use Rattle.run_model.specs.declared.scene_fault.SceneCause.{SceneCause}
use Rattle.run_model.specs.declared.scene_fault.SceneCause.TheVariants.{Short, Magic, Version, TypeCount, TooManyNodes, TypeOrder, UnknownType, Reserved, TypeShape, NodeVersion, NodeOrder, PartRange, PartOrder, TooLarge, Trailing, Enabled, TooManyElements}

unfoldable pub point_name : Point → List ℕ
point_name BeginInitialization = codes "BeginInitialization"
point_name EndInitialization = codes "EndInitialization"
point_name BeginSimulation = codes "BeginSimulation"
point_name EndSimulation = codes "EndSimulation"
point_name BeginPresentation = codes "BeginPresentation"

unfoldable pub scene_cause_name : SceneCause → List ℕ
scene_cause_name Short = codes "Short"
scene_cause_name Magic = codes "Magic"
scene_cause_name Version = codes "Version"
scene_cause_name TypeCount = codes "TypeCount"
scene_cause_name TooManyNodes = codes "TooManyNodes"
scene_cause_name TypeOrder = codes "TypeOrder"
scene_cause_name UnknownType = codes "UnknownType"
scene_cause_name Reserved = codes "Reserved"
scene_cause_name TypeShape = codes "TypeShape"
scene_cause_name NodeVersion = codes "NodeVersion"
scene_cause_name NodeOrder = codes "NodeOrder"
scene_cause_name PartRange = codes "PartRange"
scene_cause_name PartOrder = codes "PartOrder"
scene_cause_name TooLarge = codes "TooLarge"
scene_cause_name Trailing = codes "Trailing"
scene_cause_name Enabled = codes "Enabled"
scene_cause_name TooManyElements = codes "TooManyElements"
