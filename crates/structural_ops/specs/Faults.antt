-- Why an operation changed nothing, by why a part of it was refused.
use Rattle.buffer_store.specs.declared.fault.PushFault.{PushFault}
use Rattle.buffer_store.specs.declared.fault.PushFault.TheVariants as push
use Rattle.chunk_block.specs.declared.block.BlockFault.{BlockFault}
use Rattle.chunk_block.specs.declared.block.BlockFault.TheVariants as block
use Rattle.entity_table.specs.declared.table.TableFault.{TableFault}
use Rattle.entity_table.specs.declared.table.TableFault.TheVariants as table
use Rattle.ent_types.specs.declared.skip.Skip.TheVariants as skip
use Rattle.structural_ops.specs.declared.fault.OpFault.{OpFault}
use Rattle.structural_ops.specs.declared.fault.OpFault.TheVariants.{Skip, Memory}

abbrev pub of_block : BlockFault → OpFault
of_block block.TooLarge = Skip skip.TooLarge
of_block block.Memory = Memory

abbrev pub of_table : TableFault → OpFault
of_table table.Full = Skip skip.Full
of_table table.Memory = Memory

abbrev pub of_push : PushFault → OpFault
of_push push.TooLong = Skip skip.TooLong
of_push push.Memory = Memory
