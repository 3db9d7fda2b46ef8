-- The elements of buffers that a new row gets.
use Rattle.structural_ops.specs.declared.buffers.Prepared.{Prepared}
use Rattle.world_rows.specs.Writes.{Write, Elements}

-- the write that a buffer is prepared for
abbrev pub prepared_write : Prepared → Write
prepared_write p = Elements p.ty.0 p.elements.width p.elements.values
