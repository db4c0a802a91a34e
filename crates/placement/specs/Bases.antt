-- The base of a group, as the code has it.
use Rattle.signs.specs.Signs.{row_of}
use Rattle.placement.specs.declared.base.Base as declared
use Rattle.placement.specs.Walks.{Base}

abbrev pub as_base : declared.Base → Base
as_base b = record { row = row_of b.sign; extents = b.extents }
