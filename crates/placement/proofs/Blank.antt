-- What a read past the end of a list stands for.
use Rattle.std.proofs.Common.{pos}
use Rattle.signs.specs.declared.SignRow.{SignRow}
use Rattle.placement.specs.declared.position.Position.{Position}
use Rattle.placement.specs.Lines.{at}

abbrev pub blank : SignRow
blank = record { code = 0; unicode_props = 0; glyph_props = 0; lig_props = 0 }

abbrev pub nowhere : Position
nowhere = at (pos 0) (pos 0) (pos 0) (pos 0)
