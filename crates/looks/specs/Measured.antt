-- Measured signs: those of whose glyph the face knows a box. A mark and a base are each measured by a word of their own.
use Rattle.std.specs.Prelude.{Option}
use Rattle.signs.specs.declared.SignRow.{SignRow}
use Rattle.faces.specs.Meaning.{FaceMeaning, Edges}
use Rattle.placement.specs.Walks.{ink, footing}
use Rattle.looks.specs.Signs.{glyph_of}

abbrev pub measure : FaceMeaning → SignRow → Option Edges
measure f r = ink (f.bounds (glyph_of f r))

abbrev pub measure_base : FaceMeaning → SignRow → Option Edges
measure_base f r = footing (f.bounds (glyph_of f r))
