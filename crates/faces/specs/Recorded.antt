-- What a record face of the code means.
use Rattle.faces.specs.declared.record_face.RecordFace.{RecordFace}
use Rattle.faces.specs.Meaning.{FaceMeaning}
use Rattle.faces.specs.Records.{record_meaning}

abbrev pub recorded_meaning : RecordFace → FaceMeaning
recorded_meaning f = record_meaning f.em f.glyphs.rows.now f.codes.rows.now
