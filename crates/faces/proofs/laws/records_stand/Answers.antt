use Rattle.faces.specs.Records.{glyph_key, code_key}
use Rattle.faces.proofs.Ordered.{key_laws}
use Rattle.faces.proofs.laws.records_stand.Goals as goal

pub returns : goal.returns
returns c = record { glyphs = key_laws glyph_key; codes = key_laws code_key }
