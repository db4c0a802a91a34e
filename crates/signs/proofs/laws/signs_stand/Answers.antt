use Rattle.signs.proofs.Computed.{worked}
use Rattle.signs.proofs.Reading.{reading_stands, signs_read_themselves}
use Rattle.signs.proofs.Reclassing.{reclassing_stands}
use Rattle.signs.proofs.Tables.{classes_stand}
use Rattle.signs.proofs.laws.signs_stand.Goals as goal

pub returns : goal.returns
returns c = record {
  classes = classes_stand;
  reading = reading_stands;
  reclassing = reclassing_stands;
  themselves = signs_read_themselves;
  worked = worked;
}
