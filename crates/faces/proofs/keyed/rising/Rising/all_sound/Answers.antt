use Rattle.std.proofs.Common.{rules, tests}
use Rattle.std.proofs.lemmas.Iterator.{YieldsList-from_slice}
use Rattle.std.proofs.lemmas.Iterator.Search.{all_from_yields_List}
use Rattle.faces.proofs.keyed.rising.Rising.all_sound.Goals as goal

pub returns : goal.returns
returns g c =
    all_from_yields_List _ _ _ _ c.all.ensures.ran (YieldsList-from_slice c.args.self.now.rows.now cc) (λ x b q k. search (rules, tests))
