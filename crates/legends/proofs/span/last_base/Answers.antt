use Rattle.std.proofs.Common.{length, ◌∙◌, rules}
use Rattle.std.proofs.iter.runs.Made.{chains}
use Rattle.legends.proofs.Spans.{before_found}
use Rattle.legends.proofs.span.last_base.Goals as goal

pub returns : goal.returns
returns c =
    let part = c.args.part.now in
    c.unwrap_or.ensures ∙ before_found part (length part) c.rposition.result (search (rules, chains))
