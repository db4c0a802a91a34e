use Rattle.std.proofs.Common.{sym, ◌∙◌}
use Rattle.incident.specs.Story.{then_closed}
use Rattle.live.proofs.Exact.{exactly, by_default}
use Rattle.live.proofs.shown.telling.over.Goals as goal

pub returns : goal.returns
returns g c =
    let f = g.F.Face.meaning c.args.face.now in
    let told = c.in_ok-story.ensures in
    let blank = by_default f c.default.result c.in_ok-from_blank.from_blank c.default.ensures c.in_ok-from_blank.ensures in
    record { told = told; from_blank_is = blank; same = blank ∙ sym (exactly f then_closed _ told.closed) }
