use Rattle.std.proofs.Common.{sym, ap, ◌∙◌, arith}
use Rattle.std.proofs.lemmas.Int.{ints}
use Rattle.faces.specs.Boxes.{edges_of}
use Rattle.placement.specs.Placing.{left_edge, width_of}
use Rattle.placement.proofs.Computed.{again_is, again_same, again_add, again_sub, again_half}
use Rattle.placement.proofs.marks.Unplaced.left_edge.Goals as goal

pub returns-in-AtRight-clause-value : goal.returns-in-AtRight-clause-value
returns-in-AtRight-clause-value c =
    let edge = left_edge c.args.self.run (width_of (edges_of c.args.self.mark)) in
    omega (arith, ints) ∙ sym (ap edge c.in-AtRight.is)

pub returns-in-OnLeft-clause-value : goal.returns-in-OnLeft-clause-value
returns-in-OnLeft-clause-value c =
    let edge = left_edge c.args.self.run (width_of (edges_of c.args.self.mark)) in
    omega (arith, ints) ∙ sym (ap edge c.in-OnLeft.is)

pub returns-in-OnRight-clause-value : goal.returns-in-OnRight-clause-value
returns-in-OnRight-clause-value c =
    let run = c.args.self.run in
    let room = c.args.self.room in
    let w = c.width-width.ensures in
    let e = again_sub (again_add (again_same run.left (omega (arith, ints))) (again_same run.width (omega (arith, ints))) (omega (arith, ints))) (again_half (again_is w.value (omega (arith, ints))) (omega (arith, ints))) (omega (arith, ints)) in
    e ∙ sym (ap (left_edge run (width_of (edges_of c.args.self.mark))) c.in-OnRight.is)

pub returns-in-Centred-clause-value : goal.returns-in-Centred-clause-value
returns-in-Centred-clause-value c =
    let run = c.args.self.run in
    let room = c.args.self.room in
    let w = c.width-width.ensures in
    let e = again_add (again_same run.left (omega (arith, ints))) (again_half (again_sub (again_same run.width (omega (arith, ints))) (again_is w.value (omega (arith, ints))) (omega (arith, ints))) (omega (arith, ints))) (omega (arith, ints)) in
    e ∙ sym (ap (left_edge run (width_of (edges_of c.args.self.mark))) c.in-Centred.is)
