use Rattle.std.proofs.Common.{Some, ap, ◌∙◌, arith, w32, SFits, rules}
use Rattle.std.proofs.lemmas.Int.{ints}
use Rattle.faces.specs.Boxes.{edges_of}
use Rattle.placement.specs.declared.classes.Way.TheVariants.{Above, Below}
use Rattle.placement.specs.Classes.{align, way}
use Rattle.placement.specs.Placing.{gap_before, x_of, y_of}
use Rattle.placement.proofs.Assembled as assembled
use Rattle.placement.proofs.Computed.{again_same}
use Rattle.placement.proofs.marks.Unplaced.place.Goals as goal

pub returns-in-Some-Below : goal.returns-in-Some-Below
returns-in-Some-Below c =
    let run = c.args.self.run in
    let m = edges_of c.args.self.mark in
    let class = c.args.class in
    let room = c.args.self.room in
    let stood = c.below_offset-y.ensures in
    let fx : SFits w32 c.x_offset-x.result = search rules in
    assembled.below run m (gap_before c.args.gap.units class) (way class) (align class c.args.direction)
    (again_same _ fx ∙ c.x_offset-x.ensures ∙ ap (x_of run m) c.align_of.ensures)
    (again_same run.left (omega (arith, ints)))
    (again_same run.width (omega (arith, ints)))
    (search rules)
    (again_same c.below_offset-y.result (omega (arith, ints)) ∙ stood.value ∙ ap (λ n. y_of run m n (Some Below)) c.before-gap.ensures)
    (omega (arith, ints))
    (again_same run.top (omega (arith, ints)))

pub returns-in-Some-Above : goal.returns-in-Some-Above
returns-in-Some-Above c =
    let run = c.args.self.run in
    let m = edges_of c.args.self.mark in
    let class = c.args.class in
    let room = c.args.self.room in
    let stood = c.above_offset-y.ensures in
    let fx : SFits w32 c.x_offset-x.result = search rules in
    assembled.above run m (gap_before c.args.gap.units class) (way class) (align class c.args.direction)
    (again_same _ fx ∙ c.x_offset-x.ensures ∙ ap (x_of run m) c.align_of.ensures)
    (again_same run.left (omega (arith, ints)))
    (again_same run.width (omega (arith, ints)))
    (search rules)
    (again_same c.above_offset-y.result (omega (arith, ints)) ∙ stood.value ∙ ap (λ n. y_of run m n (Some Above)) c.before-gap.ensures)
    (omega (arith, ints))
    (again_same run.bottom (omega (arith, ints)))
