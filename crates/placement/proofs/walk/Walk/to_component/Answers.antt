use Rattle.std.proofs.Common.{sym, refl, ◌∙◌, w32, SFits, rules}
use Rattle.signs.specs.Signs.{row_of}
use Rattle.placement.specs.Bases.{as_base}
use Rattle.placement.specs.Components.{component}
use Rattle.placement.proofs.Computed.{again_same}
use Rattle.placement.proofs.Fields.{same_walk}
use Rattle.placement.proofs.Belonging.{other_component, same_share}
use Rattle.placement.proofs.walk.Walk.to_component.Goals as goal

pub returns : goal.returns
returns c =
    let b = as_base c.args.base in
    let w = c.args.self in
    let e = c.component_of-number.ensures.value in
    let k = component b.row (row_of c.args.mark) in
    let fx : SFits w32 w.x = search rules in
    let fy : SFits w32 w.y = search rules in
    same_walk (again_same w.x fx) (again_same w.y fy) e refl
    (c.share_of.ensures ∙ same_share b.extents c.is_text_ltr.ensures refl e)
    refl
    ∙ other_component c.args.settings b k w (λ h. c.if-self-number.false (h ∙ sym e))
