use Rattle.std.proofs.Common.{ℤ, pos, ◌*ℤ◌, ap, ◌∙◌, arith}
use lib.Signed.{quot_z}
use Rattle.std.proofs.lemmas.Int.{ints}
use Rattle.signs.specs.Signs.{row_of}
use Rattle.placement.specs.Components.{share}
use Rattle.placement.proofs.Computed.{again_same}
use Rattle.placement.proofs.Fields.{same_box}
use Rattle.placement.proofs.Shares.{before_within, product_fits, quotient_fits, left_share, width_share}
use Rattle.placement.proofs.base.Base.share_of.Goals as goal

pub overflow_mul-result : goal.overflow_mul-result
overflow_mul-result c =
    let n = c.lig_num_comps-count.result in
    let near = before_within c.args.ltr (row_of c.args.self.sign) n c.args.number c.components_before-before.result c.lig_num_comps-count.ensures c.requires.component c.components_before-before.ensures in
    product_fits _ _ n near.1 c.args.self.spans.width near.0

pub nonzero_div-result : goal.nonzero_div-result
nonzero_div-result c =
    let n = c.lig_num_comps-count.result in
    let near = before_within c.args.ltr (row_of c.args.self.sign) n c.args.number c.components_before-before.result c.lig_num_comps-count.ensures c.requires.component c.components_before-before.ensures in
    (omega (arith, c.requires.several, c.lig_num_comps-count.ensures), quotient_fits _ _ n near.1 c.args.self.spans.width near.0)

pub returns : goal.returns
returns c =
    let n = c.lig_num_comps-count.result in
    let near = before_within c.args.ltr (row_of c.args.self.sign) n c.args.number c.components_before-before.result c.lig_num_comps-count.ensures c.requires.component c.components_before-before.ensures in
    let b = c.args.self.extents in
    let room = c.args.self.spans in
    same_box
    (left_share _ _ n near.1 room.width near.0 ∙ ap (λ (k : ℤ). quot_z (k *ℤ b.width) (pos n)) c.components_before-before.ensures)
    (width_share _ _ n near.1 room.width near.0)
    (again_same b.bottom (omega (arith, ints)))
    (again_same b.top (omega (arith, ints)))
    ∙ ap (λ k. share c.args.ltr k c.args.number b) c.lig_num_comps-count.ensures
