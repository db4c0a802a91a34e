use Rattle.std.proofs.Common.{◌≡◌, ◌-◌, length, drop, Some, rules, subst, ap, ◌∙◌, arith}
use Rattle.std.proofs.lemmas.List.{take_all, length-drop}
use Rattle.std.specs.Option.{ok_or}
use Rattle.std.specs.Slice.{IsGetRangeResult}
use Rattle.fonts.proofs.Chunks.{chunk_field}
use Rattle.fonts.proofs.bytes.field.Goals as goal

pub returns : goal.returns
returns g c =
    let bs = c.args.bytes.now in
    let at = c.args.at in
    let rest = c.in_ok-rest.rest in
    let got : c.get.result ≡ Some rest = search rules in
    let part = (subst (λ r. IsGetRangeResult bs at (length bs) r) got c.get.ensures.lookup).0 in
    let long = length-drop at bs in
    let left = part.2 ∙ take_all (length bs - at) (drop at bs) (omega (arith, long)) in
    c.ok_or-2.ensures.value ∙ ap (λ o. ok_or o (record { place = at })) c.copied.ensures
    ∙ chunk_field bs c.type_inv.bytes g.row.N at part.0 rest.now left c.first_chunk.result c.first_chunk.ensures.cases
