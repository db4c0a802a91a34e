use Rattle.std.proofs.Common.{◌≡◌, sym, ap, ◌∙◌, w16, SFits, rules}
use Rattle.std.specs.Result.{result_ok}
use Rattle.std.proofs.lemmas.Int.{to_z-of_z}
use Rattle.std.proofs.lemmas.Bool.{cond-true, not-false}
use Rattle.faces.specs.Boxes.{box_of, edges_of, box_outcome}
use Rattle.faces.specs.Records.{glyph_key, glyph_sound, edges_in, box_in}
use Rattle.faces.specs.Straight.{straight}
use Rattle.faces.specs.RecordKeeps.{first_passes, straight_if}
use Rattle.faces.specs.Refusals.{outcome}
use Rattle.faces.proofs.Boxed.{ok_box}
use Rattle.faces.proofs.record_face.answers.RecordFaceFace.bounds.Goals as goal

pub returns : goal.returns
returns c =
    let r = c.in_ok-record.record in
    let found = sym c.in_ok-record.was ∙ c.find.ensures in
    let l : SFits w16 r.left = search rules in
    let b : SFits w16 r.bottom = search rules in
    let a : SFits w16 r.right = search rules in
    let t : SFits w16 r.top = search rules in
    let made : outcome edges_of c.new.result ≡ box_outcome (edges_in r) = simp to_z-of_z at c.new.ensures in
    let boxed = not-false _ c.if-not-record.false in
    let sound = first_passes glyph_key glyph_sound c.args.glyph c.args.self.now.glyphs.rows.now r (sym found) c.args.self.now.glyphs_sound in
    ap box_of c.ok.ensures.value ∙ ok_box c.new.result
    ∙ ap result_ok (made ∙ cond-true _ _ _ (straight_if r.has_box (straight (edges_in r)) boxed sound))
    ∙ sym (cond-true _ _ _ boxed) ∙ ap box_in found
