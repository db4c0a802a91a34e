use Rattle.std.proofs.Common.{rules, refl, sym, ◌∙◌, ◌≡◌, ℕ, ◌+◌, ◌-◌, ◌<◌, Option, None}
use Rattle.std.proofs.iter.runs.Sources.{ranges}
use Rattle.placement.specs.Directions.{is_horizontal}
use Rattle.placement.proofs.Firsts.{first_none, first_found}
use Rattle.placement.proofs.layout.Layout.first_advance.Goals as goal

-- by the glyph of the code at each place that the search came to
pub returns-in_err-glyph : goal.returns-in_err-glyph
returns-in_err-glyph g c =
    let p = c.find_map.ensures.runs.0 in
    let a = c.args.codes.start in
    let n = c.args.codes.end - a in
    let f = g.F.Face.meaning c.args.self.now.face.now in
    let none : (k : ℕ) (o : Option ℕ) → o ≡ p.at k → k < n → f.glyph (a + k) ≡ None = λ k o r q. search (rules, ranges) in
    search rules ∙ sym (first_none f (is_horizontal c.args.self.now.settings.direction) a n (λ k. none k (p.at k) refl))

pub returns : goal.returns
returns g c =
    let p = c.find_map.ensures.runs.0 in
    let a = c.args.codes.start in
    let n = c.args.codes.end - a in
    let f = g.F.Face.meaning c.args.self.now.face.now in
    let before : (k : ℕ) (o : Option ℕ) → o ≡ p.at k → k < p.len - 1 → f.glyph (a + k) ≡ None = λ k o r q. search (rules, ranges) in
    let given = first_found f (is_horizontal c.args.self.now.settings.direction) a n (p.len - 1) c.in_ok-glyph.glyph (search (rules, ranges)) (search (rules, ranges)) (λ k. before k (p.at k) refl) in
    search (rules, given)
