use Rattle.std.proofs.Common.{◌≡◌, ◌==◌, rules, sym, ◌∙◌}
use Rattle.std.specs.Bool.{then_some}
use Rattle.faces.proofs.Rising.{copied_get, found_there, found_nowhere_else}
use Rattle.faces.proofs.keyed.rising.Rising.find.Goals as goal

pub returns-in_err-row : goal.returns-in_err-row
returns-in_err-row g c =
    let rows = c.args.self.now.rows.now in
    let missed = sym (copied_get rows c.place_of.result c.get.result c.get.ensures.lookup) ∙ sym c.copied.ensures ∙ c.in_err-row.was in
    c.from_residual.ensures ∙ found_nowhere_else g.T.Keyed.key_of c.args.wanted rows c.place_of.result c.place_of.ensures missed

pub returns : goal.returns
returns g c =
    let rows = c.args.self.now.rows.now in
    let row = c.in_ok-row.row in
    let there = sym (copied_get rows c.place_of.result c.get.result c.get.ensures.lookup) ∙ sym c.copied.ensures ∙ c.in_ok-row.was in
    let test : c.then_some.result ≡ then_some (g.T.Keyed.key_of row == c.args.wanted) row = search rules in
    test ∙ found_there g.T.Keyed.key_of c.args.wanted rows c.place_of.result row c.place_of.ensures there
