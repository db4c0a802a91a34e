use Rattle.std.proofs.Common.{◌≡◌, ◌==◌, rules, tests, sym, ap, ◌∙◌}
use Rattle.std.specs.Option.{option_copied}
use Rattle.std.proofs.lemmas.Iterator.{YieldsList-from_slice}
use Rattle.std.proofs.lemmas.Iterator.Search.{find_from_yields_List}
use Rattle.signs.proofs.Tables.{class_in, lookup_find}
use Rattle.signs.proofs.classes.look_up.Goals as goal

pub returns : goal.returns
returns c =
    let found =
    find_from_yields_List (λ e. e.0 == c.args.wanted) _ _ _ c.find.ensures.ran (YieldsList-from_slice c.args.table.now cc) (λ x b q k. search (rules, tests)) in
    let given : c.map_or.result ≡ class_in c.args.otherwise (option_copied c.find.result) = search (rules, tests) in
    given ∙ ap (class_in c.args.otherwise) found ∙ sym (lookup_find c.args.wanted c.args.otherwise c.args.table.now)
