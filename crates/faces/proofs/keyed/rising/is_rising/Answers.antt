use Rattle.std.proofs.Common.{rules, tests, nat_lt}
use Rattle.std.proofs.lemmas.Fn.{always_returns_same}
use Rattle.faces.proofs.Ordered.{rising_answer}
use Rattle.faces.proofs.keyed.rising.is_rising.Goals as goal

pub returns : goal.returns
returns g c =
    let key = g.T.Keyed.key_of in
    rising_answer key c.args.rows.now c.is_sorted_by.result
    (c.is_sorted_by.ensures.cases (λ a b. nat_lt (key a) (key b)) (always_returns_same _ _ _ (λ a r q k. search (rules, tests))))
