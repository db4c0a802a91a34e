use Rattle.std.proofs.Common.{◌≡◌, true, eqb, sym, ap, ◌∙◌, subst}
use Rattle.signs.specs.Props.{category_of, is_allowed}
use Rattle.signs.specs.Classes.{recategorized}
use Rattle.signs.specs.Reclassing.{with_class}
use Rattle.signs.proofs.Reclassing.{classed_allowed}
use Rattle.signs.proofs.sign.Sign.recategorized.Goals as goal

pub invariant_of-result : goal.invariant_of-result
invariant_of-result c =
    let s = c.args.self in
    let mark : eqb (category_of s.row.unicode_props) 12 ≡ true = sym c.if-not-is_nonspacing_mark.ensures in
    let e = c.with_class.ensures ∙ ap (with_class s.row.unicode_props) (c.recategorize_combining_class-class.ensures ∙ ap (recategorized s.row.code) c.class.ensures) in
    record { allowed = subst (λ p. is_allowed p ≡ true) (sym e) (classed_allowed s.row.code s.row.unicode_props s.allowed mark) }
