use Rattle.std.proofs.Common.{◌≡◌, Bool, ◌&&◌, ◌∙◌, rules}
use Rattle.std.proofs.Math.Bool.{and_assoc}
use Rattle.placement.specs.Bounded.{inside}
use Rattle.placement.proofs.bounded.is_bounded.Goals as goal

-- four tests joined from the left are those of a position, which are joined from the right
all_four : {a b c d p q r s : Bool} → a ≡ p → b ≡ q → c ≡ r → d ≡ s → (((a && b) && c) && d) ≡ (p && (q && (r && s)))
all_four {a} {b} {c} {d} e f g h = and_assoc (a && b) c d ∙ and_assoc a b (c && d) ∙ cc

pub returns : goal.returns
returns c =
    let p = c.args.position in
    let x : c.inside.result ≡ inside 65535 p.x_advance = search rules in
    let y : c.inside-2.result ≡ inside 65535 p.y_advance = search rules in
    let right : c.inside-3.result ≡ inside 40000000 p.x_offset = search rules in
    let up : c.inside-4.result ≡ inside 40000000 p.y_offset = search rules in
    all_four x y right up
