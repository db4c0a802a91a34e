use Rattle.std.proofs.Common.{rules, ◌≡◌, ℕ, Bool}
use Rattle.placement.specs.declared.Direction.{Direction}
use Rattle.placement.specs.declared.Settings.{Settings}
use Rattle.legends.specs.Book.{plain}
use Rattle.legends.proofs.legend.Legend.make.Goals as goal

same_settings : {d e : Direction} {s t : ℕ} {a b : Bool} → d ≡ e → s ≡ t → a ≡ b → ◌≡◌ {A = Settings} (record { direction = d; script = s; adjust = a }) (record { direction = e; script = t; adjust = b })
same_settings p q r = cc

pub returns-clause-lists : goal.returns-clause-lists
returns-clause-lists g c =
    let e = c.default-settings.ensures in
    let plainly : c.default-settings.result ≡ plain = same_settings e.0 e.1.0 e.1.1 in
    let routed = c.in_ok-route_line.ensures in
    rw (routed.rows, routed.positions, plainly) (search rules)
