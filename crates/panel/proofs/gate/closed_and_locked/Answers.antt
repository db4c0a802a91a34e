use Rattle.std.proofs.Common.{◌≡◌, ℕ, pos, neg_ℤ, Some, None, Ok, Err, Option, Result, ap, ◌∙◌}
use Rattle.faces.specs.Meaning.{FaceMeaning}
use Rattle.panel.specs.declared.gate.GateSign.{GateSign}
use Rattle.panel.specs.Gate.{sign, sign_of}
use Rattle.panel.proofs.gate.closed_and_locked.Goals as goal

-- the sign that a face shows, if it is made
abbrev shown_by : ℕ → ℕ → Result FaceMeaning ℕ → Option GateSign
shown_by bar c (Ok f) = sign_of f 0x41 bar c
shown_by bar c (Err n) = None

pub returns : goal.returns
returns c =
    let face = c.in_ok-face.ensures in
    let closed : c.gate_sign-closed.result ≡ Some (sign 1 2 (pos 150) (neg_ℤ (pos 122))) = c.gate_sign-closed.ensures ∙ ap (shown_by 0x332 220) face in
    let locked : c.gate_sign-locked.result ≡ Some (sign 1 2 (pos 150) (pos 762)) = c.gate_sign-locked.ensures ∙ ap (shown_by 0x305 230) face in
    ap (λ s. Ok (s, c.gate_sign-locked.result)) closed ∙ ap (λ s. Ok (Some (sign 1 2 (pos 150) (neg_ℤ (pos 122))), s)) locked
