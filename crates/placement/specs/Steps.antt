-- What each step of a line answers: the line one step further, or the line as it was and why.
use Rattle.std.specs.Prelude.{ℕ, Bool, cond, not, ◌&&◌, List, length, Ok, Err, Result, ◌==◌, nat_le}
use Rattle.signs.specs.declared.SignRow.{SignRow}
use Rattle.placement.specs.declared.line.Line.{Line}
use Rattle.placement.specs.declared.line.IsWritten.{IsWritten}
use Rattle.placement.specs.declared.line.IsClassed.{IsClassed}
use Rattle.placement.specs.declared.line.IsMapped.{IsMapped}
use Rattle.placement.specs.declared.line.IsSpaced.{IsSpaced}
use Rattle.placement.specs.declared.line.IsPlaced.{IsPlaced}
use Rattle.placement.specs.declared.line.Refused.{Refused}
use Rattle.placement.specs.declared.position.Position.{Position}
use Rattle.placement.specs.declared.refusal.Refusal.{Refusal}
use Rattle.placement.specs.declared.refusal.Refusal.TheVariants.{Length, OutOfBounds}
use Rattle.placement.specs.declared.settings.Settings.{Settings}
use Rattle.placement.specs.Bounded.{bounded}

-- A line has at most 256 signs, and its lists are as long as it is.
abbrev pub fits : ℕ → ℕ → ℕ → Bool
fits len rows positions = nat_le len 256 && (rows == len && positions == len)

abbrev pub line : {S : Type 0} → ℕ → Settings → Line S
line len settings = record { len = len; settings = settings; step = record {} }

abbrev pub further : {S T : Type 0} → Line S → Line T
further l = line l.len l.settings

abbrev pub refused : {S T : Type 0} → Line S → Refusal → Result (Line T) (Refused (Line S))
refused l why = Err (record { line = l; refusal = why })

-- A step refuses lists that are not as long as the line.
abbrev pub fitted : {S T : Type 0} → Line S → Line T → ℕ → ℕ → Result (Line T) (Refused (Line S))
fitted l next rows positions = cond (fits l.len rows positions) (Ok next) (refused l Length)

-- Spacing and placing also refuse numbers that a line may not hold.
abbrev pub held : {S T : Type 0} → Line S → Line T → List SignRow → List Position → Result (Line T) (Refused (Line S))
held l next rows positions =
    cond (not (fits l.len (length rows) (length positions))) (refused l Length)
    (cond (not (bounded rows positions)) (refused l OutOfBounds)
    (Ok next))

abbrev pub write_answer : ℕ → Settings → Result (Line IsWritten) Refusal
write_answer n s = cond (nat_le n 256) (Ok (line n s)) (Err Length)

abbrev pub class_answer : Line IsWritten → ℕ → Result (Line IsClassed) (Refused (Line IsWritten))
class_answer l rows = fitted l (further l) rows l.len

abbrev pub map_answer : Line IsClassed → ℕ → ℕ → Result (Line IsMapped) (Refused (Line IsClassed))
map_answer l rows positions = fitted l (further l) rows positions

abbrev pub space_answer : Line IsMapped → List SignRow → List Position → Result (Line IsSpaced) (Refused (Line IsMapped))
space_answer l rows positions = held l (further l) rows positions

abbrev pub place_answer : Line IsSpaced → List SignRow → List Position → Result (Line IsPlaced) (Refused (Line IsSpaced))
place_answer l rows positions = held l (further l) rows positions

-- The whole route refuses only lengths: what a face answers is always within the bounds of a line.
abbrev pub route_answer : Settings → ℕ → ℕ → Result (Line IsPlaced) Refusal
route_answer s rows positions = cond (fits rows rows positions) (Ok (line rows s)) (Err Length)
