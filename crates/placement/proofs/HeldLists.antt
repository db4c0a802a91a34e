-- A line that a step does not refuse has lists as long as it is, of what a placement needs.
use Rattle.std.proofs.Common.{◌≡◌, ◌≤◌, Bool, true, false, not, cond, eqb, leb, List, length, Ok, Err, refl, arith}
use Rattle.std.proofs.lemmas.Bool.{and_parts, leb-true, eqb-true}
use Rattle.signs.specs.declared.SignRow.{SignRow}
use Rattle.placement.specs.declared.line.Line.{Line}
use Rattle.placement.specs.declared.position.Position.{Position}
use Rattle.placement.specs.Bounded.{bounded}
use Rattle.placement.specs.Room.{AllGlyphs, AllLight}
use Rattle.placement.specs.Steps.{fits, held}
use Rattle.placement.proofs.BoundedLists.{bounded_glyphs, bounded_light}

passed_both : {A E : Type 0} (x y : Bool) (first second : E) (to out : A) → cond (not x) (Err first) (cond (not y) (Err second) (Ok to)) ≡ Ok out → (x ≡ true) × (y ≡ true)
passed_both true true first second to out e = (refl, refl)
passed_both true false first second to out e = cc
passed_both false y first second to out e = cc

pub record Held (rows : List SignRow) (positions : List Position) : Type 0 where
  pub long : length positions ≡ length rows
  pub few : length rows ≤ 256
  pub glyphs : AllGlyphs rows
  pub light : AllLight positions

pub held_lists : {S T : Type 0} (l : Line S) (next out : Line T) (rows : List SignRow) (positions : List Position) → held l next rows positions ≡ Ok out → Held rows positions
held_lists l next out rows positions e =
    let both = passed_both (fits l.len (length rows) (length positions)) (bounded rows positions) _ _ _ _ e in
    let fit = and_parts (leb l.len 256) _ both.0 in
    let lists = and_parts (eqb (length rows) l.len) (eqb (length positions) l.len) fit.1 in
    let most = leb-true l.len 256 fit.0 in
    let r = eqb-true (length rows) l.len lists.0 in
    let p = eqb-true (length positions) l.len lists.1 in
    record { long = omega (arith, r, p); few = omega (arith, r, most); glyphs = bounded_glyphs rows positions both.1; light = bounded_light rows positions both.1 }
