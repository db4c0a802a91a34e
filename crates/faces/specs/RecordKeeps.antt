-- A record face keeps the limits of a face.
use Rattle.std.specs.Prelude.{◌≡◌, ℕ, ◌≤◌, Bool, true, false, cond, not, ◌||◌, List, [], ◌∷◌, pos, negsuc, ◌≤ℤ◌, Some, None, Option, ◌==◌, int_le, nat_le, refl}
use Rattle.std.proofs.Common.{sym, ◌∙◌, ⊎_elim, arith}
use Rattle.std.specs.Int.Signed.{le_z_yes}
use Rattle.std.proofs.lemmas.Int.{ints}
use Rattle.std.proofs.lemmas.Bool.{cond-true, cond-false, cases_Bool, and_parts, leb-true}
use Rattle.faces.specs.declared.record_face.RecordFace.{RecordFace}
use Rattle.faces.specs.declared.records.GlyphRecord.{GlyphRecord}
use Rattle.faces.specs.declared.records.CodeRecord.{CodeRecord}
use Rattle.faces.specs.Meaning.{Edges, IsBox, Keeps}
use Rattle.faces.specs.Straight.{straight}
use Rattle.faces.specs.Keys.{first, every}
use Rattle.faces.specs.Records.{glyph_key, code_key, edges_in, glyph_sound, code_sound, glyph_in, across_in, down_in, box_in}
use Rattle.faces.specs.Recorded.{recorded_meaning}

-- what every record passes, the first of a key passes
pub first_passes : {X : Type 0} (key : X → ℕ) (test : X → Bool) (k : ℕ) (xs : List X) (x : X) → first key k xs ≡ Some x → every test xs ≡ true → test x ≡ true
first_passes key test k [] x found all = let z : ◌≡◌ {A = ℕ} 0 1 = cc in absurd (omega arith)
first_passes {X} key test k (y ∷ ys) x found all =
    let p = and_parts (test y) (every test ys) all in
    ⊎_elim
    (λ e. let s : ◌≡◌ {A = Option X} (Some y) (Some x) = sym (cond-true _ _ _ e) ∙ found in
    let q : y ≡ x = cc in rw q at p.0)
    (λ e. first_passes key test k ys x (sym (cond-false _ _ _ e) ∙ found) p.1)
    (cases_Bool (key y == k))

-- the glyph of a code
glyph_kept : (c : ℕ) (cs : List CodeRecord) (o : Option CodeRecord) (g : ℕ) → first code_key c cs ≡ o → every code_sound cs ≡ true → glyph_in o ≡ Some g → (1 ≤ g) × (g ≤ 65535)
glyph_kept c cs None g found all e = let z : ◌≡◌ {A = ℕ} 0 1 = cc in absurd (omega arith)
glyph_kept c cs (Some r) g found all e =
    let q : r.glyph ≡ g = cc in
    let high = r.glyph_fits in
    let low = leb-true 1 r.glyph (and_parts (nat_le 1 r.glyph) (nat_le r.code 0x10FFFF) (first_passes code_key code_sound c cs r found all)).0 in
    (omega arith, omega arith)

-- the advances of a glyph
across_kept : (o : Option GlyphRecord) → across_in o ≤ 65535
across_kept (Some r) = let h = r.across_fits in omega arith
across_kept None = omega arith

down_kept : (o : Option GlyphRecord) → (negsuc 65534 ≤ℤ down_in o) × (down_in o ≤ℤ pos 0)
down_kept (Some r) = let h = r.down_fits in (omega (arith, ints), omega (arith, ints))
down_kept None = (le_z_yes tt, le_z_yes tt)

-- the box of a glyph
edges_kept : (r : GlyphRecord) → straight (edges_in r) ≡ true → IsBox (edges_in r)
edges_kept r s =
    let p = and_parts (int_le r.left r.right) (int_le r.bottom r.top) s in
    let l = r.left_fits in let b = r.bottom_fits in let a = r.right_fits in let t = r.top_fits in
    record {
      left_right = le_z_yes (rw p.0 tt);
      bottom_top = le_z_yes (rw p.1 tt);
      left = record { low = omega (arith, ints); high = omega (arith, ints) };
      bottom = record { low = omega (arith, ints); high = omega (arith, ints) };
      right = record { low = omega (arith, ints); high = omega (arith, ints) };
      top = record { low = omega (arith, ints); high = omega (arith, ints) };
    }

boxed : (b : Bool) (x e : Edges) → cond b (Some x) None ≡ Some e → (b ≡ true) × (x ≡ e)
boxed true x e h = (refl, cc)
boxed false x e h = let z : ◌≡◌ {A = ℕ} 0 1 = cc in absurd (omega arith)

pub straight_if : (b s : Bool) → b ≡ true → (not b || s) ≡ true → s ≡ true
straight_if true s e h = h
straight_if false s e h = let z : ◌≡◌ {A = ℕ} 0 1 = cc in absurd (omega arith)

box_kept : (g : ℕ) (gs : List GlyphRecord) (o : Option GlyphRecord) (e : Edges) → first glyph_key g gs ≡ o → every glyph_sound gs ≡ true → box_in o ≡ Some e → IsBox e
box_kept g gs None e found all h = let z : ◌≡◌ {A = ℕ} 0 1 = cc in absurd (omega arith)
box_kept g gs (Some r) e found all h =
    let p = boxed r.has_box (edges_in r) e h in
    rw p.1 at (edges_kept r (straight_if r.has_box (straight (edges_in r)) p.0 (first_passes glyph_key glyph_sound g gs r found all)))

pub recorded_keeps : (f : RecordFace) → Keeps (recorded_meaning f)
recorded_keeps f = record {
  em_low = f.em_low;
  em_high = f.em_high;
  glyph_low = λ c g e. (glyph_kept c f.codes.rows.now _ g refl f.codes_sound e).0;
  glyph_high = λ c g e. (glyph_kept c f.codes.rows.now _ g refl f.codes_sound e).1;
  across_high = λ g. across_kept (first glyph_key g f.glyphs.rows.now);
  down_low = λ g. (down_kept (first glyph_key g f.glyphs.rows.now)).0;
  down_high = λ g. (down_kept (first glyph_key g f.glyphs.rows.now)).1;
  boxes = λ g e h. box_kept g f.glyphs.rows.now _ e refl f.glyphs_sound h;
}
