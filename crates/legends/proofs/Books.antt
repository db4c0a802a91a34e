-- Calls that are alike have the same book.
use Rattle.std.proofs.Common.{◌≡◌, ℕ, ◌<◌, Bool, true, false, cond, eqb, ◌≢◌, List, [], ◌∷◌, length, get_or, set, replicate, Some, None, Option, unwrap_or, sym, refl, ap, ◌∙◌, arith, eqb-true}
use borrow.Author.Tests.{eqb-false}
use Rattle.std.proofs.lemmas.List.{length-set, get_or-set_same, get_or-set_other, ext_get_or, length-replicate}
use Rattle.signs.specs.declared.SignRow.{SignRow}
use Rattle.placement.specs.declared.Settings.{Settings}
use Rattle.legends.specs.declared.call.Call.{Call}
use Rattle.legends.specs.declared.call.Call.TheVariants.{Put, Turn, Draw}
use Rattle.legends.specs.Book.{Book, blank_sign, blank_book, is_accepted, written, writes, writes_all, book_after}
use Rattle.legends.specs.Last.{put_at, turn_to, later, last, Alike}

or_later : {X : Type 0} (a b : Option X) (y : X) → unwrap_or (later a b) y ≡ unwrap_or b (unwrap_or a y)
or_later a (Some x) y = refl
or_later a None y = refl

written_long : (c : Call) (b : Book) → length (written c b).signs ≡ length b.signs
written_long (Put lent at row) b = length-set b.signs at row
written_long (Turn lent settings) b = refl
written_long (Draw lent room) b = refl

module _ (n : ℕ) where
  by_answer : (P : Book → Type 0) (c : Call) (b : Book) → P (written c b) → P b → P (writes n c b)
  by_answer P c b taken left = elim (is_accepted n c) as (λ v. P (cond v (written c b) b)) [ true ↦ taken | false ↦ left ]

  pub writes_long : (c : Call) (b : Book) → length (writes n c b).signs ≡ length b.signs
  writes_long c b = by_answer (λ k. length k.signs ≡ length b.signs) c b (written_long c b) refl

  all_long : (calls : List Call) (b : Book) → length (writes_all n calls b).signs ≡ length b.signs
  all_long [] b = refl
  all_long (c ∷ calls) b = all_long calls (writes n c b) ∙ writes_long c b

  pub book_long : (calls : List Call) → length (book_after n calls).signs ≡ n
  book_long calls = all_long calls (blank_book n) ∙ length-replicate n blank_sign

  -- what a book says under some heading is what was last reported there
  module _ {X : Type 0} (report : Call → Option X) (entry : Book → X)
      (one : (c : Call) (b : Book) → length b.signs ≡ n → entry (written c b) ≡ unwrap_or (report c) (entry b)) where
    step : (c : Call) (b : Book) (v : Bool) → length b.signs ≡ n → entry (cond v (written c b) b) ≡ unwrap_or (cond v (report c) None) (entry b)
    step c b true l = one c b l
    step c b false l = refl

    reported : (calls : List Call) (b : Book) → length b.signs ≡ n → entry (writes_all n calls b) ≡ unwrap_or (last report n calls) (entry b)
    reported [] b l = refl
    reported (c ∷ calls) b l =
        reported calls (writes n c b) (writes_long c b ∙ l)
        ∙ ap (unwrap_or (last report n calls)) (step c b (is_accepted n c) l)
        ∙ sym (or_later (cond (is_accepted n c) (report c) None) (last report n calls) (entry b))

  sign_at : (place at : ℕ) (row : SignRow) (b : Book) (v : Bool) → eqb at place ≡ v → place < length b.signs
      → get_or (set b.signs at row) place blank_sign ≡ unwrap_or (cond v (Some row) None) (get_or b.signs place blank_sign)
  sign_at place at row b true e h = let q = eqb-true at place e in ap (λ k. get_or (set b.signs k row) place blank_sign) q ∙ get_or-set_same b.signs place row blank_sign h
  sign_at place at row b false e h = let q : place ≢ at = λ w. eqb-false at place e (sym w) in get_or-set_other b.signs at place row blank_sign q

  sign_written : (place : ℕ) → place < n → (c : Call) (b : Book) → length b.signs ≡ n
      → get_or (written c b).signs place blank_sign ≡ unwrap_or (put_at place c) (get_or b.signs place blank_sign)
  sign_written place h (Put lent at row) b l = sign_at place at row b (eqb at place) refl (omega arith)
  sign_written place h (Turn lent settings) b l = refl
  sign_written place h (Draw lent room) b l = refl

  settings_written : (c : Call) (b : Book) → length b.signs ≡ n → (written c b).settings ≡ unwrap_or (turn_to c) b.settings
  settings_written (Put lent at row) b l = refl
  settings_written (Turn lent settings) b l = refl
  settings_written (Draw lent room) b l = refl

  same_entries : {a b : List SignRow} {s t : Settings} → a ≡ b → s ≡ t → ◌≡◌ {A = Book} (record { signs = a; settings = s }) (record { signs = b; settings = t })
  same_entries e f = cc

  pub same_book : (calls others : List Call) → Alike n calls others → book_after n others ≡ book_after n calls
  same_book calls others a =
      let l = book_long calls in
      let o = book_long others in
      let z = length-replicate n blank_sign in
      let sign = λ (place : ℕ) (h : place < n) (cs : List Call). reported (put_at place) (λ (b : Book). get_or b.signs place blank_sign) (sign_written place h) cs (blank_book n) z in
      let settings = λ (cs : List Call). reported turn_to (λ (b : Book). b.settings) settings_written cs (blank_book n) z in
      same_entries
      (ext_get_or blank_sign (book_after n others).signs (book_after n calls).signs (o ∙ sym l) (λ place h.
      let k : place < n = omega arith in
      sign place k others ∙ ap (λ q. unwrap_or q (get_or (replicate n blank_sign) place blank_sign)) (sym (a.puts place k)) ∙ sym (sign place k calls)))
      (settings others ∙ ap (λ q. unwrap_or q (blank_book n).settings) (sym a.turns) ∙ sym (settings calls))
