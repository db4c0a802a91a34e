-- Which component a mark belongs to.
use Rattle.std.proofs.Common.{◌≡◌, ℕ, ◌%◌, ◌<◌, ◌≤◌, Bool, ◌&&◌, ltb, sym, ap, ◌∙◌, ⊎_elim, arith}
use Rattle.std.proofs.lemmas.Bool.{cases_Bool, cond_both, cond-false, ltb-true, ne_eqb}
use Rattle.signs.specs.declared.SignRow.{SignRow}
use Rattle.signs.specs.Rows.{lig_num_comps, is_lig_base, is_ligature}
use Rattle.placement.specs.declared.extents.Extents.{Extents}
use Rattle.placement.specs.declared.settings.Settings.{Settings}
use Rattle.placement.specs.declared.walk.Walk.{Walk}
use Rattle.placement.specs.Text.{is_text_ltr}
use Rattle.placement.specs.Components.{component, share}
use Rattle.placement.specs.Walks.{Base, Known, to_component}
use Rattle.placement.proofs.Fields.{walk}

pub components_few : (r : SignRow) → lig_num_comps r ≤ 15
components_few r = cond_both (is_lig_base r && is_ligature r) (r.lig_props % 16) 1 (λ n. n ≤ 15) (λ h. omega arith) (λ h. omega arith)

-- a mark that goes to another component stands on a base of several
pub several : (b : Base) (w : Walk) (m : SignRow) → Known b w → (w.component ≡ component b.row m → ⊥) → 1 < lig_num_comps b.row
several b w m known other =
    ⊎_elim (λ h. ltb-true _ _ h) (λ h. absurd (other (known h ∙ sym (cond-false _ _ _ h)))) (cases_Bool (ltb 1 (lig_num_comps b.row)))

module _ (s : Settings) (b : Base) (k : ℕ) (w : Walk) where
  pub other_component : (w.component ≡ k → ⊥) → walk w.x w.y k 0 (share (is_text_ltr s) (lig_num_comps b.row) k b.extents) w.run ≡ to_component s b k w
  other_component ne = sym (cond-false _ _ _ (ne_eqb w.component k ne))

pub same_share : {t u : Bool} {n m k j : ℕ} (e : Extents) → t ≡ u → n ≡ m → k ≡ j → share t n k e ≡ share u m j e
same_share {t} {u} {n} {m} {k} {j} e p q r = ap (λ b. share b n k e) p ∙ ap (λ i. share u i k e) q ∙ ap (λ i. share u m i e) r
