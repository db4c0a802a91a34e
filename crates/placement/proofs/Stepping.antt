-- The walk in the run of a mark, as the code comes to it.
use Rattle.std.proofs.Common.{◌≡◌, ℕ, ap, ◌∙◌}
use Rattle.signs.specs.declared.SignRow.{SignRow}
use Rattle.signs.specs.Rows.{class}
use Rattle.faces.specs.Meaning.{FaceMeaning}
use Rattle.placement.specs.declared.position.Position.{Position}
use Rattle.placement.specs.declared.settings.Settings.{Settings}
use Rattle.placement.specs.declared.walk.Walk.{Walk}
use Rattle.placement.specs.Components.{component}
use Rattle.placement.specs.Walks.{Base, to_component, to_run, entered}

module _ (f : FaceMeaning) (s : Settings) (b : Base) (w : Walk) (r : SignRow) (p : Position) where
  pub entered_is : {v u : Walk} {m : SignRow} {k : ℕ} → m ≡ r → k ≡ class r → u ≡ to_component s b (component b.row m) w → v ≡ to_run k u → v ≡ entered s b r w
  entered_is {v} {u} {m} {k} em ek eu ev =
      ev ∙ ap (λ (x : Walk). to_run k x) (eu ∙ ap (λ (x : SignRow). to_component s b (component b.row x) w) em) ∙ ap (λ (x : ℕ). to_run x (to_component s b (component b.row r) w)) ek
