-- The box that `Bounds::new` makes, as an answer.
use Rattle.std.proofs.Common.{◌≡◌, Ok, Err, Result, refl}
use Rattle.std.specs.Result.{result_ok}
use Rattle.faces.specs.declared.bounds.Bounds.{Bounds}
use Rattle.faces.specs.declared.refusal.Refusal.{Refusal}
use Rattle.faces.specs.Boxes.{edges_of, box_of}
use Rattle.faces.specs.Refusals.{outcome}

pub ok_box : (x : Result Bounds Refusal) → box_of (result_ok x) ≡ result_ok (outcome edges_of x)
ok_box (Ok b) = refl
ok_box (Err e) = refl
