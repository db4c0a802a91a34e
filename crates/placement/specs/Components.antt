-- Components of a base: which one a mark belongs to, and which share of the base's width each has.
use Rattle.std.specs.Prelude.{ℕ, Bool, cond, not, ◌||◌, ℤ, pos, ◌-ℤ◌, ◌*ℤ◌, ◌==◌, int_div, nat_lt}
use Rattle.signs.specs.declared.SignRow.{SignRow}
use Rattle.signs.specs.Rows.{lig_id, lig_comp, lig_num_comps}
use Rattle.placement.specs.declared.extents.Extents.{Extents}

-- Which component of a base a mark belongs to, counted from 1: the one that it names, or the last where the ligatures
-- differ or it names one too many. 0 says that it belongs to none: it names none, or the base has one component only.
abbrev pub component : SignRow → SignRow → ℕ
component base mark =
    cond (nat_lt 1 (lig_num_comps base))
    (cond (lig_id base == 0 || (not (lig_id base == lig_id mark) || nat_lt (lig_num_comps base) (lig_comp mark))) (lig_num_comps base) (lig_comp mark))
    0

-- How many components lie to the left of component k of n, counted from 1.
abbrev pub leftward : Bool → ℕ → ℕ → ℤ
leftward ltr n k = cond ltr (pos k -ℤ pos 1) (pos n -ℤ pos k)

-- The box of component k of n: its share of the box of the base. Divisions round toward zero.
abbrev pub share : Bool → ℕ → ℕ → Extents → Extents
share ltr n k e = record { left = int_div (leftward ltr n k *ℤ e.width) (pos n); width = int_div e.width (pos n); bottom = e.bottom; top = e.top }
