-- Faults of a font file: the number of each, and how one rises from a byte through its table to the file.
use Rattle.std.specs.Prelude.{ℕ, List, Ok, Err, Result}
use Rattle.fonts.specs.declared.faults.Fault.{Fault}
use Rattle.fonts.specs.declared.faults.Fault.TheVariants.{EmOutsideLimits, PastEnd, Unknown, Missing, BadRange, AscenderBelow}
use Rattle.fonts.specs.declared.faults.ByteFault.{ByteFault}
use Rattle.fonts.specs.declared.faults.TableFault.{TableFault}
use Rattle.fonts.specs.declared.faults.FontFault.{FontFault}

abbrev pub number_of : Fault → ℕ
number_of EmOutsideLimits = 1
number_of PastEnd = 5
number_of Unknown = 6
number_of Missing = 7
number_of BadRange = 8
number_of AscenderBelow = 9

abbrev pub in_table : ByteFault → TableFault
in_table e = record { fault = PastEnd; place = e.place }

-- A fault at a place of a table, and one of the file.
abbrev pub wrong : {A : Type 0} → Fault → ℕ → Result A TableFault
wrong fault place = Err (record { fault = fault; place = place })

abbrev pub broken : {A : Type 0} → Fault → List ℕ → ℕ → Result A FontFault
broken fault tag place = Err (record { fault = fault; tag = tag; place = place })

-- An answer goes on, a fault rises.
abbrev pub rising : {A B E F : Type 0} → (E → F) → Result A E → (A → Result B F) → Result B F
rising up (Ok x) next = next x
rising up (Err e) next = Err (up e)

-- A fault that stays what it is.
abbrev pub next : {A B E : Type 0} → Result A E → (A → Result B E) → Result B E
next (Ok x) f = f x
next (Err e) f = Err e
