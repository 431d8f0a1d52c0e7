-- The addresses that constants come to.
use Rattle.std.specs.Prelude.{ℕ, nat_eq, cond, List, Option, None}
use Rattle.ltt_base.specs.declared.refusal.Placed.{Placed}
use Rattle.ir_values.specs.declared.constants.Const.{Const}
use Rattle.ir_values.specs.declared.units.Unit as unit
use Rattle.check_constants.specs.Constants.{weighed}

-- the global at whose address a constant begins, and the bytes from there
abbrev pub global_of : Const → Option (List ℕ)
global_of constant = (weighed constant).global

abbrev pub offset_of : List (Placed unit.Unit) → Const → ℕ
offset_of us constant = (weighed constant).offset us

-- the global whose address a constant comes to, so that a call of it is a direct one
abbrev pub callee_of : List (Placed unit.Unit) → Const → Option (List ℕ)
callee_of us constant = cond (nat_eq (offset_of us constant) 0) (global_of constant) None
