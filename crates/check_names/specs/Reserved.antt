-- Names that a file must not use.
-- Source: none; which names are the project's own is docs/refusals.md.
use Rattle.std.specs.Prelude.{ℕ, ◌^◌, Bool, not, ◌&&◌, ◌||◌, nat_eq, nat_le, List, Option, codes}
use Rattle.std.specs.List.{starts_with}
use Rattle.ltt_base.specs.declared.refusal.Code.TheVariants.{E07}
use Rattle.ltt_base.specs.declared.refusal.Placed.{Placed}
use Rattle.ir_values.specs.declared.units.Unit as unit
use Rattle.ir_names.specs.Names.{is_decimal, value_of}
use Rattle.check_names.specs.declared.flaws.Flaw.{Flaw}
use Rattle.check_names.specs.declared.spaces.Space.{Space}
use Rattle.check_names.specs.Flaws.{named_when, ◌then◌}
use Rattle.check_names.specs.Spaces.{sign, again_flaw, missing_flaw}

-- a name that only an output has
abbrev pub is_made : List ℕ → Bool
is_made name = starts_with nat_eq name (codes ".ltt.")

abbrev pub is_intrinsic : List ℕ → Bool
is_intrinsic name = starts_with nat_eq name (codes "llvm.")

-- a number of 2^32 or more
abbrev pub is_wide_number : List ℕ → Bool
is_wide_number name = is_decimal name && nat_le (2 ^ 32) (value_of name)

-- a name that the file must not use, behind its sign, in an output or a source
abbrev pub reserved_flaw : Bool → List ℕ → List ℕ → Option Flaw
reserved_flaw output sign name = named_when ((not output && is_made name) || is_wide_number name) E07 sign name

-- a variable or a definition that has an intrinsic's name
abbrev pub intrinsic_flaw : List ℕ → Option Flaw
intrinsic_flaw name = named_when (is_intrinsic name) E07 (codes "@") name

-- the flaws of a name where it is defined, by the unit at a place
abbrev pub definition_flaw : Bool → List (Placed unit.Unit) → ℕ → Space → List ℕ → Option Flaw
definition_flaw output us at space name = again_flaw us at space name then reserved_flaw output (sign space) name

-- the flaws of a name where it is used
abbrev pub use_flaw : Bool → List (Placed unit.Unit) → Space → List ℕ → Option Flaw
use_flaw output us space name = missing_flaw us space name then reserved_flaw output (sign space) name
