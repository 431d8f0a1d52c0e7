-- Types that no unit writes.
use Rattle.std.specs.Prelude.{[], ◌∷◌}
use Rattle.ir_values.specs.declared.types.Width.TheVariants.{W1, W64}
use Rattle.ir_values.specs.declared.types.Ty.{Ty}
use Rattle.ir_values.specs.declared.types.Ty.TheVariants.{Int, Ptr, Struct}

abbrev pub bit : Ty
bit = Int W1

abbrev pub long : Ty
long = Int W64

-- what a checked load gives: a pointer, and whether the load was allowed
abbrev pub pair : Ty
pair = Struct (Ptr ∷ bit ∷ [])

-- the made types, all together
pub record MadeTypes : Type 0 where
  pub void : Ty
  pub bit : Ty
  pub long : Ty
  pub pointer : Ty
  pub pair : Ty
