-- A variable and two functions that can be placed from a base, the only objects of an output.
use Rattle.std.specs.Prelude.{◌≡◌, ◌≢◌, ℕ, ◌^◌, ◌<◌, ◌≤◌, List, []}
use Rattle.ir_values.specs.declared.modules.Var.{Var}
use Rattle.ir_values.specs.declared.modules.Func.{Func}
use Rattle.ir_numbers.specs.Layout.{IsLaidOut}
use Rattle.type_metadata.specs.Sizes.{size_of}

-- a variable of at most 2^27 bytes, and a base
pub record IsLittle (v : Var) (base : ℕ) : Type 0 where
  pub laid : IsLaidOut v.ty
  pub size : size_of v.ty ≤ 2 ^ 27
  pub align : v.align ≡ 8
  pub some : 0 < base
  pub low : base < 2 ^ 32

-- three names
pub record AreApart (variable one other : List ℕ) : Type 0 where
  pub first : variable ≢ one
  pub second : variable ≢ other
  pub third : one ≢ other

-- neither function is external
pub record AreDefined (one other : Func) : Type 0 where
  pub first : one.blocks ≢ []
  pub second : other.blocks ≢ []

pub record CanStand (v : Var) (one other : Func) (base : ℕ) : Type 0 where
  pub room : IsLittle v base
  pub defined : AreDefined one other
  pub apart : AreApart v.name one.name other.name
