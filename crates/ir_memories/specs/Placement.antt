-- The addresses of an output's objects.
use Rattle.std.specs.Prelude.{◌≡◌, ℕ, ◌+◌, ◌*◌, ◌%◌, ◌^◌, ◌<◌, ◌≤◌, ◌⊎◌, List, ◌++◌, length, map, max, All, AllPairs}
use Rattle.ir_values.specs.declared.modules.Var.{Var}
use Rattle.ir_values.specs.declared.modules.Func.{Func}
use Rattle.ir_values.specs.declared.modules.Jump.{Jump}
use Rattle.ir_values.specs.declared.modules.Module.{Module}
use Rattle.type_metadata.specs.Sizes.{size_of}

-- an object that takes memory: its name, its size in bytes and the alignment that is printed
pub record Placeable : Type 0 where
  pub name : List ℕ
  pub size : ℕ
  pub align : ℕ

abbrev pub of_variable : Var → Placeable
of_variable v = record { name = v.name; size = max 1 (size_of v.ty); align = v.align }

-- an entry of a table takes eight bytes
abbrev pub of_table : Jump → Placeable
of_table table = record { name = table.name; size = max 1 (8 * length table.funcs); align = 8 }

abbrev pub of_function : Func → Placeable
of_function f = record { name = f.name; size = 1; align = 1 }

-- the objects of an output; its functions are no intrinsics, since declarations of those are not kept
abbrev pub placeables : Module → List Placeable
placeables m = map of_variable m.vars ++ map of_table m.jumps ++ map of_function m.funcs

-- the address of each name's object
abbrev pub Placement : Type 0
Placement = List ℕ → ℕ

abbrev pub AreApart : Placement → Placeable → Placeable → Type 0
AreApart p one other = (p one.name + one.size ≤ p other.name) ⊎ (p other.name + other.size ≤ p one.name)

-- each object stands at a multiple of its alignment, none at 0 nor past 2^64, and no two overlap
pub record IsPlaced (m : Module) (p : Placement) : Type 0 where
  pub aligned : All (λ object. p object.name % object.align ≡ 0) (placeables m)
  pub not_null : All (λ object. 0 < p object.name) (placeables m)
  pub within : All (λ object. p object.name + object.size ≤ 2 ^ 64) (placeables m)
  pub apart : AllPairs (AreApart p) (placeables m)
