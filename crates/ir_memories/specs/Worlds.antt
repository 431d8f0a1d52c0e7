-- The memory that a list of source modules begins with.
use Rattle.std.specs.Prelude.{ℕ, ◌+◌, true, List, [], ◌∷◌, ◌++◌, map, All}
use Rattle.ir_values.specs.declared.modules.Var.{Var}
use Rattle.ir_values.specs.declared.modules.Func.{Func}
use Rattle.ir_values.specs.declared.modules.Module.{Module}
use Rattle.ir_numbers.specs.Layout.{IsLaidOut}
use Rattle.type_metadata.specs.declared.items.Item.{Item}
use Rattle.type_metadata.specs.declared.types.Types.{Types}
use Rattle.type_metadata.specs.Carriers.{extent_of}
use Rattle.type_metadata.specs.Counted.{AreCounted}
use Rattle.type_metadata.specs.Items.{items}
use Rattle.type_metadata.specs.Types.{AreTypes}
use Rattle.ir_memories.specs.declared.symbolic.Space.{Space}
use Rattle.ir_memories.specs.declared.symbolic.Symbolic.{Symbolic}
use Rattle.ir_memories.specs.Images.{source_address, cells_of}

-- a variable of a file
abbrev pub variable_space : List Item → ℕ → Var → Space
variable_space items file v = record { extent = extent_of v; constant = v.constant; cells = cells_of (source_address items file) v.init }

abbrev pub function_space : Func → Space
function_space f = record { extent = 1; constant = true; cells = [] }

abbrev pub spaces_in : List Item → ℕ → Module → List Space
spaces_in items file m = map (variable_space items file) m.vars ++ map function_space m.funcs

abbrev pub spaces_from : List Item → ℕ → List Module → List Space
spaces_from items file [] = []
spaces_from items file (m ∷ ms) = spaces_in items file m ++ spaces_from items (file + 1) ms

-- in object order, as the items
abbrev pub world : List Module → Types → Symbolic
world ms types = record { items = items ms; spaces = spaces_from (items ms) 1 ms; types = types }

-- each variable has a type of a size
abbrev pub IsLaid : Module → Type 0
IsLaid m = All (λ v. IsLaidOut v.ty) m.vars

-- source modules, and the types that are collected of them
pub record AreSource (ms : List Module) (types : Types) : Type 0 where
  pub counted : AreCounted ms
  pub laid : All IsLaid ms
  pub collected : AreTypes ms types
