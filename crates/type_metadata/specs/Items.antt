-- The items of a list of modules in object order: module by module, its variables, then its functions. Files count from 1.
use Rattle.std.specs.Prelude.{ℕ, ◌+◌, true, false, List, [], ◌∷◌, ◌++◌}
use Rattle.ir_values.specs.declared.modules.Var.{Var}
use Rattle.ir_values.specs.declared.modules.Func.{Func}
use Rattle.ir_values.specs.declared.modules.Module.{Module}
use Rattle.type_metadata.specs.declared.objects.Object.{Object}
use Rattle.type_metadata.specs.declared.items.Item.{Item}

abbrev pub variable_at : ℕ → ℕ → Object
variable_at file index = record { file = file; function = false; index = index }

abbrev pub function_at : ℕ → ℕ → Object
function_at file index = record { file = file; function = true; index = index }

abbrev pub item_of_variable : Object → Var → Item
item_of_variable object v = record { object = object; name = v.name; linkage = v.linkage; entries = v.entries }

abbrev pub item_of_function : Object → Func → Item
item_of_function object f = record { object = object; name = f.name; linkage = f.linkage; entries = f.entries }

abbrev pub variables_from : ℕ → ℕ → List Var → List Item
variables_from file index [] = []
variables_from file index (v ∷ vs) = item_of_variable (variable_at file index) v ∷ variables_from file (index + 1) vs

abbrev pub functions_from : ℕ → ℕ → List Func → List Item
functions_from file index [] = []
functions_from file index (f ∷ fs) = item_of_function (function_at file index) f ∷ functions_from file (index + 1) fs

abbrev pub items_in : ℕ → Module → List Item
items_in file m = variables_from file 0 m.vars ++ functions_from file 0 m.funcs

abbrev pub items_from : ℕ → List Module → List Item
items_from file [] = []
items_from file (m ∷ ms) = items_in file m ++ items_from (file + 1) ms

abbrev pub items : List Module → List Item
items ms = items_from 1 ms
