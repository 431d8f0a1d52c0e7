-- The functions that the units of a file become.
-- Source: LLVM Language Reference, "Functions". Differs: an intrinsic that is declared becomes none; a declaration keeps no attachment; an
-- unnamed parameter has its number as its name.
use Rattle.std.specs.Prelude.{ℕ, ◌+◌, Bool, true, false, cond, List, [], ◌∷◌, ◌++◌, map}
use Rattle.ltt_base.specs.declared.refusal.Place.{Place}
use Rattle.ltt_base.specs.declared.refusal.Placed.{Placed}
use Rattle.ir_values.specs.declared.types.Ty.{Ty}
use Rattle.ir_values.specs.declared.types.FuncTy.{FuncTy}
use Rattle.ir_values.specs.declared.modules.Block.{Block}
use Rattle.ir_values.specs.declared.modules.Entry.{Entry}
use Rattle.ir_values.specs.declared.modules.Func.{Func}
use Rattle.ir_values.specs.declared.units.Unit.{Unit}
use Rattle.ir_values.specs.declared.units.Param.{Param}
use Rattle.ir_values.specs.declared.units.Head.{Head}
use Rattle.ir_values.specs.declared.units.Form.{Form}
use Rattle.ir_values.specs.declared.units.Form.TheVariants.{DeclareForm, DefineForm}
use Rattle.check_names.specs.Reserved.{is_intrinsic}
use Rattle.check_bodies.specs.Names.{parameters}
use Rattle.check_types.specs.Replaced.{replaced}
use Rattle.check_items.specs.Entries.{entries_of}
use Rattle.built_modules.specs.Linkages.{linkage_of}
use Rattle.built_modules.specs.Blocks.{body_blocks}

abbrev pub param_types : List (Placed Unit) → List Param → List Ty
param_types us params = map (λ param. replaced us param.ty) params

-- the type of a head
abbrev pub type_of : List (Placed Unit) → Head → FuncTy
type_of us head = record { result = replaced us head.result; params = param_types us head.params }

-- the names of parameters
abbrev pub param_names : List Param → List (List ℕ)
param_names params = map (λ defined. defined.name) (parameters 0 0 params)

abbrev pub func_of : List (Placed Unit) → Place → Head → Bool → List Block → List Entry → Func
func_of us place head declared blocks entries = record {
  place = place;
  name = head.name;
  linkage = linkage_of declared head.linkage;
  fty = type_of us head;
  params = param_names head.params;
  blocks = blocks;
  entries = entries;
}

-- the function that a head at a place among the units defines
abbrev pub defined : Bool → List (Placed Unit) → ℕ → ℕ → Place → Head → Func
defined output us file at place head =
    func_of us place head false (body_blocks output us file at) (entries_of us file head.attached)

abbrev pub declared : List (Placed Unit) → Place → Head → Func
declared us place head = func_of us place head true [] []

-- the function that a head declares; an intrinsic is none of the module
abbrev pub declared_in : List (Placed Unit) → Place → Head → List Func
declared_in us place head = cond (is_intrinsic head.name) [] (declared us place head ∷ [])

abbrev pub funcs_in : Bool → List (Placed Unit) → ℕ → ℕ → Place → Form → List Func
funcs_in output us file at place (DeclareForm head) = declared_in us place head
funcs_in output us file at place (DefineForm head) = defined output us file at place head ∷ []
funcs_in output us file at place _ = []

-- the functions of units, the first of them at a place among those of the file
unfoldable pub funcs_from : Bool → List (Placed Unit) → ℕ → ℕ → List (Placed Unit) → List Func
funcs_from output us file at [] = []
funcs_from output us file at (u ∷ units) =
    funcs_in output us file at u.place u.value.form ++ funcs_from output us file (at + 1) units
