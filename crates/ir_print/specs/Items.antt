-- How the items of a module are printed, each in whole lines.
use Rattle.std.specs.Prelude.{ℕ, Bool, if◌then◌else◌, List, [], ◌∷◌, ◌++◌, map, codes, decimal, flat_map, Option, Some, None}
use Rattle.ir_values.specs.declared.types.Ty.{Ty}
use Rattle.ir_values.specs.declared.constants.Const.{Const}
use Rattle.ir_values.specs.declared.instructions.Inst.{Inst}
use Rattle.ir_values.specs.declared.modules.Linkage.{Linkage}
use Rattle.ir_values.specs.declared.modules.Block.{Block}
use Rattle.ir_values.specs.declared.modules.Func.{Func}
use Rattle.ir_values.specs.declared.modules.Var.{Var}
use Rattle.ir_values.specs.declared.modules.Jump.{Jump}
use Rattle.ir_print.specs.Pieces.{joined, commas}
use Rattle.ir_names.specs.Names.{name_text, global_text, local_text}
use Rattle.ir_print.specs.Types.{ty_text, behind_types}
use Rattle.ir_print.specs.Constants.{typed_const_text}
use Rattle.ir_print.specs.Instructions.{inst_text}

abbrev pub private_text : Linkage → List ℕ
private_text Linkage.Private = codes "private "
private_text _ = []

-- a variable without initialiser is external
abbrev pub linkage_text : Linkage → Option Const → List ℕ
linkage_text linkage None = codes "external "
linkage_text linkage (Some init) = private_text linkage

abbrev pub kind_text : Bool → List ℕ
kind_text constant = if constant then codes "constant " else codes "global "

-- the type of a variable, with the initialiser if there is one
abbrev pub content_text : Ty → Option Const → List ℕ
content_text ty None = ty_text ty
content_text ty (Some init) = typed_const_text ty init

unfoldable pub var_pieces : Var → List (List ℕ)
var_pieces v = global_text v.name ∷ codes " = " ∷ linkage_text v.linkage v.init ∷ kind_text v.constant ∷ content_text v.ty v.init
    ∷ codes ", align " ∷ decimal v.align ∷ codes "\n" ∷ []

unfoldable pub table_pieces : Jump → List (List ℕ)
table_pieces table = codes "jumptable " ∷ global_text table.name
    ∷ codes " align 8 { " ∷ commas (map global_text table.funcs) ∷ codes " }\n" ∷ []

unfoldable pub declare_pieces : Func → List (List ℕ)
declare_pieces f = codes "declare " ∷ ty_text f.fty.result ∷ codes " " ∷ global_text f.name
    ∷ codes "(" ∷ commas (map ty_text f.fty.params) ∷ codes ")\n" ∷ []

abbrev pub param_text : Ty → List ℕ → List ℕ
param_text ty param = ty_text ty ++ codes " " ++ local_text param

-- each parameter behind its type
abbrev pub params_text : List Ty → List (List ℕ) → List (List ℕ)
params_text = behind_types param_text

-- an instruction, on its line
unfoldable pub line_text : Inst → List ℕ
line_text inst = codes "  " ++ inst_text inst ++ codes "\n"

unfoldable pub block_text : Block → List ℕ
block_text block = name_text block.label ++ codes ":\n" ++ flat_map line_text block.insts

unfoldable pub define_pieces : Func → List (List ℕ)
define_pieces f = codes "define " ∷ private_text f.linkage ∷ ty_text f.fty.result ∷ codes " " ∷ global_text f.name
    ∷ codes "(" ∷ commas (params_text f.fty.params f.params) ∷ codes ") {\n" ∷ flat_map block_text f.blocks ∷ codes "}\n" ∷ []

-- the lines of an item
abbrev pub var_text : Var → List ℕ
var_text v = joined (var_pieces v)

abbrev pub table_text : Jump → List ℕ
table_text table = joined (table_pieces table)

abbrev pub declare_text : Func → List ℕ
declare_text f = joined (declare_pieces f)

abbrev pub define_text : Func → List ℕ
define_text f = joined (define_pieces f)
