-- The lines of a printed module, each a unit.
-- Source: LLVM Language Reference, "High Level Structure". Differs: tables of functions have lines of their own (docs/texts.md).
use Rattle.std.specs.Prelude.{ℕ, Bool, if◌then◌else◌, List, [], ◌∷◌, ◌++◌, map, flat_map, codes, Option, Some, None}
use Rattle.ir_lex.specs.declared.token.Kind.TheVariants.{Label, Number}
use Rattle.ir_values.specs.declared.types.Ty.{Ty}
use Rattle.ir_values.specs.declared.constants.Const.{Const}
use Rattle.ir_values.specs.declared.instructions.Inst.{Inst}
use Rattle.ir_values.specs.declared.modules.Linkage.{Linkage}
use Rattle.ir_values.specs.declared.modules.Linkage.TheVariants.{Private}
use Rattle.ir_values.specs.declared.modules.Block.{Block}
use Rattle.ir_values.specs.declared.modules.Func.{Func}
use Rattle.ir_values.specs.declared.modules.Var.{Var}
use Rattle.ir_values.specs.declared.modules.Jump.{Jump}
use Rattle.ir_values.specs.declared.modules.Module.{Module}
use Rattle.ir_values.specs.declared.units.Form.{Form}
use Rattle.ir_values.specs.declared.units.Form.TheVariants as form
use Rattle.ir_print.specs.declared.intrinsics.Intrinsic.{Intrinsic}
use Rattle.ir_names.specs.Names.{name_text}
use Rattle.ir_print.specs.ModuleText.{is_called, has_none}
use Rattle.printed_tokens.specs.Atoms.{Atom, blank, a_token}
use Rattle.printed_units.specs.Said.{inst_said, var_said, table_said, declare_said, define_said, intrinsic_said}
use Rattle.printed_units.specs.Printing.{space, newline, word, mark, global, local, number, behind_comma, listed, ty_atoms, const_atoms, inst_atoms}

-- what a line says, and what it is put together of
pub record Line : Type 0 where
  pub says : Form
  pub atoms : List Atom

abbrev pub line : Form → List Atom → Line
line says atoms = record { says = says; atoms = atoms }

abbrev pub linkage_atoms : Linkage → List Atom
linkage_atoms Private = word (codes "private") ∷ space ∷ []
linkage_atoms _ = []

abbrev pub content_linkage_atoms : Linkage → Option Const → List Atom
content_linkage_atoms linkage None = word (codes "external") ∷ space ∷ []
content_linkage_atoms linkage (Some constant) = linkage_atoms linkage

abbrev pub kind_word : Bool → List ℕ
kind_word constant = if constant then codes "constant" else codes "global"

abbrev pub content_atoms : Ty → Option Const → List Atom
content_atoms type None = ty_atoms type
content_atoms type (Some constant) = ty_atoms type ++ space ∷ const_atoms type constant

abbrev pub var_line : Var → Line
var_line v = line (var_said v)
    (global v.name ∷ space ∷ mark (codes "=") ∷ space ∷ content_linkage_atoms v.linkage v.init ++ word (kind_word v.constant) ∷ space
    ∷ content_atoms v.ty v.init ++ behind_comma (word (codes "align") ∷ space ∷ number v.align ∷ newline ∷ []))

abbrev pub table_line : Jump → Line
table_line table = line (table_said table)
    (word (codes "jumptable") ∷ space ∷ global table.name ∷ space ∷ word (codes "align") ∷ space ∷ a_token Number (codes "8") ∷ space
    ∷ mark (codes "{") ∷ space ∷ listed (map (λ name. global name ∷ []) table.funcs) ++ space ∷ mark (codes "}") ∷ newline ∷ [])

abbrev pub declare_atoms : Atom → Ty → List Ty → List Atom
declare_atoms name result types =
    word (codes "declare") ∷ space ∷ ty_atoms result ++ space ∷ name ∷ mark (codes "(") ∷ listed (map ty_atoms types)
    ++ mark (codes ")") ∷ newline ∷ []

-- a function without blocks
abbrev pub declare_line : Func → Line
declare_line f = line (declare_said f.name f.fty.result f.fty.params) (declare_atoms (global f.name) f.fty.result f.fty.params)

abbrev pub intrinsic_atoms : Intrinsic → List Atom
intrinsic_atoms Intrinsic.Rotation =
    word (codes "declare") ∷ space ∷ word (codes "i64") ∷ space ∷ global (codes "llvm.fshr.i64") ∷ mark (codes "(") ∷ word (codes "i64")
    ∷ mark (codes ",") ∷ space ∷ word (codes "i64") ∷ mark (codes ",") ∷ space ∷ word (codes "i64") ∷ mark (codes ")") ∷ newline ∷ []
intrinsic_atoms Intrinsic.Trap =
    word (codes "declare") ∷ space ∷ word (codes "void") ∷ space ∷ global (codes "llvm.trap") ∷ mark (codes "(") ∷ mark (codes ")") ∷ newline ∷ []
intrinsic_atoms Intrinsic.CodedTrap =
    word (codes "declare") ∷ space ∷ word (codes "void") ∷ space ∷ global (codes "llvm.ubsantrap") ∷ mark (codes "(") ∷ word (codes "i8")
    ∷ mark (codes ")") ∷ newline ∷ []

abbrev pub intrinsic_line : Intrinsic → Line
intrinsic_line intrinsic = line (intrinsic_said intrinsic) (intrinsic_atoms intrinsic)

abbrev pub params_atoms : List Ty → List (List ℕ) → List (List Atom)
params_atoms (type ∷ types) (name ∷ names) = (ty_atoms type ++ space ∷ local name ∷ []) ∷ params_atoms types names
params_atoms _ _ = []

abbrev pub define_line : Func → Line
define_line f = line (define_said f)
    (word (codes "define") ∷ space ∷ linkage_atoms f.linkage ++ ty_atoms f.fty.result ++ space ∷ global f.name ∷ mark (codes "(")
    ∷ listed (params_atoms f.fty.params f.params) ++ mark (codes ")") ∷ space ∷ mark (codes "{") ∷ newline ∷ [])

abbrev pub label_line : List ℕ → Line
label_line name = line (form.LabelForm name) (a_token Label (name_text name ++ 58 ∷ []) ∷ newline ∷ [])

abbrev pub inst_line : Inst → Line
inst_line inst = line (inst_said inst) (blank (32 ∷ 32 ∷ []) ∷ inst_atoms inst ++ newline ∷ [])

abbrev pub close_line : Line
close_line = line form.CloseForm (mark (codes "}") ∷ newline ∷ [])

abbrev pub block_lines : Block → List Line
block_lines block = label_line block.label ∷ map inst_line block.insts

abbrev pub declared_lines : Func → List Line
declared_lines f = if has_none f.blocks then declare_line f ∷ [] else []

abbrev pub defined_lines : Func → List Line
defined_lines f = if has_none f.blocks then [] else define_line f ∷ flat_map block_lines f.blocks ++ close_line ∷ []

-- an intrinsic is declared where it is called
abbrev pub called_lines : Module → Intrinsic → List Line
called_lines m intrinsic = if is_called intrinsic m.funcs then intrinsic_line intrinsic ∷ [] else []

abbrev pub intrinsics_lines : Module → List Line
intrinsics_lines m = called_lines m Intrinsic.Rotation ++ called_lines m Intrinsic.Trap ++ called_lines m Intrinsic.CodedTrap

-- variables, tables, declarations of intrinsics and of functions, and functions
abbrev pub lines_of : Module → List Line
lines_of m = map var_line m.vars ++ map table_line m.jumps ++ intrinsics_lines m
    ++ flat_map declared_lines m.funcs ++ flat_map defined_lines m.funcs

abbrev pub forms_of : Module → List Form
forms_of m = map (λ l. l.says) (lines_of m)

abbrev pub module_atoms : Module → List Atom
module_atoms m = flat_map (λ l. l.atoms) (lines_of m)
