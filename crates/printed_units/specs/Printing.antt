-- The blanks and tokens that printed types, constants and instructions are put together of.
-- Source: LLVM Language Reference, "Type System", "Constants" and "Instruction Reference".
use Rattle.std.specs.Prelude.{ℕ, zero, suc, nat_eq, cond, List, [], ◌∷◌, ◌++◌, map, flat_map, codes, decimal, Option, Some, None}
use Rattle.ir_lex.specs.declared.token.Kind.{Kind}
use Rattle.ir_lex.specs.declared.token.Kind.TheVariants.{Word, Global, Local, Number, Bytes, Mark}
use Rattle.ir_values.specs.declared.types.Width.{Width}
use Rattle.ir_values.specs.declared.types.Width.TheVariants.{W1, W8, W64}
use Rattle.ir_values.specs.declared.types.Ty.{Ty, out-Ty}
use Rattle.ir_values.specs.declared.types.Ty.TheVariants as ty
use Rattle.ir_values.specs.declared.types.Ty.TheOpen.{Ty-F}
use Rattle.ir_values.specs.declared.constants.Const.{Const, out-Const}
use Rattle.ir_values.specs.declared.constants.Const.TheOpen.{Const-F}
use Rattle.ir_values.specs.declared.constants.Operand.{Operand}
use Rattle.ir_values.specs.declared.constants.Operand.TheVariants as operand
use Rattle.ir_values.specs.declared.instructions.Callee.{Callee}
use Rattle.ir_values.specs.declared.instructions.Inst.{Inst}
use Rattle.ir_values.specs.declared.instructions.Inst.TheVariants as inst
use Rattle.type_grammar.specs.Levels.{levels}
use Rattle.ir_names.specs.Names.{global_text, local_text}
use Rattle.ir_names.specs.Numbers.{integer_text}
use Rattle.ir_print.specs.Types.{width_text}
use Rattle.ir_print.specs.Constants.{bytes_text}
use Rattle.ir_print.specs.Instructions.{op_text, pred_text, cast_text}
use Rattle.printed_tokens.specs.Atoms.{Atom, blank, a_token}

abbrev pub space : Atom
space = blank (32 ∷ [])

abbrev pub newline : Atom
newline = blank (10 ∷ [])

abbrev pub word : List ℕ → Atom
word text = a_token Word text

abbrev pub mark : List ℕ → Atom
mark text = a_token Mark text

abbrev pub global : List ℕ → Atom
global name = a_token Global (global_text name)

abbrev pub local : List ℕ → Atom
local name = a_token Local (local_text name)

abbrev pub number : ℕ → Atom
number n = a_token Number (decimal n)

-- truth values are words
abbrev pub integer_kind : Width → Kind
integer_kind W1 = Word
integer_kind _ = Number

abbrev pub integer : Width → ℕ → Atom
integer width value = a_token (integer_kind width) (integer_text width value)

-- each behind a comma
abbrev pub behind_comma : List Atom → List Atom
behind_comma atoms = mark (codes ",") ∷ space ∷ atoms

-- with commas between them
abbrev pub listed : List (List Atom) → List Atom
listed [] = []
listed (item ∷ items) = item ++ flat_map behind_comma items

abbrev pub braced : List (List Atom) → List Atom
braced [] = mark (codes "{") ∷ mark (codes "}") ∷ []
braced (item ∷ items) = mark (codes "{") ∷ space ∷ listed (item ∷ items) ++ space ∷ mark (codes "}") ∷ []

abbrev pub ty_layer_atoms : (Ty → List Atom) → Ty-F Ty → List Atom
ty_layer_atoms atoms Ty-F.Void = word (codes "void") ∷ []
ty_layer_atoms atoms (Ty-F.Int width) = word (width_text width) ∷ []
ty_layer_atoms atoms Ty-F.Ptr = word (codes "ptr") ∷ []
ty_layer_atoms atoms (Ty-F.Array count part) =
    mark (codes "[") ∷ number count ∷ space ∷ word (codes "x") ∷ space ∷ atoms part ++ mark (codes "]") ∷ []
ty_layer_atoms atoms (Ty-F.Struct parts) = braced (map atoms parts)
ty_layer_atoms atoms _ = []

abbrev pub ty_within_atoms : ℕ → Ty → List Atom
ty_within_atoms zero type = []
ty_within_atoms (suc n) type = ty_layer_atoms (ty_within_atoms n) (out-Ty type)

abbrev pub ty_atoms : Ty → List Atom
ty_atoms type = ty_within_atoms levels type

abbrev pub moved_atoms : List ℕ → ℕ → List Atom
moved_atoms name offset =
    word (codes "getelementptr") ∷ space ∷ mark (codes "(") ∷ word (codes "i8") ∷ mark (codes ",") ∷ space ∷ word (codes "ptr") ∷ space
    ∷ global name ∷ mark (codes ",") ∷ space ∷ word (codes "i64") ∷ space ∷ integer W64 offset ∷ mark (codes ")") ∷ []

abbrev pub address_atoms : List ℕ → ℕ → List Atom
address_atoms name offset = cond (nat_eq offset 0) (global name ∷ []) (moved_atoms name offset)

abbrev pub number_atoms : List ℕ → ℕ → List Atom
number_atoms name offset =
    word (codes "ptrtoint") ∷ space ∷ mark (codes "(") ∷ word (codes "ptr") ∷ space ∷ address_atoms name offset
    ++ space ∷ word (codes "to") ∷ space ∷ word (codes "i64") ∷ mark (codes ")") ∷ []

-- a constant behind its type, where each is printed so
abbrev pub typed_with : (Ty → List Atom) → (Ty → Const → List Atom) → Ty → Const → List Atom
typed_with types atoms type part = types type ++ space ∷ atoms type part

abbrev pub fields_atoms : (Ty → Const → List Atom) → List Ty → List Const → List (List Atom)
fields_atoms typed (type ∷ types) (part ∷ parts) = typed type part ∷ fields_atoms typed types parts
fields_atoms typed _ _ = []

abbrev pub struct_atoms : (Ty → Const → List Atom) → Ty-F Ty → List Const → List Atom
struct_atoms typed (Ty-F.Struct types) parts = braced (fields_atoms typed types parts)
struct_atoms typed _ parts = []

abbrev pub const_layer_atoms : (Ty → Const → List Atom) → Ty → Const-F Const Operand → List Atom
const_layer_atoms typed type (Const-F.Int width value) = integer width value ∷ []
const_layer_atoms typed type Const-F.Null = word (codes "null") ∷ []
const_layer_atoms typed type (Const-F.Addr name offset) = address_atoms name offset
const_layer_atoms typed type (Const-F.Zero own) = word (codes "zeroinitializer") ∷ []
const_layer_atoms typed type (Const-F.Array part parts) = mark (codes "[") ∷ listed (map (typed part) parts) ++ mark (codes "]") ∷ []
const_layer_atoms typed type (Const-F.Struct parts) = struct_atoms typed (out-Ty type) parts
const_layer_atoms typed type (Const-F.Bytes text) = a_token Bytes (bytes_text text) ∷ []
const_layer_atoms typed type (Const-F.Number name offset) = number_atoms name offset
const_layer_atoms typed type _ = []

abbrev pub const_within_atoms : ℕ → Ty → Const → List Atom
const_within_atoms zero type constant = []
const_within_atoms (suc n) type constant =
    const_layer_atoms (typed_with (ty_within_atoms n) (const_within_atoms n)) type (out-Const constant)

abbrev pub const_atoms : Ty → Const → List Atom
const_atoms type constant = const_within_atoms levels type constant

abbrev pub operand_atoms : Ty → Operand → List Atom
operand_atoms type (operand.Reg name) = local name ∷ []
operand_atoms type (operand.Const constant) = const_atoms type constant

-- an operand behind its type
abbrev pub typed_atoms : Ty → Operand → List Atom
typed_atoms type value = ty_atoms type ++ space ∷ operand_atoms type value

abbrev pub args_atoms : List Ty → List Operand → List (List Atom)
args_atoms (type ∷ types) (value ∷ values) = typed_atoms type value ∷ args_atoms types values
args_atoms _ _ = []

abbrev pub callee_atoms : Callee → List Atom
callee_atoms (Callee.Function name) = global name ∷ []
callee_atoms (Callee.Value value) = operand_atoms ty.Ptr value

abbrev pub target_atoms : List ℕ → List Atom
target_atoms label = word (codes "label") ∷ space ∷ local label ∷ []

abbrev pub index_atoms : Width × Operand → List Atom
index_atoms index = behind_comma (typed_atoms (ty.Int index.0) index.1)

abbrev pub arm_atoms : Ty → Operand × List ℕ → List Atom
arm_atoms type arm = mark (codes "[") ∷ operand_atoms type arm.0 ++ mark (codes ",") ∷ space ∷ local arm.1 ∷ mark (codes "]") ∷ []

abbrev pub case_atoms : Width → ℕ × List ℕ → List Atom
case_atoms width choice =
    word (width_text width) ∷ space ∷ integer width choice.0 ∷ mark (codes ",") ∷ space ∷ target_atoms choice.1

abbrev pub behind_space : List Atom → List Atom
behind_space atoms = space ∷ atoms

-- with spaces between them
abbrev pub spaced : List (List Atom) → List Atom
spaced [] = []
spaced (item ∷ items) = item ++ flat_map behind_space items

-- `%r = `
abbrev pub set_atoms : List ℕ → List Atom → List Atom
set_atoms dst atoms = local dst ∷ space ∷ mark (codes "=") ∷ space ∷ atoms

abbrev pub maybe_set_atoms : Option (List ℕ) → List Atom → List Atom
maybe_set_atoms None atoms = atoms
maybe_set_atoms (Some dst) atoms = set_atoms dst atoms

abbrev pub aligned_atoms : List Atom
aligned_atoms = mark (codes ",") ∷ space ∷ word (codes "align") ∷ space ∷ a_token Number (codes "1") ∷ []

abbrev pub pair_atoms : List Atom
pair_atoms = mark (codes "{") ∷ space ∷ word (codes "ptr") ∷ mark (codes ",") ∷ space ∷ word (codes "i1") ∷ space ∷ mark (codes "}") ∷ []

abbrev pub call_atoms : List Atom → List Atom → List Atom → List Atom
call_atoms result callee args =
    word (codes "call") ∷ space ∷ result ++ space ∷ callee ++ mark (codes "(") ∷ args ++ mark (codes ")") ∷ []

abbrev pub returned_atoms : Ty → Option Operand → List Atom
returned_atoms type None = word (codes "ret") ∷ space ∷ word (codes "void") ∷ []
returned_atoms type (Some value) = word (codes "ret") ∷ space ∷ typed_atoms type value

abbrev pub trap_atoms : Option ℕ → List Atom
trap_atoms None = call_atoms (word (codes "void") ∷ []) (a_token Global (codes "@llvm.trap") ∷ []) []
trap_atoms (Some code) =
    call_atoms (word (codes "void") ∷ []) (a_token Global (codes "@llvm.ubsantrap") ∷ []) (word (codes "i8") ∷ space ∷ integer W8 code ∷ [])

abbrev pub rotate_atoms : Operand → ℕ → List Atom
rotate_atoms value by =
    call_atoms (word (codes "i64") ∷ []) (a_token Global (codes "@llvm.fshr.i64") ∷ [])
    (typed_atoms (ty.Int W64) value ++ behind_comma (typed_atoms (ty.Int W64) value ++ behind_comma (word (codes "i64") ∷ space ∷ number by ∷ [])))

-- an instruction of an output
abbrev pub inst_atoms : Inst → List Atom
inst_atoms (inst.Binary dst op width a b) =
    set_atoms dst (word (op_text op) ∷ space ∷ typed_atoms (ty.Int width) a ++ behind_comma (operand_atoms (ty.Int width) b))
inst_atoms (inst.Compare dst pred type a b) =
    set_atoms dst (word (codes "icmp") ∷ space ∷ word (pred_text pred) ∷ space ∷ typed_atoms type a ++ behind_comma (operand_atoms type b))
inst_atoms (inst.Select dst test type a b) =
    set_atoms dst (word (codes "select") ∷ space ∷ typed_atoms (ty.Int W1) test ++ behind_comma (typed_atoms type a
    ++ behind_comma (typed_atoms type b)))
inst_atoms (inst.Cast dst op from a to) =
    set_atoms dst (word (cast_text op) ∷ space ∷ typed_atoms (ty.Int from) a ++ space ∷ word (codes "to") ∷ space ∷ word (width_text to) ∷ [])
inst_atoms (inst.Gep dst type base indices) =
    set_atoms dst (word (codes "getelementptr") ∷ space ∷ ty_atoms type ++ behind_comma (typed_atoms ty.Ptr base
    ++ flat_map index_atoms indices))
inst_atoms (inst.Load dst type addr) =
    set_atoms dst (word (codes "load") ∷ space ∷ ty_atoms type ++ behind_comma (typed_atoms ty.Ptr addr ++ aligned_atoms))
inst_atoms (inst.Store type value addr) =
    word (codes "store") ∷ space ∷ typed_atoms type value ++ behind_comma (typed_atoms ty.Ptr addr ++ aligned_atoms)
inst_atoms (inst.Call dst fty callee args) =
    maybe_set_atoms dst (call_atoms (ty_atoms fty.result) (callee_atoms callee) (listed (args_atoms fty.params args)))
inst_atoms (inst.Extract dst pair part) =
    set_atoms dst (word (codes "extractvalue") ∷ space ∷ pair_atoms ++ space ∷ local pair ∷ behind_comma (number part ∷ []))
inst_atoms (inst.Phi dst type arms) =
    set_atoms dst (word (codes "phi") ∷ space ∷ ty_atoms type ++ space ∷ listed (map (arm_atoms type) arms))
inst_atoms (inst.Br to) = word (codes "br") ∷ space ∷ target_atoms to
inst_atoms (inst.CondBr test met unmet) =
    word (codes "br") ∷ space ∷ typed_atoms (ty.Int W1) test ++ behind_comma (target_atoms met ++ behind_comma (target_atoms unmet))
inst_atoms (inst.Switch width value other cases) =
    word (codes "switch") ∷ space ∷ typed_atoms (ty.Int width) value ++ behind_comma (target_atoms other
    ++ space ∷ mark (codes "[") ∷ spaced (map (case_atoms width) cases) ++ mark (codes "]") ∷ [])
inst_atoms (inst.Ret type value) = returned_atoms type value
inst_atoms inst.Unreachable = word (codes "unreachable") ∷ []
inst_atoms (inst.Trap code) = trap_atoms code
inst_atoms (inst.Number dst ptr) =
    set_atoms dst (word (codes "ptrtoint") ∷ space ∷ typed_atoms ty.Ptr ptr ++ space ∷ word (codes "to") ∷ space ∷ word (codes "i64") ∷ [])
inst_atoms (inst.Rotate dst value by) = set_atoms dst (rotate_atoms value by)
inst_atoms _ = []
