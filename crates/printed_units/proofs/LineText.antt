-- The lines of a module, and the module, are printed as what they are put together of.
use Rattle.std.proofs.Common.{◌≡◌, ℕ, Bool, true, false, if◌then◌else◌, List, [], ◌∷◌, ◌++◌, map, flat_map, codes, Option, Some, None, refl, append_assoc}
use Rattle.std.specs.List.{AllByRecursion, AllZip}
use Rattle.ir_values.specs.declared.types.Ty.{Ty}
use Rattle.ir_values.specs.declared.constants.Const.{Const}
use Rattle.ir_values.specs.declared.instructions.Inst.{Inst}
use Rattle.ir_values.specs.declared.modules.Linkage.{Linkage}
use Rattle.ir_values.specs.declared.modules.Linkage.TheVariants.{Private}
use Rattle.ir_values.specs.declared.modules.Block.{Block}
use Rattle.ir_values.specs.declared.modules.Func.{Func}
use Rattle.ir_values.specs.declared.modules.Var.{Var}
use Rattle.ir_values.specs.declared.modules.Jump.{Jump}
use Rattle.ir_values.specs.declared.modules.Module.{Module}
use Rattle.type_grammar.specs.Levels.{levels}
use Rattle.ir_print.specs.declared.intrinsics.Intrinsic.{Intrinsic}
use Rattle.ir_print.specs.Pieces.{commas}
use Rattle.ir_names.specs.Names.{is_name_start, is_name_byte, is_digit, is_bare, name_text, global_text}
use Rattle.ir_print.specs.Types.{ty_text}
use Rattle.ir_print.specs.Items.{private_text, linkage_text, kind_text, content_text, params_text, line_text, block_text, var_pieces, table_pieces, declare_pieces, define_pieces, var_text, table_text, declare_text, define_text}
use Rattle.ir_print.specs.ModuleText.{is_called, has_none, intrinsic_text, declared_text, defined_text, called_text, module_text}
use Rattle.printed_tokens.specs.Atoms.{Atom}
use Rattle.printed_units.proofs.ListLemmas.{all_zipped}
use Rattle.printed_units.proofs.WrittenLemmas.{AreNamed, each_is_inst}
use Rattle.printed_tokens.proofs.AtomLemmas.{Prints, prints_as, prints_none, prints_append, prints_blank, prints_token, prints_firm, prints_space, prints_word, prints_mark}
use Rattle.printed_units.specs.Written.{IsName, IsTy, IsInst, IsBlock, AreParams, IsFunc, IsInit, IsVar, IsTable, IsWritten}
use Rattle.printed_units.specs.Printing.{space, newline, word, global, ty_atoms}
use Rattle.printed_units.specs.Lines.{linkage_atoms, content_linkage_atoms, kind_word, content_atoms, var_line, table_line, declare_line, intrinsic_line, params_atoms, define_line, label_line, inst_line, close_line, block_lines, declared_lines, defined_lines, called_lines, module_atoms}
use Rattle.printed_units.proofs.NameLemmas.{local_token, global_token, label_token, number_token}
use Rattle.printed_units.proofs.TypeText.{prints_behind, prints_behind_comma, listed_prints, ty_prints, typed_const_prints}
use Rattle.printed_units.proofs.InstText.{prints_last, digit_token, bare_token, inst_prints}
use Rattle.printed_units.proofs.LinePrinting.{IsClosed, ends_append, prints_behind_closed, PrintLines, lines_as, lines_none, lines_cons, lines_one, lines_append, lines_if, lines_each, line_each}

newline_prints : {atoms : List Atom} {text : List ℕ} → Prints atoms text → Prints (newline ∷ atoms) (codes "\n" ++ text)
newline_prints prints = prints_blank (record { some = refl; are = refl }) prints

-- variables
linkage_prints : (linkage : Linkage) → Prints (linkage_atoms linkage) (private_text linkage)
linkage_prints Private = prints_word (codes "private") refl refl (prints_space prints_none)
linkage_prints _ = prints_none

linkage_closed : (linkage : Linkage) → IsClosed (linkage_atoms linkage)
linkage_closed Private = refl
linkage_closed _ = refl

content_linkage_prints : (linkage : Linkage) (init : Option Const)
    → Prints (content_linkage_atoms linkage init) (linkage_text linkage init)
content_linkage_prints linkage None = prints_word (codes "external") refl refl (prints_space prints_none)
content_linkage_prints linkage (Some init) = linkage_prints linkage

content_linkage_closed : (linkage : Linkage) (init : Option Const) → IsClosed (content_linkage_atoms linkage init)
content_linkage_closed linkage None = refl
content_linkage_closed linkage (Some init) = linkage_closed linkage

kind_prints : {atoms : List Atom} {text : List ℕ} (constant : Bool) → Prints atoms text
    → Prints (word (kind_word constant) ∷ space ∷ atoms) (kind_text constant ++ text)
kind_prints true prints = prints_word (codes "constant") refl refl (prints_space prints)
kind_prints false prints = prints_word (codes "global") refl refl (prints_space prints)

content_prints : (type : Ty) (init : Option Const) → IsTy type → IsInit type init → Prints (content_atoms type init) (content_text type init)
content_prints type None type_is is = ty_prints levels type type_is
content_prints type (Some constant) type_is is = typed_const_prints type constant type_is is

var_same : (a b c d : List ℕ) → (a ++ (b ++ c)) ++ d ≡ a ++ (b ++ (c ++ d))
var_same a b c d = simp append_assoc

var_prints : (v : Var) → IsVar v → Prints (var_line v).atoms (var_text v)
unfolding var_pieces
var_prints v is =
    prints_token (global_token v.name is.name) refl (prints_space (prints_mark 61 refl (prints_space
    (prints_as (var_same (linkage_text v.linkage v.init) (kind_text v.constant) (content_text v.ty v.init) _)
    (prints_append (prints_behind_closed (content_linkage_prints v.linkage v.init) (content_linkage_closed v.linkage v.init)
    (kind_prints v.constant (content_prints v.ty v.init is.type is.init)))
    (prints_behind_comma (prints_word (codes "align") refl refl (prints_space
    (prints_token (number_token v.align) refl (newline_prints prints_none))))) refl)))))

var_closed : (v : Var) → IsClosed (var_line v).atoms
var_closed v = rw ends_append

-- tables
table_prints : (table : Jump) → IsTable table → Prints (table_line table).atoms (table_text table)
unfolding table_pieces
table_prints table is =
    prints_word (codes "jumptable") refl refl (prints_space (prints_token (global_token table.name is.name) refl (prints_space
    (prints_word (codes "align") refl refl (prints_space
    (prints_token (digit_token 56 refl) refl (prints_space (prints_mark 123 refl (prints_space
    (prints_append (listed_prints (map (λ name. global name ∷ []) table.funcs) (map global_text table.funcs)
    (all_zipped IsName Prints (λ name. global name ∷ []) global_text (λ name is. prints_last (global_token name is)) table.funcs is.each))
    (prints_space (prints_mark 125 refl (newline_prints prints_none))) refl))))))))))

table_closed : (table : Jump) → IsClosed (table_line table).atoms
table_closed table = rw ends_append

-- declarations
declare_same : (a b c d : List ℕ) → (a ++ (codes " " ++ (b ++ (codes "(" ++ c)))) ++ d ≡ a ++ (codes " " ++ (b ++ (codes "(" ++ (c ++ d))))
declare_same a b c d = simp append_assoc

declare_prints : (f : Func) → IsName f.name → IsTy f.fty.result → AllByRecursion IsTy f.fty.params
    → Prints (declare_line f).atoms (declare_text f)
unfolding declare_pieces
declare_prints f name result params =
    prints_word (codes "declare") refl refl (prints_space
    (prints_as (declare_same (ty_text f.fty.result) (global_text f.name) (commas (map ty_text f.fty.params)) (codes ")\n"))
    (prints_append (prints_append (ty_prints levels f.fty.result result) (prints_space
    (prints_token (global_token f.name name) refl (prints_mark 40 refl
    (listed_prints (map ty_atoms f.fty.params) (map ty_text f.fty.params)
    (all_zipped IsTy Prints ty_atoms ty_text (ty_prints levels) f.fty.params params))))) refl)
    (prints_mark 41 refl (newline_prints prints_none)) refl)))

declare_closed : (f : Func) → IsClosed (declare_line f).atoms
declare_closed f = rw ends_append

declared_print : (f : Func) (blocks : List Block) → IsFunc f → AreParams blocks f.fty.params f.params
    → PrintLines (if has_none blocks then declare_line f ∷ [] else []) (if has_none blocks then declare_text f else [])
declared_print f [] is params = lines_one (declare_line f) (declare_prints f is.name is.result params) (declare_closed f)
declared_print f (block ∷ blocks) is params = lines_none

intrinsic_prints : (intrinsic : Intrinsic) → Prints (intrinsic_line intrinsic).atoms (intrinsic_text intrinsic)
unfolding intrinsic_text name_text is_bare is_name_start is_name_byte is_digit
intrinsic_prints Intrinsic.Rotation =
    prints_word (codes "declare") refl refl (prints_space (prints_word (codes "i64") refl refl (prints_space
    (prints_token (bare_token 108 (codes "lvm.fshr.i64") refl refl) refl (prints_mark 40 refl
    (prints_word (codes "i64") refl refl (prints_behind_comma (prints_word (codes "i64") refl refl (prints_behind_comma
    (prints_word (codes "i64") refl refl
    (prints_mark 41 refl (newline_prints prints_none))))))))))))
intrinsic_prints Intrinsic.Trap =
    prints_word (codes "declare") refl refl (prints_space (prints_word (codes "void") refl refl (prints_space
    (prints_token (bare_token 108 (codes "lvm.trap") refl refl) refl (prints_mark 40 refl (prints_mark 41 refl
    (newline_prints prints_none)))))))
intrinsic_prints Intrinsic.CodedTrap =
    prints_word (codes "declare") refl refl (prints_space (prints_word (codes "void") refl refl (prints_space
    (prints_token (bare_token 108 (codes "lvm.ubsantrap") refl refl) refl (prints_mark 40 refl (prints_word (codes "i8") refl refl
    (prints_mark 41 refl (newline_prints prints_none))))))))

intrinsic_closed : (intrinsic : Intrinsic) → IsClosed (intrinsic_line intrinsic).atoms
intrinsic_closed Intrinsic.Rotation = refl
intrinsic_closed Intrinsic.Trap = refl
intrinsic_closed Intrinsic.CodedTrap = refl

called_print : (m : Module) (intrinsic : Intrinsic) → PrintLines (called_lines m intrinsic) (called_text m intrinsic)
called_print m intrinsic =
    lines_if (is_called intrinsic m.funcs) (lines_one (intrinsic_line intrinsic) (intrinsic_prints intrinsic) (intrinsic_closed intrinsic))

-- blocks
inst_line_prints : (i : Inst) → IsInst i → Prints (inst_line i).atoms (line_text i)
unfolding line_text
inst_line_prints i is =
    prints_blank (record { some = refl; are = refl }) (prints_append (inst_prints i is) (newline_prints prints_none) refl)

inst_line_closed : (i : Inst) → IsClosed (inst_line i).atoms
inst_line_closed i = rw ends_append

label_prints : (name : List ℕ) → IsName name → Prints (label_line name).atoms (name_text name ++ codes ":\n")
label_prints name is =
    prints_as (append_assoc (name_text name) (codes ":") (codes "\n")) (prints_firm (label_token name is) refl (newline_prints prints_none))

block_prints : (block : Block) → IsBlock block → PrintLines (block_lines block) (block_text block)
unfolding block_text
block_prints block is =
    lines_cons (label_line block.label) (label_prints block.label is.label) refl
    (line_each IsInst inst_line line_text inst_line_prints inst_line_closed block.insts (each_is_inst block.insts is.insts))

-- functions
params_print : (types : List Ty) (names : List (List ℕ)) → AreNamed types names
    → AllZip Prints (params_atoms types names) (params_text types names)
params_print [] [] are = tt
params_print (type ∷ types) (name ∷ names) are =
    (prints_behind (ty_prints levels type are.0.0) (prints_last (local_token name are.0.1)), params_print types names are.1)
params_print _ _ are = absurd are

define_same : (a b c d e : List ℕ)
    → codes "define " ++ (((a ++ b) ++ (codes " " ++ (c ++ (codes "(" ++ d)))) ++ codes ") {\n") ++ (e ++ codes "}\n")
    ≡ codes "define " ++ (a ++ (b ++ (codes " " ++ (c ++ (codes "(" ++ (d ++ (codes ") {\n" ++ (e ++ codes "}\n"))))))))
define_same a b c d e = simp append_assoc

define_closed : (f : Func) → IsClosed (define_line f).atoms
define_closed f = rw ends_append

define_print : (f : Func) → IsFunc f → AreNamed f.fty.params f.params
    → PrintLines (define_line f ∷ flat_map block_lines f.blocks ++ close_line ∷ []) (define_text f)
unfolding define_pieces
define_print f is params =
    lines_as (define_same (private_text f.linkage) (ty_text f.fty.result) (global_text f.name)
    (commas (params_text f.fty.params f.params)) (flat_map block_text f.blocks))
    (lines_cons (define_line f)
    (prints_word (codes "define") refl refl (prints_space
    (prints_append (prints_append
    (prints_behind_closed (linkage_prints f.linkage) (linkage_closed f.linkage) (ty_prints levels f.fty.result is.result))
    (prints_space (prints_token (global_token f.name is.name) refl (prints_mark 40 refl
    (listed_prints (params_atoms f.fty.params f.params) (params_text f.fty.params f.params)
    (params_print f.fty.params f.params params))))) refl)
    (prints_mark 41 refl (prints_space (prints_mark 123 refl (newline_prints prints_none)))) refl)))
    (define_closed f)
    (lines_append (lines_each IsBlock block_lines block_text block_prints f.blocks is.blocks)
    (lines_one close_line (prints_mark 125 refl (newline_prints prints_none)) refl)))

defined_print : (f : Func) (blocks : List Block) → IsFunc f → AreParams blocks f.fty.params f.params
    → PrintLines (if has_none blocks then [] else define_line f ∷ flat_map block_lines f.blocks ++ close_line ∷ [])
    (if has_none blocks then [] else define_text f)
defined_print f [] is params = lines_none
defined_print f (block ∷ blocks) is params = define_print f is params

-- the module
pub module_prints : (m : Module) → IsWritten m → Prints (module_atoms m) (module_text m)
module_prints m is =
    let intrinsics = lines_append (called_print m Intrinsic.Rotation) (called_print m Intrinsic.Trap) in
    (lines_append (lines_append (lines_append (lines_append
    (line_each IsVar var_line var_text var_prints var_closed m.vars is.vars)
    (line_each IsTable table_line table_text table_prints table_closed m.jumps is.tables))
    (lines_append intrinsics (called_print m Intrinsic.CodedTrap)))
    (lines_each IsFunc declared_lines declared_text (λ f is. declared_print f f.blocks is is.params) m.funcs is.funcs))
    (lines_each IsFunc defined_lines defined_text (λ f is. defined_print f f.blocks is is.params) m.funcs is.funcs)).prints
