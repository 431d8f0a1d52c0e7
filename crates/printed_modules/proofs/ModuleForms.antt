-- The forms that a printed module's lines say, part by part.
use Rattle.std.proofs.Common.{◌≡◌, refl, ◌∙◌, ap, Bool, true, false, not, cond, if◌then◌else◌, List, [], ◌∷◌, ◌++◌, map, Some, None, append_assoc}
use Rattle.std.specs.Prelude.{flat_map}
use Rattle.std.specs.List.{AllByRecursion}
use Rattle.std.proofs.lemmas.List.{map-append}
use Rattle.ir_values.specs.declared.instructions.Inst.{Inst}
use Rattle.ir_values.specs.declared.instructions.Inst.TheVariants as inst
use Rattle.ir_values.specs.declared.modules.Block.{Block}
use Rattle.ir_values.specs.declared.modules.Func.{Func}
use Rattle.ir_values.specs.declared.modules.Module.{Module}
use Rattle.ir_values.specs.declared.units.Head.{Head}
use Rattle.ir_values.specs.declared.units.Form.{Form}
use Rattle.ir_values.specs.declared.units.Form.TheVariants as form
use Rattle.ir_print.specs.declared.intrinsics.Intrinsic.{Intrinsic}
use Rattle.ir_print.specs.ModuleText.{is_called, has_none}
use Rattle.check_bodies.specs.declared.sorts.Sort.{Sort}
use Rattle.check_bodies.specs.declared.sorts.Sort.TheVariants as sort
use Rattle.check_bodies.specs.Sorts.{sort_of}
use Rattle.printed_units.specs.Said.{inst_said, linkage_word, var_said, table_said, head_said, unnamed, params_said, define_said, intrinsic_said}
use Rattle.printed_units.specs.Lines.{Line, var_line, table_line, inst_line, block_lines, close_line, declare_line, declared_lines, define_line, defined_lines, intrinsic_line, called_lines, intrinsics_lines, forms_of}
use Rattle.printed_modules.specs.Printed.{is_declared}
use Rattle.printed_units.proofs.ListLemmas.{map_map, map_flat, all_joined, all_flat}
use Rattle.printed_modules.proofs.TypeKept.{Units}

abbrev pub forms : Units → List Form
forms us = map (λ u. u.value.form) us

abbrev said : List Line → List Form
said lines = map (λ l. l.says) lines

abbrev pub block_forms : Block → List Form
block_forms block = form.LabelForm block.label ∷ map inst_said block.insts

-- the forms of a body, with the close
abbrev pub body_forms : List Block → List Form
body_forms blocks = flat_map block_forms blocks ++ form.CloseForm ∷ []

abbrev pub forms_when : Bool → List Form → List Form
forms_when b says = cond b says []

abbrev pub is_defined : Func → Bool
is_defined f = not (is_declared f)

abbrev pub declare_head : Func → Head
declare_head f = head_said f.name None f.fty.result (unnamed f.fty.params)

abbrev pub declare_of : Func → Form
declare_of f = form.DeclareForm (declare_head f)

abbrev pub define_head : Func → Head
define_head f = head_said f.name (linkage_word f.linkage) f.fty.result (params_said f.fty.params f.params)

abbrev pub declared_forms : Func → List Form
declared_forms f = forms_when (is_declared f) (declare_of f ∷ [])

abbrev pub defined_forms : Func → List Form
defined_forms f = forms_when (is_defined f) (define_said f ∷ body_forms f.blocks)

abbrev pub called_forms : Module → Intrinsic → List Form
called_forms m intrinsic = forms_when (is_called intrinsic m.funcs) (intrinsic_said intrinsic ∷ [])

abbrev pub intrinsics_forms : Module → List Form
intrinsics_forms m = called_forms m Intrinsic.Rotation ++ (called_forms m Intrinsic.Trap ++ called_forms m Intrinsic.CodedTrap)

abbrev pub functions_forms : Module → List Form
functions_forms m = flat_map declared_forms m.funcs ++ flat_map defined_forms m.funcs

-- the forms behind those of variables and tables
abbrev pub code_forms : Module → List Form
code_forms m = intrinsics_forms m ++ functions_forms m

-- the forms of a module by what they say
abbrev pub parts_of : Module → List Form
parts_of m = map var_said m.vars ++ (map table_said m.jumps ++ code_forms m)

block_said : (block : Block) → said (block_lines block) ≡ block_forms block
block_said block = ap (λ fs. form.LabelForm block.label ∷ fs) (map_map (λ l. l.says) inst_line block.insts)

body_said : (blocks : List Block) → said (flat_map block_lines blocks) ≡ flat_map block_forms blocks
body_said blocks = map_flat (λ l. l.says) block_lines block_forms block_said blocks

said_when : (b : Bool) (lines : List Line) → said (if b then lines else []) ≡ forms_when b (said lines)
said_when true lines = refl
said_when false lines = refl

said_unless : (b : Bool) (lines : List Line) → said (if b then [] else lines) ≡ forms_when (not b) (said lines)
said_unless true lines = refl
said_unless false lines = refl

declared_said : (f : Func) → said (declared_lines f) ≡ declared_forms f
declared_said f = said_when (has_none f.blocks) (declare_line f ∷ [])

defined_said : (f : Func) → said (defined_lines f) ≡ defined_forms f
defined_said f =
    let body =
    map-append (λ (l : Line). l.says) (flat_map block_lines f.blocks) (close_line ∷ [])
    ∙ ap (λ fs. fs ++ form.CloseForm ∷ []) (body_said f.blocks) in
    said_unless (has_none f.blocks) (define_line f ∷ flat_map block_lines f.blocks ++ close_line ∷ [])
    ∙ ap (λ fs. forms_when (not (has_none f.blocks)) (define_said f ∷ fs)) body

called_said : (m : Module) (intrinsic : Intrinsic) → said (called_lines m intrinsic) ≡ called_forms m intrinsic
called_said m intrinsic = said_when (is_called intrinsic m.funcs) (intrinsic_line intrinsic ∷ [])

three_mapped : {X Y : Type 0} (f : X → Y) (a b c : List X) → map f (a ++ b ++ c) ≡ map f a ++ (map f b ++ map f c)
three_mapped f a b c = simp (map-append, append_assoc)

intrinsics_said : (m : Module) → said (intrinsics_lines m) ≡ intrinsics_forms m
intrinsics_said m =
    let says = λ (l : Line). l.says in
    three_mapped says (called_lines m Intrinsic.Rotation) (called_lines m Intrinsic.Trap) (called_lines m Intrinsic.CodedTrap)
    ∙ (λ i. called_said m Intrinsic.Rotation i ++ (called_said m Intrinsic.Trap i ++ called_said m Intrinsic.CodedTrap i))

five_mapped : {X Y : Type 0} (f : X → Y) (a b c d e : List X)
    → map f (a ++ b ++ c ++ d ++ e) ≡ map f a ++ (map f b ++ (map f c ++ (map f d ++ map f e)))
five_mapped f a b c d e = simp (map-append, append_assoc)

-- they are the forms of its parts
pub forms_are : (m : Module) → forms_of m ≡ parts_of m
forms_are m =
    let says = λ (l : Line). l.says in
    let vars = map_map says var_line m.vars in
    let tables = map_map says table_line m.jumps in
    let declared = map_flat says declared_lines declared_forms declared_said m.funcs in
    let defined = map_flat says defined_lines defined_forms defined_said m.funcs in
    five_mapped says (map var_line m.vars) (map table_line m.jumps) (intrinsics_lines m) (flat_map declared_lines m.funcs)
    (flat_map defined_lines m.funcs)
    ∙ (λ i. vars i ++ (tables i ++ (intrinsics_said m i ++ (declared i ++ defined i))))

-- the form is a label, an instruction or a close
abbrev is_inner_sort : Sort → Bool
is_inner_sort sort.Label = true
is_inner_sort sort.Close = true
is_inner_sort sort.Phi = true
is_inner_sort sort.Plain = true
is_inner_sort sort.Terminator = true
is_inner_sort _ = false

abbrev pub IsInner : Form → Type 0
IsInner says = is_inner_sort (sort_of says) ≡ true

inst_inner : (i : Inst) → IsInner (inst_said i)
inst_inner (inst.Trap None) = refl
inst_inner (inst.Trap (Some code)) = refl
inst_inner _ = refl

insts_inner : (insts : List Inst) → AllByRecursion IsInner (map inst_said insts)
insts_inner [] = tt
insts_inner (i ∷ insts) = (inst_inner i, insts_inner insts)

blocks_inner : (blocks : List Block) → AllByRecursion IsInner (flat_map block_forms blocks)
blocks_inner blocks = all_flat IsInner block_forms (λ (block : Block). (refl, insts_inner block.insts)) blocks

pub body_inner : (blocks : List Block) → AllByRecursion IsInner (body_forms blocks)
body_inner blocks = all_joined IsInner (flat_map block_forms blocks) (form.CloseForm ∷ []) (blocks_inner blocks) (refl, tt)

pub all_when : (P : Form → Type 0) (b : Bool) (says : List Form) → AllByRecursion P says → AllByRecursion P (forms_when b says)
all_when P true says all = all
all_when P false says all = tt
