-- What a text doesn't tell changes no text.
use Rattle.std.proofs.Common.{◌≡◌, refl, sym, ap, ◌∙◌, ℕ, ◌||◌, if◌then◌else◌, List, [], ◌∷◌, ◌++◌, map, codes, decimal, Option, Some, None}
use Rattle.std.specs.Prelude.{flat_map}
use Rattle.std.specs.List.{list_any}
use Rattle.ir_values.specs.declared.constants.Const.{Const}
use Rattle.ir_values.specs.declared.modules.Linkage.{Linkage}
use Rattle.ir_values.specs.declared.modules.Linkage.TheVariants.{Private, Strong, Weak, External}
use Rattle.ir_values.specs.declared.modules.Block.{Block}
use Rattle.ir_values.specs.declared.modules.Func.{Func}
use Rattle.ir_values.specs.declared.modules.Var.{Var}
use Rattle.ir_values.specs.declared.modules.Jump.{Jump}
use Rattle.ir_values.specs.declared.modules.Module.{Module}
use Rattle.ir_print.specs.declared.intrinsics.Intrinsic.{Intrinsic}
use Rattle.ir_print.specs.Items.{private_text, linkage_text, kind_text, content_text, params_text, block_text, var_pieces, table_pieces, declare_pieces, define_pieces, var_text, table_text, define_text}
use Rattle.ir_names.specs.Names.{global_text}
use Rattle.ir_print.specs.Pieces.{joined, commas}
use Rattle.ir_print.specs.Types.{ty_text}
use Rattle.ir_print.specs.ModuleText.{has_none, is_call, is_called, called_text, intrinsic_text, declared_text, defined_text, module_text}
use Rattle.printed_modules.specs.Printed.{strong, positions, plain_params, plain_func, plain_var, plain_table, plain}

-- what each item gives is that of its plain form
flat_same : {X : Type 0} (f : X → X) (g : X → List ℕ) → ((x : X) → g (f x) ≡ g x) → (xs : List X) → flat_map g (map f xs) ≡ flat_map g xs
flat_same f g same [] = refl
flat_same f g same (x ∷ xs) = ap (λ text. text ++ flat_map g (map f xs)) (same x) ∙ ap (λ text. g x ++ text) (flat_same f g same xs)

private_same : (linkage : Linkage) → private_text (strong linkage) ≡ private_text linkage
private_same Weak = refl
private_same Private = refl
private_same Strong = refl
private_same External = refl

linkage_same : (linkage : Linkage) (init : Option Const) → linkage_text (strong linkage) init ≡ linkage_text linkage init
linkage_same linkage None = refl
linkage_same linkage (Some init) = private_same linkage

var_same : (v : Var) → var_text (plain_var v) ≡ var_text v
unfolding var_pieces
var_same v =
    ap (λ text. joined (global_text v.name ∷ codes " = " ∷ text ∷ kind_text v.constant ∷ content_text v.ty v.init
    ∷ codes ", align " ∷ decimal v.align ∷ codes "\n" ∷ [])) (linkage_same v.linkage v.init)

table_same : (table : Jump) → table_text (plain_table table) ≡ table_text table
unfolding table_pieces
table_same table = refl

declare_same : (f : Func) → declared_text (plain_func f) ≡ declared_text f
unfolding declare_pieces
declare_same f = refl

-- the text of a definition with this linkage and these parameters
abbrev define_with : Func → Linkage → List (List ℕ) → List ℕ
define_with f linkage names =
    joined (codes "define " ∷ private_text linkage ∷ ty_text f.fty.result ∷ codes " " ∷ global_text f.name
    ∷ codes "(" ∷ commas (params_text f.fty.params names) ∷ codes ") {\n" ∷ flat_map block_text f.blocks ∷ codes "}\n" ∷ [])

-- a definition keeps the names of its parameters
define_at : (f : Func) (blocks : List Block) → f.blocks ≡ blocks → defined_text (plain_func f) ≡ defined_text f
unfolding define_pieces
define_at f [] is = ap (λ bs. if has_none bs then [] else define_text (plain_func f)) is ∙ sym
    (ap (λ bs. if has_none bs then [] else define_text f) is)
define_at f (block ∷ blocks) is =
    let params : plain_params f ≡ f.params = ap (λ bs. if has_none bs then positions 0 f.fty.params else f.params) is in
    ap (λ names. if has_none f.blocks then [] else define_with f (strong f.linkage) names) params
    ∙ ap (λ text. if has_none f.blocks then [] else joined (codes "define " ∷ text ∷ ty_text f.fty.result ∷ codes " " ∷ global_text f.name
    ∷ codes "(" ∷ commas (params_text f.fty.params f.params) ∷ codes ") {\n" ∷ flat_map block_text f.blocks ∷ codes "}\n" ∷ []))
    (private_same f.linkage)

define_same : (f : Func) → defined_text (plain_func f) ≡ defined_text f
define_same f = define_at f f.blocks refl

-- a plain function calls what the function calls
called_same : (intrinsic : Intrinsic) (funcs : List Func) → is_called intrinsic (map plain_func funcs) ≡ is_called intrinsic funcs
called_same intrinsic [] = refl
called_same intrinsic (f ∷ funcs) =
    ap (λ others. list_any (λ (block : Block). list_any (is_call intrinsic) block.insts) f.blocks || others) (called_same intrinsic funcs)

called_text_same : (intrinsic : Intrinsic) (m : Module) → called_text (plain m) intrinsic ≡ called_text m intrinsic
called_text_same intrinsic m = ap (λ called. if called then intrinsic_text intrinsic else []) (called_same intrinsic m.funcs)

pub plain_text : (m : Module) → module_text (plain m) ≡ module_text m
plain_text m =
    let vars = flat_same plain_var var_text var_same m.vars in
    let tables = flat_same plain_table table_text table_same m.jumps in
    let rotations = called_text_same Intrinsic.Rotation m in
    let traps = called_text_same Intrinsic.Trap m in
    let coded = called_text_same Intrinsic.CodedTrap m in
    let declared = flat_same plain_func declared_text declare_same m.funcs in
    let defined = flat_same plain_func defined_text define_same m.funcs in
    λ i. vars i ++ tables i ++ (rotations i ++ traps i ++ coded i) ++ declared i ++ defined i
