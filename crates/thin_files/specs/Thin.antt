-- The thin form: the files that are accepted so far, and the module that such a file is.
use Rattle.std.specs.Prelude.{◌≡◌, ◌≢◌, ℕ, ◌+◌, ◌-◌, ◌*◌, ◌^◌, ◌<◌, ◌≤◌, List, [], ◌∷◌, ◌++◌, length, map, take, drop, All, IfSome, AllPairs, Contains, IsTrue, Bool, true, false, Option, Some, None, codes, ◌||◌, ◌&&◌, not}
use Rattle.std.specs.List.{starts_with, list_all}
use Rattle.std.specs.Prelude.{nat_eq, slice_get}
use Rattle.std.specs.Char.{is_ascii_digit}
use Rattle.ltt_base.specs.declared.refusal.Place.{Place}
use Rattle.ltt_base.specs.declared.refusal.Placed.{Placed}
use Rattle.ir_values.specs.declared.types.Width.TheVariants.{W1, W8, W64}
use Rattle.ir_values.specs.declared.types.Ty as ty
use Rattle.ir_values.specs.declared.types.Ty.{Ty}
use Rattle.ir_values.specs.declared.constants.Const as const
use Rattle.ir_values.specs.declared.constants.Const.{Const}
use Rattle.ir_values.specs.declared.constants.Operand as operand
use Rattle.ir_values.specs.declared.constants.Operand.{Operand}
use Rattle.ir_values.specs.declared.modules.Linkage.TheVariants.{Strong}
use Rattle.ir_values.specs.declared.modules.TypeId.TheVariants.{Name}
use Rattle.ir_values.specs.declared.modules.Var.{Var}
use Rattle.ir_values.specs.declared.modules.Block.{Block}
use Rattle.ir_values.specs.declared.modules.Func.{Func}
use Rattle.ir_values.specs.declared.modules.Module.{Module}
use Rattle.ir_values.specs.declared.instructions.Inst.TheVariants.{Test, Ret}
use Rattle.ir_values.specs.declared.units.Unit as unit
use Rattle.ir_values.specs.declared.units.Form.{Form}
use Rattle.ir_values.specs.declared.units.Form.TheVariants.{VariableForm, DefineForm, DeclareForm, CallForm, EndForm, CloseForm, MetadataForm}
use Rattle.ir_values.specs.declared.units.Param.{Param}
use Rattle.ir_values.specs.declared.units.Arg.TheVariants as arg
use Rattle.ir_values.specs.declared.units.MetaItem as item
use Rattle.ir_values.specs.declared.units.EndText.TheVariants as end
use Rattle.thin_files.specs.declared.thin.Variable.{Variable}
use Rattle.thin_files.specs.declared.thin.Node.{Node}
use Rattle.thin_files.specs.declared.thin.Second.{Second}
use Rattle.thin_files.specs.declared.thin.Thin.{Thin}

-- The units of a thin file, by what the file says.

abbrev pub words_type : ℕ → Ty
words_type count = ty.Array count (ty.Int W64)

abbrev pub variable_form : Variable → Form
variable_form v = VariableForm v.name None true (words_type v.count) (Some (const.Zero (words_type v.count))) None
    (record { kind = codes "type"; node = v.node } ∷ [])

abbrev pub pointer_param : Option (List ℕ) → Param
pointer_param name = record { ty = ty.Ptr; left = []; name = name }

-- the head of a function that returns an i1
abbrev pub define_form : List ℕ → List Param → Form
define_form name params = DefineForm (record {
  name = name;
  linkage = None;
  result = ty.Int W1;
  params = params;
  dots = false;
  left = [];
  attached = [];
})

abbrev pub head_form : Thin → Form
head_form t = define_form t.name (pointer_param (Some t.pointer) ∷ [])

abbrev pub test_name : List ℕ
test_name = codes "llvm.type.test"

-- a test of a pointer for an identifier into a register
abbrev pub call_form : List ℕ → Operand → List ℕ → Form
call_form register pointer tested = CallForm (Some register) (ty.Int W1) None false (operand.Const (const.Addr test_name 0))
    (arg.Value ty.Ptr [] pointer ∷ arg.Word tested ∷ []) false

abbrev pub test_form : Thin → Form
test_form t = call_form t.register (operand.Reg t.pointer) t.tested

abbrev pub return_form : List ℕ → Form
return_form register = EndForm (end.Ret (ty.Int W1) (operand.Reg register))

abbrev pub end_form : Thin → Form
end_form t = return_form t.register

-- `@V` where no offset is written, or `getelementptr (i8, ptr @V, i64 K)`
abbrev pub written_address : List ℕ → Option ℕ → Const
written_address object None = const.Addr object 0
written_address object (Some offset) =
    const.Gep (ty.Int W8) (const.Addr object 0) (operand.Const (const.Typed (ty.Int W64) (const.Int W64 offset)) ∷ [])

-- the units of the second function, where there is one
abbrev pub second_forms : Option Second → List Form
second_forms None = []
second_forms (Some s) = define_form s.name [] ∷ call_form s.register (operand.Const (written_address s.object s.offset)) s.tested
    ∷ return_form s.register ∷ CloseForm ∷ []

abbrev pub declare_form : Form
declare_form = DeclareForm (record {
  name = test_name;
  linkage = None;
  result = ty.Int W1;
  params = pointer_param None ∷ record { ty = ty.Left (codes "metadata"); left = []; name = None } ∷ [];
  dots = false;
  left = [];
  attached = [];
})

abbrev pub node_form : Node → Form
node_form n = MetadataForm n.number false (item.Const (ty.Int W64) (const.Int W64 n.offset) ∷ item.Word n.id ∷ [])

-- variables, one function or two, the declaration of the test, and nodes, in this order
abbrev pub forms_of : Thin → List Form
forms_of t = map variable_form t.variables
    ++ (head_form t ∷ test_form t ∷ end_form t ∷ CloseForm ∷ (second_forms t.second ++ (declare_form ∷ map node_form t.nodes)))

-- The rules.

-- a name that only the lowering gives, or an intrinsic's
abbrev pub is_reserved : List ℕ → Bool
is_reserved name = starts_with nat_eq name (codes ".ltt.") || starts_with nat_eq name (codes "llvm.")

-- a name that is written, and not a number that stands for one
abbrev pub is_free : List ℕ → Bool
is_free name = not (is_reserved name) && not (list_all is_ascii_digit name)

abbrev pub AreDistinct : List (List ℕ) → Type 0
AreDistinct names = AllPairs (λ one other. one ≢ other) names

-- the node that a variable names
abbrev pub node_of : Variable → Node
node_of v = record { number = v.node; offset = v.offset; id = v.id }

-- the number that decimal digits write, the first digit first
abbrev pub number_from : ℕ → List ℕ → ℕ
number_from value [] = value
number_from value (digit ∷ digits) = number_from (10 * value + (digit - 48)) digits

-- decimal digits without leading zeros
abbrev pub is_canonical : List ℕ → Bool
is_canonical [] = false
is_canonical (digit ∷ []) = is_ascii_digit digit
is_canonical (digit ∷ digits) = is_ascii_digit digit && not (nat_eq digit 48) && list_all is_ascii_digit digits

-- digits without leading zeros, of a number below 2^32
abbrev pub IsNodeNumber : List ℕ → Type 0
IsNodeNumber digits = IsTrue (is_canonical digits) × (number_from 0 digits < 2 ^ 32)

abbrev pub HaveCounts : List Variable → Type 0
HaveCounts variables = All (λ v. (1 ≤ v.count) × (v.count ≤ 1000)) variables

-- the variable of this number carries the identifier, at this offset
abbrev pub CarriesAt : List Variable → List ℕ → ℕ → ℕ → Type 0
CarriesAt variables id number offset = (v : Variable) × (slice_get variables number ≡ Some v) × (v.id ≡ id) × (v.offset ≡ offset)

-- the bytes between the variable and the address that the second function tests
abbrev pub distance_of : Option ℕ → ℕ
distance_of None = 0
distance_of (Some offset) = offset

-- the rules of the second function
pub record IsSecondAllowed (t : Thin) (s : Second) : Type 0 where
  pub name : IsTrue (is_free s.name)
  pub register : IsTrue (is_free s.register)
  pub new : ¬ Contains (t.name ∷ map (λ v. v.name) t.variables) s.name
  -- the address is at most 1000000 bytes behind a variable
  pub object : Contains (map (λ v. v.name) t.variables) s.object
  pub near : distance_of s.offset ≤ 1000000
  pub carried : Contains (map (λ v. v.id) t.variables) s.tested

pub record IsAllowed (t : Thin) : Type 0 where
  pub some : 0 < length t.variables
  pub free : All (λ name. IsTrue (is_free name)) (t.name ∷ t.pointer ∷ t.register ∷ map (λ v. v.name) t.variables)
  pub globals : AreDistinct (t.name ∷ map (λ v. v.name) t.variables)
  pub locals : t.pointer ≢ t.register
  pub counts : HaveCounts t.variables
  pub numbers : All (λ n. IsNodeNumber n.number) t.nodes
  -- the node that a variable names stands once, and no other node stands
  pub once : AreDistinct (map (λ n. n.number) t.nodes)
  pub named : All (λ v. Contains t.nodes (node_of v)) t.variables
  pub needed : All (λ n. Contains (map node_of t.variables) n) t.nodes
  -- an entry stands in its variable, or at its end
  pub inside : All (λ v. v.offset ≤ 8 * v.count) t.variables
  -- no two variables carry one identifier, and the tested one is carried
  pub apart : AreDistinct (map (λ v. v.id) t.variables)
  pub carried : Contains (map (λ v. v.id) t.variables) t.tested
  pub second : IfSome t.second (IsSecondAllowed t)

-- the unit of this number, from 0, has the place
abbrev pub StandsAt : List (Placed unit.Unit) → ℕ → Place → Type 0
StandsAt units number place = map (λ u. u.place) (take 1 (drop number units)) ≡ place ∷ []

-- These units are a thin file, and say `t`.
pub record IsThin (units : List (Placed unit.Unit)) (t : Thin) : Type 0 where
  pub forms : map (λ u. u.value.form) units ≡ forms_of t
  pub places : map (λ u. u.place) (take (length t.variables + 1) units) ≡ map (λ v. v.place) t.variables ++ t.place ∷ []
  pub second : IfSome t.second (λ s. StandsAt units (length t.variables + 4) s.place)
  pub allowed : IsAllowed t

-- The module that the file is.

abbrev pub variable_of : Variable → Var
variable_of v = record {
  place = v.place;
  name = v.name;
  linkage = Strong;
  constant = true;
  ty = words_type v.count;
  init = Some (const.Zero (words_type v.count));
  align = 1;
  entries = record { offset = v.offset; id = Name v.id } ∷ [];
  visibility = 0;
}

-- a test into a register, and the return of it
abbrev pub tested_block : List ℕ → Operand → List ℕ → Block
tested_block register pointer tested = record {
  label = codes "0";
  insts = Test register pointer (Name tested) ∷ Ret (ty.Int W1) (Some (operand.Reg register)) ∷ [];
}

abbrev pub block_of : Thin → Block
block_of t = tested_block t.register (operand.Reg t.pointer) t.tested

abbrev pub function_of : Thin → Func
function_of t = record {
  place = t.place;
  name = t.name;
  linkage = Strong;
  fty = record { result = ty.Int W1; params = ty.Ptr ∷ [] };
  params = t.pointer ∷ [];
  blocks = block_of t ∷ [];
  entries = [];
}

-- the address that the second function tests
abbrev pub address_of : Second → Operand
address_of s = operand.Const (const.Addr s.object (distance_of s.offset))

abbrev pub second_block : Second → Block
second_block s = tested_block s.register (address_of s) s.tested

abbrev pub second_function : Second → Func
second_function s = record {
  place = s.place;
  name = s.name;
  linkage = Strong;
  fty = record { result = ty.Int W1; params = [] };
  params = [];
  blocks = second_block s ∷ [];
  entries = [];
}

abbrev pub second_functions : Option Second → List Func
second_functions None = []
second_functions (Some s) = second_function s ∷ []

abbrev pub module_of : Thin → Module
module_of t = record { vars = map variable_of t.variables; funcs = function_of t ∷ second_functions t.second; jumps = [] }
