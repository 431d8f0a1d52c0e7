-- The units of a thin file, each by the parts that it says, and a thin file whose entries are looked up.
use Rattle.std.specs.Prelude.{◌≡◌, ℕ, ◌+◌, List, [], ◌∷◌, ◌++◌, length, map, take, drop, All, IfSome, Contains, Bool, true, false, Option, Some, None, codes}
use Rattle.ltt_base.specs.declared.refusal.Placed.{Placed}
use Rattle.ir_values.specs.declared.types.Width.TheVariants.{W1, W8, W64}
use Rattle.ir_values.specs.declared.types.Ty as ty
use Rattle.ir_values.specs.declared.constants.Const as const
use Rattle.ir_values.specs.declared.constants.Operand as operand
use Rattle.ir_values.specs.declared.constants.Operand.{Operand}
use Rattle.ir_values.specs.declared.units.Unit as unit
use Rattle.ir_values.specs.declared.units.Form.{Form}
use Rattle.ir_values.specs.declared.units.Form.TheVariants.{VariableForm, DefineForm, CallForm, EndForm, CloseForm, MetadataForm}
use Rattle.ir_values.specs.declared.units.Param.{Param}
use Rattle.ir_values.specs.declared.units.Arg.{Arg}
use Rattle.ir_values.specs.declared.units.Arg.TheVariants as arg
use Rattle.ir_values.specs.declared.units.MetaItem as item
use Rattle.ir_values.specs.declared.units.EndText.TheVariants as end
use Rattle.thin_files.specs.declared.thin.Variable.{Variable}
use Rattle.thin_files.specs.declared.thin.Node.{Node}
use Rattle.thin_files.specs.declared.thin.Second.{Second}
use Rattle.thin_files.specs.declared.thin.Thin.{Thin}
use Rattle.thin_files.specs.Thin.{words_type, pointer_param, define_form, test_name, return_form, written_address, second_forms, variable_form, declare_form, node_form, node_of, forms_of, StandsAt}

abbrev pub variable_unit : (name : List ℕ) (count : ℕ) (node : List ℕ) → Form
variable_unit name count node = VariableForm name None true (words_type count) (Some (const.Zero (words_type count))) None
    (record { kind = codes "type"; node = node } ∷ [])

abbrev pub head_unit : (name pointer : List ℕ) → Form
head_unit name pointer = define_form name (pointer_param (Some pointer) ∷ [])

abbrev pub test_args : (pointer tested : List ℕ) → List Arg
test_args pointer tested = arg.Value ty.Ptr [] (operand.Reg pointer) ∷ arg.Word tested ∷ []

abbrev pub test_unit : (register pointer tested : List ℕ) → Form
test_unit register pointer tested = CallForm (Some register) (ty.Int W1) None false (operand.Const (const.Addr test_name 0))
    (test_args pointer tested) false

abbrev pub end_unit : List ℕ → Form
end_unit register = return_form register

abbrev pub bare_head : List ℕ → Form
bare_head name = define_form name []

-- the address that the second function tests, without and with an offset
abbrev pub plain_operand : List ℕ → Operand
plain_operand object = operand.Const (const.Addr object 0)

abbrev pub moved_index : ℕ → List Operand
moved_index offset = operand.Const (const.Typed (ty.Int W64) (const.Int W64 offset)) ∷ []

abbrev pub moved_operand : List ℕ → ℕ → Operand
moved_operand object offset = operand.Const (const.Gep (ty.Int W8) (const.Addr object 0) (moved_index offset))

abbrev pub address_operand : List ℕ → Option ℕ → Operand
address_operand object offset = operand.Const (written_address object offset)

abbrev pub address_args : List ℕ → Option ℕ → List ℕ → List Arg
address_args object offset tested = arg.Value ty.Ptr [] (address_operand object offset) ∷ arg.Word tested ∷ []

abbrev pub address_test : (register object : List ℕ) (offset : Option ℕ) (tested : List ℕ) → Form
address_test register object offset tested = CallForm (Some register) (ty.Int W1) None false (operand.Const (const.Addr test_name 0))
    (address_args object offset tested) false

abbrev pub second_units : (name register object : List ℕ) (offset : Option ℕ) (tested : List ℕ) → List Form → List Form
second_units name register object offset tested rest = bare_head name ∷ address_test register object offset tested
    ∷ end_unit register ∷ CloseForm ∷ rest

-- the parameters of the declared test
abbrev pub test_params : List Param
test_params = pointer_param None ∷ record { ty = ty.Left (codes "metadata"); left = []; name = None } ∷ []

abbrev pub node_items : (offset : ℕ) (id : List ℕ) → List item.MetaItem
node_items offset id = item.Const (ty.Int W64) (const.Int W64 offset) ∷ item.Word id ∷ []

abbrev pub node_unit : (number : List ℕ) (offset : ℕ) (id : List ℕ) → Form
node_unit number offset id = MetadataForm number false (node_items offset id)

-- the forms of units, in their order
abbrev pub forms : List (Placed unit.Unit) → List Form
forms units = map (λ u. u.value.form) units

-- whether a unit is the head of a function with a body
abbrev pub is_head : Form → Bool
is_head (DefineForm _) = true
is_head _ = false

-- what stands behind the first function
abbrev pub tail_forms : Option Second → List Form → List Form
tail_forms second nodes = second_forms second ++ (declare_form ∷ nodes)

-- the unit of the second function's head, where there is one, is the first
abbrev pub IsHeadFirst : List (Placed unit.Unit) → Option Second → Type 0
IsHeadFirst units second = IfSome second (λ s. StandsAt units 0 s.place)

-- These units say the second function, where there is one, and behind the declaration these forms.
pub record IsTail (units : List (Placed unit.Unit)) (second : Option Second) (nodes : List Form) : Type 0 where
  pub said : forms units ≡ tail_forms second nodes
  pub place : IsHeadFirst units second

-- These units say `t`, where each variable has the entry of a node that it names.
pub record IsReading (units : List (Placed unit.Unit)) (t : Thin) : Type 0 where
  pub said : forms units ≡ forms_of t
  pub places : map (λ u. u.place) (take (length t.variables + 1) units) ≡ map (λ v. v.place) t.variables ++ t.place ∷ []
  pub named : All (λ v. Contains t.nodes (node_of v)) t.variables
  pub second : IfSome t.second (λ s. StandsAt units (length t.variables + 4) s.place)

-- These units say these variables, each with the entry of a node that it names.
pub record AreVariables (units : List (Placed unit.Unit)) (nodes : List Node) (variables : List Variable) : Type 0 where
  pub said : forms units ≡ map variable_form variables
  pub places : map (λ u. u.place) units ≡ map (λ v. v.place) variables
  pub named : All (λ v. Contains nodes (node_of v)) variables

-- the first function
abbrev pub function_units : (name pointer register tested : List ℕ) → List Form → List Form
function_units name pointer register tested rest = head_unit name pointer ∷ test_unit register pointer tested
    ∷ end_unit register ∷ CloseForm ∷ rest

-- `IsReading`, where the units of the variables stand apart from the others.
pub record IsReadingAt (front rest : List (Placed unit.Unit)) (t : Thin) : Type 0 where
  pub variables : AreVariables front t.nodes t.variables
  pub function : forms rest ≡ function_units t.name t.pointer t.register t.tested (tail_forms t.second (map node_form t.nodes))
  pub place : map (λ u. u.place) (take 1 rest) ≡ t.place ∷ []
  pub second : IsHeadFirst (drop 4 rest) t.second
