-- What a unit says is one.
use Rattle.std.proofs.Common.{◌≡◌, ℕ, List, [], ◌∷◌, Some, codes, ap}
use Rattle.ir_values.specs.declared.units.Form.TheVariants.{DefineForm}
use Rattle.ir_values.specs.declared.units.Attach.{Attach}
use Rattle.ir_values.specs.declared.units.Head.{Head}
use Rattle.thin_files.specs.Shape.{variable_unit, head_unit, test_unit, node_unit}

lone-same : {A : Type 0} (x y : A) → x ∷ [] ≡ y ∷ [] → x ≡ y
lone-same x y same = cc

some-same : {A : Type 0} (x y : A) → Some x ≡ Some y → x ≡ y
some-same x y same = cc

head-same : (head other : Head) → DefineForm head ≡ DefineForm other → head ≡ other
head-same head other same = cc

pub variable_unit-same : (name other_name : List ℕ) (count other_count : ℕ) (node other_node : List ℕ) →
    variable_unit name count node ≡ variable_unit other_name other_count other_node →
    (name ≡ other_name) × (count ≡ other_count) × (node ≡ other_node)
variable_unit-same name other_name count other_count node other_node same =
    let node_of_attach : Attach → List ℕ = λ attach. attach.node in
    (cc, cc, ap node_of_attach (lone-same (record { kind = codes "type"; node = node }) (record { kind = codes "type"; node = other_node }) cc))

pub node_unit-same : (number other_number : List ℕ) (offset other_offset : ℕ) (id other_id : List ℕ) →
    node_unit number offset id ≡ node_unit other_number other_offset other_id →
    (number ≡ other_number) × (offset ≡ other_offset) × (id ≡ other_id)
node_unit-same number other_number offset other_offset id other_id same = (cc, cc, cc)

pub head_unit-same : (name other_name pointer other_pointer : List ℕ) → head_unit name pointer ≡ head_unit other_name other_pointer →
    (name ≡ other_name) × (pointer ≡ other_pointer)
head_unit-same name other_name pointer other_pointer same =
    let heads = head-same _ _ same in (
      ap (λ (head : Head). head.name) heads,
      some-same _ _ (ap (λ param. param.name) (lone-same _ _ (ap (λ (head : Head). head.params) heads))),
    )

pub test_unit-same : (register other_register pointer other_pointer tested other_tested : List ℕ) →
    test_unit register pointer tested ≡ test_unit other_register other_pointer other_tested →
    (register ≡ other_register) × (tested ≡ other_tested)
test_unit-same register other_register pointer other_pointer tested other_tested same = (cc, cc)
