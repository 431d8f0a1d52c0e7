-- What stands behind the first function says one thing.
use Rattle.std.proofs.Common.{◌≡◌, ℕ, List, [], ◌∷◌, Option, Some, None, refl, sym, ap, ◌∙◌, IfSome, get_or}
use Rattle.std.proofs.Math.ListN.{get_or-map}
use Rattle.ltt_base.specs.declared.refusal.Place.{Place}
use Rattle.ltt_base.specs.declared.refusal.Placed.{Placed}
use Rattle.ir_values.specs.declared.types.Width.TheVariants.{W8, W64}
use Rattle.ir_values.specs.declared.types.Ty as ty
use Rattle.ir_values.specs.declared.types.Ty.{Ty}
use Rattle.ir_values.specs.declared.constants.Const as const
use Rattle.ir_values.specs.declared.constants.Const.{Const, out-Const}
use Rattle.ir_values.specs.declared.constants.Const.TheOpen.{Const-F}
use Rattle.ir_values.specs.declared.constants.Const.TheVariants.{outs-Gep, outs-Typed}
use Rattle.ir_values.specs.declared.constants.Operand as operand
use Rattle.ir_values.specs.declared.constants.Operand.{Operand}
use Rattle.ir_values.specs.declared.units.Unit as unit
use Rattle.ir_values.specs.declared.units.Form.{Form}
use Rattle.ir_values.specs.declared.units.Form.TheVariants.{DefineForm}
use Rattle.ir_values.specs.declared.units.Head.{Head}
use Rattle.thin_files.specs.declared.thin.Second.{Second}
use Rattle.thin_files.specs.Shape.{forms, bare_head, moved_index, address_operand, address_test, tail_forms}

first_same : {A : Type 0} (x y : A) (xs ys : List A) → x ∷ xs ≡ y ∷ ys → x ≡ y
first_same x y xs ys same = cc

rest_same : {A : Type 0} (x y : A) (xs ys : List A) → x ∷ xs ≡ y ∷ ys → xs ≡ ys
rest_same x y xs ys same = cc

-- what a constant address and a typed part say
gep-same : (part other_part : Ty) (base other_base : Const) (index other_index : List Operand) →
    const.Gep part base index ≡ const.Gep other_part other_base other_index → (base ≡ other_base) × (index ≡ other_index)
gep-same part other_part base other_base index other_index same =
    let opened : Const-F.Gep part base index ≡ Const-F.Gep other_part other_base other_index =
    sym (outs-Gep part base index) ∙ ap out-Const same ∙ outs-Gep other_part other_base other_index in
    (cc (opened), cc (opened))

typed-same : (part other_part : Ty) (value other_value : Const) → const.Typed part value ≡ const.Typed other_part other_value → value ≡ other_value
typed-same part other_part value other_value same =
    let opened : Const-F.Typed part value ≡ Const-F.Typed other_part other_value =
    sym (outs-Typed part value) ∙ ap out-Const same ∙ outs-Typed other_part other_value in
    cc (opened)

constant-same : (value other : Const) → operand.Const value ≡ operand.Const other → value ≡ other
constant-same value other same = cc

index-same : (offset other : ℕ) → moved_index offset ≡ moved_index other → offset ≡ other
index-same offset other same =
    let part = constant-same _ _ (first_same _ _ _ _ same) in
    let number : const.Int W64 offset ≡ const.Int W64 other = typed-same _ _ _ _ part in
    cc

-- what an address says
pub address-same : (object other_object : List ℕ) (offset other_offset : Option ℕ) →
    address_operand object offset ≡ address_operand other_object other_offset → (object ≡ other_object) × (offset ≡ other_offset)
address-same object other_object None None same = (cc, refl)
address-same object other_object None (Some other_offset) same = absurd (cc)
address-same object other_object (Some offset) None same = absurd (cc)
address-same object other_object (Some offset) (Some other_offset) same =
    let parts = gep-same (ty.Int W8) (ty.Int W8) (const.Addr object 0) (const.Addr other_object 0) (moved_index offset) (moved_index other_offset)
    (constant-same _ _ same) in
    let base = parts.0 in
    (cc, ap Some (index-same offset other_offset parts.1))

pub tail_nodes : (second other : Option Second) (nodes others : List Form) → tail_forms second nodes ≡ tail_forms other others → nodes ≡ others
tail_nodes None None nodes others same = cc
tail_nodes None (Some s) nodes others same = absurd (cc)
tail_nodes (Some s) None nodes others same = absurd (cc)
tail_nodes (Some s) (Some r) nodes others same = cc

pub address_test-same : (register other_register object other_object : List ℕ) (offset other_offset : Option ℕ) (tested other_tested : List ℕ) →
    address_test register object offset tested ≡ address_test other_register other_object other_offset other_tested →
    (register ≡ other_register) × ((object ≡ other_object) × (offset ≡ other_offset)) × (tested ≡ other_tested)
address_test-same register other_register object other_object offset other_offset tested other_tested same =
    let address : address_operand object offset ≡ address_operand other_object other_offset = cc in
    (cc, address-same object other_object offset other_offset address, cc)

define-same : (head other : Head) → DefineForm head ≡ DefineForm other → head ≡ other
define-same head other same = cc

bare_head-same : (name other : List ℕ) → bare_head name ≡ bare_head other → name ≡ other
bare_head-same name other same = ap (λ (head : Head). head.name) (define-same _ _ same)

abbrev second_of : Place → (name register object : List ℕ) → Option ℕ → List ℕ → Second
second_of place name register object offset tested =
    record { place = place; name = name; register = register; object = object; offset = offset; tested = tested }

pub second_same : (s other : Second) (nodes others : List Form) → tail_forms (Some s) nodes ≡ tail_forms (Some other) others →
    s.place ≡ other.place → s ≡ other
second_same s other nodes others same place =
    let name = bare_head-same s.name other.name (first_same _ _ _ _ same) in
    let test : address_test s.register s.object s.offset s.tested ≡ address_test other.register other.object other.offset other.tested =
    first_same _ _ _ _ (rest_same _ _ _ _ same) in
    let parts = address_test-same s.register other.register s.object other.object s.offset other.offset s.tested other.tested test in
    ap (λ x. second_of x s.name s.register s.object s.offset s.tested) place
    ∙ ap (λ x. second_of other.place x s.register s.object s.offset s.tested) name
    ∙ ap (λ x. second_of other.place other.name x s.object s.offset s.tested) parts.0
    ∙ ap (λ x. second_of other.place other.name other.register x s.offset s.tested) parts.1.0
    ∙ ap (λ x. second_of other.place other.name other.register other.object x s.tested) parts.1.1
    ∙ ap (λ x. second_of other.place other.name other.register other.object other.offset x) parts.2

-- the second function is one, where its place is
pub tail_second : (places : List Place) (second other : Option Second) (nodes others : List Form) →
    tail_forms second nodes ≡ tail_forms other others →
    IfSome second (λ s. places ≡ s.place ∷ []) → IfSome other (λ s. places ≡ s.place ∷ []) → second ≡ other
tail_second places None None nodes others same stands other_stands = refl
tail_second places None (Some s) nodes others same stands other_stands = absurd (cc)
tail_second places (Some s) None nodes others same stands other_stands = absurd (cc)
tail_second places (Some s) (Some other) nodes others same stands other_stands =
    ap Some (second_same s other nodes others same (first_same _ _ _ _ (sym stands ∙ other_stands)))

-- what a unit says is the form at its place
pub form_at : (units : List (Placed unit.Unit)) (fs : List Form) (i : ℕ) (u : Placed unit.Unit) → u ≡ get_or units i u →
    forms units ≡ fs → u.value.form ≡ get_or fs i u.value.form
form_at units fs i u is said =
    ap (λ (w : Placed unit.Unit). w.value.form) is ∙ sym (get_or-map (λ (w : Placed unit.Unit). w.value.form) units i u)
    ∙ ap (λ xs. get_or xs i u.value.form) said
