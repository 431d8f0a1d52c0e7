-- Two readings of the same units are one, where no number stands on two nodes.
use Rattle.std.proofs.Common.{◌≡◌, ℕ, ◌<◌, ◌+◌, List, [], ◌∷◌, length, map, take, drop, Option, IfSome, sym, ap, ◌∙◌, subst, refl, get_or, arith}
use Rattle.std.specs.List.{All, Contains}
use Rattle.std.proofs.lemmas.List.{length-map, get_or-map, get_or_default}
use Rattle.std.proofs.lemmas.List.Elements.{All-head, All-tail}
use Rattle.ltt_base.specs.declared.refusal.Place.{Place}
use Rattle.ltt_base.specs.declared.refusal.Placed.{Placed}
use Rattle.ir_values.specs.declared.units.Unit as unit
use Rattle.thin_files.specs.declared.thin.Variable.{Variable}
use Rattle.thin_files.specs.declared.thin.Node.{Node}
use Rattle.thin_files.specs.declared.thin.Second.{Second}
use Rattle.thin_files.specs.declared.thin.Thin.{Thin}
use Rattle.thin_files.specs.Thin.{variable_form, node_form, node_of, AreDistinct, IsAllowed, IsThin, StandsAt}
use Rattle.thin_files.specs.Shape.{function_units, tail_forms, head_unit, test_unit, IsReading}
use Rattle.thin_files.proofs.Units.{variable_unit-same, head_unit-same, test_unit-same}
use Rattle.thin_files.proofs.Reading.{append_split, heads, nodes_same, function_rest}
use Rattle.thin_files.proofs.Tails.{tail_nodes, tail_second}

first_same : {A : Type 0} (x y : A) (xs ys : List A) → x ∷ xs ≡ y ∷ ys → x ≡ y
first_same x y xs ys same = cc

rest_same : {A : Type 0} (x y : A) (xs ys : List A) → x ∷ xs ≡ y ∷ ys → xs ≡ ys
rest_same x y xs ys same = cc

-- of two places, none is before the other where the items there have one text
not_before : {A : Type 0} (f : A → List ℕ) (xs : List A) → AreDistinct (map f xs) → (x y : A) (i j : ℕ) → get_or xs i x ≡ x → get_or xs j y ≡ y →
    f x ≡ f y → j < length xs → i < j → ⊥
not_before f xs distinct x y i j at there same within before =
    distinct i j (f x) before (rw length-map within)
    (get_or-map f xs i x (f x) (omega arith) ∙ ap f at ∙ same ∙ sym (get_or-map f xs j y (f x) within ∙ ap f there))

-- an item is found by its text
pub one_item : {A : Type 0} (f : A → List ℕ) (xs : List A) → AreDistinct (map f xs) → (x y : A) → Contains xs x → Contains xs y →
    f x ≡ f y → x ≡ y
one_item f xs distinct x y (i, within, at) (j, there_within, there) same =
    let before : i < j → ⊥ = not_before f xs distinct x y i j at there same there_within in
    let after : j < i → ⊥ = not_before f xs distinct y x j i there at (sym same) within in
    let place : i ≡ j = omega arith in
    sym at ∙ get_or_default xs i x y within ∙ ap (λ k. get_or xs k y) place ∙ there

abbrev variable : Place → List ℕ → ℕ → List ℕ → ℕ → List ℕ → Variable
variable place name count node offset id = record { place = place; name = name; count = count; node = node; offset = offset; id = id }

variable_same : (nodes : List Node) → AreDistinct (map (λ n. n.number) nodes) → (v other : Variable) →
    Contains nodes (node_of v) → Contains nodes (node_of other) → variable_form v ≡ variable_form other → v.place ≡ other.place → v ≡ other
variable_same nodes once v other named other_named said place =
    let parts = variable_unit-same v.name other.name v.count other.count v.node other.node said in
    let node : node_of v ≡ node_of other = one_item (λ n. n.number) nodes once _ _ named other_named parts.2 in
    let offset = ap (λ (n : Node). n.offset) node in
    let id = ap (λ (n : Node). n.id) node in
    ap (λ x. variable x v.name v.count v.node v.offset v.id) place
    ∙ ap (λ x. variable other.place x v.count v.node v.offset v.id) parts.0
    ∙ ap (λ x. variable other.place other.name x v.node v.offset v.id) parts.1
    ∙ ap (λ x. variable other.place other.name other.count x v.offset v.id) parts.2
    ∙ ap (λ x. variable other.place other.name other.count other.node x v.id) offset
    ∙ ap (λ x. variable other.place other.name other.count other.node other.offset x) id

abbrev IsNamed : List Node → Variable → Type 0
IsNamed nodes v = Contains nodes (node_of v)

variables_same : (nodes : List Node) → AreDistinct (map (λ n. n.number) nodes) → (vs others : List Variable) →
    All (λ v. Contains nodes (node_of v)) vs → All (λ v. Contains nodes (node_of v)) others →
    map variable_form vs ≡ map variable_form others → map (λ v. v.place) vs ≡ map (λ v. v.place) others → vs ≡ others
variables_same nodes once [] [] named other_named said places = refl
variables_same nodes once [] (other ∷ others) named other_named said places = cc
variables_same nodes once (v ∷ vs) [] named other_named said places = cc
variables_same nodes once (v ∷ vs) (other ∷ others) named other_named said places =
    let first : v ≡ other = variable_same nodes once v other
    (All-head (IsNamed nodes) v vs named) (All-head (IsNamed nodes) other others other_named) (cc) (cc) in
    let more : vs ≡ others = variables_same nodes once vs others
    (All-tail (IsNamed nodes) v vs named) (All-tail (IsNamed nodes) other others other_named) (cc) (cc) in
    cc (first, more)

abbrev thin : List Variable → Place → (name pointer register tested : List ℕ) → Option Second → List Node → Thin
thin variables place name pointer register tested second nodes = record {
  variables = variables;
  place = place;
  name = name;
  pointer = pointer;
  register = register;
  tested = tested;
  second = second;
  nodes = nodes;
}

pub one_reading : (units : List (Placed unit.Unit)) (t other : Thin) → IsReading units t → IsReading units other →
    AreDistinct (map (λ n. n.number) other.nodes) → t ≡ other
one_reading units t other reading other_reading once =
    let long : length t.variables ≡ length other.variables =
    sym (heads units t.variables _ _ reading.said) ∙ heads units other.variables _ _ other_reading.said in
    let said = append_split (map variable_form t.variables) (map variable_form other.variables)
    (function_units t.name t.pointer t.register t.tested (tail_forms t.second (map node_form t.nodes)))
    (function_units other.name other.pointer other.register other.tested (tail_forms other.second (map node_form other.nodes)))
    (length-map t.variables _ ∙ long ∙ sym (length-map other.variables _)) (sym reading.said ∙ other_reading.said) in
    let placed = append_split (map (λ v. v.place) t.variables) (map (λ v. v.place) other.variables) (t.place ∷ []) (other.place ∷ [])
    (length-map t.variables _ ∙ long ∙ sym (length-map other.variables _))
    (sym reading.places ∙ ap (λ n. map (λ u. u.place) (take (n + 1) units)) long ∙ other_reading.places) in
    let function = said.1 in
    let head : head_unit t.name t.pointer ≡ head_unit other.name other.pointer = first_same _ _ _ _ function in
    let named = head_unit-same t.name other.name t.pointer other.pointer head in
    let test : test_unit t.register t.pointer t.tested ≡ test_unit other.register other.pointer other.tested =
    first_same _ _ _ _ (rest_same _ _ _ _ function) in
    let tested = test_unit-same t.register other.register t.pointer other.pointer t.tested other.tested test in
    let behind : tail_forms t.second (map node_form t.nodes) ≡ tail_forms other.second (map node_form other.nodes) =
    function_rest t.name other.name t.pointer other.pointer t.register other.register t.tested other.tested _ _ function in
    let nodes : t.nodes ≡ other.nodes = nodes_same _ _ (tail_nodes t.second other.second _ _ behind) in
    let stands : IfSome t.second (λ s. StandsAt units (length other.variables + 4) s.place) =
    subst (λ n. IfSome t.second (λ s. StandsAt units (n + 4) s.place)) long reading.second in
    let second : t.second ≡ other.second =
    tail_second (map (λ u. u.place) (take 1 (drop (length other.variables + 4) units))) t.second other.second _ _ behind
    stands other_reading.second in
    let variables : t.variables ≡ other.variables = variables_same other.nodes once _ _
    (subst (λ ns. All (λ v. Contains ns (node_of v)) t.variables) nodes reading.named) other_reading.named said.0 placed.0 in
    let place : t.place ≡ other.place = first_same _ _ _ _ placed.1 in
    ap (λ x. thin x t.place t.name t.pointer t.register t.tested t.second t.nodes) variables
    ∙ ap (λ x. thin other.variables x t.name t.pointer t.register t.tested t.second t.nodes) place
    ∙ ap (λ x. thin other.variables other.place x t.pointer t.register t.tested t.second t.nodes) named.0
    ∙ ap (λ x. thin other.variables other.place other.name x t.register t.tested t.second t.nodes) named.1
    ∙ ap (λ x. thin other.variables other.place other.name other.pointer x t.tested t.second t.nodes) tested.0
    ∙ ap (λ x. thin other.variables other.place other.name other.pointer other.register x t.second t.nodes) tested.1
    ∙ ap (λ x. thin other.variables other.place other.name other.pointer other.register other.tested x t.nodes) second
    ∙ ap (λ x. thin other.variables other.place other.name other.pointer other.register other.tested other.second x) nodes

-- a thin file is a reading
pub reading_of : (units : List (Placed unit.Unit)) (t : Thin) → IsThin units t → IsReading units t
reading_of units t is = record { said = is.forms; places = is.places; named = is.allowed.named; second = is.second }

-- a reading that breaks a rule is the only one
pub no_other : (units : List (Placed unit.Unit)) (t : Thin) → IsReading units t → (IsAllowed t → ⊥) → (other : Thin) → IsThin units other → ⊥
no_other units t reading breaks other is =
    breaks (subst IsAllowed (sym (one_reading units t other reading (reading_of units other is) is.allowed.once)) is.allowed)

pub determined : (units : List (Placed unit.Unit)) (t other : Thin) → IsThin units t → IsThin units other → t ≡ other
determined units t other is other_is =
    one_reading units t other (reading_of units t is) (reading_of units other other_is) other_is.allowed.once
