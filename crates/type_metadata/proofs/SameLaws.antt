-- The tests of objects, carriers and identifiers: true exactly where two are one.
use Rattle.std.proofs.Common.{◌≡◌, ◌↔◌, ℕ, List, [], ◌∷◌, Bool, true, false, ◌&&◌, IsTrue, refl, sym, ap, subst}
use Rattle.std.specs.Prelude.{nat_eq}
use Rattle.std.specs.Cmp.Lexicographic.{pointwise}
use Rattle.std.proofs.lemmas.Bool.{eqb-true, eq-eqb}
use Rattle.ir_values.specs.declared.modules.TypeId.{TypeId}
use Rattle.ir_values.specs.declared.modules.TypeId.TheVariants.{Name, Node}
use Rattle.type_metadata.specs.declared.objects.Object.{Object}
use Rattle.type_metadata.specs.declared.objects.Carrier.{Carrier}
use Rattle.type_metadata.specs.Same.{same_flag, same_object, same_carrier, same_id}

pub both_parts : (a b : Bool) → (a && b) ≡ true → (a ≡ true) × (b ≡ true)
both_parts true true both = (refl, refl)
both_parts true false both = cc
both_parts false b both = cc

pub and_both : (a b : Bool) → a ≡ true → b ≡ true → (a && b) ≡ true
and_both true b one two = two
and_both false b one two = one

-- two tests that hold of each other
pub alike : (a b : Bool) → (a ≡ true → b ≡ true) → (b ≡ true → a ≡ true) → a ≡ b
alike true b there back = sym (there refl)
alike false true there back = back refl
alike false false there back = refl

decides : {X : Type 0} (same : X → X → Bool) (one two : X) (test : Bool) → (same one two ≡ true → one ≡ two) → (one ≡ two → same one two ≡ true) →
    IsTrue test ↔ (one ≡ two) → test ≡ same one two
decides same one two test out into both = alike test (same one two) (λ holds. into (both.0 holds)) (λ holds. both.1 (out holds))

flag_one : (one two : Bool) → same_flag one two ≡ true → one ≡ two
flag_one true true is = refl
flag_one true false is = cc
flag_one false true is = cc
flag_one false false is = refl

flag_same : (one : Bool) → same_flag one one ≡ true
flag_same true = refl
flag_same false = refl

pub object_one : (one two : Object) → same_object one two ≡ true → one ≡ two
object_one one two is =
    let three = both_parts _ _ is in
    let files = both_parts _ _ three.0 in
    λ i. record {
      file = eqb-true one.file two.file files.0 i;
      function = flag_one one.function two.function files.1 i;
      index = eqb-true one.index two.index three.1 i;
    }

object_itself : (one : Object) → same_object one one ≡ true
object_itself one = and_both _ _ (and_both _ _ (eq-eqb one.file one.file refl) (flag_same one.function)) (eq-eqb one.index one.index refl)

pub object_same : (one two : Object) → one ≡ two → same_object one two ≡ true
object_same one two is = subst (λ other. same_object one other ≡ true) is (object_itself one)

pub object_decides : (one two : Object) (test : Bool) → IsTrue test ↔ (one ≡ two) → test ≡ same_object one two
object_decides one two test = decides same_object one two test (object_one one two) (object_same one two)

pub carrier_one : (one two : Carrier) → same_carrier one two ≡ true → one ≡ two
carrier_one one two is =
    let parts = both_parts _ _ is in
    λ i. record { object = object_one one.object two.object parts.0 i; offset = eqb-true one.offset two.offset parts.1 i }

pub carrier_same : (one two : Carrier) → one ≡ two → same_carrier one two ≡ true
carrier_same one two is = subst (λ other. same_carrier one other ≡ true) is
    (and_both _ _ (object_itself one.object) (eq-eqb one.offset one.offset refl))

pub carrier_decides : (one two : Carrier) (test : Bool) → IsTrue test ↔ (one ≡ two) → test ≡ same_carrier one two
carrier_decides one two test = decides same_carrier one two test (carrier_one one two) (carrier_same one two)

pub bytes_one : (xs ys : List ℕ) → pointwise nat_eq xs ys ≡ true → xs ≡ ys
bytes_one [] [] is = refl
bytes_one [] (y ∷ ys) is = cc
bytes_one (x ∷ xs) [] is = cc
bytes_one (x ∷ xs) (y ∷ ys) is =
    let parts = both_parts _ _ is in
    let first = eqb-true x y parts.0 in
    let rest = bytes_one xs ys parts.1 in
    λ i. first i ∷ rest i

pub bytes_itself : (xs : List ℕ) → pointwise nat_eq xs xs ≡ true
bytes_itself [] = refl
bytes_itself (x ∷ xs) = and_both _ _ (eq-eqb x x refl) (bytes_itself xs)

pub id_one : (one two : TypeId) → same_id one two ≡ true → one ≡ two
id_one (Name a) (Name b) is = ap Name (bytes_one a b is)
id_one (Name a) (Node file number) is = cc
id_one (Node file number) (Name b) is = cc
id_one (Node file number) (Node file' number') is =
    let parts = both_parts _ _ is in
    let files = eqb-true file file' parts.0 in
    let numbers = eqb-true number number' parts.1 in
    λ i. Node (files i) (numbers i)

id_itself : (one : TypeId) → same_id one one ≡ true
id_itself (Name a) = bytes_itself a
id_itself (Node file number) = and_both _ _ (eq-eqb file file refl) (eq-eqb number number refl)

pub id_same : (one two : TypeId) → one ≡ two → same_id one two ≡ true
id_same one two is = subst (λ other. same_id one other ≡ true) is (id_itself one)

pub id_decides : (one two : TypeId) (test : Bool) → IsTrue test ↔ (one ≡ two) → test ≡ same_id one two
id_decides one two test = decides same_id one two test (id_one one two) (id_same one two)
