-- Whether two values of a type are one, by the code that every type has. It serves as the `eq` of a type whose `==` is
-- equality of values: `same C.the_row.coded`, with the laws `same_laws C.the_row.coded`, at the type's contracts C.
use Rattle.std.specs.Prelude.{◌≡◌, Bool, true, false, nat_eq, ◌&&◌, ◌↔◌, IsTrue, refl}
use Rattle.std.proofs.Common.{sym, subst, arith}
use Rattle.std.specs.Cmp.{IsPartialEquivalence, IsEquivalence, partial_equiv_from_equiv}
use base.Stored.{Coded, Gv, gnil, gnum, gcons}

-- whether two codes are one
abbrev pub alike : Gv → Gv → Bool
alike gnil gnil = true
alike (gnum m) (gnum n) = nat_eq m n
alike (gcons a b) (gcons c d) = alike a c && alike b d
alike a b = false

alike_itself : (a : Gv) → alike a a ≡ true
alike_itself gnil = refl
alike_itself (gnum n) = grind arith
alike_itself (gcons a b) = let first = alike_itself a in let second = alike_itself b in grind arith

alike_one : (a b : Gv) → alike a b ≡ true → a ≡ b
alike_one gnil gnil is = refl
alike_one gnil (gnum n) is = cc
alike_one gnil (gcons c d) is = cc
alike_one (gnum m) gnil is = cc
alike_one (gnum m) (gnum n) is = grind arith
alike_one (gnum m) (gcons c d) is = cc
alike_one (gcons a b) gnil is = cc
alike_one (gcons a b) (gnum n) is = cc
alike_one (gcons a b) (gcons c d) is = let first = alike_one a c in let second = alike_one b d in grind arith

-- whether two values are one
abbrev pub same : {X : Type 0} → Coded X → X → X → Bool
same c x y = alike (c.code x) (c.code y)

pub same_one : {X : Type 0} (c : Coded X) (x y : X) → same c x y ≡ true → x ≡ y
same_one c x y is = c.inj x y (alike_one _ _ is)

pub one_same : {X : Type 0} (c : Coded X) (x y : X) → x ≡ y → same c x y ≡ true
one_same c x y is = subst (λ z. same c x z ≡ true) is (alike_itself (c.code x))

both_ways : (a b : Bool) → (a ≡ true → b ≡ true) → (b ≡ true → a ≡ true) → a ≡ b
both_ways true b there back = sym (there refl)
both_ways false true there back = back refl
both_ways false false there back = refl

turned : {X : Type 0} (c : Coded X) (x y : X) → same c x y ≡ true → same c y x ≡ true
turned c x y is = one_same c y x (sym (same_one c x y is))

-- it is an equivalence
pub same_equivalence : {X : Type 0} (c : Coded X) → IsEquivalence (same c)
same_equivalence c = record {
  refl = λ x. alike_itself (c.code x);
  symm = λ x y. both_ways _ _ (turned c x y) (turned c y x);
  congr = λ x y z is. subst (λ w. same c x z ≡ same c w z) (same_one c x y is) refl;
}

pub same_laws : {X : Type 0} (c : Coded X) → IsPartialEquivalence (same c)
same_laws c = partial_equiv_from_equiv (same_equivalence c)

-- a test that holds exactly where two values are one answers what `same` does
pub decides_same : {X : Type 0} (c : Coded X) (x y : X) (test : Bool) → IsTrue test ↔ (x ≡ y) → test ≡ same c x y
decides_same c x y test decides =
    both_ways test (same c x y) (λ holds. one_same c x y (decides.0 holds)) (λ one. decides.1 (same_one c x y one))
