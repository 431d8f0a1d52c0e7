-- Signed numbers of k bits as those of 64.
use Rattle.std.proofs.Common.{◌≡◌, ℕ, ◌+◌, ◌-◌, ◌^◌, ◌<◌, ◌≤◌, suc, zero, refl, ℤ, pos, negsuc, Bool, true, false, w64, FitsSigned, to_z, of_z, arith, ◌∙◌, ap, sym, subst, lit<, inl, inr, neg_ℤ, ◌≤ℤ◌, ◌<ℤ◌}
use Rattle.std.proofs.Math.Nat.{two-pow-succ, pow-le-pow_right}
use Rattle.std.proofs.lemmas.Int.{ints, to_z-of_z, quot_is, rem_is}
use Rattle.std.proofs.lemmas.Nat.{pow_pos, or_lt, xor_lt}
use Rattle.std.specs.Int.{CanDivide, cast_unsigned}
use Rattle.std.specs.Prelude.{int_div, int_rem, not, ◌&&◌, ◌==◌, Some, SomeIff}
use Rattle.std.proofs.lemmas.Bool.{cases_lt}
use Rattle.ir_numbers.specs.Numbers.{signed, fits}
use Rattle.ir_numbers.specs.Arithmetic.{can_divide, some_if}

pub pow-half : (k : ℕ) → 1 ≤ k → 2 ^ k ≡ 2 ^ (k - 1) + 2 ^ (k - 1)
pow-half k h = let e : k ≡ suc (k - 1) = omega arith in ap (λ n. 2 ^ n) e ∙ two-pow-succ (k - 1)

pub signed-high : (k n : ℕ) → 2 ^ (k - 1) ≤ n → n < 2 ^ k → signed k n ≡ negsuc (2 ^ k - suc n)
signed-high k n high below = grind (arith, ints)

pub signed-low : (k n : ℕ) → n < 2 ^ (k - 1) → signed k n ≡ pos n
signed-low k n low = grind arith

half_below : (k : ℕ) → k ≤ 64 → 2 ^ (k - 1) ≤ 2 ^ 63
half_below k most = let less : k - 1 ≤ 63 = omega arith in pow-le-pow_right (lit< tt) less

pub signed_fits : (k n : ℕ) → 1 ≤ k → k ≤ 64 → n < 2 ^ k → FitsSigned w64 (signed k n)
signed_fits k n least most below =
    let half : 2 ^ k ≡ 2 ^ (k - 1) + 2 ^ (k - 1) = pow-half k least in
    let top : 2 ^ (k - 1) ≤ 2 ^ 63 = half_below k most in
    elim (cases_lt n (2 ^ (k - 1))) [
      | inl low ↦ rw (signed-low k n low) (record { sfits = omega arith })
      | inr high ↦ rw (signed-high k n high below) (record { sfits = omega arith })
    ]

signed_nonzero : (k n : ℕ) → 1 ≤ k → k ≤ 64 → n < 2 ^ k → 0 < n → 0 < cast_unsigned w64 (signed k n)
signed_nonzero k n least most below positive =
    let half : 2 ^ k ≡ 2 ^ (k - 1) + 2 ^ (k - 1) = pow-half k least in
    let top : 2 ^ (k - 1) ≤ 2 ^ 63 = half_below k most in
    elim (cases_lt n (2 ^ (k - 1))) [
      | inl low ↦ rw (signed-low k n low) positive
      | inr high ↦ rw (signed-high k n high below) (omega arith)
    ]

pub fits_64 : (k : ℕ) (z : ℤ) → k ≤ 64 → fits k z ≡ true → FitsSigned w64 z
fits_64 k z most it =
    let top : 2 ^ (k - 1) ≤ 2 ^ 63 = half_below k most in
    let low : neg_ℤ (pos (2 ^ (k - 1))) ≤ℤ z = record { le = grind arith } in
    let high : z <ℤ pos (2 ^ (k - 1)) = record { lt = grind arith } in
    omega (arith, ints)

pub can_divide_64 : (k a b : ℕ) → 1 ≤ k → k ≤ 64 → a < 2 ^ k → b < 2 ^ k → can_divide k a b ≡ true
    → CanDivide w64 (signed k a) (signed k b)
can_divide_64 k a b least most ha hb it =
    (signed_nonzero k b least most hb (grind arith), fits_64 k (int_div (signed k a) (signed k b)) most (grind arith))

same_64 : (k n : ℕ) (z : ℤ) → 1 ≤ k → k ≤ 64 → n < 2 ^ k → z ≡ signed k n → to_z w64 (of_z w64 z) ≡ signed k n
same_64 k n z least most below is =
    ap (λ y. to_z w64 (of_z w64 y)) is ∙ to_z-of_z w64 (signed k n) (signed_fits k n least most below)

nonzero : (k n : ℕ) → 0 < cast_unsigned w64 (signed k n) → not (n == 0) ≡ true
nonzero k zero h = absurd (let e : 0 < cast_unsigned w64 (pos 0) = rw (signed-low k 0 (pow_pos (k - 1))) at h in omega arith)
nonzero k (suc n) h = grind arith

false_unless : (test : Bool) → (test ≡ true → ⊥) → false ≡ test
false_unless false h = refl
false_unless true h = absurd (h refl)

-- what `checked_div` answers at the signed numbers x and y
pub can_divide-some : (k a b : ℕ) (x y q : ℤ) → 1 ≤ k → k ≤ 64 → a < 2 ^ k → b < 2 ^ k → x ≡ signed k a → y ≡ signed k b
    → SomeIff (Some q) (CanDivide w64 (to_z w64 (of_z w64 x)) (to_z w64 (of_z w64 y))) (int_div (to_z w64 (of_z w64 x)) (to_z w64 (of_z w64 y)))
    → fits k (to_z w64 (of_z w64 q)) ≡ can_divide k a b
can_divide-some k a b x y q least most ha hb is_x is_y it =
    let P : ℤ → ℤ → Type 0 = λ (m : ℤ) (n : ℤ). SomeIff (Some q) (CanDivide w64 m n) (int_div m n) in
    let at_y : P (to_z w64 (of_z w64 x)) (signed k b) = subst (P (to_z w64 (of_z w64 x))) (same_64 k b y least most hb is_y) it in
    let known : P (signed k a) (signed k b) = subst (λ (m : ℤ). P m (signed k b)) (same_64 k a x least most ha is_x) at_y in
    let fit : FitsSigned w64 q = subst (λ (z : ℤ). FitsSigned w64 z) (sym known.1) known.0.1 in
    ap (fits k) (to_z-of_z w64 q fit ∙ known.1)
    ∙ sym (ap (λ t. t && fits k (int_div (signed k a) (signed k b))) (nonzero k b known.0.0))

pub can_divide-none : (k a b : ℕ) (x y : ℤ) → 1 ≤ k → k ≤ 64 → a < 2 ^ k → b < 2 ^ k → x ≡ signed k a → y ≡ signed k b
    → (CanDivide w64 (to_z w64 (of_z w64 x)) (to_z w64 (of_z w64 y)) → ⊥)
    → false ≡ can_divide k a b
can_divide-none k a b x y least most ha hb is_x is_y it =
    let P : ℤ → ℤ → Type 0 = λ (m : ℤ) (n : ℤ). CanDivide w64 m n → ⊥ in
    let at_y : P (to_z w64 (of_z w64 x)) (signed k b) = subst (P (to_z w64 (of_z w64 x))) (same_64 k b y least most hb is_y) it in
    let known : P (signed k a) (signed k b) = subst (λ (m : ℤ). P m (signed k b)) (same_64 k a x least most ha is_x) at_y in
    false_unless (can_divide k a b) (λ (it : can_divide k a b ≡ true). known (can_divide_64 k a b least most ha hb it))

-- what the code's `/` and `%` give at them
pub quotient-is : (k a b : ℕ) (x y : ℤ) → 1 ≤ k → k ≤ 64 → a < 2 ^ k → b < 2 ^ k → x ≡ signed k a → y ≡ signed k b
    → can_divide k a b ≡ true
    → to_z w64 (of_z w64 (int_div (to_z w64 (of_z w64 x)) (to_z w64 (of_z w64 y)))) ≡ int_div (signed k a) (signed k b)
quotient-is k a b x y least most ha hb is_x is_y it =
    let fx : FitsSigned w64 x = subst (λ (z : ℤ). FitsSigned w64 z) (sym is_x) (signed_fits k a least most ha) in
    let fy : FitsSigned w64 y = subst (λ (z : ℤ). FitsSigned w64 z) (sym is_y) (signed_fits k b least most hb) in
    let same : int_div x y ≡ int_div (signed k a) (signed k b) = cc in
    let fit : FitsSigned w64 (int_div x y) = subst (λ (z : ℤ). FitsSigned w64 z) (sym same) (can_divide_64 k a b least most ha hb it).1 in
    quot_is w64 x y fx fy fit ∙ same

pub remainder-is : (k a b : ℕ) (x y : ℤ) → 1 ≤ k → k ≤ 64 → a < 2 ^ k → b < 2 ^ k → x ≡ signed k a → y ≡ signed k b
    → to_z w64 (of_z w64 (int_rem (to_z w64 (of_z w64 x)) (to_z w64 (of_z w64 y)))) ≡ int_rem (signed k a) (signed k b)
remainder-is k a b x y least most ha hb is_x is_y =
    let fx : FitsSigned w64 x = subst (λ (z : ℤ). FitsSigned w64 z) (sym is_x) (signed_fits k a least most ha) in
    let fy : FitsSigned w64 y = subst (λ (z : ℤ). FitsSigned w64 z) (sym is_y) (signed_fits k b least most hb) in
    rem_is w64 x y fx fy ∙ cc

pub some_if-true : (test : Bool) (m n : ℕ) → test ≡ true → m ≡ n → Some m ≡ some_if test n
some_if-true test m n it same = ap Some same ∙ sym (ap (λ t. some_if t n) it)

pub ruleset division = (signed_fits, can_divide_64)

pub ruleset below = (or_lt, xor_lt)
