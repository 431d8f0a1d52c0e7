-- The padding of a slot.
use Rattle.std.proofs.Common.{◌≡◌, ℕ, ◌+◌, ◌-◌, ◌*◌, ◌/◌, ◌^◌, ◌<◌, ◌≤◌, inl, inr, zero, suc, Bool, true, false, refl, sym, ap, subst, ◌∙◌, arith}
use Rattle.std.specs.Prelude.{if◌then◌else◌, nat_le}
use Rattle.std.proofs.Math.Nat.{pow-suc, pow-le-pow_right}
use Rattle.global_layout.specs.Layout.{IsAlign, IsShape}
use Rattle.std.proofs.lemmas.Nat.{pow_pos, div-add-mod', mod_below}
use Rattle.std.proofs.lemmas.Bool.{le-leb, lt-leb, cases_lt}
use Rattle.global_layout.specs.Slots.{doubled_to, power_above, pad, raised, slot_size, end_behind}
use Rattle.global_layout.specs.declared.ids.Shape.{Shape}

doubled_done : (left p n : ℕ) → n ≤ p → doubled_to left p n ≡ p
unfolding doubled_to
doubled_done zero p n reached = refl
doubled_done (suc left) p n reached = ap (λ (t : Bool). if t then p else doubled_to left (2 * p) n) (le-leb n p reached)

doubled_next : (left p n : ℕ) → p < n → doubled_to (suc left) p n ≡ doubled_to left (2 * p) n
unfolding doubled_to
doubled_next left p n below = ap (λ (t : Bool). if t then p else doubled_to left (2 * p) n) (lt-leb n p below)

-- a power on the way to the least that is at least n, with the doublings left
pub record IsDoubling (n power : ℕ) : Type 0 where
  pub left : ℕ
  pub so_far : doubled_to left power n ≡ power_above n
  pub reach : n ≤ power * 2 ^ left
  pub some : 0 < power

grows_past : (n : ℕ) → n < 2 ^ n
grows_past zero = omega arith
grows_past (suc n) = let before = grows_past n in let twice = pow-suc 2 n in omega (arith, before, twice)

pub doubling-begins : (n : ℕ) → IsDoubling n 1
doubling-begins n = record { left = n; so_far = refl; reach = (let past = grows_past n in omega (arith, past)); some = omega arith }

pub doubling-step : (n power : ℕ) → power < n → IsDoubling n power → IsDoubling n (power * 2)
doubling-step n power below doubling = by_left doubling.left doubling.so_far doubling.reach where
  turned : (p m : ℕ) → p * (m * 2) ≡ p * 2 * m
  turned p m = omega arith

  by_left : (left : ℕ) → doubled_to left power n ≡ power_above n → n ≤ power * 2 ^ left → IsDoubling n (power * 2)
  by_left zero so_far reach = absurd (omega (arith, below, reach))
  by_left (suc left) so_far reach =
      let twice : 2 * power ≡ power * 2 = omega arith in
      let wide = pow-suc 2 left in
      let some = doubling.some in
      record {
        left = left;
        so_far = ap (λ p. doubled_to left p n) (sym twice) ∙ sym (doubled_next left power n below) ∙ so_far;
        reach = (let h : n ≤ power * (2 ^ left * 2) = subst (λ m. n ≤ power * m) wide reach in subst (λ m. n ≤ m) (turned power (2 ^ left)) h);
        some = omega (arith, some);
      }

pub doubling-ends : (n power : ℕ) → n ≤ power → IsDoubling n power → power ≡ power_above n
doubling-ends n power reached doubling = sym (doubled_done doubling.left power n reached) ∙ doubling.so_far

-- What a slot and its end are at least.

power_reaches : (left p n : ℕ) → n ≤ p * 2 ^ left → n ≤ doubled_to left p n
unfolding doubled_to
power_reaches zero p n reach = omega (arith, reach)
power_reaches (suc left) p n reach = elim (cases_lt p n) [
  | inl below ↦ subst (λ m. n ≤ m) (sym (ap (λ (t : Bool). if t then p else doubled_to left (2 * p) n) (lt-leb n p below)))
      (power_reaches left (2 * p) n (subst (λ m. n ≤ m) (turned p (2 ^ left)) (subst (λ m. n ≤ p * m) (pow-suc 2 left) reach)))
  | inr reached ↦ subst (λ m. n ≤ m) (sym (ap (λ (t : Bool). if t then p else doubled_to left (2 * p) n) (le-leb n p reached))) reached
] where
  turned : (p m : ℕ) → p * (m * 2) ≡ 2 * p * m
  turned p m = omega arith

pub pad-reaches : (n : ℕ) → n ≤ pad n
pad-reaches n = by_test (nat_le (power_above n) (n + 32)) where
  reached : n ≤ power_above n
  reached = power_reaches n 1 n (let past = grows_past n in omega (arith, past))

  by_test : (t : Bool) → n ≤ (if t then power_above n else (n + 31) / 32 * 32)
  by_test true = reached
  by_test false = omega arith

pub raised-reaches : (n align : ℕ) → 0 < align → n ≤ raised n align
raised-reaches n align some =
    let whole = div-add-mod' (n + (align - 1)) align in
    let rest = mod_below (n + (align - 1)) align some in
    omega (arith, whole, rest, some)

pub align-some : (align : ℕ) → IsAlign align → 0 < align
align-some align (k, small, is) = subst (λ n. 0 < n) (sym is) (pow_pos k)

pub align-small : (align : ℕ) → IsAlign align → align ≤ 4096
align-small align (k, small, is) = subst (λ n. n ≤ 4096) (sym is) (let h : 2 ^ k ≤ 2 ^ 12 = pow-le-pow_right (omega arith) small in h)

pub slot-reaches : (shape : Shape) → IsShape shape → shape.before + shape.extent + shape.after ≤ slot_size shape
slot-reaches shape is =
    let before = raised-reaches shape.before shape.align (align-some shape.align is.align) in
    let padded = pad-reaches (raised shape.before shape.align + shape.extent + shape.after) in
    omega (arith, before, padded)

pub end-grows : (end : ℕ) (shape : Shape) → IsShape shape → end + shape.extent ≤ end_behind end shape
end-grows end shape is =
    let start = raised-reaches end shape.align (align-some shape.align is.align) in
    let slot = slot-reaches shape is in
    omega (arith, start, slot)
