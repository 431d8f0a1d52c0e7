-- A rotation right as a sum, and what a small one tells.
use Rattle.std.proofs.Common.{◌≡◌, ℕ, ◌+◌, ◌-◌, ◌*◌, ◌/◌, ◌%◌, ◌^◌, ◌<◌, ◌⊎◌, inl, inr, zero, suc, refl, sym, ap, subst, ◌∙◌, arith}
use Rattle.std.specs.Int.{rotate_right, w64}
use Rattle.std.specs.Int.Bits.{bit_or, or_self}
use Rattle.std.proofs.lemmas.Nat.{or_comm, or_shifted, shr_below, shl-shr, mod-pow-add, shr_split, pow_pos, mod_low, shl_below, mul-le}

-- the bits that a shift left keeps
shifted_part : (d j k : ℕ) → d * 2 ^ j % 2 ^ (k + j) ≡ (d % 2 ^ k) * 2 ^ j
shifted_part d j k =
    let low : d * 2 ^ j % 2 ^ j ≡ 0 = ap (λ n. n % 2 ^ j) (sym (plus_none (d * 2 ^ j))) ∙ mod_low d j 0 (pow_pos j) in
    mod-pow-add (d * 2 ^ j) k j ∙ ap (λ n. (n % 2 ^ k) * 2 ^ j + d * 2 ^ j % 2 ^ j) (shl-shr d j)
    ∙ ap (λ n. (d % 2 ^ k) * 2 ^ j + n) low ∙ plus_none ((d % 2 ^ k) * 2 ^ j) where
      plus_none : (n : ℕ) → n + 0 ≡ n
      plus_none n = omega arith

parts_joined : (d j k : ℕ) → d < 2 ^ (j + k) → bit_or (d / 2 ^ k) (d * 2 ^ j % 2 ^ (k + j)) ≡ (d % 2 ^ k) * 2 ^ j + d / 2 ^ k
parts_joined d j k small =
    ap (bit_or (d / 2 ^ k)) (shifted_part d j k) ∙ or_comm (d / 2 ^ k) ((d % 2 ^ k) * 2 ^ j)
    ∙ or_shifted (d % 2 ^ k) j (d / 2 ^ k) (shr_below d j k small)

turned_none : (d k : ℕ) → k ≡ 0 → d < 2 ^ 64 → rotate_right w64 d k ≡ d
turned_none d k none small =
    let kept : d * 2 ^ 0 % 2 ^ 64 ≡ d = omega arith in
    let whole : d / 2 ^ 0 ≡ d = omega arith in
    ap (rotate_right w64 d) none ∙ ap (λ n. bit_or n (d * 2 ^ 0 % 2 ^ 64)) whole ∙ ap (bit_or d) kept ∙ or_self d

turned_some : (d j k : ℕ) → j + k ≡ 64 → 0 < k → k < 64 → d < 2 ^ 64 → rotate_right w64 d k ≡ bit_or (d / 2 ^ k) (d * 2 ^ j % 2 ^ 64)
turned_some d j k whole some below small =
    let by : k % 64 ≡ k = omega arith in
    let other : (64 - k) % 64 ≡ j = omega arith in
    ap (λ n. bit_or (d / 2 ^ n) (d * 2 ^ ((64 - n) % 64) % 2 ^ 64)) by ∙ ap (λ n. bit_or (d / 2 ^ k) (d * 2 ^ n % 2 ^ 64)) other

-- the low k bits come above the j others
pub rotation_sum : (d j k : ℕ) → j + k ≡ 64 → 0 < k → k < 64 → d < 2 ^ 64 → rotate_right w64 d k ≡ (d % 2 ^ k) * 2 ^ j + d / 2 ^ k
rotation_sum d j k whole some below small =
    let whole' : k + j ≡ 64 = omega arith in
    let d_small : d < 2 ^ (j + k) = subst (λ n. d < 2 ^ n) (sym whole) small in
    turned_some d j k whole some below small ∙ ap (λ n. bit_or (d / 2 ^ k) (d * 2 ^ j % 2 ^ n)) (sym whole') ∙ parts_joined d j k d_small

cases_zero : (k : ℕ) → (k ≡ 0) ⊎ (0 < k)
cases_zero zero = inl refl
cases_zero (suc k) = inr (omega arith)

-- where the rotation is small, the low bits were 0
no_low_bits : (low high step_bits q : ℕ) → q ≡ low * 2 ^ step_bits + high → q < 2 ^ step_bits → low ≡ 0
no_low_bits zero high j q is small = refl
no_low_bits (suc low) high j q is small = absurd (omega (arith, mul-le 1 (suc low) (2 ^ j) (2 ^ j)))

pub small_rotation : (d j k q : ℕ) → j + k ≡ 64 → k < 64 → d < 2 ^ 64 → rotate_right w64 d k ≡ q → q < 2 ^ j → d ≡ q * 2 ^ k
small_rotation d j k q whole below small is q_small =
    elim (cases_zero k) [
      | inl none ↦ at_none d k q none (sym (turned_none d k none small) ∙ is)
      | inr some ↦ at_some (sym is ∙ rotation_sum d j k whole some below small)
    ] where
      at_none : (d k q : ℕ) → k ≡ 0 → d ≡ q → d ≡ q * 2 ^ k
      at_none d k q none same = same ∙ sym (ap (λ n. q * 2 ^ n) none ∙ one_time q) where
        one_time : (q : ℕ) → q * 2 ^ 0 ≡ q
        one_time q = omega arith

      at_some : q ≡ (d % 2 ^ k) * 2 ^ j + d / 2 ^ k → d ≡ q * 2 ^ k
      at_some sum =
          let low = no_low_bits (d % 2 ^ k) (d / 2 ^ k) j q sum q_small in
          let high : q ≡ d / 2 ^ k = sum ∙ ap (λ n. n * 2 ^ j + d / 2 ^ k) low ∙ plus (d / 2 ^ k) in
          sym (shr_split d k) ∙ ap (λ n. d / 2 ^ k * 2 ^ k + n) low ∙ plus' (d / 2 ^ k * 2 ^ k) ∙ ap (λ n. n * 2 ^ k) (sym high) where
            plus : (n : ℕ) → 0 * 2 ^ j + n ≡ n
            plus n = omega arith

            plus' : (n : ℕ) → n + 0 ≡ n
            plus' n = omega arith

pub multiple_rotation : (q j k : ℕ) → j + k ≡ 64 → k < 64 → q < 2 ^ j → rotate_right w64 (q * 2 ^ k) k ≡ q
multiple_rotation q j k whole below small =
    let d_small : q * 2 ^ k < 2 ^ 64 = subst (λ n. q * 2 ^ k < 2 ^ n) whole (shl_below q j k small) in
    elim (cases_zero k) [
      | inl none ↦ turned_none (q * 2 ^ k) k none d_small ∙ ap (λ n. q * 2 ^ n) none ∙ one_time q
      | inr some ↦ rotation_sum (q * 2 ^ k) j k whole some below d_small ∙ ap (λ n. n * 2 ^ j + q * 2 ^ k / 2 ^ k) no_rest
          ∙ ap (λ n. 0 * 2 ^ j + n) (shl-shr q k) ∙ plus q
    ] where
      one_time : (n : ℕ) → n * 2 ^ 0 ≡ n
      one_time n = omega arith

      plus : (n : ℕ) → 0 * 2 ^ j + n ≡ n
      plus n = omega arith

      with_none : (n : ℕ) → n + 0 ≡ n
      with_none n = omega arith

      no_rest : q * 2 ^ k % 2 ^ k ≡ 0
      no_rest = ap (λ n. n % 2 ^ k) (sym (with_none (q * 2 ^ k))) ∙ mod_low q k 0 (pow_pos k)
