-- Escapes, from the front on.
use Rattle.std.proofs.Common.{◌≡◌, ℕ, zero, suc, ◌+◌, ◌<◌, ◌≤◌, ◌≢◌, true, false, ◌==◌, nat_eq, List, [], ◌∷◌, length, drop, get_or, length-drop, refl, ap, sym, ◌∙◌, arith}
use Rattle.std.specs.List.{list_all}
use Rattle.std.specs.Char.{is_ascii_digit}
use Rattle.std.proofs.lemmas.Bool.Decides.{nat_tests}
use Rattle.ir_lex.specs.Names.{unescaped, unescaped_from, escape_byte, escape_len, is_number}
use Rattle.ir_lex.proofs.CaseSplits.{test}

pub from_drop : (n : ℕ) (bytes : List ℕ) → unescaped_from n bytes ≡ unescaped (drop n bytes)
unfolding unescaped
from_drop zero bytes = refl
from_drop (suc n) [] = refl
from_drop (suc n) (b ∷ bytes) = from_drop n bytes

pub unescaped_none : (bytes : List ℕ) → length bytes ≡ 0 → unescaped bytes ≡ []
unfolding unescaped
unescaped_none [] e = refl
unescaped_none (b ∷ bytes) e = absurd (omega arith)

pub unescaped_plain : (bytes : List ℕ) → 0 < length bytes → get_or bytes 0 0 ≢ 92 →
    unescaped bytes ≡ get_or bytes 0 0 ∷ unescaped (drop 1 bytes)
unfolding unescaped
unescaped_plain [] e t = absurd (omega arith)
unescaped_plain (b ∷ bytes) e t = let h : (b == 92) ≡ false = grind (arith, nat_tests) in rw h

skip_one : (n b : ℕ) (bytes : List ℕ) → drop (1 + n) (b ∷ bytes) ≡ drop n bytes
skip_one n b bytes = let e : 1 + n ≡ suc n = omega arith in rw e

unescaped_at_escape : (b : ℕ) (bytes : List ℕ) → (b == 92) ≡ true →
    unescaped (b ∷ bytes) ≡ escape_byte bytes ∷ unescaped_from (escape_len bytes) bytes
unfolding unescaped
unescaped_at_escape b bytes h = rw h

pub unescaped_escape : (bytes : List ℕ) → 0 < length bytes → get_or bytes 0 0 ≡ 92 →
    unescaped bytes ≡ escape_byte (drop 1 bytes) ∷ unescaped (drop (1 + escape_len (drop 1 bytes)) bytes)
unescaped_escape [] e t = absurd (omega arith)
unescaped_escape (b ∷ bytes) e t =
    unescaped_at_escape b bytes (grind (arith, nat_tests)) ∙ ap (λ rest. escape_byte bytes ∷ rest) (from_drop (escape_len bytes) bytes ∙ ap unescaped (sym (skip_one (escape_len bytes) b bytes)))

-- a 0 and more is no number
zero_more : (z : ℕ) (zs : List ℕ) → is_number (48 ∷ z ∷ zs) ≡ false
zero_more z zs =
    let e : (length (z ∷ zs) == 0) ≡ false = grind (arith, nat_tests) in
    rw e (test (list_all is_ascii_digit (z ∷ zs)) (λ t. rw t) (λ t. rw t))

zero_unescaped : (ys : List ℕ) → is_number (48 ∷ unescaped ys) ≡ nat_eq (length ys) 0
unfolding unescaped
zero_unescaped [] = refl
zero_unescaped (y ∷ ys) =
    let e : (length (y ∷ ys) == 0) ≡ false = grind (arith, nat_tests) in
    test (y == 92) (λ t. rw t (zero_more (escape_byte ys) (unescaped_from (escape_len ys) ys) ∙ sym e)) (λ t. rw t (zero_more y (unescaped_from 0 ys) ∙ sym e))

pub zero_number : (bytes : List ℕ) (first n : ℕ) → unescaped bytes ≡ first ∷ unescaped (drop n bytes) → first ≡ 48 →
    n ≤ length bytes → nat_eq n (length bytes) ≡ is_number (unescaped bytes)
zero_number bytes first n e t within =
    let same : nat_eq n (length bytes) ≡ nat_eq (length (drop n bytes)) 0 = rw (length-drop n bytes) (grind (arith, nat_tests)) in
    same ∙ sym (zero_unescaped (drop n bytes)) ∙ ap is_number (sym (e ∙ ap (λ b. b ∷ unescaped (drop n bytes)) t))

pub number_none : is_number [] ≡ false
number_none = refl

pub ruleset escapes = (unescaped_none, unescaped_plain, unescaped_escape, number_none)
