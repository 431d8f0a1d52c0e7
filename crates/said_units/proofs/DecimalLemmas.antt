-- The digits of a number are bytes.
use Rattle.std.proofs.Common.{◌≡◌, refl, arith, ℕ, zero, suc, ◌/◌, ◌%◌, ◌<◌, true, false, ◌==◌, nat_lt, List, [], ◌∷◌, decimal}
use Rattle.std.specs.Fmt.{digits, digits_onto, digit_glyph}
use Rattle.std.proofs.lemmas.Bool.Decides.{nat_tests}
use Rattle.ir_lex.proofs.CaseSplits.{test}
use Rattle.printed_units.specs.Written.{IsBytes}

glyph_small : (n : ℕ) → n < 10 → nat_lt (digit_glyph false n) 256 ≡ true
glyph_small n small = grind (arith, nat_tests)

onto_bytes : (k n : ℕ) (bytes : List ℕ) → IsBytes bytes → IsBytes (digits_onto k 10 false n bytes)
onto_bytes zero n bytes are = are
onto_bytes (suc k) n bytes are =
    let more : IsBytes (digit_glyph false (n % 10) ∷ bytes) = (let one = glyph_small (n % 10) (omega arith) in cc) in
    test (n / 10 == 0) (λ t. rw t more) (λ t. rw t (onto_bytes k (n / 10) (digit_glyph false (n % 10) ∷ bytes) more))

pub decimal_bytes : (n : ℕ) → IsBytes (decimal n)
unfolding digits
decimal_bytes n = onto_bytes 64 n [] refl
