-- The tokens of a text of bytes are bytes, and so are the names that they are.
use Rattle.std.proofs.Common.{◌≡◌, ℕ, zero, suc, ◌+◌, ◌-◌, ◌*◌, ◌<◌, Bool, true, ◌&&◌, ◌==◌, nat_lt, List, [], ◌∷◌, length, take, drop, refl, arith}
use Rattle.std.specs.Prelude.{slice_index}
use Rattle.std.specs.List.{list_all, AllByRecursion}
use Rattle.std.specs.Char.{is_ascii_digit, is_ascii_hexdigit, digit_value}
use Rattle.std.proofs.lemmas.Bool.Decides.{nat_tests}
use Rattle.ir_lex.specs.declared.token.Kind.{Kind}
use Rattle.ir_lex.specs.declared.token.Kind.TheVariants.{Global, Local, Comdat, Meta, MetaText, Group, Label, Quoted, Bytes}
use Rattle.ir_lex.specs.declared.token.Token.{Token}
use Rattle.ir_lex.specs.Names.{begins_hex, escape_len, escape_byte, unescaped_from, unescaped, between_quotes, unquoted, without_zeros, bare_name, either_name}
use Rattle.ir_lex.specs.Texts.{Tokens}
use Rattle.ir_lex.proofs.CaseSplits.{test}
use Rattle.unit_grammar.specs.Pieces.{Piece, pieces}
use Rattle.unit_grammar.specs.Signs.{name}
use Rattle.unit_grammar.proofs.BoolLemmas.{and_both, and_true}
use Rattle.sized_modules.proofs.PartLemmas.{cond_has}
use Rattle.printed_units.specs.Written.{IsBytes}

abbrev pub IsByteToken : Piece → Type 0
IsByteToken t = IsBytes t.bytes

abbrev is_byte : ℕ → Bool
is_byte b = nat_lt b 256

-- a byte and bytes

bytes_first : (b : ℕ) (bytes : List ℕ) → IsBytes (b ∷ bytes) → is_byte b ≡ true
bytes_first b bytes are = (and_both (is_byte b) (list_all is_byte bytes) are).0

bytes_rest : (b : ℕ) (bytes : List ℕ) → IsBytes (b ∷ bytes) → IsBytes bytes
bytes_rest b bytes are = (and_both (is_byte b) (list_all is_byte bytes) are).1

bytes_cons : (b : ℕ) (bytes : List ℕ) → is_byte b ≡ true → IsBytes bytes → IsBytes (b ∷ bytes)
bytes_cons b bytes is are = and_true (is_byte b) (list_all is_byte bytes) is are

-- parts of bytes

take_bytes : (n : ℕ) (bytes : List ℕ) → IsBytes bytes → IsBytes (take n bytes)
take_bytes zero bytes are = refl
take_bytes (suc n) [] are = refl
take_bytes (suc n) (b ∷ bytes) are = bytes_cons b (take n bytes) (bytes_first b bytes are) (take_bytes n bytes (bytes_rest b bytes are))

drop_bytes : (n : ℕ) (bytes : List ℕ) → IsBytes bytes → IsBytes (drop n bytes)
drop_bytes zero bytes are = are
drop_bytes (suc n) [] are = refl
drop_bytes (suc n) (b ∷ bytes) are = drop_bytes n bytes (bytes_rest b bytes are)

-- the tokens of a text of bytes
pub tokens_are_bytes : (file : ℕ) (text : List ℕ) (tokens : List Token) → IsBytes text → Tokens file text tokens
    → AllByRecursion IsByteToken (pieces text tokens)
tokens_are_bytes file text tokens bytes are = go tokens where
  go : (tokens : List Token) → AllByRecursion IsByteToken (pieces text tokens)
  go [] = tt
  go (t ∷ ts) = (take_bytes (t.end - t.start) (drop t.start text) (drop_bytes t.start text bytes), go ts)

-- what an escape stands for

hex_below : (c : ℕ) → is_ascii_hexdigit c ≡ true → digit_value c < 16
hex_below c is = grind (arith, nat_tests)

hex_byte : (a b : ℕ) → a < 16 → b < 16 → is_byte (16 * a + b) ≡ true
hex_byte a b first second = let below : 16 * a + b < 256 = omega arith in grind (arith, nat_tests)

pair_below : (a b : ℕ) → (is_ascii_hexdigit a && is_ascii_hexdigit b) ≡ true → is_byte (16 * digit_value a + digit_value b) ≡ true
pair_below a b are =
    let both : (is_ascii_hexdigit a ≡ true) × (is_ascii_hexdigit b ≡ true) = and_both (is_ascii_hexdigit a) (is_ascii_hexdigit b) are in
    hex_byte (digit_value a) (digit_value b) (hex_below a both.0) (hex_below b both.1)

escape_below : (bytes : List ℕ) → is_byte (escape_byte bytes) ≡ true
escape_below bytes =
    test (slice_index bytes 0 == 92)
    (λ t. rw t refl)
    (λ t. test (begins_hex bytes)
    (λ h. rw (t, h) (pair_below (slice_index bytes 0) (slice_index bytes 1) h))
    (λ h. rw (t, h) refl))

unescaped_from_bytes : (n : ℕ) (bytes : List ℕ) → IsBytes bytes → IsBytes (unescaped_from n bytes)
unescaped_from_bytes n [] are = refl
unescaped_from_bytes (suc n) (b ∷ bytes) are = unescaped_from_bytes n bytes (bytes_rest b bytes are)
unescaped_from_bytes zero (b ∷ bytes) are =
    cond_has IsBytes (b == 92) (escape_byte bytes ∷ unescaped_from (escape_len bytes) bytes) (b ∷ unescaped_from 0 bytes)
    (bytes_cons (escape_byte bytes) (unescaped_from (escape_len bytes) bytes) (escape_below bytes)
    (unescaped_from_bytes (escape_len bytes) bytes (bytes_rest b bytes are)))
    (bytes_cons b (unescaped_from 0 bytes) (bytes_first b bytes are) (unescaped_from_bytes 0 bytes (bytes_rest b bytes are)))

-- names

between_bytes : (bytes : List ℕ) → IsBytes bytes → IsBytes (unescaped (between_quotes bytes))
unfolding unescaped
between_bytes bytes are =
    unescaped_from_bytes 0 (between_quotes bytes) (take_bytes (length bytes - 2) (drop 1 bytes) (drop_bytes 1 bytes are))

unquoted_bytes : (bytes : List ℕ) → IsBytes bytes → IsBytes (unquoted bytes)
unquoted_bytes bytes are = cond_has IsBytes (slice_index bytes 0 == 34) (unescaped (between_quotes bytes)) bytes (between_bytes bytes are) are

without_zeros_bytes : (bytes : List ℕ) → IsBytes bytes → IsBytes (without_zeros bytes)
unfolding without_zeros
without_zeros_bytes [] are = refl
without_zeros_bytes (b ∷ []) are = are
without_zeros_bytes (b ∷ c ∷ bytes) are =
    cond_has IsBytes (b == 48) (without_zeros (c ∷ bytes)) (b ∷ c ∷ bytes) (without_zeros_bytes (c ∷ bytes) (bytes_rest b (c ∷ bytes) are)) are

bare_bytes : (bytes : List ℕ) → IsBytes bytes → IsBytes (bare_name bytes)
bare_bytes bytes are = cond_has IsBytes (list_all is_ascii_digit bytes) (without_zeros bytes) bytes (without_zeros_bytes bytes are) are

either_bytes : (bytes : List ℕ) → IsBytes bytes → IsBytes (either_name bytes)
either_bytes bytes are =
    cond_has IsBytes (slice_index bytes 0 == 34) (unescaped (between_quotes bytes)) (bare_name bytes) (between_bytes bytes are) (bare_bytes bytes are)

-- the name that a token is
pub name_is_bytes : (kind : Kind) (t : Piece) → IsByteToken t → IsBytes (name kind t)
name_is_bytes Label t bytes = either_bytes (take (length t.bytes - 1) t.bytes) (take_bytes (length t.bytes - 1) t.bytes bytes)
name_is_bytes Global t bytes = either_bytes (drop 1 t.bytes) (drop_bytes 1 t.bytes bytes)
name_is_bytes Local t bytes = either_bytes (drop 1 t.bytes) (drop_bytes 1 t.bytes bytes)
name_is_bytes Comdat t bytes = unquoted_bytes (drop 1 t.bytes) (drop_bytes 1 t.bytes bytes)
name_is_bytes Meta t bytes = bare_bytes (drop 1 t.bytes) (drop_bytes 1 t.bytes bytes)
name_is_bytes Group t bytes = bare_bytes (drop 1 t.bytes) (drop_bytes 1 t.bytes bytes)
name_is_bytes MetaText t bytes = unquoted_bytes (drop 1 t.bytes) (drop_bytes 1 t.bytes bytes)
name_is_bytes Quoted t bytes = unquoted_bytes t.bytes bytes
name_is_bytes Bytes t bytes = unquoted_bytes (drop 1 t.bytes) (drop_bytes 1 t.bytes bytes)
name_is_bytes _ t bytes = bytes
