-- Quoted texts and their escapes, and the name that a token says.
use Rattle.std.specs.Prelude.{ℕ, zero, suc, ◌+◌, ◌-◌, ◌*◌, Bool, false, not, ◌&&◌, ◌||◌, ◌==◌, if◌then◌else◌, List, [], ◌∷◌, length, take, drop, slice_index}
use Rattle.std.specs.List.{list_all}
use Rattle.std.specs.Char.{is_ascii_digit, is_ascii_hexdigit, digit_value}
use Rattle.ir_lex.specs.declared.token.Kind.{Kind}
use Rattle.ir_lex.specs.declared.token.Kind.TheVariants.{Global, Local, Comdat, Meta, MetaText, Group, Label, Quoted, Bytes}

-- two hexadecimal digits at the front
abbrev pub begins_hex : List ℕ → Bool
begins_hex bytes = is_ascii_hexdigit (slice_index bytes 0) && is_ascii_hexdigit (slice_index bytes 1)

-- Of the bytes behind a backslash, how many belong to it: of `\\` one, of `\` and two hexadecimal digits two,
-- of any other `\` none. And the byte that they stand for. 92 is the backslash.
abbrev pub escape_len : List ℕ → ℕ
escape_len behind = if slice_index behind 0 == 92 then 1 else if begins_hex behind then 2 else 0

abbrev pub escape_byte : List ℕ → ℕ
escape_byte behind =
    if slice_index behind 0 == 92 then 92
    else if begins_hex behind then 16 * digit_value (slice_index behind 0) + digit_value (slice_index behind 1)
    else 92

-- the bytes that these stand for, read from left to right, when the first `left` of them belong to an escape before
abbrev pub unescaped_from : ℕ → List ℕ → List ℕ
unescaped_from left [] = []
unescaped_from (suc left) (b ∷ bytes) = unescaped_from left bytes
unescaped_from zero (b ∷ bytes) =
    if b == 92 then escape_byte bytes ∷ unescaped_from (escape_len bytes) bytes else b ∷ unescaped_from 0 bytes

unfoldable pub unescaped : List ℕ → List ℕ
unescaped bytes = unescaped_from 0 bytes

-- the bytes between the quotes of a quoted text
abbrev pub between_quotes : List ℕ → List ℕ
between_quotes bytes = take (length bytes - 2) (drop 1 bytes)

-- a quoted text's bytes after the escapes, and anything else as it stands; 34 is the quote
abbrev pub unquoted : List ℕ → List ℕ
unquoted bytes = if slice_index bytes 0 == 34 then unescaped (between_quotes bytes) else bytes

-- `0`, or digits that don't begin with `0`
abbrev pub is_number : List ℕ → Bool
is_number [] = false
is_number (b ∷ bytes) = list_all is_ascii_digit (b ∷ bytes) && (not (b == 48) || length bytes == 0)

-- digits without the zeros in front of them
unfoldable pub without_zeros : List ℕ → List ℕ
without_zeros [] = []
without_zeros (b ∷ []) = b ∷ []
without_zeros (b ∷ c ∷ bytes) = if b == 48 then without_zeros (c ∷ bytes) else b ∷ c ∷ bytes

-- a bare name: digits are their number, and anything else stands for itself
abbrev pub bare_name : List ℕ → List ℕ
bare_name bytes = if list_all is_ascii_digit bytes then without_zeros bytes else bytes

-- a name that may be quoted
abbrev pub either_name : List ℕ → List ℕ
either_name bytes = if slice_index bytes 0 == 34 then unescaped (between_quotes bytes) else bare_name bytes

-- The name or the text that a token's bytes say: without its sign or its colon, and without quotes and escapes.
-- A bare name of digits is their number without leading zeros, and a bare name of metadata has no escapes.
abbrev pub name_of : Kind → List ℕ → List ℕ
name_of Label bytes = either_name (take (length bytes - 1) bytes)
name_of Global bytes = either_name (drop 1 bytes)
name_of Local bytes = either_name (drop 1 bytes)
name_of Comdat bytes = unquoted (drop 1 bytes)
name_of Meta bytes = bare_name (drop 1 bytes)
name_of Group bytes = bare_name (drop 1 bytes)
name_of MetaText bytes = unquoted (drop 1 bytes)
name_of Quoted bytes = unquoted bytes
name_of Bytes bytes = unquoted (drop 1 bytes)
name_of _ bytes = bytes
