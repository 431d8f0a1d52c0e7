-- The bytes that tokens are made of.
use Rattle.std.specs.Prelude.{ℕ, Bool, ◌||◌, ◌==◌, List, [], ◌∷◌, codes}
use Rattle.std.specs.List.{list_any}
use Rattle.std.specs.Char.{is_ascii_alphabetic, is_ascii_alphanumeric}

-- one of these bytes
abbrev pub is_of : List ℕ → ℕ → Bool
is_of bytes b = list_any (λ other. b == other) bytes

-- [A-Za-z_], [A-Za-z0-9_]
abbrev pub is_word_start : ℕ → Bool
is_word_start b = is_ascii_alphabetic b || b == 95

abbrev pub is_word_byte : ℕ → Bool
is_word_byte b = is_ascii_alphanumeric b || b == 95

-- [-A-Za-z$._], [-A-Za-z$._0-9]
abbrev pub is_name_sign : ℕ → Bool
is_name_sign b = is_of (codes "-$._") b

abbrev pub is_name_start : ℕ → Bool
is_name_start b = is_ascii_alphabetic b || is_name_sign b

abbrev pub is_name_byte : ℕ → Bool
is_name_byte b = is_ascii_alphanumeric b || is_name_sign b

-- [-A-Za-z$._\], [-A-Za-z$._\0-9]; 92 is the backslash
abbrev pub is_meta_start : ℕ → Bool
is_meta_start b = is_name_start b || b == 92

abbrev pub is_meta_byte : ℕ → Bool
is_meta_byte b = is_name_byte b || b == 92

abbrev pub is_mark : ℕ → Bool
is_mark b = is_of (codes "=,(){}[]<>*!:") b

-- space, tab, carriage return and line feed
abbrev pub is_blank : ℕ → Bool
is_blank b = is_of (32 ∷ 9 ∷ 13 ∷ 10 ∷ []) b

-- the byte that ends a line, and with it a comment: the line feed alone
abbrev pub is_line_end : ℕ → Bool
is_line_end b = b == 10
