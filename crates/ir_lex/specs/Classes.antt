-- The sets of bytes in which the code finds runs.
use Rattle.std.specs.Prelude.{ℕ, Bool, not, ◌==◌, codes}
use Rattle.std.specs.Char.{is_ascii_digit, is_ascii_hexdigit}
use Rattle.ir_lex.specs.declared.class.Class.{Class}
use Rattle.ir_lex.specs.declared.class.Class.TheVariants.{WordStart, WordByte, NameStart, NameByte, MetaStart, MetaByte, Digit, HexDigit, Inside, Mark, Minus, Sign, Exponent, Format, Blank}
use Rattle.ir_lex.specs.Letters.{is_word_start, is_word_byte, is_name_start, is_name_byte, is_meta_start, is_meta_byte, is_mark, is_blank, is_of}

abbrev pub passes : Class → ℕ → Bool
passes WordStart = is_word_start
passes WordByte = is_word_byte
passes NameStart = is_name_start
passes NameByte = is_name_byte
passes MetaStart = is_meta_start
passes MetaByte = is_meta_byte
passes Digit = is_ascii_digit
passes HexDigit = is_ascii_hexdigit
passes Inside = λ b. not (b == 34)
passes Mark = is_mark
passes Minus = λ b. b == 45
passes Sign = is_of (codes "-+")
passes Exponent = is_of (codes "eE")
passes Format = is_of (codes "HKLMR")
passes Blank = is_blank
