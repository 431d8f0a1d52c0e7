-- Left-out constants with parentheses, and the one that is the number of an address.
use Rattle.std.specs.Prelude.{◌≡◌, ℕ, ◌-◌, ◌^◌, ◌<◌, ◌≤◌, ◌⊎◌, Bool, true, false, not, cond, ◌&&◌, nat_eq, nat_lt, List, [], ◌∷◌, ◌++◌, Option, Some, None, option_and_then, option_map, codes}
use Rattle.ir_lex.specs.declared.token.Kind.TheVariants.{Word, Global, Number, Mark}
use Rattle.ir_lex.specs.Names.{is_number}
use Rattle.ir_values.specs.declared.constants.Const.TheVariants.{Number as NumberOf, Left}
use Rattle.type_grammar.specs.declared.address.Address.{Address}
use Rattle.type_grammar.specs.declared.bare.Bare.{Bare}
use Rattle.type_grammar.specs.declared.bare.Bare.TheVariants.{Plain as Whole}
use Rattle.unit_grammar.specs.Pieces.{Piece, spelling}
use Rattle.unit_grammar.specs.Signs.{of_kind, mark, word, words, name}
use Rattle.unit_grammar.specs.Grammar.{token, enclosed, ◌▹◌, ◌⋆◌, ◌or◌, mapped, ◌◃◌, Text}
use Rattle.unit_grammar.specs.Plain.{Plain, IsPlain}
use Rattle.type_grammar.specs.Numbers.{is_negative, digits_of, magnitude}
use Rattle.type_grammar.specs.Constants.{left_constant_words}

-- a left-out word with a balanced parenthesis
unfoldable pub left_text : Plain (Unit {0})
left_text = words left_constant_words ▹ enclosed (mark (codes "(")) (mark (codes ")"))

-- `@S`
unfoldable pub here : Plain (List ℕ × Option (List ℕ))
here = mapped (λ s. (s, None)) (token (of_kind Global) (name Global))

-- `getelementptr (i8, ptr @S, i64 N)`
unfoldable pub moved_away : Plain (List ℕ × Option (List ℕ))
moved_away =
    mapped (λ x. (x.0, Some x.1))
    (word (codes "getelementptr") ▹ mark (codes "(") ▹ word (codes "i8") ▹ mark (codes ",") ▹ word (codes "ptr") ▹ token (of_kind Global) (name Global)
    ⋆ mark (codes ",") ▹ word (codes "i64") ▹ token (of_kind Number) (λ t. t.bytes) ◃ mark (codes ")"))

unfoldable pub address : Plain (List ℕ × Option (List ℕ))
address = here or moved_away

-- `ptrtoint (ptr ADDRESS to i64)`
unfoldable pub number_text : Plain (List ℕ × Option (List ℕ))
number_text =
    word (codes "ptrtoint") ▹ mark (codes "(") ▹ word (codes "ptr") ▹ ((address ◃ word (codes "to")) ◃ word (codes "i64")) ◃ mark (codes ")")

-- the offset that the decimal writes, modulo 2^64: without leading zeros, not 0, and one of 64 bits with a sign
abbrev pub offset_at : Bool → ℕ → Option ℕ
offset_at true n = cond (nat_lt (2 ^ 63) n) None (Some (2 ^ 64 - n))
offset_at false n = cond (nat_lt n (2 ^ 63)) (Some n) None

abbrev pub offset_of : List ℕ → Option ℕ
offset_of bytes =
    cond (is_number (digits_of bytes))
    (option_and_then (λ n. cond (nat_eq n 0) None (offset_at (is_negative bytes) n)) (magnitude bytes))
    None

-- the offset, and the levels of the address
abbrev pub moved_by : Option (List ℕ) → Option (ℕ × ℕ)
moved_by None = Some (0, 1)
moved_by (Some bytes) = option_map (λ n. (n, 2)) (offset_of bytes)

abbrev pub address_of : List ℕ × Option (List ℕ) → Option Address
address_of x = option_map (λ m. record { global = x.0; offset = m.0; levels = m.1 }) (moved_by x.1)

-- the tokens are the number of this address
abbrev pub IsNumber : List Piece → Address → Type 0
IsNumber ts of = (x : List ℕ × Option (List ℕ)) × IsPlain number_text ts x × (address_of x ≡ Some of)

-- What the text says where so many levels may be opened in it: the number of an address, whose levels count, or what is left out.
abbrev pub LeftSays : ℕ → List Piece → Bare → Type 0
LeftSays n ts b =
    ((of : Address) × IsNumber ts of × (of.levels ≤ n) × (b ≡ Whole (NumberOf of.global of.offset)))
    ⊎ (((of : Address) → IsNumber ts of → ⊥) × (b ≡ Whole (Left (spelling ts))))

abbrev pub IsLeft : ℕ → Text Bare
IsLeft n ts b = IsPlain left_text ts tt × LeftSays n ts b

-- the number of an address stands in front, with more levels than may be opened
abbrev pub OpensLeft : ℕ → List Piece → Type 0
OpensLeft n ts =
    (front : List Piece) × (back : List Piece) × (of : Address) × IsPlain left_text front tt × IsNumber front of
    × (n < of.levels) × (ts ≡ front ++ back)
