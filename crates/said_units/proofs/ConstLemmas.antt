-- What the parts of constants say.
use Rattle.std.proofs.Common.{◌≡◌, refl, sym, subst, ℕ, zero, suc, ◌^◌, ◌<◌, ◌≤◌, inl, inr, bytes_eq, codes, List, ◌∷◌, All, Option, Some, None, option_map, arith}
use Rattle.std.specs.Prelude.{IfSome}
use Rattle.std.specs.List.{AllByRecursion}
use Rattle.std.proofs.lemmas.List.Elements.{recursion_from_All}
use Rattle.std.proofs.lemmas.Nat.{pow_pos}
use Rattle.ir_lex.specs.declared.token.Kind.TheVariants.{Global, Bytes as BytesToken}
use Rattle.ir_values.specs.declared.types.Width.{Width}
use Rattle.ir_values.specs.declared.types.Width.TheVariants.{W1}
use Rattle.ir_values.specs.declared.types.Ty.{Ty}
use Rattle.ir_values.specs.declared.types.Ty.TheVariants as ty
use Rattle.ir_values.specs.declared.constants.Const.{Const, out-Const}
use Rattle.ir_values.specs.declared.constants.Const.TheVariants as const
use Rattle.ir_values.specs.declared.constants.Const.TheVariants.{outs-Int, outs-Null, outs-Addr, outs-Zero, outs-Array, outs-Struct, outs-Bytes, outs-Gep, outs-Number, outs-Left, outs-Typed}
use Rattle.ir_values.specs.declared.constants.Const.TheOpen.{Const-F}
use Rattle.ir_values.specs.declared.constants.Operand.{Operand}
use Rattle.ir_numbers.specs.Numbers.{bits}
use Rattle.type_grammar.specs.declared.address.Address.{Address}
use Rattle.type_grammar.specs.declared.bare.Bare.{Bare}
use Rattle.type_grammar.specs.declared.bare.Bare.TheVariants.{Zero as BareZero, Plain as Whole}
use Rattle.unit_grammar.specs.Pieces.{Piece, spelling}
use Rattle.unit_grammar.specs.Signs.{Sign, name}
use Rattle.unit_grammar.specs.Grammar.{token, at, Text}
use Rattle.unit_grammar.specs.Plain.{no_text}
use Rattle.type_grammar.specs.Names.{Name, a_type, a_constant, a_left, Value, number_of, number_at, at_type}
use Rattle.type_grammar.specs.Numbers.{int_of}
use Rattle.type_grammar.specs.Constants.{number, word_constant, constant_word, undefined, float, byte_string, typed_of, typed, typed_list, structure, array_with, more_typed, array, index, index_list, moved_with, moved, constant_body}
use Rattle.type_grammar.specs.Constants as constants
use Rattle.type_grammar.specs.Left.{here, moved_away, address, number_text, offset_of, moved_by, IsNumber, LeftSays}
use Rattle.type_grammar.specs.Levels.{IsAt}
use Rattle.printed_units.specs.Written.{IsBytes, address_levels}
use Rattle.sized_modules.proofs.PartLemmas.{Gives, cond_has, token_gives, skip_gives, both_give, first_gives, second_gives, says_gives, before_gives, or_gives, many_give, list_gives}
use Rattle.said_units.specs.Sayable.{SaidTypedLayer, IsSaidTyped, IsSaidIndex, WrittenLayer, SaidConstLayer, IsSaidTyWithin, IsSaidConstWithin}
use Rattle.said_units.proofs.TokenLemmas.{IsByteToken, name_is_bytes}
use Rattle.said_units.proofs.NumberLemmas.{IsBelow, int_below, offset_below}
use Rattle.said_units.proofs.TypeLemmas.{type_gives}

-- a constant before its type is known, which a text can write behind each type
abbrev pub IsSaidBare : ℕ → Bare → Type 0
IsSaidBare n bare = (type : Ty) → IsSaidConstWithin n type (at_type type bare)

-- a constant is such as a text can write if its outermost layer is

layer_said : (n : ℕ) (type : Ty) (layer : Const-F Const Operand) (constant : Const) → out-Const constant ≡ layer
    → SaidConstLayer n (IsSaidConstWithin n) type layer → IsSaidConstWithin (suc n) type constant
layer_said n type layer constant opens said = subst (SaidConstLayer n (IsSaidConstWithin n) type) (sym opens) said

int_said : (n : ℕ) (type : Ty) (width : Width) (value : ℕ) → value < 2 ^ bits width → IsSaidConstWithin (suc n) type (const.Int width value)
int_said n type width value below = layer_said n type (Const-F.Int width value) (const.Int width value) (outs-Int width value) below

null_said : (n : ℕ) (type : Ty) → IsSaidConstWithin (suc n) type const.Null
null_said n type = layer_said n type Const-F.Null const.Null outs-Null tt

address_said : (n : ℕ) (type : Ty) (text : List ℕ) → IsBytes text → IsSaidConstWithin (suc n) type (const.Addr text 0)
address_said n type text bytes = layer_said n type (Const-F.Addr text 0) (const.Addr text 0) (outs-Addr text 0) (bytes, refl)

zero_said : (n : ℕ) (type : Ty) → IsSaidConstWithin (suc n) type (const.Zero type)
zero_said n type = layer_said n type (Const-F.Zero type) (const.Zero type) (outs-Zero type) refl

bytes_said : (n : ℕ) (type : Ty) (text : List ℕ) → IsBytes text → IsSaidConstWithin (suc n) type (const.Bytes text)
bytes_said n type text bytes = layer_said n type (Const-F.Bytes text) (const.Bytes text) (outs-Bytes text) bytes

left_said : (n : ℕ) (type : Ty) (text : List ℕ) → IsSaidConstWithin (suc n) type (const.Left text)
left_said n type text = layer_said n type (Const-F.Left text) (const.Left text) (outs-Left text) tt

struct_said : (n : ℕ) (type : Ty) (parts : List Const) → All (IsSaidTyped n (IsSaidConstWithin n)) parts
    → IsSaidConstWithin (suc n) type (const.Struct parts)
struct_said n type parts said =
    layer_said n type (Const-F.Struct parts) (const.Struct parts) (outs-Struct parts)
    (recursion_from_All (IsSaidTyped n (IsSaidConstWithin n)) parts said)

number_of_said : (n : ℕ) (type : Ty) (text : List ℕ) (offset : ℕ) → IsBytes text → offset < 2 ^ 64 → address_levels offset ≤ n
    → IsSaidConstWithin (suc n) type (const.Number text offset)
number_of_said n type text offset bytes below few =
    layer_said n type (Const-F.Number text offset) (const.Number text offset) (outs-Number text offset) (bytes, below, few)

-- parts behind their types

typed_said : (n : ℕ) (own : Ty) (bare : Bare) → IsSaidTyWithin n own → IsSaidBare n bare → IsSaidTyped n (IsSaidConstWithin n) (typed_of (own, bare))
typed_said n own bare type said =
    subst (SaidTypedLayer n (IsSaidConstWithin n)) (sym (outs-Typed own (at_type own bare))) (type, said own)

array_said : (n : ℕ) (type own : Ty) (first : Bare) (others : List Const) → IsSaidTyWithin n own → IsSaidBare n first
    → All (IsSaidTyped n (IsSaidConstWithin n)) others → IsSaidConstWithin (suc n) type (at_type type (array_with own first others))
array_said n type own first others is said rest =
    let parts : List Const = typed_of (own, first) ∷ others in
    layer_said n type (Const-F.Array own parts) (const.Array own parts) (outs-Array own parts) (
      subst (WrittenLayer own) (sym (outs-Typed own (at_type own first))) refl,
      (typed_said n own first is said, recursion_from_All (IsSaidTyped n (IsSaidConstWithin n)) others rest),
    )

moved_said : (n : ℕ) (type own : Ty) (base : Bare) (indices : List Operand) → IsSaidTyWithin n own → IsSaidBare n base
    → All (IsSaidIndex n (IsSaidConstWithin n)) indices → IsSaidConstWithin (suc n) type (at_type type (moved_with own base indices))
moved_said n type own base indices is said rest =
    layer_said n type (Const-F.Gep own (at_type ty.Ptr base) indices) (const.Gep own (at_type ty.Ptr base) indices)
    (outs-Gep own (at_type ty.Ptr base) indices)
    (is, said ty.Ptr, recursion_from_All (IsSaidIndex n (IsSaidConstWithin n)) indices rest)

-- numbers at a type, and words

number_or_left : (n : ℕ) (type : Ty) (width : Width) (bytes : List ℕ) (value : Option ℕ) → IsBelow (2 ^ bits width) value
    → IsSaidConstWithin (suc n) type (number_of width bytes value)
number_or_left n type width bytes (Some value) below = int_said n type width value below
number_or_left n type width bytes None below = left_said n type bytes

number_said : (n : ℕ) (bytes : List ℕ) (type : Ty) → IsSaidConstWithin (suc n) type (number_at type bytes)
number_said n bytes (ty.Int width) = number_or_left n (ty.Int width) width bytes (int_of width bytes) (int_below width bytes)
number_said n bytes other = left_said n other bytes

word_said : (n : ℕ) (bytes : List ℕ) → IsSaidBare (suc n) (word_constant bytes)
word_said n bytes =
    cond_has (IsSaidBare (suc n)) (bytes_eq bytes (codes "true")) _ _ (λ type. int_said n type W1 1 (omega arith))
    (cond_has (IsSaidBare (suc n)) (bytes_eq bytes (codes "false")) _ _ (λ type. int_said n type W1 0 (omega arith))
    (cond_has (IsSaidBare (suc n)) (bytes_eq bytes (codes "null")) (Whole const.Null) BareZero (null_said n) (zero_said n)))

-- the number of an address

global_gives : {s : Sign} → Gives IsByteToken no_text (token s (name Global)) IsBytes
global_gives = token_gives (name_is_bytes Global)

here_gives : Gives IsByteToken no_text here (λ x. IsBytes x.0)
unfolding here
here_gives = says_gives IsBytes global_gives (λ ts s bytes. bytes)

moved_away_gives : Gives IsByteToken no_text moved_away (λ x. IsBytes x.0)
unfolding moved_away
moved_away_gives =
    says_gives (λ x. IsBytes x.0)
    (skip_gives (skip_gives (skip_gives (skip_gives (skip_gives (first_gives global_gives))))))
    (λ ts x bytes. bytes)

number_text_gives : Gives IsByteToken no_text number_text (λ x. IsBytes x.0)
unfolding address number_text
number_text_gives = skip_gives (skip_gives (skip_gives (before_gives (before_gives (before_gives (or_gives here_gives moved_away_gives))))))

few_levels : (offset : ℕ) → address_levels offset ≤ 2
few_levels zero = omega arith
few_levels (suc offset) = omega arith

-- an offset and levels that are enough for it
abbrev IsMove : ℕ × ℕ → Type 0
IsMove m = (m.0 < 2 ^ 64) × (address_levels m.0 ≤ m.1)

by_offset : (o : Option ℕ) → IsBelow (2 ^ 64) o → IfSome (option_map (λ n. (n, 2)) o) IsMove
by_offset None below = tt
by_offset (Some offset) below = (below, few_levels offset)

moved_by_so : (o : Option (List ℕ)) → IfSome (moved_by o) IsMove
moved_by_so None = (pow_pos 64, omega arith)
moved_by_so (Some bytes) = by_offset (offset_of bytes) (offset_below bytes)

-- an address whose name is bytes, with such an offset
abbrev IsSpot : Address → Type 0
IsSpot of = IsBytes of.global × IsMove (of.offset, of.levels)

address_so : (global : List ℕ) (m : Option (ℕ × ℕ)) → IsBytes global → IfSome m IsMove
    → IfSome (option_map (λ m. record { global = global; offset = m.0; levels = m.1 }) m) IsSpot
address_so global None bytes is = tt
address_so global (Some m) bytes is = (bytes, is)

number_so : (ts : List Piece) (of : Address) → AllByRecursion IsByteToken ts → IsNumber ts of → IsSpot of
number_so ts of so (x, is, opens) =
    subst (λ o. IfSome o IsSpot) opens (address_so x.0 (moved_by x.1) (number_text_gives.each ts x so is) (moved_by_so x.1))

within : (n : ℕ) (of : Address) → IsSpot of → of.levels ≤ n → IsSaidBare (suc n) (Whole (const.Number of.global of.offset))
within n of is few type = number_of_said n type of.global of.offset is.0 is.1.0 (fits (address_levels of.offset) of.levels n is.1.1 few) where
  fits : (a b c : ℕ) → a ≤ b → b ≤ c → a ≤ c
  fits a b c below above = omega arith

left_says : (n : ℕ) (ts : List Piece) (bare : Bare) → AllByRecursion IsByteToken ts → LeftSays n ts bare → IsSaidBare (suc n) bare
left_says n ts bare so (inl (of, is, few, stands)) = subst (IsSaidBare (suc n)) (sym stands) (within n of (number_so ts of so is) few)
left_says n ts bare so (inr (none, stands)) = subst (IsSaidBare (suc n)) (sym stands) (λ type. left_said n type (spelling ts))

left_gives : (n : ℕ) → Gives IsByteToken (IsAt n) (at a_left) (IsSaidBare (suc n))
left_gives zero = record { each = λ ts bare so is. left_says zero ts bare so is.1 }
left_gives (suc n) = record { each = λ ts bare so is. left_says (suc n) ts bare so is.1 }

-- where the parts of a constant have at most n levels, it has at most one more

module _ {E : (x : Name) → Text (Value x)} (n : ℕ) (types : Gives IsByteToken E (at a_type) (IsSaidTyWithin n))
    (parts : Gives IsByteToken E (at a_constant) (IsSaidBare n)) where
  typed_gives : Gives IsByteToken E typed (IsSaidTyped n (IsSaidConstWithin n))
  unfolding typed
  typed_gives =
      says_gives (λ x. IsSaidTyWithin n x.0 × IsSaidBare n x.1) (both_give types parts) (λ ts x has. typed_said n x.0 x.1 has.0 has.1)

  structure_gives : Gives IsByteToken E structure (IsSaidBare (suc n))
  unfolding typed_list structure
  structure_gives =
      says_gives (All (IsSaidTyped n (IsSaidConstWithin n))) (skip_gives (before_gives (list_gives typed_gives)))
      (λ ts consts has type. struct_said n type consts has)

  array_gives : Gives IsByteToken E array (IsSaidBare (suc n))
  unfolding more_typed array
  array_gives =
      says_gives (λ x. (IsSaidTyWithin n x.0.0 × IsSaidBare n x.0.1) × All (IsSaidTyped n (IsSaidConstWithin n)) x.1)
      (skip_gives (both_give (both_give types parts) (before_gives (many_give (skip_gives typed_gives)))))
      (λ ts x has type. array_said n type x.0.0 x.0.1 x.1 has.0.0 has.0.1 has.1)

  index_gives : Gives IsByteToken E index (IsSaidIndex n (IsSaidConstWithin n))
  unfolding index
  index_gives =
      says_gives (λ x. IsSaidTyped n (IsSaidConstWithin n) x.1) (skip_gives (second_gives typed_gives)) (λ ts x has. has)

  indices_give : Gives IsByteToken E index_list (All (IsSaidIndex n (IsSaidConstWithin n)))
  unfolding index_list
  indices_give = many_give index_gives

  moved_gives : Gives IsByteToken E moved (IsSaidBare (suc n))
  unfolding moved
  moved_gives =
      says_gives (λ x. IsSaidTyWithin n x.1.0 × (IsSaidBare n x.1.1.0 × All (IsSaidIndex n (IsSaidConstWithin n)) x.1.1.1))
      (skip_gives (second_gives (skip_gives (both_give types (skip_gives (skip_gives (both_give parts (before_gives indices_give))))))))
      (λ ts x has type. moved_said n type x.1.0 x.1.1.0 x.1.1.1 has.0 has.1.0 has.1.1)

  body_gives : Gives IsByteToken E (at a_left) (IsSaidBare (suc n)) → Gives IsByteToken E constant_body (IsSaidBare (suc n))
  unfolding number constant_word undefined float constants.address byte_string constant_body
  body_gives left =
      or_gives (token_gives (λ t so. number_said n t.bytes))
      (or_gives (token_gives (λ t so. word_said n t.bytes))
      (or_gives (token_gives (λ t so type. left_said n type t.bytes))
      (or_gives (token_gives (λ t so type. left_said n type t.bytes))
      (or_gives (token_gives (λ t so type. address_said n type (name Global t) (name_is_bytes Global t so)))
      (or_gives (token_gives (λ t so type. bytes_said n type (name BytesToken t) (name_is_bytes BytesToken t so)))
      (or_gives structure_gives (or_gives array_gives (or_gives moved_gives left))))))))

-- a constant of at most so many levels
pub constant_gives : (n : ℕ) → Gives IsByteToken (IsAt n) (at a_constant) (IsSaidBare n)
constant_gives zero = record { each = λ ts bare so is. absurd is }
constant_gives (suc n) = record { each = (body_gives n (type_gives n) (constant_gives n) (left_gives n)).each }
