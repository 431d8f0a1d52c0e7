-- What the parts of types say.
use Rattle.std.proofs.Common.{◌≡◌, ℕ, zero, suc, ◌^◌, List, All, Option, Some, None, sym, subst}
use Rattle.std.proofs.lemmas.List.Elements.{recursion_from_All}
use Rattle.ir_lex.specs.declared.token.Kind.TheVariants.{Local}
use Rattle.ir_values.specs.declared.types.Width.{Width}
use Rattle.ir_values.specs.declared.types.Width.TheVariants.{W1, W8, W16, W32, W64}
use Rattle.ir_values.specs.declared.types.Ty.{Ty, out-Ty}
use Rattle.ir_values.specs.declared.types.Ty.TheVariants as ty
use Rattle.ir_values.specs.declared.types.Ty.TheVariants.{outs-Void, outs-Int, outs-Ptr, outs-Array, outs-Struct, outs-Named, outs-Left}
use Rattle.ir_values.specs.declared.types.Ty.TheOpen.{Ty-F}
use Rattle.unit_grammar.specs.Pieces.{Piece, spelling}
use Rattle.unit_grammar.specs.Signs.{name}
use Rattle.unit_grammar.specs.Grammar.{at, Text}
use Rattle.type_grammar.specs.Names.{Name, a_type, a_value_type, Value}
use Rattle.type_grammar.specs.Types.{integer_of, pointer_of, array_with, integer, void, pointer, named, length, array, type_list, structure, left_type, vector, packed, value_type_body, type_body}
use Rattle.type_grammar.specs.Levels.{IsAt}
use Rattle.sized_modules.proofs.PartLemmas.{Gives, cond_has, token_gives, skip_gives, both_give, always_gives, says_gives, before_gives, or_gives, list_gives}
use Rattle.said_units.specs.Sayable.{SaidTyLayer, IsSaidTyWithin}
use Rattle.said_units.proofs.TokenLemmas.{IsByteToken}
use Rattle.said_units.proofs.NumberLemmas.{IsBelow, length_below}

-- a type is such as a text can write if its outermost layer is
layer_said : (n : ℕ) (layer : Ty-F Ty) (type : Ty) → out-Ty type ≡ layer → SaidTyLayer (IsSaidTyWithin n) layer → IsSaidTyWithin (suc n) type
layer_said n layer type opens said = subst (SaidTyLayer (IsSaidTyWithin n)) (sym opens) said

void_said : (n : ℕ) → IsSaidTyWithin (suc n) ty.Void
void_said n = layer_said n Ty-F.Void ty.Void outs-Void tt

int_said : (n : ℕ) (width : Width) → IsSaidTyWithin (suc n) (ty.Int width)
int_said n width = layer_said n (Ty-F.Int width) (ty.Int width) (outs-Int width) tt

pointer_said : (n : ℕ) → IsSaidTyWithin (suc n) ty.Ptr
pointer_said n = layer_said n Ty-F.Ptr ty.Ptr outs-Ptr tt

named_said : (n : ℕ) (text : List ℕ) → IsSaidTyWithin (suc n) (ty.Named text)
named_said n text = layer_said n (Ty-F.Named text) (ty.Named text) (outs-Named text) tt

left_said : (n : ℕ) (text : List ℕ) → IsSaidTyWithin (suc n) (ty.Left text)
left_said n text = layer_said n (Ty-F.Left text) (ty.Left text) (outs-Left text) tt

struct_said : (n : ℕ) (parts : List Ty) → All (IsSaidTyWithin n) parts → IsSaidTyWithin (suc n) (ty.Struct parts)
struct_said n parts said =
    layer_said n (Ty-F.Struct parts) (ty.Struct parts) (outs-Struct parts) (recursion_from_All (IsSaidTyWithin n) parts said)

integer_said : (n : ℕ) (bytes : List ℕ) → IsSaidTyWithin (suc n) (integer_of bytes)
integer_said n bytes =
    cond_has (IsSaidTyWithin (suc n)) _ _ _ (int_said n W1)
    (cond_has (IsSaidTyWithin (suc n)) _ _ _ (int_said n W8)
    (cond_has (IsSaidTyWithin (suc n)) _ _ _ (int_said n W16)
    (cond_has (IsSaidTyWithin (suc n)) _ _ _ (int_said n W32)
    (cond_has (IsSaidTyWithin (suc n)) _ _ _ (int_said n W64) (left_said n bytes)))))

pointer_or_left : (n : ℕ) (ts : List Piece) (space : Option (Unit {0})) → IsSaidTyWithin (suc n) (pointer_of ts space)
pointer_or_left n ts None = pointer_said n
pointer_or_left n ts (Some space) = left_said n (spelling ts)

array_or_left : (n : ℕ) (text : List ℕ) (count : Option ℕ) (part : Ty) → IsBelow (2 ^ 64) count → IsSaidTyWithin n part
    → IsSaidTyWithin (suc n) (array_with text count part)
array_or_left n text (Some count) part below said =
    layer_said n (Ty-F.Array count part) (ty.Array count part) (outs-Array count part) (below, said)
array_or_left n text None part below said = left_said n text

length_gives : {E : (x : Name) → Text (Value x)} → Gives IsByteToken E length (IsBelow (2 ^ 64))
unfolding length
length_gives = token_gives (λ t so. length_below t.bytes)

-- where the types in a type have at most n levels, it has at most one more

value_body_gives : {E : (x : Name) → Text (Value x)} (n : ℕ) → Gives IsByteToken E (at a_type) (IsSaidTyWithin n)
    → Gives IsByteToken E value_type_body (IsSaidTyWithin (suc n))
unfolding integer pointer named array type_list structure left_type vector packed value_type_body
value_body_gives n parts =
    or_gives (token_gives (λ t so. integer_said n t.bytes))
    (or_gives (always_gives (pointer_or_left n))
    (or_gives (token_gives (λ t so. named_said n (name Local t)))
    (or_gives (says_gives (λ x. IsBelow (2 ^ 64) x.0 × IsSaidTyWithin n x.1)
    (skip_gives (both_give length_gives (skip_gives (before_gives parts))))
    (λ ts x has. array_or_left n (spelling ts) x.0 x.1 has.0 has.1))
    (or_gives (says_gives (All (IsSaidTyWithin n)) (skip_gives (before_gives (list_gives parts))) (λ ts types has. struct_said n types has))
    (or_gives (token_gives (λ t so. left_said n t.bytes))
    (or_gives (always_gives (λ ts text. left_said n text))
    (always_gives (λ ts text. left_said n text))))))))

body_gives : {E : (x : Name) → Text (Value x)} (n : ℕ) → Gives IsByteToken E (at a_type) (IsSaidTyWithin n)
    → Gives IsByteToken E type_body (IsSaidTyWithin (suc n))
unfolding void type_body
body_gives n parts = or_gives (always_gives (λ ts a. void_said n)) (value_body_gives n parts)

-- a type of at most so many levels
pub type_gives : (n : ℕ) → Gives IsByteToken (IsAt n) (at a_type) (IsSaidTyWithin n)
type_gives zero = record { each = λ ts type so is. absurd is }
type_gives (suc n) = record { each = (body_gives n (type_gives n)).each }

-- the same of one that isn't `void`
pub value_type_gives : (n : ℕ) → Gives IsByteToken (IsAt n) (at a_value_type) (IsSaidTyWithin n)
value_type_gives zero = record { each = λ ts type so is. absurd is }
value_type_gives (suc n) = record { each = (value_body_gives n (type_gives n)).each }
