-- No type that a text writes holds a pair.
use Rattle.std.proofs.Common.{◌≡◌, ℕ, zero, suc, Bool, false, List, map, All, Option, Some, None, refl, sym, ap, ◌∙◌}
use Rattle.std.proofs.lemmas.List.Elements.{All-map}
use Rattle.std.proofs.lemmas.List.Folds.{list_any_none}
use Rattle.ir_values.specs.declared.types.Width.{Width}
use Rattle.ir_values.specs.declared.types.Width.TheVariants.{W1, W8, W16, W32, W64}
use Rattle.ir_lex.specs.declared.token.Kind.TheVariants.{Local}
use Rattle.ir_values.specs.declared.types.Ty as ty
use Rattle.ir_values.specs.declared.types.Ty.{Ty, fold-roll-Ty, map-Ty}
use Rattle.ir_values.specs.declared.types.Ty.TheOpen.{Ty-F}
use Rattle.ir_values.specs.declared.types.Ty.TheVariants.{rolls-Void, rolls-Int, rolls-Ptr, rolls-Array, rolls-Struct, rolls-Named, rolls-Left}
use Rattle.unit_grammar.specs.Pieces.{Piece, spelling}
use Rattle.unit_grammar.specs.Signs.{name}
use Rattle.unit_grammar.specs.Grammar.{at, Text}
use Rattle.type_grammar.specs.Names.{Name, a_type, Value}
use Rattle.type_grammar.specs.Types.{integer_of, pointer_of, array_with, integer, void, pointer, named, length, array, type_list, structure, left_type, vector, packed, value_type_body, type_body}
use Rattle.type_grammar.specs.Levels.{IsAt}
use Rattle.sized_modules.specs.Written.{pair_step, has_pair}
use Rattle.sized_modules.proofs.PartLemmas.{Gives, Anything, cond_has, token_gives, skip_gives, second_gives, always_gives, says_gives, before_gives, or_gives, list_gives}

-- the type holds no pair
abbrev pub IsWritten : Ty → Type 0
IsWritten type = has_pair type ≡ false

-- a type holds none if its outermost layer is no pair and the types in it hold none
layer_written : (layer : Ty-F Ty) (type : Ty) → ty.roll-Ty layer ≡ type → pair_step (map-Ty Ty Bool has_pair layer) ≡ false → IsWritten type
layer_written layer type rolls none = ap has_pair (sym rolls) ∙ fold-roll-Ty Bool (λ x. pair_step x) layer ∙ none

void_written : IsWritten ty.Void
void_written = layer_written Ty-F.Void _ rolls-Void refl

int_written : (width : Width) → IsWritten (ty.Int width)
int_written width = layer_written (Ty-F.Int width) _ (rolls-Int width) refl

pointer_written : IsWritten ty.Ptr
pointer_written = layer_written Ty-F.Ptr _ rolls-Ptr refl

named_written : (name : List ℕ) → IsWritten (ty.Named name)
named_written name = layer_written (Ty-F.Named name) _ (rolls-Named name) refl

left_written : (text : List ℕ) → IsWritten (ty.Left text)
left_written text = layer_written (Ty-F.Left text) _ (rolls-Left text) refl

array_written : (count : ℕ) (part : Ty) → IsWritten part → IsWritten (ty.Array count part)
array_written count part written = layer_written (Ty-F.Array count part) _ (rolls-Array count part) written

struct_written : (parts : List Ty) → All IsWritten parts → IsWritten (ty.Struct parts)
struct_written parts written =
    layer_written (Ty-F.Struct parts) _ (rolls-Struct parts)
    (list_any_none (λ part. part) (map has_pair parts) (All-map (λ part. part ≡ false) has_pair parts written))

-- what the parts of types say

integer_written : (bytes : List ℕ) → IsWritten (integer_of bytes)
integer_written bytes =
    cond_has IsWritten _ _ _ (int_written W1)
    (cond_has IsWritten _ _ _ (int_written W8)
    (cond_has IsWritten _ _ _ (int_written W16)
    (cond_has IsWritten _ _ _ (int_written W32)
    (cond_has IsWritten _ _ _ (int_written W64) (left_written bytes)))))

pointer_or_left : (ts : List Piece) (space : Option (Unit {0})) → IsWritten (pointer_of ts space)
pointer_or_left ts None = pointer_written
pointer_or_left ts (Some space) = left_written (spelling ts)

array_or_left : (text : List ℕ) (count : Option ℕ) (part : Ty) → IsWritten part → IsWritten (array_with text count part)
array_or_left text (Some count) part written = array_written count part written
array_or_left text None part written = left_written text

-- where the types in a type hold none, it holds none
body_gives : {E : (x : Name) → Text (Value x)} → Gives Anything E (at a_type) IsWritten → Gives Anything E type_body IsWritten
unfolding integer void pointer named length array type_list structure left_type vector packed value_type_body type_body
body_gives parts =
    or_gives (always_gives (λ ts a. void_written))
    (or_gives (token_gives (λ t so. integer_written t.bytes))
    (or_gives (always_gives pointer_or_left)
    (or_gives (token_gives (λ t so. named_written (name Local t)))
    (or_gives (says_gives (λ x. IsWritten x.1) (skip_gives (second_gives (skip_gives (before_gives parts)))) (λ ts x has. array_or_left (spelling ts) x.0 x.1 has))
    (or_gives (says_gives (All IsWritten) (skip_gives (before_gives (list_gives parts))) (λ ts types has. struct_written types has))
    (or_gives (token_gives (λ t so. left_written t.bytes))
    (or_gives (always_gives (λ ts text. left_written text))
    (always_gives (λ ts text. left_written text)))))))))

-- at each number of levels
pub type_gives : (n : ℕ) → Gives Anything (IsAt n) (at a_type) IsWritten
type_gives zero = record { each = λ ts type so is. absurd is }
type_gives (suc n) = record { each = (body_gives (type_gives n)).each }
