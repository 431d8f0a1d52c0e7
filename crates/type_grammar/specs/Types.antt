-- Types.
--
-- Source: LLVM Language Reference, "Type System". Differs: what is left out is kept as its text.
use Rattle.std.specs.Prelude.{ℕ, Bool, cond, bytes_eq, List, [], ◌∷◌, map, Option, Some, None, codes}
use Rattle.ir_lex.specs.declared.token.Kind.TheVariants.{Word, Local, Number, Mark}
use Rattle.ir_values.specs.declared.types.Ty.{Ty}
use Rattle.ir_values.specs.declared.types.Ty.TheVariants.{Void, Int, Ptr, Array, Struct, Named, Left}
use Rattle.ir_values.specs.declared.types.Width.TheVariants.{W1, W8, W16, W32, W64}
use Rattle.unit_grammar.specs.Pieces.{Piece, spelling}
use Rattle.unit_grammar.specs.Signs.{Sign, numbered, of_kind, mark, word, words, name, Start}
use Rattle.unit_grammar.specs.Beginnings.{one_sign}
use Rattle.unit_grammar.specs.Grammar.{Part, nothing, token, ◌▹◌, ◌⋆◌, says, ◌or◌, maybe, at, mapped, spelled, ◌◃◌, sign, list_with}
use Rattle.type_grammar.specs.Numbers.{length_of}
use Rattle.type_grammar.specs.Names.{Name, a_type, Value}

abbrev pub IsPart : Type 0 → Type 1
IsPart A = Part Name Value A

-- `i` and digits; 105 is `i`
abbrev pub integer_word : Sign
integer_word = record { kind = Word; which = numbered 105 }

abbrev pub integer_of : List ℕ → Ty
integer_of bytes =
    cond (bytes_eq bytes (codes "i1")) (Int W1)
    (cond (bytes_eq bytes (codes "i8")) (Int W8)
    (cond (bytes_eq bytes (codes "i16")) (Int W16)
    (cond (bytes_eq bytes (codes "i32")) (Int W32)
    (cond (bytes_eq bytes (codes "i64")) (Int W64)
    (Left bytes)))))

-- `i1 i8 i16 i32 i64`, and any other `iN`, which is left out
unfoldable pub integer : IsPart Ty
integer = token integer_word (λ t. integer_of t.bytes)

unfoldable pub void : IsPart Ty
void = mapped (λ _. Void) (sign (word (codes "void")))

abbrev pub pointer_of : List Piece → Option (Unit {0}) → Ty
pointer_of ts None = Ptr
pointer_of ts (Some space) = Left (spelling ts)

unfoldable pub address_space : IsPart (Unit {0})
address_space =
    word (codes "addrspace") ▹ mark (codes "(") ▹ of_kind Number ▹ sign (mark (codes ")"))

-- `ptr`, and with an address space, which is left out
unfoldable pub pointer : IsPart Ty
pointer = says pointer_of (word (codes "ptr") ▹ maybe address_space)

-- `%Name`
unfoldable pub named : IsPart Ty
named = token (of_kind Local) (λ t. Named (name Local t))

abbrev pub array_with : List ℕ → Option ℕ → Ty → Ty
array_with text (Some n) ty = Array n ty
array_with text None ty = Left text

abbrev pub array_of : List Piece → Option ℕ × Ty → Ty
array_of ts x = array_with (spelling ts) x.0 x.1

unfoldable pub length : IsPart (Option ℕ)
length = token (of_kind Number) (λ t. length_of t.bytes)

-- `[ N x T ]`, left out where the length isn't one
unfoldable pub array : IsPart Ty
array = says array_of (mark (codes "[") ▹ length ⋆ word (codes "x") ▹ at a_type ◃ mark (codes "]"))

unfoldable pub type_list : IsPart (List Ty)
type_list = list_with (mark (codes ",")) (at a_type)

-- `{ T, .. }`
unfoldable pub structure : IsPart Ty
structure = mapped Struct (mark (codes "{") ▹ type_list ◃ mark (codes "}"))

-- the words that are types and are left out
unfoldable pub left_type_words : List (List ℕ)
left_type_words =
    codes "half" ∷ codes "bfloat" ∷ codes "float" ∷ codes "double" ∷ codes "fp128" ∷ codes "x86_fp80" ∷
    codes "ppc_fp128" ∷ codes "x86_amx" ∷ codes "token" ∷ codes "label" ∷ []

unfoldable pub left_type : IsPart Ty
left_type = token (words left_type_words) (λ t. Left t.bytes)

-- `< N x T >`, left out
unfoldable pub vector : IsPart Ty
vector = mapped Left (spelled (mark (codes "<") ▹ of_kind Number ▹ word (codes "x") ▹ at a_type ◃ mark (codes ">")))

-- `<{ T, .. }>`, left out
unfoldable pub packed : IsPart Ty
packed = mapped Left (spelled (mark (codes "<") ▹ mark (codes "{") ▹ (type_list ◃ mark (codes "}")) ◃ mark (codes ">")))

-- any type but `void`
unfoldable pub value_type_body : IsPart Ty
value_type_body = integer or pointer or named or array or structure or left_type or vector or packed

unfoldable pub type_body : IsPart Ty
type_body = void or value_type_body

-- the tokens with which a type begins, and one that isn't `void`
unfoldable pub value_type_signs : List Sign
value_type_signs =
    integer_word ∷ word (codes "ptr") ∷ of_kind Local ∷ mark (codes "[") ∷ mark (codes "{") ∷ words left_type_words ∷
    mark (codes "<") ∷ []

unfoldable pub type_signs : List Sign
type_signs = word (codes "void") ∷ value_type_signs

abbrev pub value_type_starts : List Start
value_type_starts = map one_sign value_type_signs

abbrev pub type_starts : List Start
type_starts = map one_sign type_signs
