-- Constants and operands.
--
-- Source: LLVM Language Reference, "Constants" and "Constant Expressions". Differs: what is left out is kept as its text.
use Rattle.std.specs.Prelude.{ℕ, Bool, cond, bytes_eq, List, [], ◌∷◌, map, Option, Some, None, codes}
use Rattle.ir_lex.specs.declared.token.Kind.TheVariants.{Word, Local, Global, Number, Float, Bytes as BytesToken, Mark}
use Rattle.ir_values.specs.declared.types.Ty.{Ty}
use Rattle.ir_values.specs.declared.types.Ty.TheVariants.{Ptr}
use Rattle.ir_values.specs.declared.types.Width.TheVariants.{W1}
use Rattle.ir_values.specs.declared.constants.Const.{Const}
use Rattle.ir_values.specs.declared.constants.Const.TheVariants.{Int, Null, Addr, Array, Struct, Bytes, Gep, Left, Typed}
use Rattle.ir_values.specs.declared.constants.Operand.{Operand}
use Rattle.ir_values.specs.declared.constants.Operand.TheVariants.{Const as Constant, Reg}
use Rattle.type_grammar.specs.declared.bare.Bare.{Bare}
use Rattle.type_grammar.specs.declared.bare.Bare.TheVariants.{Number as BareNumber, Zero, Plain}
use Rattle.unit_grammar.specs.Pieces.{Piece, spelling}
use Rattle.unit_grammar.specs.Signs.{Sign, of_kind, mark, word, words, name, Start}
use Rattle.unit_grammar.specs.Beginnings.{one_sign}
use Rattle.unit_grammar.specs.Grammar.{Part, token, ◌▹◌, ◌⋆◌, says, ◌or◌, maybe, many, at, mapped, ◌◃◌, sign, list_with}
use Rattle.type_grammar.specs.Names.{Name, a_type, a_constant, a_left, Value, at_type}
use Rattle.type_grammar.specs.Types.{IsPart}

unfoldable pub number : IsPart Bare
number = token (of_kind Number) (λ t. BareNumber t.bytes)

unfoldable pub constant_words : List (List ℕ)
constant_words = codes "true" ∷ codes "false" ∷ codes "null" ∷ codes "zeroinitializer" ∷ []

-- truth values are of type i1, whatever type is written
abbrev pub word_constant : List ℕ → Bare
word_constant bytes =
    cond (bytes_eq bytes (codes "true")) (Plain (Int W1 1))
    (cond (bytes_eq bytes (codes "false")) (Plain (Int W1 0))
    (cond (bytes_eq bytes (codes "null")) (Plain Null)
    Zero))

unfoldable pub constant_word : IsPart Bare
constant_word = token (words constant_words) (λ t. word_constant t.bytes)

unfoldable pub undefined_words : List (List ℕ)
undefined_words = codes "undef" ∷ codes "poison" ∷ codes "none" ∷ []

unfoldable pub undefined : IsPart Bare
undefined = token (words undefined_words) (λ t. Plain (Left t.bytes))

unfoldable pub float : IsPart Bare
float = token (of_kind Float) (λ t. Plain (Left t.bytes))

unfoldable pub address : IsPart Bare
address = token (of_kind Global) (λ t. Plain (Addr (name Global t) 0))

unfoldable pub byte_string : IsPart Bare
byte_string = token (of_kind BytesToken) (λ t. Plain (Bytes (name BytesToken t)))

abbrev pub typed_of : Ty × Bare → Const
typed_of x = Typed x.0 (at_type x.0 x.1)

-- `T C`
unfoldable pub typed : IsPart Const
typed = mapped typed_of (at a_type ⋆ at a_constant)

unfoldable pub typed_list : IsPart (List Const)
typed_list = list_with (mark (codes ",")) typed

-- `{ T C, .. }`
unfoldable pub structure : IsPart Bare
structure = mapped (λ parts. Plain (Struct parts)) (mark (codes "{") ▹ typed_list ◃ mark (codes "}"))

-- an array has the written type of its first part
abbrev pub array_with : Ty → Bare → List Const → Bare
array_with ty first others = Plain (Array ty (Typed ty (at_type ty first) ∷ others))

abbrev pub array_of : (Ty × Bare) × List Const → Bare
array_of x = array_with x.0.0 x.0.1 x.1

unfoldable pub more_typed : IsPart (List Const)
more_typed = many (mark (codes ",") ▹ typed)

-- `[ T C, .. ]`, of at least one part
unfoldable pub array : IsPart Bare
array = mapped array_of (mark (codes "[") ▹ (at a_type ⋆ at a_constant) ⋆ more_typed ◃ mark (codes "]"))

unfoldable pub address_words : List (List ℕ)
address_words = codes "inbounds" ∷ codes "nuw" ∷ codes "nusw" ∷ []

-- `inbounds`, `nuw`, `nusw` or `inrange(a, b)`, which say nothing
unfoldable pub address_word : IsPart (Unit {0})
address_word =
    sign (words address_words)
    or word (codes "inrange") ▹ mark (codes "(") ▹ of_kind Number ▹ mark (codes ",") ▹ of_kind Number ▹ sign (mark (codes ")"))

unfoldable pub address_run : IsPart (Unit {0})
address_run = mapped (λ _. tt) (many address_word)

unfoldable pub in_range : IsPart (Unit {0})
in_range = mapped (λ _. tt) (maybe (sign (word (codes "inrange"))))

-- `, [inrange] T C`
unfoldable pub index : IsPart Operand
index = mapped (λ x. Constant x.1) (mark (codes ",") ▹ in_range ⋆ typed)

unfoldable pub index_list : IsPart (List Operand)
index_list = many index

abbrev pub moved_with : Ty → Bare → List Operand → Bare
moved_with ty base indices = Plain (Gep ty (at_type Ptr base) indices)

abbrev pub moved_of : Unit {0} × (Ty × (Bare × List Operand)) → Bare
moved_of x = moved_with x.1.0 x.1.1.0 x.1.1.1

-- `getelementptr W (T, ptr C, [inrange] T C, ..)`
unfoldable pub moved : IsPart Bare
moved =
    mapped moved_of
    (word (codes "getelementptr") ▹ address_run ⋆ mark (codes "(") ▹ at a_type ⋆ mark (codes ",") ▹ word (codes "ptr") ▹ at a_constant
    ⋆ index_list ◃ mark (codes ")"))

unfoldable pub constant_body : IsPart Bare
constant_body =
    number or constant_word or undefined or float or address or byte_string or structure or array or moved or at a_left

-- the words that are left out where a balanced parenthesis follows
unfoldable pub left_constant_words : List (List ℕ)
left_constant_words =
    codes "alloca" ∷ codes "ptrtoint" ∷ codes "inttoptr" ∷ codes "bitcast" ∷ codes "addrspacecast" ∷ codes "freeze" ∷
    codes "fence" ∷ codes "cmpxchg" ∷ codes "atomicrmw" ∷ codes "volatile" ∷ codes "atomic" ∷ codes "invoke" ∷
    codes "landingpad" ∷ codes "resume" ∷ codes "catchswitch" ∷ codes "catchpad" ∷ codes "cleanuppad" ∷
    codes "catchret" ∷ codes "cleanupret" ∷ codes "callbr" ∷ codes "indirectbr" ∷ codes "va_arg" ∷
    codes "insertvalue" ∷ codes "extractelement" ∷ codes "insertelement" ∷ codes "shufflevector" ∷ codes "fadd" ∷
    codes "fsub" ∷ codes "fmul" ∷ codes "fdiv" ∷ codes "frem" ∷ codes "fneg" ∷ codes "fcmp" ∷ codes "fptrunc" ∷
    codes "fpext" ∷ codes "fptoui" ∷ codes "fptosi" ∷ codes "uitofp" ∷ codes "sitofp" ∷ codes "musttail" ∷
    codes "alias" ∷ codes "ifunc" ∷ codes "module" ∷ codes "thread_local" ∷ codes "externally_initialized" ∷
    codes "uselistorder" ∷ codes "jumptable" ∷ []

-- the tokens with which a constant begins
unfoldable pub constant_signs : List Sign
constant_signs =
    of_kind Number ∷ words constant_words ∷ words undefined_words ∷ of_kind Float ∷ of_kind Global ∷ of_kind BytesToken ∷
    mark (codes "{") ∷ mark (codes "[") ∷ word (codes "getelementptr") ∷ words left_constant_words ∷ []

abbrev pub constant_starts : List Start
constant_starts = map one_sign constant_signs
