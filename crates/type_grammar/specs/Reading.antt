-- What the readers of types, constants and parts of metadata nodes compute.
use Rattle.std.specs.Prelude.{◌≡◌, ℕ, zero, suc, cond, nat_lt, List, [], ◌∷◌, Option, Some, None, option_and_then}
use Rattle.ir_values.specs.declared.constants.Const.TheVariants.{Number as NumberOf, Left}
use Rattle.type_grammar.specs.declared.bare.Bare.{Bare}
use Rattle.type_grammar.specs.declared.bare.Bare.TheVariants.{Plain as Whole}
use Rattle.unit_grammar.specs.Pieces.{Piece, spelling}
use Rattle.unit_grammar.specs.Signs.{Start, begins_any}
use Rattle.unit_grammar.specs.Plain.{plain_read}
use Rattle.unit_grammar.specs.Readers.{Read, found, absent, deep, Reader, read, then_read, before}
use Rattle.type_grammar.specs.Names.{Name, a_type, a_value_type, a_constant, a_left, an_item, Value}
use Rattle.type_grammar.specs.Types.{type_body, type_starts, value_type_body, value_type_starts}
use Rattle.type_grammar.specs.Constants.{constant_body, constant_starts}
use Rattle.type_grammar.specs.Items.{item_body, item_starts}
use Rattle.type_grammar.specs.Left.{left_text, number_text, address_of}
use Rattle.type_grammar.specs.declared.address.Address.{Address}

-- too deep where a text begins
abbrev pub level_read : {A : Type 0} → List Start → Reader A
level_read starts ts = cond (begins_any starts ts) deep absent

-- what was read of all the tokens
abbrev pub whole : {A : Type 0} → Read A → Option A
whole (found a []) = Some a
whole (found a (t ∷ ts)) = None
whole absent = None
whole deep = None

-- the number of an address that the tokens are
unfoldable pub number_in : List Piece → Option Address
number_in ts = option_and_then address_of (whole (plain_read number_text ts))

abbrev pub left_value : ℕ → List Piece → List Piece → Option Address → Read Bare
left_value n front rest None = found (Whole (Left (spelling front))) rest
left_value n front rest (Some address) =
    cond (nat_lt n address.levels) deep (found (Whole (NumberOf address.global address.offset)) rest)

unfoldable pub left_read : ℕ → Reader Bare
left_read n ts = then_read (plain_read left_text ts) (λ _ rest. left_value n (before ts rest) rest (number_in (before ts rest)))

abbrev pub reads : ℕ → (x : Name) → Reader (Value x)
reads zero a_type ts = level_read type_starts ts
reads zero a_value_type ts = level_read value_type_starts ts
reads zero a_constant ts = level_read constant_starts ts
reads zero a_left ts = left_read zero ts
reads zero an_item ts = level_read item_starts ts
reads (suc n) a_type ts = read (reads n) type_body ts
reads (suc n) a_value_type ts = read (reads n) value_type_body ts
reads (suc n) a_constant ts = read (reads n) constant_body ts
reads (suc n) a_left ts = left_read (suc n) ts
reads (suc n) an_item ts = read (reads n) item_body ts
