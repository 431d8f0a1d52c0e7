-- Types, constants and parts of metadata nodes by how many levels they have.
--
-- What has no parts has one level; what has parts has one more than the deepest of them. Parts of an aggregate are its
-- types and constants; those of a moved address its type, `ptr`, its base and its indices; that of the number of an
-- address the address. A left-out type has its parts, and a balanced parenthesis none. A constant in a node is part of the
-- node, and so is a node in place.
use Rattle.std.specs.Prelude.{◌≡◌, ℕ, zero, suc, true, List}
use Rattle.unit_grammar.specs.Pieces.{Piece}
use Rattle.unit_grammar.specs.Signs.{Start, begins_any}
use Rattle.unit_grammar.specs.Grammar.{Text, Is, Opens}
use Rattle.type_grammar.specs.Names.{Name, a_type, a_value_type, a_constant, a_left, an_item, Value}
use Rattle.type_grammar.specs.Types.{type_body, type_starts, value_type_body, value_type_starts}
use Rattle.type_grammar.specs.Constants.{constant_body, constant_starts}
use Rattle.type_grammar.specs.Items.{item_body, item_starts}
use Rattle.type_grammar.specs.Left.{IsLeft, OpensLeft}

-- the texts of at most so many levels
abbrev pub IsAt : ℕ → (x : Name) → Text (Value x)
IsAt zero a_type ts ty = ⊥
IsAt zero a_value_type ts ty = ⊥
IsAt zero a_constant ts b = ⊥
IsAt zero a_left ts b = IsLeft zero ts b
IsAt zero an_item ts item = ⊥
IsAt (suc n) a_type ts ty = Is (IsAt n) type_body ts ty
IsAt (suc n) a_value_type ts ty = Is (IsAt n) value_type_body ts ty
IsAt (suc n) a_constant ts b = Is (IsAt n) constant_body ts b
IsAt (suc n) a_left ts b = IsLeft (suc n) ts b
IsAt (suc n) an_item ts item = Is (IsAt n) item_body ts item

-- the texts of any number of levels
abbrev pub IsAny : (x : Name) → Text (Value x)
IsAny x ts a = (n : ℕ) × IsAt n x ts a

-- where so many levels may be opened, one more is: a type, a constant or a part of a node begins there
abbrev pub OpensAt : ℕ → (x : Name) → List Piece → Type 0
OpensAt zero a_type ts = begins_any type_starts ts ≡ true
OpensAt zero a_value_type ts = begins_any value_type_starts ts ≡ true
OpensAt zero a_constant ts = begins_any constant_starts ts ≡ true
OpensAt zero a_left ts = OpensLeft zero ts
OpensAt zero an_item ts = begins_any item_starts ts ≡ true
OpensAt (suc n) a_type ts = Opens (IsAt n) (OpensAt n) type_body ts
OpensAt (suc n) a_value_type ts = Opens (IsAt n) (OpensAt n) value_type_body ts
OpensAt (suc n) a_constant ts = Opens (IsAt n) (OpensAt n) constant_body ts
OpensAt (suc n) a_left ts = OpensLeft (suc n) ts
OpensAt (suc n) an_item ts = Opens (IsAt n) (OpensAt n) item_body ts

-- the limit of levels
unfoldable pub levels : ℕ
levels = 64
