-- Texts that are put together of blanks and tokens.
-- Source: LLVM Language Reference, "Identifiers" and "High Level Structure". Differs: only the tokens that printed modules have.
use Rattle.std.specs.Prelude.{◌≡◌, ℕ, Bool, true, false, not, ◌||◌, nat_lt, List, [], ◌∷◌, length, flat_map, codes}
use Rattle.std.specs.List.{list_all}
use Rattle.ir_lex.specs.declared.token.Kind.{Kind}
use Rattle.ir_lex.specs.declared.token.Kind.TheVariants.{Word, Label, Global, Local, Number, Bytes, Mark}
use Rattle.ir_lex.specs.Letters.{is_blank, is_of}
use Rattle.ir_lex.specs.Kinds.{Is}

-- a run of blanks, or a token
pub data Atom : Type 0 where
  blank : List ℕ → Atom
  a_token : Kind → List ℕ → Atom

abbrev pub bytes_of : Atom → List ℕ
bytes_of (blank bytes) = bytes
bytes_of (a_token kind bytes) = bytes

abbrev pub rendered : List Atom → List ℕ
rendered atoms = flat_map bytes_of atoms

-- the kinds of tokens that a printed module has
abbrev pub is_printed : Kind → Bool
is_printed Word = true
is_printed Label = true
is_printed Global = true
is_printed Local = true
is_printed Number = true
is_printed Bytes = true
is_printed Mark = true
is_printed _ = false

-- a mark ends with its byte, and a label with its colon; any other token could go on
abbrev pub is_mark : Kind → Bool
is_mark Mark = true
is_mark _ = false

abbrev pub is_loose : Kind → Bool
is_loose Mark = false
is_loose Label = false
is_loose _ = true

-- `!` begins other tokens, and `:` ends a label
abbrev pub is_plain_mark : Kind → List ℕ → Bool
is_plain_mark Mark bytes = list_all (is_of (codes "=,(){}[]<>*")) bytes
is_plain_mark _ bytes = true

pub record IsToken (kind : Kind) (bytes : List ℕ) : Type 0 where
  pub printed : is_printed kind ≡ true
  pub is : Is kind bytes
  pub plain : is_plain_mark kind bytes ≡ true

pub record IsBlank (bytes : List ℕ) : Type 0 where
  pub some : nat_lt 0 (length bytes) ≡ true
  pub are : list_all is_blank bytes ≡ true

-- Each is what it is called, and of two tokens without a blank between them the first can't go on or the second is a mark.
-- `loose` tells that a token stands before these that could go on.
abbrev pub AreSeparated : Bool → List Atom → Type 0
AreSeparated loose [] = Unit {0}
AreSeparated loose (blank bytes ∷ atoms) = IsBlank bytes × AreSeparated false atoms
AreSeparated loose (a_token kind bytes ∷ atoms) = IsToken kind bytes × (not loose || is_mark kind ≡ true) × AreSeparated (is_loose kind) atoms
