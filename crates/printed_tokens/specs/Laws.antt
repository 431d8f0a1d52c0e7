-- What holds of every text that is put together of blanks and tokens.
use Rattle.std.specs.Prelude.{◌≡◌, ℕ, false, List}
use Rattle.ir_lex.specs.declared.token.Token.{Token}
use Rattle.ir_lex.specs.Texts.{Tokens}
use Rattle.unit_grammar.specs.Pieces.{pieces}
use Rattle.printed_tokens.specs.Atoms.{Atom, rendered, AreSeparated}
use Rattle.printed_tokens.specs.Looks.{looks, looks_of}

-- the text has tokens, and they look like those that it is put together of
pub record IsCut (file : ℕ) (atoms : List Atom) : Type 0 where
  pub tokens : List Token
  pub are : Tokens file (rendered atoms) tokens
  pub look : looks 0 (pieces (rendered atoms) tokens) ≡ looks_of false atoms

abbrev pub AtomsAreCut : Type 0
AtomsAreCut = (file : ℕ) (atoms : List Atom) → AreSeparated false atoms → IsCut file atoms
