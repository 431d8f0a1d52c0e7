-- What a lexer is at, and what its next answer may be.
use Rattle.std.specs.Prelude.{◌≡◌, ℕ, List, drop, Option, Some, None, Result, Ok, Err}
use Rattle.ltt_base.specs.declared.refusal.Place.{Place}
use Rattle.ir_lex.specs.declared.token.Token.{Token}
use Rattle.ir_lex.specs.Texts.{IsNext, IsStuck, IsLastGap}

-- a file's number, its text, and the offset behind the tokens that were given
pub record Reader : Type 0 where
  pub file : ℕ
  pub text : List ℕ
  pub at : ℕ

-- What `next` answers at a reader, and the reader after it: the token that stands next, None where only blanks and
-- comments are left, or the place at which no token begins. Only a token moves the reader, behind that token.
abbrev pub Gives : Reader → Result (Option Token) Place → Reader → Type 0
Gives old (Ok (Some t)) new = IsNext old.file old.text old.at t × (new ≡ record old { at = t.end })
Gives old (Ok None) new = IsLastGap (drop old.at old.text) × (new ≡ old)
Gives old (Err place) new = IsStuck old.file old.text old.at place × (new ≡ old)
