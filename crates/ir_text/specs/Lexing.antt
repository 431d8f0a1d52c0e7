-- The steps of the first pass.
use Rattle.std.specs.Prelude.{◌≡◌, ℕ, List, drop, slice_index, Option, Some, None, Result, Ok, Err}
use Rattle.ltt_base.specs.declared.refusal.Code.TheVariants.{E01}
use Rattle.ltt_base.specs.declared.refusal.Place.{Place}
use Rattle.ltt_base.specs.declared.refusal.Refusal.{Refusal}
use Rattle.ltt_base.specs.declared.refusal.Fault.{Fault}
use Rattle.ltt_base.specs.declared.refusal.Fault.TheVariants.{Refused, Memory}
use Rattle.ir_lex.specs.declared.token.Token.{Token}
use Rattle.ir_lex.specs.Reader.{Reader}
use Rattle.ir_lex.specs.Texts.{Tokens, TokensThen, IsNext, IsStuck, IsLastGap}
use Rattle.ir_text.specs.Answers.{byte_word, IsNoToken}
use Rattle.ir_text.specs.Stuck.{IsOffset}

-- the refusal at a place, whose word is the byte there
pub record Names (file : ℕ) (text : List ℕ) (place : Place) (refusal : Refusal) : Type 0 where
  pub offset : ℕ
  pub stands : IsOffset file text place offset
  pub is : refusal ≡ record { code = E01; place = place; word = byte_word (slice_index text offset) }

abbrev pub NamesByte : ℕ → List ℕ → Place → Fault → Type 0
NamesByte file text place (Refused refusal) = Names file text place refusal
NamesByte file text place Memory = Unit {0}

-- The next token, None behind the last, or the fault of the byte at which no token begins: its refusal, unless memory
-- is wanting.
abbrev pub Lacks : ℕ → List ℕ → Reader → Fault → Type 0
Lacks file text old (Refused refusal) = IsStuck old.file old.text old.at refusal.place × Names file text refusal.place refusal
Lacks file text old Memory = Unit {0}

abbrev pub Nexts : ℕ → List ℕ → Reader → Result (Option Token) Fault → Reader → Type 0
Nexts file text old (Ok (Some t)) new = IsNext old.file old.text old.at t × (new ≡ record old { at = t.end })
Nexts file text old (Ok None) new = IsLastGap (drop old.at old.text)
Nexts file text old (Err fault) new = Lacks file text old fault

-- these tokens of the text were given, and the reader stands behind them
pub record Collected (file : ℕ) (text : List ℕ) (reader : Reader) (tokens : List Token) : Type 0 where
  pub same_file : reader.file ≡ file
  pub same_text : reader.text ≡ text
  pub given : TokensThen (λ at. at ≡ reader.at) file text 0 tokens

abbrev pub Fails : ℕ → List ℕ → Fault → Type 0
Fails file text (Refused refusal) = IsNoToken file text refusal
Fails file text Memory = Unit {0}

-- what the first pass answers
abbrev pub Lexed : ℕ → List ℕ → Result (List Token) Fault → Type 0
Lexed file text (Ok ts) = Tokens file text ts
Lexed file text (Err fault) = Fails file text fault
