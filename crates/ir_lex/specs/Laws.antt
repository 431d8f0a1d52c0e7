-- What holds of every text and of every table.
use Rattle.std.specs.Prelude.{◌≡◌, ℕ, ◌↔◌, IsTrue, List, [], ◌∷◌, ◌++◌, slice_get, Some}
use Rattle.ltt_base.specs.declared.refusal.Place.{Place}
use Rattle.ir_lex.specs.declared.token.Token.{Token}
use Rattle.ir_lex.specs.Places.{breaks_line}
use Rattle.ir_lex.specs.Tables.{IsAscending}
use Rattle.ir_lex.specs.Texts.{Tokens, IsStuckBehind, StandsFirst}

-- a text has at most one list of tokens
abbrev pub ReadingsAgree : Type 0
ReadingsAgree = (file : ℕ) (text : List ℕ) (tokens others : List Token) →
    Tokens file text tokens → Tokens file text others → tokens ≡ others

-- a text that has tokens is stuck nowhere
abbrev pub ReadingsEnd : Type 0
ReadingsEnd = (file : ℕ) (text : List ℕ) (tokens some : List Token) (place : Place) →
    Tokens file text tokens → IsStuckBehind file text some place → ⊥

-- a text is stuck at one place at most
abbrev pub StucksAgree : Type 0
StucksAgree = (file : ℕ) (text : List ℕ) (tokens others : List Token) (place other : Place) →
    IsStuckBehind file text tokens place → IsStuckBehind file text others other → place ≡ other

-- of a token behind another: it stands first on its line exactly if a line ends between the two
abbrev pub LinesTellFirst : Type 0
LinesTellFirst = (file : ℕ) (text : List ℕ) (before : List Token) (last t : Token) (after : List Token) →
    Tokens file text (before ++ last ∷ t ∷ after) →
    (StandsFirst text (before ++ last ∷ []) t ↔ IsTrue (breaks_line text last.end t.start))

-- no word stands at two places of a table
abbrev pub WordsStandOnce : Type 0
WordsStandOnce = (words : List (List ℕ)) (word : List ℕ) (code other : ℕ) → IsAscending words →
    slice_get words code ≡ Some word → slice_get words other ≡ Some word → code ≡ other
