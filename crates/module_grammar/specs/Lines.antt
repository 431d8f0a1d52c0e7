-- Texts that go on to the end of their line.
--
-- A token that stands behind another is the first on its line exactly if a line ends between the two: `lines_tell_first` of
-- ir_lex says so.
use Rattle.std.specs.Prelude.{◌≡◌, ℕ, Bool, false, not, ◌&&◌, List, [], ◌∷◌, ◌++◌, Option, Some}
use Rattle.ir_lex.specs.Places.{breaks_line}
use Rattle.unit_grammar.specs.Pieces.{Piece}
use Rattle.unit_grammar.specs.Signs.{passes, words}
use Rattle.unit_grammar.specs.Grammar.{Text}

-- the token stands first on its line and is none of these words, where the token before it ends there
abbrev pub stops : List (List ℕ) → ℕ → Piece → Bool
stops carried end t = breaks_line t.source end t.start && not (passes (words carried) t)

-- none of the tokens does
abbrev pub GoesOn : List (List ℕ) → ℕ → List Piece → Type 0
GoesOn carried end [] = Unit {0}
GoesOn carried end (t ∷ ts) = (stops carried end t ≡ false) × GoesOn carried t.end ts

-- A text of P that says something.
abbrev pub Known : {A : Type 0} → Text (Option A × ℕ) → Text (A × ℕ)
Known P ts x = P ts (Some x.0, x.1)

-- A text of P, whose last token ends where it says, and tokens of which none stands first on its line but for these words.
abbrev pub Lined : {A : Type 0} → List (List ℕ) → Text (A × ℕ) → Text A
Lined carried P ts a =
    (front : List Piece) × (back : List Piece) × (end : ℕ) × P front (a, end) × GoesOn carried end back × (ts ≡ front ++ back)
