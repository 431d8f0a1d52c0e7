-- The tokens of a whole text.
use Rattle.std.specs.Prelude.{◌≡◌, ℕ, ◌-◌, ◌<◌, ◌≤◌, Bool, true, false, not, ◌||◌, ◌==◌, ◌≢◌, if◌then◌else◌, IsTrue, IsSome, List, [], ◌∷◌, drop, slice_range, Option, Some, None}
use Rattle.std.specs.List.{AllByRecursion}
use Rattle.ltt_base.specs.declared.refusal.Place.{Place}
use Rattle.ir_lex.specs.declared.token.Token.{Token}
use Rattle.ir_lex.specs.Letters.{is_blank, is_line_end}
use Rattle.ir_lex.specs.Kinds.{Begins, NoneBegins}
use Rattle.ir_lex.specs.Places.{place_at}

-- Over blanks and comments: whether a comment is open behind them, where `inside` tells whether one is before them.
-- None where any other byte stands outside comments. A comment runs from `;`, which is 59, to the end of its line.
abbrev pub open_behind : Bool → List ℕ → Option Bool
open_behind inside [] = Some inside
open_behind true (b ∷ bytes) = open_behind (not (is_line_end b)) bytes
open_behind false (b ∷ bytes) =
    if b == 59 then open_behind true bytes else if is_blank b then open_behind false bytes else None

-- blanks and comments before a token: the last comment has ended
abbrev pub IsGap : List ℕ → Type 0
IsGap bytes = open_behind false bytes ≡ Some false

-- blanks and comments before the end of the text, which also ends a comment
abbrev pub IsLastGap : List ℕ → Type 0
IsLastGap bytes = IsSome (open_behind false bytes)

-- the text begins neither with a blank nor with a comment, nor is it empty
abbrev pub begins_other : List ℕ → Bool
begins_other [] = false
begins_other (b ∷ bytes) = not (is_blank b || b == 59)

-- from an offset on, only blanks and comments stand before this token
pub record IsNext (file : ℕ) (text : List ℕ) (at : ℕ) (t : Token) : Type 0 where
  pub behind : at ≤ t.start
  pub gap : IsGap (slice_range text at t.start)
  pub begins : Begins (drop t.start text) t.kind (t.end - t.start)
  pub place : t.place ≡ place_at file text t.start

-- from an offset on, only blanks and comments stand before a byte at this place, at which no token begins
pub record IsStuck (file : ℕ) (text : List ℕ) (at : ℕ) (place : Place) : Type 0 where
  pub offset : ℕ
  pub behind : at ≤ offset
  pub gap : IsGap (slice_range text at offset)
  pub other : IsTrue (begins_other (drop offset text))
  pub none : NoneBegins (drop offset text)
  pub is : place ≡ place_at file text offset

-- from an offset on these tokens stand in order, and Last holds of the offset behind the last
abbrev pub TokensThen : (ℕ → Type 0) → ℕ → List ℕ → ℕ → List Token → Type 0
TokensThen Last file text at [] = Last at
TokensThen Last file text at (t ∷ tokens) = IsNext file text at t × TokensThen Last file text t.end tokens

-- from an offset on, the text is blanks, comments and these tokens in order
abbrev pub TokensFrom : ℕ → List ℕ → ℕ → List Token → Type 0
TokensFrom file text = TokensThen (λ at. IsLastGap (drop at text)) file text

-- the text is blanks, comments and these tokens in order
abbrev pub Tokens : ℕ → List ℕ → List Token → Type 0
Tokens file text = TokensFrom file text 0

-- behind these tokens of the text no token begins at this place
abbrev pub IsStuckBehind : ℕ → List ℕ → List Token → Place → Type 0
IsStuckBehind file text tokens place = TokensThen (λ at. IsStuck file text at place) file text 0 tokens

-- no byte of the other token stands on the line of this one
abbrev pub IsOffLine : List ℕ → Token → Token → Type 0
IsOffLine text t other = (at : ℕ) → other.start ≤ at → at < other.end → (place_at 0 text at).line ≢ (place_at 0 text t.start).line

-- no byte of the tokens before this one stands on its line
abbrev pub StandsFirst : List ℕ → List Token → Token → Type 0
StandsFirst text before t = AllByRecursion (IsOffLine text t) before
