-- The byte at a place.
use Rattle.std.specs.Prelude.{◌≡◌, ℕ, ◌+◌, ◌<◌, ◌≤◌, if◌then◌else◌, List, length}
use Rattle.ltt_base.specs.declared.refusal.Place.{Place}
use Rattle.ir_lex.specs.Letters.{is_line_end}
use Rattle.ir_lex.specs.Places.{place_at}

-- the byte at this offset of a text stands at the place
pub record IsOffset (file : ℕ) (text : List ℕ) (place : Place) (offset : ℕ) : Type 0 where
  pub within : offset < length text
  pub is : place ≡ place_at file text offset

-- the line and the column behind a byte
abbrev pub line_behind : ℕ → ℕ → ℕ
line_behind line b = if is_line_end b then line + 1 else line

abbrev pub column_behind : ℕ → ℕ → ℕ
column_behind column b = if is_line_end b then 1 else column + 1

-- the place of an offset is this line and column, and no byte before it stands at the place that is sought
pub record Walked (file : ℕ) (text : List ℕ) (place : Place) (at line column : ℕ) : Type 0 where
  pub here : place_at file text at ≡ record { file = file; line = line; column = column }
  pub line_small : line ≤ at + 1
  pub column_small : column ≤ at + 1
  pub none : (k : ℕ) → k < at → place_at file text k ≡ place → ⊥
