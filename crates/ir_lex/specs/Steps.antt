-- How the code goes over a text.
use Rattle.std.specs.Prelude.{◌≡◌, ℕ, ◌+◌, ◌<◌, ◌≤◌, ◌^◌, Bool, true, false, not, ◌==◌, if◌then◌else◌, IsTrue, List, length, drop, slice_range, Option, Some, None}
use Rattle.std.specs.List.{prefix_len}
use Rattle.ltt_base.specs.declared.refusal.Place.{Place}
use Rattle.ir_lex.specs.Letters.{is_blank, is_line_end, is_name_byte}
use Rattle.ir_lex.specs.Places.{place_at}
use Rattle.ir_lex.specs.Texts.{IsGap, IsLastGap, begins_other}

-- whether a comment is open behind this byte of blanks and comments; None where it is none of theirs
abbrev pub open_after : Bool → ℕ → Option Bool
open_after true b = Some (not (is_line_end b))
open_after false b = if b == 59 then Some true else if is_blank b then Some false else None

-- the blanks and comments that begin at an offset end at another
pub record EndsGap (text : List ℕ) (start end : ℕ) : Type 0 where
  pub order : start ≤ end
  pub within : end ≤ length text
  pub last : end ≡ length text → IsLastGap (drop start text)
  pub gap : end < length text → IsGap (slice_range text start end) × IsTrue (begins_other (drop end text))

-- the run of bytes of names that begins at an offset is known to end at another, if it is longer than nothing
abbrev pub EndsNames : List ℕ → ℕ → ℕ → Type 0
EndsNames text at names = at < names → names ≡ at + prefix_len is_name_byte (drop at text)

-- what a lexer keeps
pub record IsReady (text : List ℕ) (at : ℕ) (place : Place) (names : ℕ) : Type 0 where
  pub size : length text ≤ 2 ^ 26
  pub within : at ≤ length text
  pub place_is : place ≡ place_at place.file text at
  pub names_end : EndsNames text at names
