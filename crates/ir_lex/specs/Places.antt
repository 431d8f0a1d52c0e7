-- Lines and columns.
use Rattle.std.specs.Prelude.{ℕ, ◌+◌, Bool, if◌then◌else◌, List, take, fold, slice_range}
use Rattle.std.specs.List.{list_any}
use Rattle.ltt_base.specs.declared.refusal.Place.{Place}
use Rattle.ir_lex.specs.Letters.{is_line_end}

-- the place behind a byte that stands at a place: only a line feed ends a line, and columns count bytes
abbrev pub place_behind : Place → ℕ → Place
place_behind place b =
    if is_line_end b then record place { line = place.line + 1; column = 1 } else record place { column = place.column + 1 }

-- the place of the byte at an offset in a text
unfoldable pub place_at : ℕ → List ℕ → ℕ → Place
place_at file text at = fold place_behind (record { file = file; line = 1; column = 1 }) (take at text)

-- whether a line ends between two offsets
abbrev pub breaks_line : List ℕ → ℕ → ℕ → Bool
breaks_line text from to = list_any is_line_end (slice_range text from to)
