-- What the readers of lines compute.
use Rattle.std.specs.Prelude.{ℕ, cond, List, [], ◌∷◌, Option, Some, None}
use Rattle.ir_values.specs.declared.units.Form.{Form}
use Rattle.ir_values.specs.declared.units.Form.TheVariants.{SummaryForm, LeftForm}
use Rattle.unit_grammar.specs.Pieces.{Piece}
use Rattle.unit_grammar.specs.Readers.{Read, found, absent, Reader, read, then_read}
use Rattle.type_grammar.specs.Levels.{levels}
use Rattle.type_grammar.specs.Reading.{reads}
use Rattle.module_grammar.specs.Lines.{stops}
use Rattle.module_grammar.specs.Summaries.{entry_head}
use Rattle.module_grammar.specs.LeftUnits.{left_head, carried_words}

-- what stands from the first token that stops on
abbrev pub line_rest : List (List ℕ) → ℕ → List Piece → List Piece
line_rest carried end [] = []
line_rest carried end (t ∷ ts) = cond (stops carried end t) (t ∷ ts) (line_rest carried t.end ts)

abbrev pub lined_read : {A : Type 0} → List (List ℕ) → Reader (A × ℕ) → Reader A
lined_read carried p ts = then_read (p ts) (λ x rest. found x.0 (line_rest carried x.1 rest))

abbrev pub known : {A : Type 0} → Option A → ℕ → List Piece → Read (A × ℕ)
known None end rest = absent
known (Some a) end rest = found (a, end) rest

abbrev pub known_read : {A : Type 0} → Reader (Option A × ℕ) → Reader (A × ℕ)
known_read p ts = then_read (p ts) (λ x rest. known x.0 x.1 rest)

unfoldable pub entry_read : Reader Form
entry_read ts = then_read (lined_read [] (read (reads levels) entry_head) ts) (λ number rest. found (SummaryForm number) rest)

unfoldable pub left_read : Reader Form
left_read ts =
    then_read (lined_read carried_words (known_read (read (reads levels) left_head)) ts) (λ word rest. found (LeftForm word) rest)
