-- Entries of a summary are read exactly.
use Rattle.std.proofs.Common.{◌≡◌, ℕ, true, false, List, [], Result, refl}
use Rattle.ir_values.specs.declared.units.Form.{Form}
use Rattle.ir_values.specs.declared.units.Form.TheVariants.{SummaryForm}
use Rattle.unit_grammar.specs.declared.stop.Stop.{Stop}
use Rattle.unit_grammar.specs.Pieces.{Piece}
use Rattle.unit_grammar.specs.Beginnings.{is_told, nullable, more}
use Rattle.unit_grammar.specs.Exact.{Exact}
use Rattle.unit_grammar.specs.Seeing.{Gives}
use Rattle.unit_grammar.specs.Answers.{Tells}
use Rattle.unit_grammar.proofs.ExactLaws.{said_exact}
use Rattle.type_grammar.specs.Levels.{IsAt, IsAny, levels}
use Rattle.type_grammar.specs.Beginnings.{starts_of, more_of}
use Rattle.module_grammar.specs.Summaries.{entry_head, IsEntry}
use Rattle.module_grammar.specs.Texts.{OpensForm}
use Rattle.module_grammar.specs.Reading.{entry_read}
use Rattle.module_grammar.specs.Beginnings.{all_starts, entry_starts}
use Rattle.module_grammar.proofs.FormLaws.{closed_exact, is_free, never_opens, free_tells}
use Rattle.module_grammar.proofs.LineLaws.{lined_exact}

head_told : is_told starts_of more_of entry_head ≡ true
unfolding entry_head
head_told = refl

head_closed : more starts_of more_of entry_head ≡ []
unfolding entry_head
head_closed = refl

head_some : nullable entry_head ≡ false
unfolding entry_head
head_some = refl

head_free : is_free entry_head ≡ true
unfolding entry_head
head_free = refl

pub entry_exact : Exact (IsEntry (IsAt levels)) (IsEntry IsAny) (Unit {0}) (OpensForm entry_head) entry_read entry_starts all_starts false
unfolding entry_read
entry_exact = said_exact (λ _ number. SummaryForm number) (lined_exact [] (closed_exact entry_head head_told head_closed head_some))

pub entry_tells : (tokens ts : List Piece) (r : Result (Form × ℕ) Stop) → Gives tokens r (entry_read ts) →
    Tells (IsEntry (IsAt levels)) (IsEntry IsAny) (λ _. ⊥) tokens ts r
entry_tells = free_tells entry_exact (never_opens entry_head head_free)
