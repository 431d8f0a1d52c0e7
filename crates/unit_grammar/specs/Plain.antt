-- Parts in which no named part stands, so that no level is opened.
use Rattle.std.specs.Prelude.{List}
use Rattle.unit_grammar.specs.Signs.{Start}
use Rattle.unit_grammar.specs.Grammar.{Part, Text, Is}
use Rattle.unit_grammar.specs.Readers.{Reader, read}

abbrev pub NoValue : ⊥ → Type 0
NoValue x = Unit {0}

abbrev pub Plain : Type 0 → Type 1
Plain A = Part ⊥ NoValue A

abbrev pub no_text : (x : ⊥) → Text (NoValue x)
no_text x = absurd x

abbrev pub no_reader : (x : ⊥) → Reader (NoValue x)
no_reader x = absurd x

abbrev pub no_start : ⊥ → List Start
no_start x = absurd x

abbrev pub IsPlain : {A : Type 0} → Plain A → Text A
IsPlain g = Is no_text g

abbrev pub plain_read : {A : Type 0} → Plain A → Reader A
plain_read g = read no_reader g
