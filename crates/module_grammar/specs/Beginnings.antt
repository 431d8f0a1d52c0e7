-- How lines begin, and what could make one longer.
use Rattle.std.specs.Prelude.{List, [], ◌∷◌, map}
use Rattle.ir_lex.specs.declared.token.Kind.TheVariants.{Word, Label, Global, Local, Comdat, Meta, MetaText, Group, SummaryNumber, HashWord, Number, Float, Quoted, Bytes, Mark, Dots}
use Rattle.unit_grammar.specs.Signs.{Sign, of_kind, Start}
use Rattle.unit_grammar.specs.Beginnings.{one_sign, starts}
use Rattle.type_grammar.specs.Beginnings.{starts_of}
use Rattle.module_grammar.specs.Summaries.{entry_head}
use Rattle.module_grammar.specs.LeftUnits.{left_head}

abbrev pub all_signs : List Sign
all_signs =
    map of_kind
    (Word ∷ Label ∷ Global ∷ Local ∷ Comdat ∷ Meta ∷ MetaText ∷ Group ∷ SummaryNumber ∷ HashWord ∷ Number ∷ Float ∷ Quoted ∷
    Bytes ∷ Mark ∷ Dots ∷ [])

-- any token at all
abbrev pub all_starts : List Start
all_starts = map one_sign all_signs

abbrev pub entry_starts : List Start
entry_starts = starts starts_of entry_head

abbrev pub left_starts : List Start
left_starts = starts starts_of left_head
