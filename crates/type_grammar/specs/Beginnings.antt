-- How types, constants and parts of metadata nodes begin, and what could make one longer.
use Rattle.std.specs.Prelude.{List, [], ◌∷◌, codes}
use Rattle.unit_grammar.specs.Signs.{mark, word, words, Start}
use Rattle.unit_grammar.specs.Beginnings.{one_sign, two_signs}
use Rattle.type_grammar.specs.Names.{Name, a_type, a_value_type, a_constant, a_left, an_item}
use Rattle.type_grammar.specs.Types.{type_starts, value_type_starts}
use Rattle.type_grammar.specs.Constants.{constant_starts, left_constant_words}
use Rattle.type_grammar.specs.Items.{item_starts}

abbrev pub starts_of : Name → List Start
starts_of a_type = type_starts
starts_of a_value_type = value_type_starts
starts_of a_constant = constant_starts
starts_of a_left = two_signs (words left_constant_words) (one_sign (mark (codes "("))) ∷ []
starts_of an_item = item_starts

abbrev pub more_of : Name → List Start
more_of a_type = two_signs (word (codes "addrspace")) (one_sign (mark (codes "("))) ∷ []
more_of a_value_type = two_signs (word (codes "addrspace")) (one_sign (mark (codes "("))) ∷ []
more_of a_constant = []
more_of a_left = []
more_of an_item = []
