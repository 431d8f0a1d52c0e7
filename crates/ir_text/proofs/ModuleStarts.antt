-- With which tokens the other units of a module begin.
use Rattle.ir_lex.specs.declared.token.Kind.TheVariants.{Label, Comdat, Meta, SummaryNumber}
use Rattle.std.proofs.Common.{◌≡◌, true, false, List, [], ◌∷◌, map, codes, refl}
use Rattle.unit_grammar.specs.Signs.{Sign, of_kind, mark as a_mark, words as any_of, Start}
use Rattle.unit_grammar.specs.Beginnings.{one_sign, nullable, starts, is_told, more}
use Rattle.unit_grammar.specs.Covers.{all_covered}
use Rattle.type_grammar.specs.Beginnings.{starts_of, more_of}
use Rattle.type_grammar.specs.Types.{value_type_signs, type_signs, left_type_words}
use Rattle.type_grammar.specs.Constants as constants
use Rattle.type_grammar.specs.Items as parts
use Rattle.module_grammar.specs.Headers.{value, source, layout, triple, header}
use Rattle.module_grammar.specs.Items.{opaque, defined, type_body, comdat_words, comdat, group, attributes, label, close}
use Rattle.module_grammar.specs.Metadata.{node, distinct, numbered_node, named_node, metadata}
use Rattle.module_grammar.specs.Tables.{function, next_function, other_functions, functions, table}
use Rattle.module_grammar.specs.Summaries.{entry_head}
use Rattle.module_grammar.specs.Beginnings.{entry_starts as exact_entry_starts}

abbrev pub header_starts : List Start
header_starts = one_sign (any_of (codes "source_filename" ∷ codes "target" ∷ [])) ∷ []

pub header_some : nullable header ≡ false
unfolding value source layout triple header
header_some = refl

pub header_covered : all_covered header_starts (starts starts_of header) ≡ true
unfolding value source layout triple header
header_covered = refl

abbrev pub comdat_starts : List Start
comdat_starts = one_sign (of_kind Comdat) ∷ []

pub comdat_some : nullable comdat ≡ false
unfolding comdat_words comdat
comdat_some = refl

pub comdat_covered : all_covered comdat_starts (starts starts_of comdat) ≡ true
unfolding comdat_words comdat
comdat_covered = refl

abbrev pub attributes_starts : List Start
attributes_starts = one_sign (any_of (codes "attributes" ∷ [])) ∷ []

pub attributes_some : nullable attributes ≡ false
unfolding group attributes
attributes_some = refl

pub attributes_covered : all_covered attributes_starts (starts starts_of attributes) ≡ true
unfolding group attributes
attributes_covered = refl

abbrev pub label_starts : List Start
label_starts = one_sign (of_kind Label) ∷ []

pub label_some : nullable label ≡ false
unfolding label
label_some = refl

pub label_covered : all_covered label_starts (starts starts_of label) ≡ true
unfolding label
label_covered = refl

abbrev pub close_starts : List Start
close_starts = one_sign (a_mark (codes "}")) ∷ []

pub close_some : nullable close ≡ false
unfolding close
close_some = refl

pub close_covered : all_covered close_starts (starts starts_of close) ≡ true
unfolding close
close_covered = refl

abbrev pub metadata_starts : List Start
metadata_starts = one_sign (of_kind Meta) ∷ []

pub metadata_some : nullable metadata ≡ false
unfolding node distinct numbered_node named_node metadata parts.own_items parts.node_item parts.word_item parts.null_item parts.item_list parts.nested parts.constant_item parts.item_body parts.item_signs value_type_signs type_signs left_type_words constants.constant_words constants.undefined_words constants.left_constant_words constants.constant_signs
metadata_some = refl

pub metadata_covered : all_covered metadata_starts (starts starts_of metadata) ≡ true
unfolding node distinct numbered_node named_node metadata parts.own_items parts.node_item parts.word_item parts.null_item parts.item_list parts.nested parts.constant_item parts.item_body parts.item_signs value_type_signs type_signs left_type_words constants.constant_words constants.undefined_words constants.left_constant_words constants.constant_signs
metadata_covered = refl

abbrev pub table_starts : List Start
table_starts = one_sign (any_of (codes "jumptable" ∷ [])) ∷ []

pub table_some : nullable table ≡ false
unfolding function next_function other_functions functions table
table_some = refl

pub table_covered : all_covered table_starts (starts starts_of table) ≡ true
unfolding function next_function other_functions functions table
table_covered = refl

abbrev pub entry_starts : List Start
entry_starts = one_sign (of_kind SummaryNumber) ∷ []

pub entry_covered : all_covered entry_starts exact_entry_starts ≡ true
unfolding entry_head
entry_covered = refl
