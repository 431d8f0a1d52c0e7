-- Two tokens tell at each place how the words go on.
use Rattle.std.proofs.Common.{◌≡◌, true, refl}
use Rattle.unit_grammar.specs.Beginnings.{is_told}
use Rattle.type_grammar.specs.Beginnings.{starts_of, more_of}
use Rattle.word_grammar.specs.Linkage.{linkage_words, other_linkage_words, linkage, maybe_linkage, other_linkage, maybe_other_linkage}
use Rattle.word_grammar.specs.Attributes.{attribute_words, attribute_words_with_arguments, maybe_arguments, alignment, attribute, attribute_run, by_value, parameter_word, parameter_run}
use Rattle.word_grammar.specs.Runs.{item_words, item_word, item_run, call_words, call_word, call_run, function_words, function_words_with_arguments, maybe_value, function_word, function_run, instruction_words, instruction_run, dropped_words, dropped_words_with_arguments, words_with_perhaps_arguments, dropped_word, dropped_run}
use Rattle.word_grammar.specs.Places.{section, maybe_group, comdat, placed, next_section, next_comdat, next_placed, next_align, variable_places}
use Rattle.word_grammar.specs.Attached.{head_attach, head_attachments, attach, attachments, dropped_attach, dropped_attachments}

maybe_linkage_told : is_told starts_of more_of maybe_linkage ≡ true
unfolding linkage_words linkage maybe_linkage
maybe_linkage_told = refl

maybe_other_linkage_told : is_told starts_of more_of maybe_other_linkage ≡ true
unfolding other_linkage_words other_linkage maybe_other_linkage
maybe_other_linkage_told = refl

attribute_run_told : is_told starts_of more_of attribute_run ≡ true
unfolding attribute_words attribute_words_with_arguments maybe_arguments alignment attribute attribute_run
attribute_run_told = refl

parameter_run_told : is_told starts_of more_of parameter_run ≡ true
unfolding attribute_words attribute_words_with_arguments maybe_arguments alignment attribute by_value parameter_word parameter_run
parameter_run_told = refl

item_run_told : is_told starts_of more_of item_run ≡ true
unfolding attribute_words attribute_words_with_arguments maybe_arguments alignment attribute item_words item_word item_run
item_run_told = refl

call_run_told : is_told starts_of more_of call_run ≡ true
unfolding attribute_words attribute_words_with_arguments maybe_arguments alignment attribute call_words call_word call_run
call_run_told = refl

function_run_told : is_told starts_of more_of function_run ≡ true
unfolding maybe_arguments function_words function_words_with_arguments maybe_value function_word function_run
function_run_told = refl

instruction_run_told : is_told starts_of more_of instruction_run ≡ true
unfolding instruction_words instruction_run
instruction_run_told = refl

dropped_run_told : is_told starts_of more_of dropped_run ≡ true
unfolding attribute_words attribute_words_with_arguments maybe_arguments alignment item_words function_words function_words_with_arguments instruction_words dropped_words dropped_words_with_arguments words_with_perhaps_arguments dropped_word dropped_run
dropped_run_told = refl

section_told : is_told starts_of more_of section ≡ true
unfolding section
section_told = refl

comdat_told : is_told starts_of more_of comdat ≡ true
unfolding maybe_group comdat
comdat_told = refl

placed_told : is_told starts_of more_of placed ≡ true
unfolding placed
placed_told = refl

next_placed_told : is_told starts_of more_of next_placed ≡ true
unfolding placed next_placed
next_placed_told = refl

variable_places_told : is_told starts_of more_of variable_places ≡ true
unfolding section maybe_group comdat next_section next_comdat next_align variable_places
variable_places_told = refl

head_attachments_told : is_told starts_of more_of head_attachments ≡ true
unfolding head_attach head_attachments
head_attachments_told = refl

attachments_told : is_told starts_of more_of attachments ≡ true
unfolding attach attachments
attachments_told = refl

dropped_attachments_told : is_told starts_of more_of dropped_attachments ≡ true
unfolding dropped_attach dropped_attachments
dropped_attachments_told = refl
