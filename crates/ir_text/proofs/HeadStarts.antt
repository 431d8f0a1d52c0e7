-- With which tokens heads and variables begin.
use Rattle.ir_lex.specs.declared.token.Kind.TheVariants.{Global}
use Rattle.std.proofs.Common.{◌≡◌, true, false, List, [], ◌∷◌, map, codes, refl}
use Rattle.unit_grammar.specs.Signs.{Sign, of_kind, mark as a_mark, words as any_of, Start}
use Rattle.unit_grammar.specs.Beginnings.{one_sign, nullable, starts, is_told, more}
use Rattle.unit_grammar.specs.Covers.{all_covered}
use Rattle.type_grammar.specs.Beginnings.{starts_of, more_of}
use Rattle.type_grammar.specs.Types as types
use Rattle.type_grammar.specs.Constants as constants
use Rattle.word_grammar.specs.Linkage.{linkage_words, other_linkage_words, linkage, maybe_linkage, other_linkage, maybe_other_linkage}
use Rattle.word_grammar.specs.Attributes.{attribute_words, attribute_words_with_arguments, maybe_arguments, alignment, attribute, attribute_run, by_value, parameter_word, parameter_run}
use Rattle.word_grammar.specs.Runs.{item_words, item_word, item_run, function_words, function_words_with_arguments, maybe_value, function_word, function_run}
use Rattle.word_grammar.specs.Places.{section, maybe_group, comdat, placed, next_section, next_comdat, next_align, variable_places}
use Rattle.word_grammar.specs.Attached.{head_attach, head_attachments, attach, attachments}
use Rattle.head_grammar.specs.Parameters.{metadata_type, parameter_type, maybe_local, parameter, some_parameters, next_dots, only_dots, listed, parameters}
use Rattle.head_grammar.specs.Extras.{constant_words, with_constant, collector, extra, extras, all_extras, at_section, at_comdat, at_alignment, put, attached, all_attached}
use Rattle.head_grammar.specs.Heads.{begun, declare_form, define_form}
use Rattle.head_grammar.specs.Variables.{kind_words, kind, external, maybe_constant, initial, kept, variable_form}

abbrev pub declare_form_starts : List Start
declare_form_starts = one_sign (any_of (codes "declare" ∷ [])) ∷ []

pub declare_form_some : nullable declare_form ≡ false
unfolding types.value_type_signs types.type_signs types.left_type_words constants.constant_signs constants.constant_words constants.undefined_words constants.left_constant_words linkage_words other_linkage_words linkage maybe_linkage other_linkage maybe_other_linkage attribute_words attribute_words_with_arguments maybe_arguments alignment attribute attribute_run by_value parameter_word parameter_run item_words item_word item_run function_words function_words_with_arguments maybe_value function_word function_run section maybe_group comdat placed next_section next_comdat next_align variable_places head_attach head_attachments attach attachments metadata_type parameter_type maybe_local parameter some_parameters next_dots only_dots listed parameters constant_words with_constant collector extra extras all_extras at_section at_comdat at_alignment put attached all_attached begun declare_form define_form kind_words kind external maybe_constant initial kept variable_form
declare_form_some = refl

pub declare_form_covered : all_covered declare_form_starts (starts starts_of declare_form) ≡ true
unfolding types.value_type_signs types.type_signs types.left_type_words constants.constant_signs constants.constant_words constants.undefined_words constants.left_constant_words linkage_words other_linkage_words linkage maybe_linkage other_linkage maybe_other_linkage attribute_words attribute_words_with_arguments maybe_arguments alignment attribute attribute_run by_value parameter_word parameter_run item_words item_word item_run function_words function_words_with_arguments maybe_value function_word function_run section maybe_group comdat placed next_section next_comdat next_align variable_places head_attach head_attachments attach attachments metadata_type parameter_type maybe_local parameter some_parameters next_dots only_dots listed parameters constant_words with_constant collector extra extras all_extras at_section at_comdat at_alignment put attached all_attached begun declare_form define_form kind_words kind external maybe_constant initial kept variable_form
declare_form_covered = refl

abbrev pub define_form_starts : List Start
define_form_starts = one_sign (any_of (codes "define" ∷ [])) ∷ []

pub define_form_some : nullable define_form ≡ false
unfolding types.value_type_signs types.type_signs types.left_type_words constants.constant_signs constants.constant_words constants.undefined_words constants.left_constant_words linkage_words other_linkage_words linkage maybe_linkage other_linkage maybe_other_linkage attribute_words attribute_words_with_arguments maybe_arguments alignment attribute attribute_run by_value parameter_word parameter_run item_words item_word item_run function_words function_words_with_arguments maybe_value function_word function_run section maybe_group comdat placed next_section next_comdat next_align variable_places head_attach head_attachments attach attachments metadata_type parameter_type maybe_local parameter some_parameters next_dots only_dots listed parameters constant_words with_constant collector extra extras all_extras at_section at_comdat at_alignment put attached all_attached begun declare_form define_form kind_words kind external maybe_constant initial kept variable_form
define_form_some = refl

pub define_form_covered : all_covered define_form_starts (starts starts_of define_form) ≡ true
unfolding types.value_type_signs types.type_signs types.left_type_words constants.constant_signs constants.constant_words constants.undefined_words constants.left_constant_words linkage_words other_linkage_words linkage maybe_linkage other_linkage maybe_other_linkage attribute_words attribute_words_with_arguments maybe_arguments alignment attribute attribute_run by_value parameter_word parameter_run item_words item_word item_run function_words function_words_with_arguments maybe_value function_word function_run section maybe_group comdat placed next_section next_comdat next_align variable_places head_attach head_attachments attach attachments metadata_type parameter_type maybe_local parameter some_parameters next_dots only_dots listed parameters constant_words with_constant collector extra extras all_extras at_section at_comdat at_alignment put attached all_attached begun declare_form define_form kind_words kind external maybe_constant initial kept variable_form
define_form_covered = refl

abbrev pub variable_form_starts : List Start
variable_form_starts = one_sign (of_kind Global) ∷ []

pub variable_form_some : nullable variable_form ≡ false
unfolding types.value_type_signs types.type_signs types.left_type_words constants.constant_signs constants.constant_words constants.undefined_words constants.left_constant_words linkage_words other_linkage_words linkage maybe_linkage other_linkage maybe_other_linkage attribute_words attribute_words_with_arguments maybe_arguments alignment attribute attribute_run by_value parameter_word parameter_run item_words item_word item_run function_words function_words_with_arguments maybe_value function_word function_run section maybe_group comdat placed next_section next_comdat next_align variable_places head_attach head_attachments attach attachments metadata_type parameter_type maybe_local parameter some_parameters next_dots only_dots listed parameters constant_words with_constant collector extra extras all_extras at_section at_comdat at_alignment put attached all_attached begun declare_form define_form kind_words kind external maybe_constant initial kept variable_form
variable_form_some = refl

pub variable_form_covered : all_covered variable_form_starts (starts starts_of variable_form) ≡ true
unfolding types.value_type_signs types.type_signs types.left_type_words constants.constant_signs constants.constant_words constants.undefined_words constants.left_constant_words linkage_words other_linkage_words linkage maybe_linkage other_linkage maybe_other_linkage attribute_words attribute_words_with_arguments maybe_arguments alignment attribute attribute_run by_value parameter_word parameter_run item_words item_word item_run function_words function_words_with_arguments maybe_value function_word function_run section maybe_group comdat placed next_section next_comdat next_align variable_places head_attach head_attachments attach attachments metadata_type parameter_type maybe_local parameter some_parameters next_dots only_dots listed parameters constant_words with_constant collector extra extras all_extras at_section at_comdat at_alignment put attached all_attached begun declare_form define_form kind_words kind external maybe_constant initial kept variable_form
variable_form_covered = refl
