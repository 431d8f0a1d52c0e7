-- Two tokens tell at each place how heads and variables go on, so that they are read exactly.
use Rattle.std.proofs.Common.{◌≡◌, ℕ, true, refl}
use Rattle.unit_grammar.specs.Beginnings.{is_told, nullable, starts, more}
use Rattle.unit_grammar.specs.Exact.{Exact}
use Rattle.unit_grammar.specs.Grammar.{Is, Opens}
use Rattle.unit_grammar.specs.Readers.{read}
use Rattle.unit_grammar.proofs.GrammarLaws.{is_exact}
use Rattle.type_grammar.specs.Types as types
use Rattle.type_grammar.specs.Constants as constants
use Rattle.type_grammar.specs.Levels.{IsAt, IsAny, OpensAt}
use Rattle.type_grammar.specs.Reading.{reads}
use Rattle.type_grammar.specs.Beginnings.{starts_of, more_of}
use Rattle.type_grammar.proofs.LevelLaws.{any}
use Rattle.word_grammar.specs.Linkage.{linkage_words, other_linkage_words, linkage, maybe_linkage, other_linkage, maybe_other_linkage}
use Rattle.word_grammar.specs.Attributes.{attribute_words, attribute_words_with_arguments, maybe_arguments, alignment, attribute, attribute_run, by_value, parameter_word, parameter_run}
use Rattle.word_grammar.specs.Runs.{item_words, item_word, item_run, function_words, function_words_with_arguments, maybe_value, function_word, function_run}
use Rattle.word_grammar.specs.Places.{section, maybe_group, comdat, placed, next_section, next_comdat, next_align, variable_places}
use Rattle.word_grammar.specs.Attached.{head_attach, head_attachments, attach, attachments}
use Rattle.head_grammar.specs.Parameters.{metadata_type, parameter_type, maybe_local, parameter, some_parameters, next_dots, only_dots, listed, parameters}
use Rattle.head_grammar.specs.Extras.{constant_words, with_constant, collector, extra, extras, all_extras, at_section, at_comdat, at_alignment, put, attached, all_attached}
use Rattle.head_grammar.specs.Heads.{begun, declare_form, define_form}
use Rattle.head_grammar.specs.Variables.{kind_words, kind, external, maybe_constant, initial, kept, variable_form}

pub declare_told : is_told starts_of more_of declare_form ≡ true
unfolding types.value_type_signs types.type_signs types.left_type_words constants.constant_signs constants.constant_words constants.undefined_words constants.left_constant_words linkage_words other_linkage_words linkage maybe_linkage other_linkage maybe_other_linkage attribute_words attribute_words_with_arguments maybe_arguments alignment attribute attribute_run by_value parameter_word parameter_run item_words item_word item_run function_words function_words_with_arguments maybe_value function_word function_run section maybe_group comdat placed next_section next_comdat next_align variable_places head_attach head_attachments attach attachments metadata_type parameter_type maybe_local parameter some_parameters next_dots only_dots listed parameters constant_words with_constant collector extra extras all_extras at_section at_comdat at_alignment put attached all_attached begun declare_form define_form kind_words kind external maybe_constant initial kept variable_form
declare_told = refl

pub declare_exact : (n : ℕ) →
    Exact (Is (IsAt n) declare_form) (Is IsAny declare_form) (Unit {0}) (Opens (IsAt n) (OpensAt n) declare_form) (read (reads n) declare_form) (starts starts_of declare_form) (more starts_of more_of declare_form) (nullable declare_form)
declare_exact n = is_exact (IsAt n) IsAny (Unit {0}) (OpensAt n) (reads n) starts_of more_of (any n) declare_form declare_told

pub define_told : is_told starts_of more_of define_form ≡ true
unfolding types.value_type_signs types.type_signs types.left_type_words constants.constant_signs constants.constant_words constants.undefined_words constants.left_constant_words linkage_words other_linkage_words linkage maybe_linkage other_linkage maybe_other_linkage attribute_words attribute_words_with_arguments maybe_arguments alignment attribute attribute_run by_value parameter_word parameter_run item_words item_word item_run function_words function_words_with_arguments maybe_value function_word function_run section maybe_group comdat placed next_section next_comdat next_align variable_places head_attach head_attachments attach attachments metadata_type parameter_type maybe_local parameter some_parameters next_dots only_dots listed parameters constant_words with_constant collector extra extras all_extras at_section at_comdat at_alignment put attached all_attached begun declare_form define_form kind_words kind external maybe_constant initial kept variable_form
define_told = refl

pub define_exact : (n : ℕ) →
    Exact (Is (IsAt n) define_form) (Is IsAny define_form) (Unit {0}) (Opens (IsAt n) (OpensAt n) define_form) (read (reads n) define_form) (starts starts_of define_form) (more starts_of more_of define_form) (nullable define_form)
define_exact n = is_exact (IsAt n) IsAny (Unit {0}) (OpensAt n) (reads n) starts_of more_of (any n) define_form define_told

pub variable_told : is_told starts_of more_of variable_form ≡ true
unfolding types.value_type_signs types.type_signs types.left_type_words constants.constant_signs constants.constant_words constants.undefined_words constants.left_constant_words linkage_words other_linkage_words linkage maybe_linkage other_linkage maybe_other_linkage attribute_words attribute_words_with_arguments maybe_arguments alignment attribute attribute_run by_value parameter_word parameter_run item_words item_word item_run function_words function_words_with_arguments maybe_value function_word function_run section maybe_group comdat placed next_section next_comdat next_align variable_places head_attach head_attachments attach attachments metadata_type parameter_type maybe_local parameter some_parameters next_dots only_dots listed parameters constant_words with_constant collector extra extras all_extras at_section at_comdat at_alignment put attached all_attached begun declare_form define_form kind_words kind external maybe_constant initial kept variable_form
variable_told = refl

pub variable_exact : (n : ℕ) →
    Exact (Is (IsAt n) variable_form) (Is IsAny variable_form) (Unit {0}) (Opens (IsAt n) (OpensAt n) variable_form) (read (reads n) variable_form) (starts starts_of variable_form) (more starts_of more_of variable_form) (nullable variable_form)
variable_exact n = is_exact (IsAt n) IsAny (Unit {0}) (OpensAt n) (reads n) starts_of more_of (any n) variable_form variable_told
