-- How the other lines of a printed module begin and what could make one longer, beside one another and what is left out.
use Rattle.std.proofs.Common.{◌≡◌, true, List, [], ◌∷◌, ◌++◌, map, codes, refl}
use Rattle.ir_lex.specs.declared.token.Kind.TheVariants.{Global, Local}
use Rattle.unit_grammar.specs.Signs.{Sign, of_kind, mark, word, words, all_apart}
use Rattle.unit_grammar.specs.Beginnings.{one_sign, starts, more, is_told}
use Rattle.unit_grammar.specs.Covers.{sign_covers}
use Rattle.type_grammar.specs.Beginnings.{starts_of, more_of}
use Rattle.type_grammar.specs.Types as types
use Rattle.type_grammar.specs.Constants as constants
use Rattle.word_grammar.specs.Linkage.{linkage_words, other_linkage_words, linkage, maybe_linkage, other_linkage, maybe_other_linkage}
use Rattle.word_grammar.specs.Attributes.{attribute_words, attribute_words_with_arguments, maybe_arguments, alignment, attribute, attribute_run, by_value, parameter_word, parameter_run}
use Rattle.word_grammar.specs.Runs.{item_words, item_word, item_run, function_words, function_words_with_arguments, maybe_value, function_word, function_run, instruction_words, dropped_words, dropped_words_with_arguments, words_with_perhaps_arguments, dropped_word}
use Rattle.word_grammar.specs.Places.{section, maybe_group, comdat, placed, next_section, next_comdat, next_align, variable_places}
use Rattle.word_grammar.specs.Attached.{head_attach, head_attachments, attach, attachments}
use Rattle.head_grammar.specs.Parameters.{metadata_type, parameter_type, maybe_local, parameter, some_parameters, next_dots, only_dots, listed, parameters}
use Rattle.head_grammar.specs.Extras.{constant_words, with_constant, collector, extra, extras, all_extras, at_section, at_comdat, at_alignment, put, attached, all_attached}
use Rattle.head_grammar.specs.Heads.{begun, declare_form, define_form}
use Rattle.head_grammar.specs.Variables.{kind_words, kind, external, maybe_constant, initial, kept, variable_form}
use Rattle.module_grammar.specs.Items.{label, close}
use Rattle.module_grammar.specs.Tables.{function, next_function, other_functions, functions, table}
use Rattle.module_grammar.specs.LeftUnits.{early_word, early_run, left_words, left_word, hash_word, access_words, access_kinds, access, telling_word, plain_head, maybe_distinct, node_word, node_head, left_name, named_head, numbered_head, left_head}
use Rattle.module_grammar.specs.Beginnings.{entry_starts}
use Rattle.module_grammar.specs.Summaries.{entry_head}
use Rattle.ir_text.proofs.ModuleStarts.{table_starts}
use Rattle.printed_units.proofs.LookLemmas.{line_signs}
use Rattle.printed_units.proofs.PartsFound.{IsTold, StandsAlone}

-- labels and ends of functions, and heads

pub label_alone : StandsAlone label line_signs
unfolding label early_word early_run left_words left_word hash_word access_words access_kinds access telling_word plain_head maybe_distinct node_word node_head left_name named_head numbered_head left_head linkage_words attribute_words attribute_words_with_arguments maybe_arguments alignment item_words function_words function_words_with_arguments instruction_words dropped_words dropped_words_with_arguments words_with_perhaps_arguments dropped_word
label_alone = record { ends = refl; left = refl }

pub close_alone : StandsAlone close line_signs
unfolding close early_word early_run left_words left_word hash_word access_words access_kinds access telling_word plain_head maybe_distinct node_word node_head left_name named_head numbered_head left_head linkage_words attribute_words attribute_words_with_arguments maybe_arguments alignment item_words function_words function_words_with_arguments instruction_words dropped_words dropped_words_with_arguments words_with_perhaps_arguments dropped_word
close_alone = record { ends = refl; left = refl }

pub declare_alone : StandsAlone declare_form line_signs
unfolding types.value_type_signs types.type_signs types.left_type_words constants.constant_signs constants.constant_words constants.undefined_words constants.left_constant_words linkage_words other_linkage_words linkage maybe_linkage other_linkage maybe_other_linkage attribute_words attribute_words_with_arguments maybe_arguments alignment attribute attribute_run by_value parameter_word parameter_run item_words item_word item_run function_words function_words_with_arguments maybe_value function_word function_run section maybe_group comdat placed next_section next_comdat next_align variable_places head_attach head_attachments attach attachments metadata_type parameter_type maybe_local parameter some_parameters next_dots only_dots listed parameters constant_words with_constant collector extra extras all_extras at_section at_comdat at_alignment put attached all_attached begun declare_form define_form kind_words kind external maybe_constant initial kept variable_form early_word early_run left_words left_word hash_word access_words access_kinds access telling_word plain_head maybe_distinct node_word node_head left_name named_head numbered_head left_head instruction_words dropped_words dropped_words_with_arguments words_with_perhaps_arguments dropped_word
declare_alone = record { ends = refl; left = refl }

pub define_alone : StandsAlone define_form line_signs
unfolding types.value_type_signs types.type_signs types.left_type_words constants.constant_signs constants.constant_words constants.undefined_words constants.left_constant_words linkage_words other_linkage_words linkage maybe_linkage other_linkage maybe_other_linkage attribute_words attribute_words_with_arguments maybe_arguments alignment attribute attribute_run by_value parameter_word parameter_run item_words item_word item_run function_words function_words_with_arguments maybe_value function_word function_run section maybe_group comdat placed next_section next_comdat next_align variable_places head_attach head_attachments attach attachments metadata_type parameter_type maybe_local parameter some_parameters next_dots only_dots listed parameters constant_words with_constant collector extra extras all_extras at_section at_comdat at_alignment put attached all_attached begun declare_form define_form kind_words kind external maybe_constant initial kept variable_form early_word early_run left_words left_word hash_word access_words access_kinds access telling_word plain_head maybe_distinct node_word node_head left_name named_head numbered_head left_head instruction_words dropped_words dropped_words_with_arguments words_with_perhaps_arguments dropped_word
define_alone = record { ends = refl; left = refl }

-- variables

abbrev pub kind_sign : Sign
kind_sign = words (codes "global" ∷ codes "constant" ∷ [])

abbrev pub kept_signs : List Sign
kept_signs = kind_sign ∷ []

pub record VariableApart : Type 0 where
  pub kept_told : is_told starts_of more_of kept ≡ true
  pub kept_ends : all_apart (one_sign (mark (codes ",")) ∷ []) (more starts_of more_of kept) ≡ true
  pub places_told : is_told starts_of more_of variable_places ≡ true
  pub places_ends : all_apart (map one_sign line_signs) (more starts_of more_of variable_places) ≡ true
  pub attachments_told : is_told starts_of more_of attachments ≡ true
  pub attachments_ends : all_apart (map one_sign line_signs) (more starts_of more_of attachments) ≡ true

pub variable_apart : VariableApart
unfolding types.value_type_signs types.type_signs types.left_type_words constants.constant_signs constants.constant_words constants.undefined_words constants.left_constant_words linkage_words other_linkage_words linkage maybe_linkage other_linkage maybe_other_linkage attribute_words attribute_words_with_arguments maybe_arguments alignment attribute attribute_run by_value parameter_word parameter_run item_words item_word item_run function_words function_words_with_arguments maybe_value function_word function_run section maybe_group comdat placed next_section next_comdat next_align variable_places head_attach head_attachments attach attachments metadata_type parameter_type maybe_local parameter some_parameters next_dots only_dots listed parameters constant_words with_constant collector extra extras all_extras at_section at_comdat at_alignment put attached all_attached begun declare_form define_form kind_words kind external maybe_constant initial kept variable_form
variable_apart = record {
  kept_told = refl;
  kept_ends = refl;
  places_told = refl;
  places_ends = refl;
  attachments_told = refl;
  attachments_ends = refl;
}

-- tables

pub table_ends : all_apart (map one_sign line_signs) (more starts_of more_of table) ≡ true
unfolding function next_function other_functions functions table
table_ends = refl

-- what is left out

pub left_number : sign_covers (words left_words) (word (codes "ptrtoint")) ≡ true
unfolding left_words
left_number = refl

pub left_table : sign_covers (words left_words) (word (codes "jumptable")) ≡ true
unfolding left_words
left_table = refl

-- an entry of a summary
pub entry_apart : all_apart (one_sign (of_kind Local) ∷ []) entry_starts ≡ true
unfolding entry_head
entry_apart = refl

-- the heads of what is left out: `plain` of no name, and the others of a name or a number
pub record LeftApart : Type 0 where
  pub plain_told : IsTold plain_head
  pub telling_told : IsTold telling_word
  pub named_told : IsTold named_head
  pub numbered_told : IsTold numbered_head
  pub plain_ends : more starts_of more_of plain_head ≡ []
  pub plain_kept : all_apart (map one_sign kept_signs) (starts starts_of plain_head) ≡ true
  pub plain_names : all_apart (map one_sign (of_kind Local ∷ of_kind Global ∷ [])) (starts starts_of plain_head) ≡ true
  pub early_told : is_told starts_of more_of early_run ≡ true
  pub early_kept : all_apart (map one_sign kept_signs) (more starts_of more_of early_run) ≡ true
  pub telling_kept : all_apart (map one_sign kept_signs) (starts starts_of telling_word) ≡ true
  pub others_words : all_apart table_starts (starts starts_of named_head ++ starts starts_of numbered_head) ≡ true
  pub numbered_names : all_apart (map one_sign (of_kind Local ∷ of_kind Global ∷ [])) (starts starts_of numbered_head) ≡ true

pub left_apart : LeftApart
unfolding early_word early_run left_words left_word hash_word access_words access_kinds access telling_word plain_head maybe_distinct node_word node_head left_name named_head numbered_head left_head linkage_words attribute_words attribute_words_with_arguments maybe_arguments alignment item_words function_words function_words_with_arguments instruction_words dropped_words dropped_words_with_arguments words_with_perhaps_arguments dropped_word
left_apart = record {
  plain_told = record { told = refl; some = refl };
  telling_told = record { told = refl; some = refl };
  named_told = record { told = refl; some = refl };
  numbered_told = record { told = refl; some = refl };
  plain_ends = refl;
  plain_kept = refl;
  plain_names = refl;
  early_told = refl;
  early_kept = refl;
  telling_kept = refl;
  others_words = refl;
  numbered_names = refl;
}
