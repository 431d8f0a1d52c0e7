-- How instructions begin and what could make one longer, beside the lines of a printed module and what is left out.
use Rattle.std.proofs.Common.{◌≡◌, true, false, List, [], ◌∷◌, map, codes, refl}
use Rattle.ir_lex.specs.declared.token.Kind.TheVariants.{Local}
use Rattle.unit_grammar.specs.Signs.{of_kind, word, Start, all_apart}
use Rattle.unit_grammar.specs.Beginnings.{one_sign, nullable, starts, more}
use Rattle.unit_grammar.specs.Covers.{all_covered}
use Rattle.type_grammar.specs.Beginnings.{starts_of, more_of}
use Rattle.type_grammar.specs.Types.{type_signs, value_type_signs, left_type_words}
use Rattle.type_grammar.specs.Constants.{constant_words, undefined_words, left_constant_words, constant_signs}
use Rattle.word_grammar.specs.Linkage.{linkage_words}
use Rattle.word_grammar.specs.Attributes.{attribute_words, attribute_words_with_arguments, maybe_arguments, alignment, attribute, by_value, parameter_word, parameter_run}
use Rattle.word_grammar.specs.Runs.{item_words, call_words, call_word, call_run, function_words, function_words_with_arguments, maybe_value, function_word, function_run, instruction_words, instruction_run, dropped_words, dropped_words_with_arguments, words_with_perhaps_arguments, dropped_word}
use Rattle.word_grammar.specs.Places.{placed, next_placed}
use Rattle.word_grammar.specs.Attached.{dropped_attach, dropped_attachments}
use Rattle.instruction_grammar.specs.Operands.{register, fixed, value, typed_value, next_value, typed_pair, next_typed_value, pointer, target, next_target}
use Rattle.instruction_grammar.specs.Operations.{binary_words, operation, binary, compare_words, predicate, compare, two_next_values, select, cast_words, cast_op, new_type, cast, indices, base_and_indices, address}
use Rattle.instruction_grammar.specs.Memory.{accessed, load, store, extracted_part, pair_sign, extract, arm_end, arm, arms, phi, number}
use Rattle.instruction_grammar.specs.Branches.{jump, two_targets, fork, branch_text, branch, case_part, cases, switch_targets, switch, void_return, value_return, return_text, return_part, unreachable}
use Rattle.instruction_grammar.specs.Calls.{tail_words, tail_sign, call_sign, dots, last_dots, more_types, some_types, dots_alone, param_types, perhaps_types, written_params, text_arg, node_arg, meta_arg, written_meta_arg, value_arg, argument, argument_list, arguments, bundle, call_end, perhaps_params, call_type, call}
use Rattle.instruction_grammar.specs.Actions.{action_body, action, plain_action_body, plain_action}
use Rattle.module_grammar.specs.Items.{opaque, defined, type_body}
use Rattle.module_grammar.specs.LeftUnits.{early_word, early_run, left_words, left_word, hash_word, access_words, access_kinds, access, telling_word, plain_head, maybe_distinct, node_word, node_head, left_name, named_head, numbered_head, left_head}
use Rattle.ir_text.specs.Forms.{named_body, named, result_name, number_head, number_form}
use Rattle.ir_text.proofs.InstructionStarts.{action_some, body_some, plain_action_starts, number_told, number_some}
use Rattle.printed_units.proofs.LookLemmas.{line_signs, end_signs}
use Rattle.printed_units.proofs.PartsFound.{IsTold, IsToldBy, StandsAlone}

-- a type or an instruction behind `%r =`

pub named_body_some : nullable named_body ≡ false
unfolding named_body
named_body_some = rw (body_some, action_some) refl

pub record NamedApart : Type 0 where
  pub ends : all_apart (map one_sign line_signs) (more starts_of more_of named) ≡ true
  pub left : all_apart (starts starts_of named_body) (starts starts_of plain_head) ≡ true
  pub number : all_apart (starts starts_of named_body) (starts starts_of number) ≡ true

pub named_apart : NamedApart
unfolding opaque defined type_body named_body named type_signs value_type_signs left_type_words constant_words undefined_words left_constant_words constant_signs register fixed value typed_value next_value typed_pair next_typed_value pointer target next_target dropped_attach dropped_attachments placed next_placed binary_words operation binary compare_words predicate compare two_next_values select cast_words cast_op new_type cast indices base_and_indices address accessed load store extracted_part pair_sign extract arm_end arm arms phi number instruction_words instruction_run attribute_words attribute_words_with_arguments maybe_arguments alignment attribute by_value parameter_word parameter_run call_words call_word call_run function_words function_words_with_arguments maybe_value function_word function_run tail_words tail_sign call_sign dots last_dots more_types some_types dots_alone param_types perhaps_types written_params text_arg node_arg meta_arg written_meta_arg value_arg argument argument_list arguments bundle call_end perhaps_params call_type call action_body action early_word early_run left_words left_word hash_word access_words access_kinds access telling_word plain_head maybe_distinct node_word node_head left_name named_head numbered_head left_head linkage_words item_words dropped_words dropped_words_with_arguments words_with_perhaps_arguments dropped_word
named_apart = record { ends = refl; left = refl; number = refl }

-- instructions without a register

pub action_alone : StandsAlone action line_signs
unfolding type_signs value_type_signs left_type_words constant_words undefined_words left_constant_words constant_signs register fixed value typed_value next_value typed_pair next_typed_value pointer target next_target dropped_attach dropped_attachments placed next_placed binary_words operation binary compare_words predicate compare two_next_values select cast_words cast_op new_type cast indices base_and_indices address accessed load store extracted_part pair_sign extract arm_end arm arms phi number instruction_words instruction_run attribute_words attribute_words_with_arguments maybe_arguments alignment attribute by_value parameter_word parameter_run call_words call_word call_run function_words function_words_with_arguments maybe_value function_word function_run tail_words tail_sign call_sign dots last_dots more_types some_types dots_alone param_types perhaps_types written_params text_arg node_arg meta_arg written_meta_arg value_arg argument argument_list arguments bundle call_end perhaps_params call_type call action_body action early_word early_run left_words left_word hash_word access_words access_kinds access telling_word plain_head maybe_distinct node_word node_head left_name named_head numbered_head left_head linkage_words item_words dropped_words dropped_words_with_arguments words_with_perhaps_arguments dropped_word
action_alone = record { ends = refl; left = refl }

pub plain_action_alone : StandsAlone plain_action end_signs
unfolding type_signs value_type_signs left_type_words constant_words undefined_words left_constant_words constant_signs register fixed value typed_value next_value typed_pair next_typed_value pointer target next_target dropped_attach dropped_attachments placed next_placed accessed store jump two_targets fork branch_text branch case_part cases switch_targets switch void_return value_return return_text return_part unreachable plain_action_body plain_action early_word early_run left_words left_word hash_word access_words access_kinds access telling_word plain_head maybe_distinct node_word node_head left_name named_head numbered_head left_head linkage_words attribute_words attribute_words_with_arguments maybe_arguments alignment item_words function_words function_words_with_arguments instruction_words dropped_words dropped_words_with_arguments words_with_perhaps_arguments dropped_word
plain_action_alone = record { ends = refl; left = refl }

pub store_told_by : IsToldBy store plain_action_starts
unfolding type_signs value_type_signs left_type_words constant_words undefined_words left_constant_words constant_signs register fixed value typed_value next_value typed_pair next_typed_value pointer target next_target dropped_attach dropped_attachments placed next_placed accessed store jump two_targets fork branch_text branch case_part cases switch_targets switch void_return value_return return_text return_part unreachable plain_action_body plain_action
store_told_by = record { is = record { told = refl; some = refl }; covers = refl }

pub store_alone : StandsAlone store line_signs
unfolding type_signs value_type_signs left_type_words constant_words undefined_words left_constant_words constant_signs register fixed value typed_value next_value typed_pair next_typed_value pointer target next_target dropped_attach dropped_attachments placed next_placed accessed store jump two_targets fork branch_text branch case_part cases switch_targets switch void_return value_return return_text return_part unreachable plain_action_body plain_action early_word early_run left_words left_word hash_word access_words access_kinds access telling_word plain_head maybe_distinct node_word node_head left_name named_head numbered_head left_head linkage_words attribute_words attribute_words_with_arguments maybe_arguments alignment item_words function_words function_words_with_arguments instruction_words dropped_words dropped_words_with_arguments words_with_perhaps_arguments dropped_word
store_alone = record { ends = refl; left = refl }

pub attached_ends : all_apart (map one_sign line_signs) (more starts_of more_of dropped_attachments) ≡ true
unfolding dropped_attach dropped_attachments
attached_ends = refl

-- the number of a pointer

-- with what it begins
abbrev pub number_starts : List Start
number_starts = one_sign (of_kind Local) ∷ one_sign (word (codes "ptrtoint")) ∷ []

abbrev pub number_word_starts : List Start
number_word_starts = one_sign (word (codes "ptrtoint")) ∷ []

pub record NumberApart : Type 0 where
  pub told : IsTold number
  pub ends : all_apart (map one_sign line_signs) (more starts_of more_of number_form) ≡ true
  pub covered : all_covered number_starts (starts starts_of number_form) ≡ true
  pub action : all_apart number_word_starts (starts starts_of action) ≡ true

pub number_apart : NumberApart
unfolding result_name number_head number_form type_signs value_type_signs left_type_words constant_words undefined_words left_constant_words constant_signs register fixed value typed_value next_value typed_pair next_typed_value pointer target next_target dropped_attach dropped_attachments placed next_placed binary_words operation binary compare_words predicate compare two_next_values select cast_words cast_op new_type cast indices base_and_indices address accessed load store extracted_part pair_sign extract arm_end arm arms phi number instruction_words instruction_run attribute_words attribute_words_with_arguments maybe_arguments alignment attribute by_value parameter_word parameter_run call_words call_word call_run function_words function_words_with_arguments maybe_value function_word function_run tail_words tail_sign call_sign dots last_dots more_types some_types dots_alone param_types perhaps_types written_params text_arg node_arg meta_arg written_meta_arg value_arg argument argument_list arguments bundle call_end perhaps_params call_type call action_body action
number_apart = record { told = record { told = refl; some = refl }; ends = refl; covered = refl; action = refl }

pub number_told_by : IsToldBy number_form number_starts
number_told_by = record { is = record { told = number_told; some = number_some }; covers = number_apart.covered }

pub type_body_number : all_apart number_word_starts (starts starts_of type_body) ≡ true
unfolding opaque defined type_body type_signs value_type_signs left_type_words
type_body_number = refl
