-- Instructions are told by two tokens at each place, so they are read exactly.
use Rattle.std.proofs.Common.{◌≡◌, true, false, refl}
use Rattle.unit_grammar.specs.Beginnings.{is_told, starts, more, nullable}
use Rattle.unit_grammar.specs.Exact.{Exact}
use Rattle.unit_grammar.specs.Readers.{read}
use Rattle.unit_grammar.proofs.GrammarLaws.{is_exact}
use Rattle.type_grammar.specs.Levels.{IsAt, IsAny, OpensAt, levels}
use Rattle.type_grammar.specs.Reading.{reads}
use Rattle.type_grammar.specs.Beginnings.{starts_of, more_of}
use Rattle.type_grammar.specs.Types.{type_signs, value_type_signs, left_type_words}
use Rattle.type_grammar.specs.Constants.{constant_words, undefined_words, left_constant_words, constant_signs}
use Rattle.type_grammar.proofs.LevelLaws.{any}
use Rattle.word_grammar.specs.Attributes.{attribute_words, attribute_words_with_arguments, maybe_arguments, alignment, attribute, by_value, parameter_word, parameter_run}
use Rattle.word_grammar.specs.Runs.{call_words, call_word, call_run, function_words, function_words_with_arguments, maybe_value, function_word, function_run, instruction_words, instruction_run}
use Rattle.word_grammar.specs.Places.{placed, next_placed}
use Rattle.word_grammar.specs.Attached.{dropped_attach, dropped_attachments}
use Rattle.instruction_grammar.specs.Operands.{register, fixed, value, typed_value, next_value, typed_pair, next_typed_value, pointer, target, next_target}
use Rattle.instruction_grammar.specs.Operations.{binary_words, operation, binary, compare_words, predicate, compare, two_next_values, select, cast_words, cast_op, new_type, cast, indices, base_and_indices, address}
use Rattle.instruction_grammar.specs.Memory.{accessed, load, store, extracted_part, pair_sign, extract, arm_end, arm, arms, phi, number}
use Rattle.instruction_grammar.specs.Branches.{jump, two_targets, fork, branch_text, branch, case_part, cases, switch_targets, switch, void_return, value_return, return_text, return_part, unreachable}
use Rattle.instruction_grammar.specs.Calls.{tail_words, tail_sign, call_sign, dots, last_dots, more_types, some_types, dots_alone, param_types, perhaps_types, written_params, text_arg, node_arg, meta_arg, written_meta_arg, value_arg, argument, argument_list, arguments, bundle, call_end, perhaps_params, call_type, call}
use Rattle.instruction_grammar.specs.Actions.{action_body, action, plain_action_body, plain_action, IsAction, IsAnyAction, OpensAction, IsPlainAction, IsAnyPlainAction, OpensPlainAction}

pub action_told : is_told starts_of more_of action ≡ true
unfolding type_signs value_type_signs left_type_words constant_words undefined_words left_constant_words constant_signs register fixed value typed_value next_value typed_pair next_typed_value pointer target next_target dropped_attach dropped_attachments placed next_placed binary_words operation binary compare_words predicate compare two_next_values select cast_words cast_op new_type cast indices base_and_indices address accessed load store extracted_part pair_sign extract arm_end arm arms phi number instruction_words instruction_run attribute_words attribute_words_with_arguments maybe_arguments alignment attribute by_value parameter_word parameter_run call_words call_word call_run function_words function_words_with_arguments maybe_value function_word function_run tail_words tail_sign call_sign dots last_dots more_types some_types dots_alone param_types perhaps_types written_params text_arg node_arg meta_arg written_meta_arg value_arg argument argument_list arguments bundle call_end perhaps_params call_type call action_body action
action_told = refl

pub plain_action_told : is_told starts_of more_of plain_action ≡ true
unfolding type_signs value_type_signs left_type_words constant_words undefined_words left_constant_words constant_signs register fixed value typed_value next_value typed_pair next_typed_value pointer target next_target dropped_attach dropped_attachments placed next_placed accessed store jump two_targets fork branch_text branch case_part cases switch_targets switch void_return value_return return_text return_part unreachable plain_action_body plain_action
plain_action_told = refl

pub action_exact : Exact (IsAction levels) IsAnyAction (Unit {0}) (OpensAction levels) (read (reads levels) action) (starts starts_of action) (more starts_of more_of action) (nullable action)
action_exact = is_exact (IsAt levels) IsAny (Unit {0}) (OpensAt levels) (reads levels) starts_of more_of (any levels) action action_told

pub plain_action_exact : Exact (IsPlainAction levels) IsAnyPlainAction (Unit {0}) (OpensPlainAction levels) (read (reads levels) plain_action) (starts starts_of plain_action) (more starts_of more_of plain_action) (nullable plain_action)
plain_action_exact = is_exact (IsAt levels) IsAny (Unit {0}) (OpensAt levels) (reads levels) starts_of more_of (any levels) plain_action plain_action_told
