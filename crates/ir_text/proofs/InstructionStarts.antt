-- With which words instructions begin.
use Rattle.std.proofs.Common.{◌≡◌, true, false, List, [], ◌∷◌, map, codes, refl}
use Rattle.unit_grammar.specs.Signs.{Sign, of_kind, mark as a_mark, words as any_of, Start}
use Rattle.unit_grammar.specs.Beginnings.{one_sign, nullable, starts, is_told, more}
use Rattle.unit_grammar.specs.Covers.{all_covered}
use Rattle.unit_grammar.specs.Pieces.{Piece}
use Rattle.unit_grammar.specs.Signs.{all_apart}
use Rattle.unit_grammar.specs.Grammar.{Opens}
use Rattle.type_grammar.specs.Levels.{IsAt, OpensAt, levels}
use Rattle.module_grammar.specs.Items.{opaque, defined, type_body}
use Rattle.ir_text.specs.Forms.{result_name, number_head, number_form}
use Rattle.type_grammar.specs.Beginnings.{starts_of, more_of}
use Rattle.type_grammar.specs.Types.{type_signs, value_type_signs, left_type_words}
use Rattle.type_grammar.specs.Constants.{constant_words, undefined_words, left_constant_words, constant_signs}
use Rattle.word_grammar.specs.Attributes.{attribute_words, attribute_words_with_arguments, maybe_arguments, alignment, attribute, by_value, parameter_word, parameter_run}
use Rattle.word_grammar.specs.Runs.{call_words, call_word, call_run, function_words, function_words_with_arguments, maybe_value, function_word, function_run, instruction_words, instruction_run}
use Rattle.word_grammar.specs.Places.{placed, next_placed}
use Rattle.word_grammar.specs.Attached.{dropped_attach, dropped_attachments}
use Rattle.instruction_grammar.specs.Operands.{register, fixed, value, typed_value, next_value, typed_pair, next_typed_value, pointer, target, next_target}
use Rattle.instruction_grammar.specs.Operations.{binary_words, operation, binary, compare_words, predicate, compare, two_next_values, select, cast_words, cast_op, new_type, cast, indices, base_and_indices, address}
use Rattle.instruction_grammar.specs.Memory.{accessed, load, store, extracted_part, pair_sign, extract, arm_end, arm, arms, phi, number}
use Rattle.instruction_grammar.specs.Branches.{jump, two_targets, fork, branch_text, branch, case_part, cases, switch_targets, switch, void_return, value_return, return_text, return_part, unreachable}
use Rattle.instruction_grammar.specs.Calls.{tail_words, tail_sign, call_sign, dots, last_dots, more_types, some_types, dots_alone, param_types, perhaps_types, written_params, text_arg, node_arg, meta_arg, written_meta_arg, value_arg, argument, argument_list, arguments, bundle, call_end, perhaps_params, call_type, call}
use Rattle.instruction_grammar.specs.Actions.{action_body, action, plain_action_body, plain_action, IsAction, IsAnyAction, OpensAction, IsPlainAction, IsAnyPlainAction, OpensPlainAction}

abbrev pub action_starts : List Start
action_starts = one_sign (any_of (codes "tail" ∷ codes "notail" ∷ codes "call" ∷ codes "load" ∷ codes "getelementptr" ∷ codes "select" ∷ codes "zext" ∷ codes "sext" ∷ codes "trunc" ∷ codes "icmp" ∷ codes "extractvalue" ∷ codes "phi" ∷ codes "add" ∷ codes "sub" ∷ codes "mul" ∷ codes "udiv" ∷ codes "sdiv" ∷ codes "urem" ∷ codes "srem" ∷ codes "shl" ∷ codes "lshr" ∷ codes "ashr" ∷ codes "and" ∷ codes "or" ∷ codes "xor" ∷ [])) ∷ []

pub action_some : nullable action ≡ false
unfolding value_type_signs type_signs left_type_words constant_words undefined_words left_constant_words constant_signs register fixed value typed_value next_value typed_pair next_typed_value pointer target next_target dropped_attach dropped_attachments placed next_placed binary_words operation binary compare_words predicate compare two_next_values select cast_words cast_op new_type cast indices base_and_indices address accessed load store extracted_part pair_sign extract arm_end arm arms phi number instruction_words instruction_run attribute_words attribute_words_with_arguments maybe_arguments alignment attribute by_value parameter_word parameter_run call_words call_word call_run function_words function_words_with_arguments maybe_value function_word function_run tail_words tail_sign call_sign dots last_dots more_types some_types dots_alone param_types perhaps_types written_params text_arg node_arg meta_arg written_meta_arg value_arg argument argument_list arguments bundle call_end perhaps_params call_type call action_body action
action_some = refl

pub action_covered : all_covered action_starts (starts starts_of action) ≡ true
unfolding value_type_signs type_signs left_type_words constant_words undefined_words left_constant_words constant_signs register fixed value typed_value next_value typed_pair next_typed_value pointer target next_target dropped_attach dropped_attachments placed next_placed binary_words operation binary compare_words predicate compare two_next_values select cast_words cast_op new_type cast indices base_and_indices address accessed load store extracted_part pair_sign extract arm_end arm arms phi number instruction_words instruction_run attribute_words attribute_words_with_arguments maybe_arguments alignment attribute by_value parameter_word parameter_run call_words call_word call_run function_words function_words_with_arguments maybe_value function_word function_run tail_words tail_sign call_sign dots last_dots more_types some_types dots_alone param_types perhaps_types written_params text_arg node_arg meta_arg written_meta_arg value_arg argument argument_list arguments bundle call_end perhaps_params call_type call action_body action
action_covered = refl

abbrev pub plain_action_starts : List Start
plain_action_starts = one_sign (any_of (codes "store" ∷ codes "br" ∷ codes "switch" ∷ codes "ret" ∷ codes "unreachable" ∷ [])) ∷ []

pub plain_action_some : nullable plain_action ≡ false
unfolding value_type_signs type_signs left_type_words constant_words undefined_words left_constant_words constant_signs register fixed value typed_value next_value typed_pair next_typed_value pointer target next_target dropped_attach dropped_attachments placed next_placed accessed store jump two_targets fork branch_text branch case_part cases switch_targets switch void_return value_return return_text return_part unreachable plain_action_body plain_action
plain_action_some = refl

pub plain_action_covered : all_covered plain_action_starts (starts starts_of plain_action) ≡ true
unfolding value_type_signs type_signs left_type_words constant_words undefined_words left_constant_words constant_signs register fixed value typed_value next_value typed_pair next_typed_value pointer target next_target dropped_attach dropped_attachments placed next_placed accessed store jump two_targets fork branch_text branch case_part cases switch_targets switch void_return value_return return_text return_part unreachable plain_action_body plain_action
plain_action_covered = refl

-- a type and an instruction begin apart
pub body_apart : all_apart (starts starts_of type_body) (starts starts_of action) ≡ true
unfolding opaque defined type_body value_type_signs type_signs left_type_words constant_words undefined_words left_constant_words constant_signs register fixed value typed_value next_value typed_pair next_typed_value pointer target next_target dropped_attach dropped_attachments placed next_placed binary_words operation binary compare_words predicate compare two_next_values select cast_words cast_op new_type cast indices base_and_indices address accessed load store extracted_part pair_sign extract arm_end arm arms phi number instruction_words instruction_run attribute_words attribute_words_with_arguments maybe_arguments alignment attribute by_value parameter_word parameter_run call_words call_word call_run function_words function_words_with_arguments maybe_value function_word function_run tail_words tail_sign call_sign dots last_dots more_types some_types dots_alone param_types perhaps_types written_params text_arg node_arg meta_arg written_meta_arg value_arg argument argument_list arguments bundle call_end perhaps_params call_type call action_body action
body_apart = refl

pub body_some : nullable type_body ≡ false
unfolding type_body
body_some = refl

-- the number of a pointer

pub number_head_told : is_told starts_of more_of number_head ≡ true
unfolding result_name number_head value_type_signs type_signs left_type_words constant_words undefined_words left_constant_words constant_signs register fixed value typed_value next_value typed_pair next_typed_value pointer target next_target dropped_attach dropped_attachments placed next_placed binary_words operation binary compare_words predicate compare two_next_values select cast_words cast_op new_type cast indices base_and_indices address accessed load store extracted_part pair_sign extract arm_end arm arms phi number instruction_words instruction_run attribute_words attribute_words_with_arguments maybe_arguments alignment attribute by_value parameter_word parameter_run call_words call_word call_run function_words function_words_with_arguments maybe_value function_word function_run tail_words tail_sign call_sign dots last_dots more_types some_types dots_alone param_types perhaps_types written_params text_arg node_arg meta_arg written_meta_arg value_arg argument argument_list arguments bundle call_end perhaps_params call_type call action_body action
number_head_told = refl

pub number_head_more : more starts_of more_of number_head ≡ []
unfolding result_name number_head value_type_signs type_signs left_type_words constant_words undefined_words left_constant_words constant_signs register fixed value typed_value next_value typed_pair next_typed_value pointer target next_target dropped_attach dropped_attachments placed next_placed binary_words operation binary compare_words predicate compare two_next_values select cast_words cast_op new_type cast indices base_and_indices address accessed load store extracted_part pair_sign extract arm_end arm arms phi number instruction_words instruction_run attribute_words attribute_words_with_arguments maybe_arguments alignment attribute by_value parameter_word parameter_run call_words call_word call_run function_words function_words_with_arguments maybe_value function_word function_run tail_words tail_sign call_sign dots last_dots more_types some_types dots_alone param_types perhaps_types written_params text_arg node_arg meta_arg written_meta_arg value_arg argument argument_list arguments bundle call_end perhaps_params call_type call action_body action
number_head_more = refl

pub attached_told : is_told starts_of more_of dropped_attachments ≡ true
unfolding dropped_attach dropped_attachments
attached_told = refl

pub number_told : is_told starts_of more_of number_form ≡ true
unfolding result_name number_head number_form value_type_signs type_signs left_type_words constant_words undefined_words left_constant_words constant_signs register fixed value typed_value next_value typed_pair next_typed_value pointer target next_target dropped_attach dropped_attachments placed next_placed binary_words operation binary compare_words predicate compare two_next_values select cast_words cast_op new_type cast indices base_and_indices address accessed load store extracted_part pair_sign extract arm_end arm arms phi number instruction_words instruction_run attribute_words attribute_words_with_arguments maybe_arguments alignment attribute by_value parameter_word parameter_run call_words call_word call_run function_words function_words_with_arguments maybe_value function_word function_run tail_words tail_sign call_sign dots last_dots more_types some_types dots_alone param_types perhaps_types written_params text_arg node_arg meta_arg written_meta_arg value_arg argument argument_list arguments bundle call_end perhaps_params call_type call action_body action
number_told = refl

pub number_some : nullable number_form ≡ false
unfolding result_name number_head number_form value_type_signs type_signs left_type_words constant_words undefined_words left_constant_words constant_signs register fixed value typed_value next_value typed_pair next_typed_value pointer target next_target dropped_attach dropped_attachments placed next_placed binary_words operation binary compare_words predicate compare two_next_values select cast_words cast_op new_type cast indices base_and_indices address accessed load store extracted_part pair_sign extract arm_end arm arms phi number instruction_words instruction_run attribute_words attribute_words_with_arguments maybe_arguments alignment attribute by_value parameter_word parameter_run call_words call_word call_run function_words function_words_with_arguments maybe_value function_word function_run tail_words tail_sign call_sign dots last_dots more_types some_types dots_alone param_types perhaps_types written_params text_arg node_arg meta_arg written_meta_arg value_arg argument argument_list arguments bundle call_end perhaps_params call_type call action_body action
number_some = refl

pub attached_flat : (ts : List Piece) → Opens (IsAt levels) (OpensAt levels) dropped_attachments ts → ⊥
unfolding dropped_attach dropped_attachments
attached_flat ts (f, b, xs, are, (t, c, p, (u, d, q, (v, e, r, o, s1), s2), s3), s4) = o
