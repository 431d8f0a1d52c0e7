-- Left units are read exactly.
use Rattle.std.proofs.Common.{◌≡◌, ℕ, true, false, List, [], Result, refl}
use Rattle.ir_values.specs.declared.units.Form.{Form}
use Rattle.ir_values.specs.declared.units.Form.TheVariants.{LeftForm}
use Rattle.unit_grammar.specs.declared.stop.Stop.{Stop}
use Rattle.unit_grammar.specs.Pieces.{Piece}
use Rattle.unit_grammar.specs.Beginnings.{is_told, nullable, more}
use Rattle.unit_grammar.specs.Exact.{Exact}
use Rattle.unit_grammar.specs.Seeing.{Gives}
use Rattle.unit_grammar.specs.Answers.{Tells}
use Rattle.unit_grammar.proofs.ExactLaws.{said_exact}
use Rattle.type_grammar.specs.Levels.{IsAt, IsAny, levels}
use Rattle.type_grammar.specs.Beginnings.{starts_of, more_of}
use Rattle.word_grammar.specs.Linkage.{linkage_words}
use Rattle.word_grammar.specs.Attributes.{attribute_words, attribute_words_with_arguments, maybe_arguments, alignment}
use Rattle.word_grammar.specs.Runs.{item_words, function_words, function_words_with_arguments, instruction_words, dropped_words, dropped_words_with_arguments, words_with_perhaps_arguments, dropped_word}
use Rattle.module_grammar.specs.LeftUnits.{early_word, early_run, left_words, left_word, hash_word, access_words, access_kinds, access, telling_word, plain_head, maybe_distinct, node_word, node_head, left_name, named_head, numbered_head, left_head, carried_words, IsLeftUnit}
use Rattle.module_grammar.specs.Texts.{OpensForm}
use Rattle.module_grammar.specs.Reading.{left_read}
use Rattle.module_grammar.specs.Beginnings.{all_starts, left_starts}
use Rattle.module_grammar.proofs.FormLaws.{closed_exact, is_free, never_opens, free_tells}
use Rattle.module_grammar.proofs.LineLaws.{lined_exact, known_exact}

head_told : is_told starts_of more_of left_head ≡ true
unfolding early_word early_run left_words left_word hash_word access_words access_kinds access telling_word plain_head maybe_distinct node_word node_head left_name named_head numbered_head left_head linkage_words attribute_words attribute_words_with_arguments maybe_arguments alignment item_words function_words function_words_with_arguments instruction_words dropped_words dropped_words_with_arguments words_with_perhaps_arguments dropped_word
head_told = refl

head_closed : more starts_of more_of left_head ≡ []
unfolding early_word early_run left_words left_word hash_word access_words access_kinds access telling_word plain_head maybe_distinct node_word node_head left_name named_head numbered_head left_head linkage_words attribute_words attribute_words_with_arguments maybe_arguments alignment item_words function_words function_words_with_arguments instruction_words dropped_words dropped_words_with_arguments words_with_perhaps_arguments dropped_word
head_closed = refl

head_some : nullable left_head ≡ false
unfolding early_word early_run left_words left_word hash_word access_words access_kinds access telling_word plain_head maybe_distinct node_word node_head left_name named_head numbered_head left_head linkage_words attribute_words attribute_words_with_arguments maybe_arguments alignment item_words function_words function_words_with_arguments instruction_words dropped_words dropped_words_with_arguments words_with_perhaps_arguments dropped_word
head_some = refl

head_free : is_free left_head ≡ true
unfolding early_word early_run left_words left_word hash_word access_words access_kinds access telling_word plain_head maybe_distinct node_word node_head left_name named_head numbered_head left_head linkage_words attribute_words attribute_words_with_arguments maybe_arguments alignment item_words function_words function_words_with_arguments instruction_words dropped_words dropped_words_with_arguments words_with_perhaps_arguments dropped_word
head_free = refl

pub left_exact : Exact (IsLeftUnit (IsAt levels)) (IsLeftUnit IsAny) (Unit {0}) (OpensForm left_head) left_read left_starts all_starts false
unfolding left_read
left_exact = said_exact (λ _ word. LeftForm word) (lined_exact carried_words (known_exact (closed_exact left_head head_told head_closed head_some)))

pub left_tells : (tokens ts : List Piece) (r : Result (Form × ℕ) Stop) → Gives tokens r (left_read ts) →
    Tells (IsLeftUnit (IsAt levels)) (IsLeftUnit IsAny) (λ _. ⊥) tokens ts r
left_tells = free_tells left_exact (never_opens left_head head_free)
