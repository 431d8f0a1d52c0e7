-- How the lines of instructions that set a register show themselves.
use Rattle.std.proofs.Common.{◌≡◌, ℕ, ◌<◌, ◌^◌, true, List, [], ◌∷◌, ◌++◌, map, flat_map, codes, refl, ◌∙◌, ap, nat_lt, length, Some, None, arith}
use Rattle.std.specs.List.{AllByRecursion}
use Rattle.ir_lex.specs.declared.token.Kind.TheVariants.{Word}
use Rattle.ir_values.specs.declared.types.Ty.{Ty}
use Rattle.ir_values.specs.declared.types.Ty.TheVariants as ty
use Rattle.ir_values.specs.declared.types.Width.{Width}
use Rattle.ir_values.specs.declared.types.Width.TheVariants.{W1}
use Rattle.ir_values.specs.declared.constants.Operand.{Operand}
use Rattle.ir_values.specs.declared.constants.Operand.TheVariants as operand
use Rattle.ir_values.specs.declared.instructions.BinOp.{BinOp}
use Rattle.ir_values.specs.declared.instructions.Pred.{Pred}
use Rattle.ir_values.specs.declared.instructions.CastOp.{CastOp}
use Rattle.ir_values.specs.declared.units.Form.{Form}
use Rattle.ir_values.specs.declared.units.Form.TheVariants as form
use Rattle.unit_grammar.specs.Signs as signs
use Rattle.type_grammar.specs.Numbers.{length_of}
use Rattle.word_grammar.specs.Attached.{dropped_attachments}
use Rattle.word_grammar.specs.Places.{placed, next_placed}
use Rattle.word_grammar.specs.Runs.{instruction_run}
use Rattle.instruction_grammar.specs.Operands.{operand_at, typed_pair, next_value}
use Rattle.instruction_grammar.specs.Operations.{operation_of, binary_words, operation, binary, predicate_of, compare_words, predicate, compare, two_next_values, select, cast_op_of, cast_words, cast_op, new_type, cast, indices, base_and_indices, address}
use Rattle.instruction_grammar.specs.Memory.{accessed, load, extracted_part, pair_sign, extract, arm_end, arm, arms, arm_at, phi}
use Rattle.instruction_grammar.specs.Actions.{action_body, action, with_result}
use Rattle.ir_text.specs.Forms.{named_body, named}
use Rattle.ir_print.specs.Types.{width_text}
use Rattle.ir_print.specs.Instructions.{op_text, pred_text, cast_text}
use Rattle.printed_tokens.specs.Looks.{Seen, seen_of}
use Rattle.printed_units.specs.Written.{IsName, IsTy, IsOperand, IsIndex, IsArm}
use Rattle.printed_units.specs.Said.{operand_said, index_said, arm_said}
use Rattle.printed_units.specs.Printing.{space, word, number, behind_comma, typed_atoms, operand_atoms, ty_atoms, aligned_atoms, set_atoms, index_atoms, arm_atoms, pair_atoms}
use Rattle.printed_units.specs.Printing as atoms
use Rattle.printed_units.proofs.ListLemmas.{all_zipped}
use Rattle.printed_units.proofs.TypeUnits.{ty_shows, width_shows}
use Rattle.printed_tokens.proofs.AtomLemmas.{seen_of_append}
use Rattle.printed_units.proofs.WrittenLemmas.{int_is_ty}
use Rattle.printed_units.proofs.SeenLemmas.{lets}
use Rattle.printed_units.proofs.ShowLemmas.{so_shows, Shows, token_shows, skip_shows, sign_shows, both_show, mapped_shows, left_shows, right_shows, some_shows, run_none, then_none, ends_show, some_show, many_shows, unmapped, seen_of_three}
use Rattle.printed_units.proofs.OperandUnits.{local_shows, value_shows, typed_shows, pointer_shows, next_typed_shows}
use Rattle.printed_units.proofs.ValueLemmas.{length_said}

-- no attachment stands behind a printed instruction
pub attached_none : Shows dropped_attachments [] (λ a. a ≡ tt)
unfolding dropped_attachments
attached_none = run_none

pub action_shows : {looks : List Seen} {f : Form} → Shows action_body looks (λ a. a ≡ f) → Shows action looks (λ a. a ≡ f)
unfolding action
action_shows of = mapped_shows (λ x has. has.0) (then_none of attached_none)

-- `%r = ..`
pub set_shows : {looks : List Seen} {f : Form} (dst : List ℕ) → IsName dst → Shows action looks (λ a. a ≡ f) →
    Shows named (seen_of (set_atoms dst []) ++ looks) (λ a. a ≡ with_result dst f)
unfolding named named_body
set_shows {f = f} dst is of =
    mapped_shows (λ x has. rw (has.1, has.0) refl)
    (both_show refl (local_shows dst is) (skip_shows refl (right_shows
    (mapped_shows {Q = λ a. a ≡ (λ name. with_result name f)} (λ a same. rw same refl) of))))

-- operations

instruction_run_none : Shows instruction_run [] (λ a. a ≡ tt)
unfolding instruction_run
instruction_run_none = run_none

-- values with no type of their own
next_value_shows : (type : Ty) (v : Operand) → IsOperand type v →
    Shows next_value (seen_of (behind_comma (operand_atoms type v))) (λ a. operand_at type a ≡ operand_said type v)
unfolding next_value
next_value_shows type v is = skip_shows refl (value_shows type v is)

typed_pair_shows : (type : Ty) (a b : Operand) → IsTy type → IsOperand type a → IsOperand type b →
    Shows typed_pair (seen_of (typed_atoms type a ++ behind_comma (operand_atoms type b)))
    (λ x. x ≡ (type, (operand_said type a, operand_said type b)))
unfolding typed_pair
typed_pair_shows type a b is first second =
    mapped_shows (λ x has. rw (has.0, has.1.0, has.1.1) refl)
    (both_show (seen_of_three (ty_atoms type) (space ∷ operand_atoms type a) (behind_comma (operand_atoms type b))) (ty_shows type is)
    (both_show (seen_of_append (operand_atoms type a) (behind_comma (operand_atoms type b))) (value_shows type a first)
    (next_value_shows type b second)))

-- each has its word, and the word is that of it alone
op_said : (op : BinOp) → (lets (signs.words binary_words) Word (op_text op) ≡ true) × (operation_of (op_text op) ≡ op)
unfolding binary_words
op_said BinOp.Add = (refl, refl)
op_said BinOp.Sub = (refl, refl)
op_said BinOp.Mul = (refl, refl)
op_said BinOp.UDiv = (refl, refl)
op_said BinOp.SDiv = (refl, refl)
op_said BinOp.URem = (refl, refl)
op_said BinOp.SRem = (refl, refl)
op_said BinOp.Shl = (refl, refl)
op_said BinOp.LShr = (refl, refl)
op_said BinOp.AShr = (refl, refl)
op_said BinOp.And = (refl, refl)
op_said BinOp.Or = (refl, refl)
op_said BinOp.Xor = (refl, refl)

op_shows : (op : BinOp) → Shows operation (seen_of (word (op_text op) ∷ [])) (λ a. a ≡ op)
unfolding operation
op_shows op = token_shows (op_said op).0 (λ t e. ap operation_of e ∙ (op_said op).1)

pub binary_shows : (op : BinOp) (type : Ty) (a b : Operand) → IsTy type → IsOperand type a → IsOperand type b →
    Shows action (seen_of (word (op_text op) ∷ space ∷ typed_atoms type a ++ behind_comma (operand_atoms type b)))
    (λ f. f ≡ form.BinaryForm None op type (operand_said type a) (operand_said type b))
unfolding action_body binary
binary_shows op type a b is first second =
    action_shows (right_shows (right_shows (right_shows (right_shows (right_shows (right_shows (right_shows (right_shows
    (mapped_shows (λ x has. rw (has.0, has.1.1) refl)
    (both_show refl (op_shows op) (both_show refl instruction_run_none (typed_pair_shows type a b is first second))))))))))))

-- each has its word, and the word is that of it alone
pred_said : (op : Pred) → (lets (signs.words compare_words) Word (pred_text op) ≡ true) × (predicate_of (pred_text op) ≡ op)
unfolding compare_words
pred_said Pred.Eq = (refl, refl)
pred_said Pred.Ne = (refl, refl)
pred_said Pred.Ugt = (refl, refl)
pred_said Pred.Uge = (refl, refl)
pred_said Pred.Ult = (refl, refl)
pred_said Pred.Ule = (refl, refl)
pred_said Pred.Sgt = (refl, refl)
pred_said Pred.Sge = (refl, refl)
pred_said Pred.Slt = (refl, refl)
pred_said Pred.Sle = (refl, refl)

pred_shows : (pred : Pred) → Shows predicate (seen_of (word (pred_text pred) ∷ [])) (λ a. a ≡ pred)
unfolding predicate
pred_shows pred = token_shows (pred_said pred).0 (λ t e. ap predicate_of e ∙ (pred_said pred).1)

pub compare_shows : (pred : Pred) (type : Ty) (a b : Operand) → IsTy type → IsOperand type a → IsOperand type b →
    Shows action
    (seen_of (word (codes "icmp") ∷ space ∷ word (pred_text pred) ∷ space ∷ typed_atoms type a ++ behind_comma (operand_atoms type b)))
    (λ f. f ≡ form.CompareForm None pred type (operand_said type a) (operand_said type b))
unfolding action_body compare
compare_shows pred type a b is first second =
    action_shows (right_shows (right_shows (right_shows (right_shows (right_shows (left_shows
    (mapped_shows (λ x has. rw (has.1.0, has.1.1) refl)
    (skip_shows refl (both_show refl instruction_run_none (both_show refl (pred_shows pred)
    (typed_pair_shows type a b is first second)))))))))))

pub select_shows : (test : Operand) (type : Ty) (a b : Operand) → IsOperand (ty.Int W1) test → IsTy type → IsOperand type a →
    IsOperand type b →
    Shows action
    (seen_of (word (codes "select") ∷ space ∷ typed_atoms (ty.Int W1) test ++ behind_comma (typed_atoms type a
    ++ behind_comma (typed_atoms type b))))
    (λ f. f ≡ form.SelectForm None (ty.Int W1) (operand_said (ty.Int W1) test) type (operand_said type a) type (operand_said type b))
unfolding action_body select two_next_values
select_shows test type a b tested is first second =
    action_shows (right_shows (right_shows (right_shows (left_shows (mapped_shows (λ x has. rw (has.0, has.1.0, has.1.1) refl)
    (skip_shows refl (both_show (seen_of_append (typed_atoms (ty.Int W1) test) _) (typed_shows (ty.Int W1) test (int_is_ty W1) tested)
    (both_show (seen_of_append (behind_comma (typed_atoms type a)) _) (next_typed_shows type a is first)
    (next_typed_shows type b is second)))))))))

-- each has its word, and the word is that of it alone
cast_said : (op : CastOp) → (lets (signs.words cast_words) Word (cast_text op) ≡ true) × (cast_op_of (cast_text op) ≡ op)
unfolding cast_words
cast_said CastOp.Zext = (refl, refl)
cast_said CastOp.Sext = (refl, refl)
cast_said CastOp.Trunc = (refl, refl)

cast_op_shows : (op : CastOp) → Shows cast_op (seen_of (word (cast_text op) ∷ [])) (λ a. a ≡ op)
unfolding cast_op
cast_op_shows op = token_shows (cast_said op).0 (λ t e. ap cast_op_of e ∙ (cast_said op).1)

new_type_shows : (width : Width) →
    Shows new_type (seen_of (space ∷ word (codes "to") ∷ space ∷ word (width_text width) ∷ [])) (λ a. a ≡ ty.Int width)
unfolding new_type
new_type_shows width = skip_shows refl (width_shows width)

pub cast_shows : (op : CastOp) (from : Width) (a : Operand) (to : Width) → IsOperand (ty.Int from) a →
    Shows action
    (seen_of (word (cast_text op) ∷ space ∷ typed_atoms (ty.Int from) a ++ space ∷ word (codes "to") ∷ space ∷ word (width_text to) ∷ []))
    (λ f. f ≡ form.CastForm None op (ty.Int from) (operand_said (ty.Int from) a) (ty.Int to))
unfolding action_body cast
cast_shows op from a to is =
    action_shows (right_shows (right_shows (right_shows (right_shows (left_shows
    (mapped_shows (λ x has. rw (has.0, has.1.1.0, has.1.1.1) refl)
    (both_show refl (cast_op_shows op) (both_show refl instruction_run_none
    (both_show (seen_of_append (typed_atoms (ty.Int from) a) _) (typed_shows (ty.Int from) a (int_is_ty from) is)
    (new_type_shows to))))))))))

-- addresses

indices_show : (items : List (Width × Operand)) → AllByRecursion IsIndex items →
    Shows indices (seen_of (flat_map index_atoms items)) (λ xs. xs ≡ map index_said items)
unfolding indices
indices_show items are =
    unmapped (many_shows {h = λ a. a} IsIndex index_atoms index_said
    (λ item is. next_typed_shows (ty.Int item.0) item.1 (int_is_ty item.0) is) items are)

pub address_shows : (type : Ty) (base : Operand) (items : List (Width × Operand)) → IsTy type → IsOperand ty.Ptr base →
    AllByRecursion IsIndex items →
    Shows action
    (seen_of (word (codes "getelementptr") ∷ space ∷ ty_atoms type ++ behind_comma (typed_atoms ty.Ptr base ++ flat_map index_atoms items)))
    (λ f. f ≡ form.AddressForm None type (operand_said ty.Ptr base) (map index_said items))
unfolding action_body address base_and_indices
address_shows type base items is first are =
    action_shows (right_shows (right_shows (left_shows
    (mapped_shows (λ x has. rw (has.1.0, has.1.1.0, has.1.1.1) refl)
    (skip_shows refl (both_show refl instruction_run_none (both_show (seen_of_append (ty_atoms type) _) (ty_shows type is)
    (skip_shows refl (both_show (seen_of_append (typed_atoms ty.Ptr base) _) (pointer_shows base first) (indices_show items are))))))))))

-- memory

aligned_shows : Shows next_placed (seen_of aligned_atoms) (λ a. a ≡ tt)
unfolding next_placed placed
aligned_shows = mapped_shows (λ a has. refl) (some_shows (skip_shows refl (skip_shows refl (sign_shows refl))))

pub accessed_shows : (addr : Operand) → IsOperand ty.Ptr addr →
    Shows accessed (seen_of (behind_comma (typed_atoms ty.Ptr addr ++ aligned_atoms))) (λ a. a ≡ operand_said ty.Ptr addr)
unfolding accessed
accessed_shows addr is =
    mapped_shows (λ x has. has.0)
    (skip_shows refl (both_show (seen_of_append (typed_atoms ty.Ptr addr) aligned_atoms) (pointer_shows addr is) aligned_shows))

pub load_shows : (type : Ty) (addr : Operand) → IsTy type → IsOperand ty.Ptr addr →
    Shows action (seen_of (word (codes "load") ∷ space ∷ ty_atoms type ++ behind_comma (typed_atoms ty.Ptr addr ++ aligned_atoms)))
    (λ f. f ≡ form.LoadForm None type (operand_said ty.Ptr addr))
unfolding action_body load
load_shows type addr is at_addr =
    action_shows (right_shows (left_shows (mapped_shows (λ x has. rw (has.0, has.1) refl)
    (skip_shows refl (both_show (seen_of_append (ty_atoms type) _) (ty_shows type is) (accessed_shows addr at_addr))))))

part_shows : (part : ℕ) → part < 2 ^ 64 → Shows extracted_part (seen_of (behind_comma (number part ∷ []))) (λ a. a ≡ Some part)
unfolding extracted_part
part_shows part small = skip_shows refl (token_shows refl (λ t e. ap length_of e ∙ length_said part small))

pair_shows : Shows pair_sign (seen_of pair_atoms) (λ a. a ≡ tt)
unfolding pair_sign
pair_shows = skip_shows refl (skip_shows refl (skip_shows refl (skip_shows refl (sign_shows refl))))

pub extract_shows : (pair : List ℕ) (part : ℕ) → IsName pair → part < 256 →
    Shows action (seen_of (word (codes "extractvalue") ∷ space ∷ pair_atoms ++ space ∷ atoms.local pair ∷ behind_comma (number part ∷ [])))
    (λ f. f ≡ form.ExtractForm None (operand.Reg pair) (Some part))
unfolding action_body extract
extract_shows pair part is small =
    action_shows (right_shows (right_shows (right_shows (right_shows (right_shows (right_shows (left_shows
    (mapped_shows (λ x has. rw (has.1.0, has.1.1) refl)
    (skip_shows refl (both_show refl pair_shows (both_show refl (value_shows ty.Pair (operand.Reg pair) is)
    (part_shows part (omega (arith, small))))))))))))))

-- phis

arm_shows : (type : Ty) (item : Operand × List ℕ) → IsArm type item →
    Shows arm (seen_of (arm_atoms type item)) (λ a. arm_at type a ≡ arm_said type item)
unfolding arm arm_end
arm_shows type item is =
    so_shows (λ x has. rw (has.0, has.1) refl) (skip_shows refl
    (both_show (seen_of_append (operand_atoms type item.0) _) (value_shows type item.0 is.0)
    (skip_shows refl (ends_show _ refl refl (local_shows item.1 is.1)))))

some_arms_show : (type : Ty) (items : List (Operand × List ℕ)) → nat_lt 0 (length items) ≡ true → AllByRecursion (IsArm type) items →
    Shows arms (seen_of (atoms.listed (map (arm_atoms type) items))) (λ xs. map (arm_at type) xs ≡ map (arm_said type) items)
unfolding arms
some_arms_show type [] some are = absurd cc
some_arms_show type (item ∷ items) some are =
    some_show (arm_atoms type item) (map (arm_atoms type) items) (arm_said type item) (map (arm_said type) items)
    (all_zipped (IsArm type) (λ atoms v. Shows arm (seen_of atoms) (λ a. arm_at type a ≡ v)) (arm_atoms type) (arm_said type) (arm_shows type)
    (item ∷ items) are)

pub phi_shows : (type : Ty) (items : List (Operand × List ℕ)) → IsTy type → nat_lt 0 (length items) ≡ true →
    AllByRecursion (IsArm type) items →
    Shows action (seen_of (word (codes "phi") ∷ space ∷ ty_atoms type ++ space ∷ atoms.listed (map (arm_atoms type) items)))
    (λ f. f ≡ form.PhiForm None type (map (arm_said type) items))
unfolding action_body phi
phi_shows type items is some are =
    action_shows (right_shows (right_shows (right_shows (right_shows (right_shows (right_shows (right_shows (left_shows
    (mapped_shows (λ x has. rw (has.0, has.1) refl)
    (skip_shows refl (both_show (seen_of_append (ty_atoms type) _) (ty_shows type is) (some_arms_show type items some are))))))))))))
