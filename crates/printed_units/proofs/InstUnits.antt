-- The line of each instruction is a text that says what the instruction says.
use Rattle.std.proofs.Common.{◌≡◌, ℕ, List, [], ◌∷◌, ◌++◌, map, flat_map, codes, refl, sym, ◌∙◌, append_assoc, Option, Some, None}
use Rattle.std.specs.List.{AllByRecursion}
use Rattle.ir_values.specs.declared.types.Ty.{Ty, out-Ty}
use Rattle.ir_values.specs.declared.types.Ty.TheVariants as ty
use Rattle.ir_values.specs.declared.types.Width.{Width}
use Rattle.ir_values.specs.declared.types.Width.TheVariants.{W1}
use Rattle.ir_values.specs.declared.constants.Operand.{Operand}
use Rattle.ir_values.specs.declared.instructions.Inst.{Inst}
use Rattle.ir_values.specs.declared.instructions.Inst.TheVariants as inst
use Rattle.ir_values.specs.declared.units.BranchText.TheVariants as branches
use Rattle.ir_values.specs.declared.units.EndText.TheVariants as end
use Rattle.ir_values.specs.declared.units.Form.{Form}
use Rattle.ir_values.specs.declared.units.Form.TheVariants as form
use Rattle.type_grammar.specs.Types.{IsPart}
use Rattle.type_grammar.specs.Levels.{levels}
use Rattle.instruction_grammar.specs.Memory.{store, number}
use Rattle.instruction_grammar.specs.Branches.{jump, two_targets, fork, branch_text, branch, case_part, cases, switch_targets, switch, void_return, value_return, return_text, return_part, unreachable}
use Rattle.instruction_grammar.specs.Actions.{action}
use Rattle.ir_text.specs.Forms.{named, result_name, number_head, number_form}
use Rattle.printed_tokens.specs.Looks.{seen_of}
use Rattle.printed_units.specs.Written.{IsName, IsTy, IsOperand, IsCase, IsReturned, IsInst}
use Rattle.printed_units.specs.Said.{operand_said, case_said, returned_said, inst_said}
use Rattle.printed_units.specs.Printing.{space, word, mark, local, integer, behind_comma, typed_atoms, operand_atoms, ty_atoms, aligned_atoms, target_atoms, case_atoms, spaced, behind_space, returned_atoms, inst_atoms}
use Rattle.printed_units.proofs.ConstUnits.{integer_const_shows}
use Rattle.printed_units.proofs.TypeUnits.{value_ty_shows, width_shows}
use Rattle.printed_tokens.proofs.AtomLemmas.{seen_of_append}
use Rattle.printed_units.proofs.WrittenLemmas.{int_is_ty}
use Rattle.printed_units.proofs.ShowLemmas.{just_shows, Shows, skip_shows, sign_shows, both_show, mapped_shows, left_shows, right_shows, none_shows, then_none, ends_show, many_none, no_more, one_more, unmapped}
use Rattle.printed_units.proofs.OperandUnits.{local_shows, value_shows, typed_shows, pointer_shows, target_shows, next_target_shows}
use Rattle.printed_units.proofs.ActionUnits.{attached_none, set_shows, binary_shows, compare_shows, select_shows, cast_shows, address_shows, accessed_shows, load_shows, extract_shows, phi_shows}
use Rattle.printed_units.proofs.CallUnits.{call_inst_shows, trap_shows, rotate_shows}

store_shows : (type : Ty) (v addr : Operand) → IsTy type → IsOperand type v → IsOperand ty.Ptr addr →
    Shows store (seen_of (word (codes "store") ∷ space ∷ typed_atoms type v ++ behind_comma (typed_atoms ty.Ptr addr ++ aligned_atoms)))
    (λ f. f ≡ form.StoreForm type (operand_said type v) (operand_said ty.Ptr addr))
unfolding store
store_shows type v addr is valued at_addr =
    mapped_shows (λ x has. rw (has.0, has.1) refl)
    (skip_shows refl (both_show (seen_of_append (typed_atoms type v) _) (typed_shows type v is valued) (accessed_shows addr at_addr)))

-- branches

jump_shows : (to : List ℕ) → IsName to →
    Shows branch (seen_of (word (codes "br") ∷ space ∷ target_atoms to)) (λ f. f ≡ form.BranchForm (branches.Br to))
unfolding branch branch_text jump
jump_shows to is =
    mapped_shows {P = λ t. t ≡ branches.Br to} (λ t same. rw same refl)
    (skip_shows refl (left_shows (mapped_shows (λ t same. rw same refl) (target_shows to is))))

fork_shows : (test : Operand) (met unmet : List ℕ) → IsOperand (ty.Int W1) test → IsName met → IsName unmet →
    Shows branch
    (seen_of (word (codes "br") ∷ space ∷ typed_atoms (ty.Int W1) test ++ behind_comma (target_atoms met
    ++ behind_comma (target_atoms unmet))))
    (λ f. f ≡ form.BranchForm (branches.CondBr (operand_said (ty.Int W1) test) met unmet))
unfolding branch branch_text fork two_targets levels out-Ty denote.Hole.Carrier.out
fork_shows test met unmet is first second =
    mapped_shows {P = λ t. t ≡ branches.CondBr (operand_said (ty.Int W1) test) met unmet} (λ t same. rw same refl)
    (skip_shows refl (right_shows (mapped_shows (λ x has. rw (has.0, has.1.0, has.1.1) refl)
    (skip_shows refl (both_show (seen_of_append (operand_atoms (ty.Int W1) test) _) (value_shows (ty.Int W1) test is)
    (both_show refl (next_target_shows met first) (next_target_shows unmet second)))))))

case_shows : (width : Width) (item : ℕ × List ℕ) → IsCase width item →
    Shows case_part (seen_of (case_atoms width item)) (λ a. a ≡ case_said width item)
unfolding case_part
case_shows width item is =
    mapped_shows (λ x has. rw (has.0, has.1.0, has.1.1) refl)
    (both_show refl (width_shows width) (both_show refl (integer_const_shows width item.0 is.0) (next_target_shows item.1 is.1)))

more_cases_show : (width : Width) (items : List (ℕ × List ℕ)) → AllByRecursion (IsCase width) items →
    Shows cases (seen_of (flat_map behind_space (map (case_atoms width) items))) (λ xs. map (λ x. x) xs ≡ map (case_said width) items)
unfolding cases
more_cases_show width [] are = no_more
more_cases_show width (item ∷ items) (is, are) =
    one_more refl (case_shows width item is) (more_cases_show width items are)

cases_show : (width : Width) (items : List (ℕ × List ℕ)) → AllByRecursion (IsCase width) items →
    Shows cases (seen_of (spaced (map (case_atoms width) items))) (λ xs. xs ≡ map (case_said width) items)
unfolding cases
cases_show width [] are = many_none
cases_show width (item ∷ items) (is, are) =
    unmapped (one_more refl (case_shows width item is) (more_cases_show width items are))

switch_shows : (width : Width) (v : Operand) (other : List ℕ) (items : List (ℕ × List ℕ)) → IsOperand (ty.Int width) v → IsName other →
    AllByRecursion (IsCase width) items →
    Shows switch (seen_of (inst_atoms (inst.Switch width v other items)))
    (λ f. f ≡ form.BranchForm (branches.Switch (ty.Int width) (operand_said (ty.Int width) v) other (map (case_said width) items)))
unfolding switch switch_targets
switch_shows width v other items is named are =
    mapped_shows (λ x has. rw (has.0, has.1.0, has.1.1) refl)
    (skip_shows refl (both_show (seen_of_append (typed_atoms (ty.Int width) v) _) (typed_shows (ty.Int width) v (int_is_ty width) is)
    (both_show refl (next_target_shows other named)
    (skip_shows refl (ends_show _ refl (seen_of_append (spaced (map (case_atoms width) items)) _) (cases_show width items are))))))

-- the ends of functions

return_shows : (type : Ty) (v : Option Operand) → IsReturned type v →
    Shows return_part (seen_of (returned_atoms type v)) (λ f. f ≡ form.EndForm (returned_said type v))
unfolding return_part return_text void_return value_return
return_shows type None is =
    mapped_shows {P = λ e. e ≡ end.RetVoid} (λ e same. rw same refl)
    (skip_shows refl (left_shows (mapped_shows (λ o none. rw none refl) (skip_shows refl none_shows))))
return_shows type (Some v) (some, is, valued) =
    mapped_shows {P = λ e. e ≡ end.Ret type (operand_said type v)} (λ e same. rw same refl)
    (skip_shows refl (right_shows (mapped_shows (λ x has. rw (has.0, has.1) refl)
    (both_show (seen_of_append (ty_atoms type) _) (value_ty_shows type some is) (value_shows type v valued)))))

unreachable_shows : Shows unreachable (seen_of (word (codes "unreachable") ∷ [])) (λ f. f ≡ form.EndForm end.Unreachable)
unfolding unreachable
unreachable_shows = mapped_shows (λ a has. refl) (sign_shows refl)

-- numbers of pointers

pointer_number_shows : (v : Operand) → IsOperand ty.Ptr v →
    Shows number
    (seen_of (word (codes "ptrtoint") ∷ space ∷ typed_atoms ty.Ptr v ++ space ∷ word (codes "to") ∷ space ∷ word (codes "i64") ∷ []))
    (λ f. f ≡ form.NumberForm None (operand_said ty.Ptr v))
unfolding number
pointer_number_shows v is =
    let own = typed_atoms ty.Ptr v in
    let to = seen_of (word (codes "to") ∷ []) in
    let integer = seen_of (word (codes "i64") ∷ []) in
    mapped_shows (λ x same. rw same refl)
    (skip_shows refl (ends_show _ refl (seen_of_append own (space ∷ word (codes "to") ∷ space ∷ word (codes "i64") ∷ [])
    ∙ sym (append_assoc (seen_of own) to integer))
    (ends_show _ refl refl (pointer_shows v is))))

result_name_shows : (dst : List ℕ) → IsName dst →
    Shows result_name (seen_of (local dst ∷ space ∷ mark (codes "=") ∷ [])) (λ o. o ≡ Some dst)
unfolding result_name
result_name_shows dst is = just_shows (ends_show _ refl refl (local_shows dst is))

number_shows : (dst : List ℕ) (v : Operand) → IsName dst → IsOperand ty.Ptr v →
    Shows number_form (seen_of (inst_atoms (inst.Number dst v))) (λ f. f ≡ form.NumberForm (Some dst) (operand_said ty.Ptr v))
unfolding number_form number_head
number_shows dst v set is =
    mapped_shows (λ x has. has.0) (then_none
    (mapped_shows {Q = λ f. f ≡ form.NumberForm (Some dst) (operand_said ty.Ptr v)} (λ x has. rw (has.0, has.1) refl)
    (both_show refl (result_name_shows dst set) (pointer_number_shows v is))) attached_none)

-- all of them

-- the part whose texts its line is
abbrev pub inst_part : Inst → IsPart Form
inst_part (inst.Store type v addr) = store
inst_part (inst.Br to) = branch
inst_part (inst.CondBr test met unmet) = branch
inst_part (inst.Switch width v other items) = switch
inst_part (inst.Ret type v) = return_part
inst_part inst.Unreachable = unreachable
inst_part (inst.Number dst v) = number_form
inst_part (inst.Trap code) = action
inst_part (inst.Call None fty callee args) = action
inst_part _ = named

pub inst_shows : (i : Inst) → IsInst i → Shows (inst_part i) (seen_of (inst_atoms i)) (λ f. f ≡ inst_said i)
inst_shows (inst.Binary dst op width a b) (set, first, second) =
    set_shows dst set (binary_shows op (ty.Int width) a b (int_is_ty width) first second)
inst_shows (inst.Compare dst pred type a b) (set, is, first, second) =
    set_shows dst set (compare_shows pred type a b is first second)
inst_shows (inst.Select dst test type a b) (set, tested, is, first, second) =
    set_shows dst set (select_shows test type a b tested is first second)
inst_shows (inst.Cast dst op from a to) (set, is) = set_shows dst set (cast_shows op from a to is)
inst_shows (inst.Gep dst type base items) (set, is, first, are) =
    set_shows dst set (address_shows type base items is first are)
inst_shows (inst.Load dst type addr) (set, is, at_addr) = set_shows dst set (load_shows type addr is at_addr)
inst_shows (inst.Store type v addr) (is, valued, at_addr) = store_shows type v addr is valued at_addr
inst_shows (inst.Call None fty callee args) (set, is, called, are) =
    call_inst_shows fty.result callee fty.params args is called are
inst_shows (inst.Call (Some dst) fty callee args) (set, is, called, are) =
    set_shows dst set (call_inst_shows fty.result callee fty.params args is called are)
inst_shows (inst.Extract dst pair part) (set, is, small) = set_shows dst set (extract_shows pair part is small)
inst_shows (inst.Phi dst type items) (set, is, some, are) = set_shows dst set (phi_shows type items is some are)
inst_shows (inst.Br to) is = jump_shows to is
inst_shows (inst.CondBr test met unmet) (is, first, second) = fork_shows test met unmet is first second
inst_shows (inst.Switch width v other items) (is, first, are) = switch_shows width v other items is first are
inst_shows (inst.Ret type v) is = return_shows type v is
inst_shows inst.Unreachable is = unreachable_shows
inst_shows (inst.Trap code) is = trap_shows code is
inst_shows (inst.Number dst v) (set, is) = number_shows dst v set is
inst_shows (inst.Rotate dst v n) (set, is, small) = set_shows dst set (rotate_shows v n is small)
inst_shows _ is = absurd is
