-- How the lines of calls show themselves.
use Rattle.std.proofs.Common.{◌≡◌, ℕ, ◌<◌, ◌^◌, true, false, List, [], ◌∷◌, ◌++◌, codes, decimal, refl, ap, append_assoc, Option, Some, None, nat_lt, mod-eq_of_lt, arith}
use Rattle.std.proofs.lemmas.Bool.Decides.{nat_tests}
use Rattle.std.specs.List.{AllZip}
use Rattle.ir_values.specs.declared.types.Ty.{Ty, out-Ty}
use Rattle.ir_values.specs.declared.types.Ty.TheVariants as ty
use Rattle.ir_values.specs.declared.types.Width.TheVariants.{W8, W64}
use Rattle.ir_values.specs.declared.constants.Const.{Const, out-Const}
use Rattle.ir_values.specs.declared.constants.Const.TheVariants as const
use Rattle.ir_values.specs.declared.constants.Operand.{Operand}
use Rattle.ir_values.specs.declared.constants.Operand.TheVariants as operand
use Rattle.ir_values.specs.declared.instructions.Callee.{Callee}
use Rattle.ir_values.specs.declared.units.Arg.{Arg}
use Rattle.ir_values.specs.declared.units.Arg.TheVariants.{Value}
use Rattle.unit_grammar.specs.Grammar.{at, ◌⋆◌}
use Rattle.type_grammar.specs.Names.{a_type}
use Rattle.type_grammar.specs.Levels.{levels}
use Rattle.word_grammar.specs.Attributes.{parameter_run}
use Rattle.word_grammar.specs.Runs.{call_run, function_run}
use Rattle.instruction_grammar.specs.Operands.{operand_at, value}
use Rattle.instruction_grammar.specs.Actions.{action_body, action}
use Rattle.instruction_grammar.specs.Calls.{tail_sign, call_sign, value_arg, argument, argument_list, arguments, call_end, perhaps_params, call_type, call}
use Rattle.ir_names.specs.Numbers.{integer_text}
use Rattle.ir_names.specs.Names.{is_digit, is_bare, is_name_start, is_name_byte, name_text}
use Rattle.printed_tokens.specs.Atoms.{Atom}
use Rattle.printed_tokens.specs.Looks.{seen_of}
use Rattle.printed_units.specs.Written.{IsName, IsTy, IsOperand, IsCallee, IsArgument, IsCode}
use Rattle.printed_units.specs.Said.{global_said, callee_said, value_said, args_said, call_said, trap_said}
use Rattle.printed_units.specs.Printing.{space, word, mark, global, number, typed_atoms, operand_atoms, ty_atoms, args_atoms, callee_atoms, call_atoms, trap_atoms, rotate_atoms}
use Rattle.printed_units.specs.Printing as atoms
use Rattle.printed_units.proofs.TypeUnits.{ty_shows, width_shows}
use Rattle.printed_tokens.proofs.AtomLemmas.{seen_of_append}
use Rattle.printed_units.proofs.WrittenLemmas.{int_is_ty, void_is_ty, integer_is, global_is, rotate_named, trap_named, coded_trap_named}
use Rattle.printed_units.proofs.ShowLemmas.{Shows, skip_shows, sign_shows, both_show, mapped_shows, left_shows, right_shows, none_shows, many_none, run_none, optional_none, then_none, ends_show, AreShown, list_shows}
use Rattle.printed_units.proofs.ActionUnits.{action_shows}
use Rattle.printed_units.proofs.OperandUnits.{value_shows}

-- `call`
call_sign_shows : Shows call_sign (seen_of (word (codes "call") ∷ [])) (λ a. a ≡ tt)
unfolding call_sign tail_sign
call_sign_shows = mapped_shows (λ x has. refl) (both_show refl (optional_none) (sign_shows refl))

-- a type behind which no types of parameters are written
call_type_shows : (type : Ty) (atoms : List Atom) → Shows (at a_type) (seen_of atoms) (λ a. a ≡ type) →
    Shows call_type (seen_of atoms) (λ x. x ≡ (type, None))
unfolding call_type call_run perhaps_params
call_type_shows type atoms of = mapped_shows (λ x has. rw (has.1.0, has.1.1) refl) (both_show refl run_none (then_none of none_shows))

-- no words and no bundle stand behind the arguments
call_end_none : Shows call_end [] (λ a. a ≡ false)
unfolding call_end function_run
call_end_none = mapped_shows (λ x has. rw has.1 refl) (both_show refl run_none none_shows)

argument_shows : (type : Ty) (v : Operand) → IsArgument type v → Shows argument (seen_of (typed_atoms type v)) (λ a. a ≡ value_said type v)
unfolding argument value_arg parameter_run
argument_shows type v (is, valued) =
    right_shows (mapped_shows (λ x has. rw (has.0, has.1.0, has.1.1) refl)
    (both_show (seen_of_append (ty_atoms type) (space ∷ operand_atoms type v)) (ty_shows type is)
    (both_show refl (mapped_shows {Q = λ a. a ≡ []} (λ xs none. rw none refl) many_none) (value_shows type v valued))))

arguments_shown : (types : List Ty) (values : List Operand) → AllZip IsArgument types values →
    AreShown argument (args_atoms types values) (args_said types values)
arguments_shown [] [] are = tt
arguments_shown (type ∷ types) (v ∷ values) (is, are) = (argument_shows type v is, arguments_shown types values are)
arguments_shown _ _ are = absurd are

argument_list_shows : (items : List (List Atom)) (args : List Arg) → AreShown argument items args →
    Shows argument_list (seen_of (atoms.listed items)) (λ xs. xs ≡ args)
unfolding argument_list
argument_list_shows items args are = list_shows items args are

arguments_show : (items : List (List Atom)) (args : List Arg) → AreShown argument items args →
    Shows arguments (seen_of (mark (codes "(") ∷ atoms.listed items ++ mark (codes ")") ∷ [])) (λ xs. xs ≡ args)
unfolding arguments
arguments_show items args are =
    skip_shows refl (ends_show _ refl (seen_of_append (atoms.listed items) _) (argument_list_shows items args are))

-- what is called, and with what

abbrev behind_callee : List (List Atom) → List Atom
behind_callee items = (mark (codes "(") ∷ atoms.listed items) ++ (mark (codes ")") ∷ [])

called_shows : (callee : Operand) (args : List Arg) (at_callee : List Atom) (items : List (List Atom)) →
    Shows value (seen_of at_callee) (λ a. operand_at ty.Ptr a ≡ callee) → AreShown argument items args →
    Shows (value ⋆ arguments ⋆ call_end) (seen_of (at_callee ++ behind_callee items))
    (λ x. (operand_at ty.Ptr x.0 ≡ callee) × ((x.1.0 ≡ args) × (x.1.1 ≡ false)))
called_shows callee args at_callee items called are =
    both_show (seen_of_append at_callee (behind_callee items)) called (then_none (arguments_show items args are) call_end_none)

call_grouped : (result at_callee : List Atom) (items : List (List Atom)) →
    call_atoms result at_callee (atoms.listed items)
    ≡ word (codes "call") ∷ space ∷ (result ++ (space ∷ (at_callee ++ behind_callee items)))
call_grouped result at_callee items = simp append_assoc

call_shows : (type : Ty) (callee : Operand) (args : List Arg) (result at_callee : List Atom) (items : List (List Atom)) →
    Shows (at a_type) (seen_of result) (λ a. a ≡ type) → Shows value (seen_of at_callee) (λ a. operand_at ty.Ptr a ≡ callee) →
    AreShown argument items args →
    Shows action (seen_of (call_atoms result at_callee (atoms.listed items))) (λ f. f ≡ call_said None type callee args)
unfolding action_body call
call_shows type callee args result at_callee items typed called are =
    action_shows (left_shows (mapped_shows (λ x has. rw (has.1.0, has.1.1.0, has.1.1.1.0, has.1.1.1.1) refl)
    (both_show (ap seen_of (call_grouped result at_callee items)) call_sign_shows
    (both_show (seen_of_append result (space ∷ (at_callee ++ behind_callee items))) (call_type_shows type result typed)
    (called_shows callee args at_callee items called are)))))

-- what is called

global_value_shows : (name : List ℕ) → IsName name → Shows value (seen_of (global name ∷ [])) (λ a. operand_at ty.Ptr a ≡ global_said name)
unfolding levels out-Ty out-Const denote.Hole.Carrier.out
global_value_shows name is = value_shows ty.Ptr (global_said name) (global_is name is)

callee_shows : (callee : Callee) → IsCallee callee →
    Shows value (seen_of (callee_atoms callee)) (λ a. operand_at ty.Ptr a ≡ callee_said callee)
callee_shows (Callee.Function name) is = global_value_shows name is
callee_shows (Callee.Value v) is = value_shows ty.Ptr v is

pub call_inst_shows : (type : Ty) (callee : Callee) (types : List Ty) (args : List Operand) → IsTy type → IsCallee callee →
    AllZip IsArgument types args →
    Shows action (seen_of (call_atoms (ty_atoms type) (callee_atoms callee) (atoms.listed (args_atoms types args))))
    (λ f. f ≡ call_said None type (callee_said callee) (args_said types args))
call_inst_shows type callee types args is called are =
    call_shows type (callee_said callee) (args_said types args) (ty_atoms type) (callee_atoms callee) (args_atoms types args)
    (ty_shows type is) (callee_shows callee called) (arguments_shown types args are)

-- traps

void_shows : Shows (at a_type) (seen_of (word (codes "void") ∷ [])) (λ a. a ≡ ty.Void)
unfolding levels out-Ty denote.Hole.Carrier.out
void_shows = ty_shows ty.Void void_is_ty

pub trap_shows : (code : Option ℕ) → IsCode code → Shows action (seen_of (trap_atoms code)) (λ f. f ≡ trap_said code)
unfolding levels out-Ty out-Const denote.Hole.Carrier.out name_text is_bare is_name_start is_name_byte
trap_shows None is =
    call_shows ty.Void _ [] (word (codes "void") ∷ []) (global (codes "llvm.trap") ∷ []) [] void_shows
    (global_value_shows (codes "llvm.trap") trap_named) tt
trap_shows (Some code) is =
    call_shows ty.Void _ (Value (ty.Int W8) [] (operand.Const (const.Int W8 code)) ∷ []) (word (codes "void") ∷ [])
    (global (codes "llvm.ubsantrap") ∷ []) (typed_atoms (ty.Int W8) (operand.Const (const.Int W8 code)) ∷ []) void_shows
    (global_value_shows (codes "llvm.ubsantrap") coded_trap_named)
    (argument_shows (ty.Int W8) (operand.Const (const.Int W8 code)) (int_is_ty W8, integer_is W8 code is), tt)

-- rotations

small_64 : (n : ℕ) → n < 256 → n < 2 ^ 64
small_64 n small = grind (arith)

small_half : (n : ℕ) → n < 256 → nat_lt n (2 ^ 63) ≡ true
small_half n small = grind (arith, nat_tests)

by_text : (n : ℕ) → n < 256 → integer_text W64 n ≡ decimal n
unfolding integer_text
by_text n small = rw (mod-eq_of_lt (small_64 n small), small_half n small) refl

rotated_shows : (n : ℕ) → n < 256 →
    Shows argument (seen_of (word (codes "i64") ∷ space ∷ number n ∷ [])) (λ a. a ≡ Value (ty.Int W64) [] (operand.Const (const.Int W64 n)))
unfolding levels out-Ty out-Const denote.Hole.Carrier.out
rotated_shows n small =
    rw⁻¹ (by_text n small)
    (argument_shows (ty.Int W64) (operand.Const (const.Int W64 n)) (int_is_ty W64, integer_is W64 n (small_64 n small)))

abbrev rotate_args : Operand → ℕ → List Arg
rotate_args v n = value_said (ty.Int W64) v ∷ value_said (ty.Int W64) v ∷ Value (ty.Int W64) [] (operand.Const (const.Int W64 n)) ∷ []

pub rotate_shows : (v : Operand) (n : ℕ) → IsOperand (ty.Int W64) v → n < 256 →
    Shows action (seen_of (rotate_atoms v n)) (λ f. f ≡ call_said None (ty.Int W64) (global_said (codes "llvm.fshr.i64")) (rotate_args v n))
unfolding levels out-Ty out-Const denote.Hole.Carrier.out name_text is_bare is_name_start is_name_byte is_digit
rotate_shows v n is small =
    let at_v = typed_atoms (ty.Int W64) v in
    call_shows (ty.Int W64) _ (rotate_args v n) (word (codes "i64") ∷ []) (global (codes "llvm.fshr.i64") ∷ [])
    (at_v ∷ at_v ∷ (word (codes "i64") ∷ space ∷ number n ∷ []) ∷ []) (width_shows W64)
    (global_value_shows (codes "llvm.fshr.i64") rotate_named)
    (argument_shows (ty.Int W64) v (int_is_ty W64, is), (argument_shows (ty.Int W64) v (int_is_ty W64, is), (rotated_shows n small, tt)))
