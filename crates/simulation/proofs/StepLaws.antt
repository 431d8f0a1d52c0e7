-- A step of the output for each step of the source.
use Rattle.std.proofs.Common.{◌≡◌, ℕ, ◌+◌, ◌-◌, ◌==◌, Bool, true, false, zero, suc, List, [], ◌∷◌, ◌++◌, map, Option, Some, None, option_map, refl, sym, ap, subst, ◌∙◌, slice_get, Contains}
use Rattle.std.proofs.lemmas.Option.{slice_get-map}
use Rattle.std.specs.Prelude.{if◌then◌else◌, not}
use Rattle.std.specs.List.{flat_map}
use Rattle.ir_values.specs.declared.types.Ty as ty
use Rattle.ir_values.specs.declared.types.Ty.{Ty}
use Rattle.ir_values.specs.declared.constants.Operand as operand
use Rattle.ir_values.specs.declared.constants.Operand.{Operand}
use Rattle.ir_values.specs.declared.constants.Const as const
use Rattle.ir_values.specs.declared.modules.TypeId.{TypeId}
use Rattle.ir_values.specs.declared.modules.Module.{Module}
use Rattle.ir_values.specs.declared.modules.Func.{Func}
use Rattle.ir_values.specs.declared.modules.Block.{Block}
use Rattle.ir_values.specs.declared.instructions.Inst.{Inst}
use Rattle.ir_values.specs.declared.instructions.Inst.TheVariants.{Test, Ret, Compare}
use Rattle.ir_values.specs.declared.instructions.Pred.TheVariants.{Eq}
use Rattle.ir_memories.specs.Model.{Model}
use Rattle.ir_memories.specs.declared.values.Value.{Value}
use Rattle.ir_memories.specs.declared.values.Value.TheVariants.{Int, Ptr, Pair}
use Rattle.ir_meaning.specs.declared.states.Frame.{Frame}
use Rattle.ir_meaning.specs.declared.states.State.{State}
use Rattle.ir_meaning.specs.declared.states.Status.{Status}
use Rattle.ir_meaning.specs.declared.states.Status.TheVariants.{Running, Returned, Trapped, Starved, Undefined}
use Rattle.ir_meaning.specs.Places.{module_at, function_at, fetched}
use Rattle.ir_meaning.specs.Operands.{truth_value, value_of, pointer_of, pointer}
use Rattle.ir_meaning.specs.Frames.{set_next, given}
use Rattle.ir_meaning.specs.Instructions.{equality, tested_at, compared_at}
use Rattle.ir_meaning.specs.Plain.{plain}
use Rattle.ir_meaning.specs.Steps.{left, on_frame, returned_at, act, taken}
use Rattle.ir_meaning.specs.Sequence.{◌>>=◌}
use Rattle.test_lowering.specs.Rewriting.{Home, group_name, members_of, address_of_member, test_shape, rewritten, rewritten_func, rewritten_block, rewritten_inst, rewritten_operand}
use Rattle.test_lowering.specs.TestAt.{HasInst}
use Rattle.simulation.specs.Same.{SameValue, SameOption, SameFrame, Related}
use Rattle.simulation.proofs.Following.{Followed, in_turn}
use Rattle.simulation.proofs.ValueLaws.{Bridge, IsKnown, same_put, value_followed, pointer_followed}

-- The instructions of thin files: tests of identifiers with a member, and returns.
abbrev pub IsPlain : Module → Inst → Type 0
IsPlain M (Test dst ptr id) = IsKnown M ptr × ((member : Home) × ((members : List Home) × (members_of M id ≡ member ∷ members)))
IsPlain M (Ret ty None) = Unit {0}
IsPlain M (Ret ty (Some value)) = IsKnown M value
IsPlain M _ = ⊥

abbrev pub AreAllPlain : Module → Type 0
AreAllPlain M = (i : Inst) → HasInst M i → IsPlain M i

-- the one instruction that the rewriting puts in the place of another
abbrev pub Becomes : Module → Inst → Inst → Type 0
Becomes M i j = (rewritten_inst M i ≡ j ∷ []) × HasInst M i

module _ {W V P Q : Type 0} (m : Model W P) (n : Model V Q) (w : W) (v : V) (Stands : P → Q → Type 0) (M : Module) (b : Bridge m n w v Stands M) where
  comparison_same : (p : P) (q : Q) → Stands p q → (id : TypeId) (member : Home) (members : List Home) → members_of M id ≡ member ∷ members
      → (file : ℕ) → file ≡ 1 → (found : Option Bool) → m.test w id p ≡ found
      → Followed (SameValue Stands) (found >>= λ holds. Some (truth_value holds))
      ((n.equal v q (n.address v file (group_name member.group) member.offset) >>= equality Eq) >>= λ holds. Some (truth_value holds))
  comparison_same p q stands id member members is file first None e = tt
  comparison_same p q stands id member members is file first (Some holds) e = rw (b.test id member members is p q stands holds e file first) (refl, refl)

  tested_same : (o : Option P) (p : Option Q) → Followed Stands o p → (id : TypeId) (member : Home) (members : List Home) → members_of M id ≡ member ∷ members
      → (file : ℕ) → file ≡ 1
      → Followed (SameValue Stands) (o >>= λ x. (m.test w id x >>= λ holds. Some (truth_value holds)))
      ((p >>= λ y. (n.equal v y (n.address v file (group_name member.group) member.offset) >>= equality Eq)) >>= λ holds. Some (truth_value holds))
  tested_same None p follows id member members is file first = tt
  tested_same (Some x) None follows id member members is file first = absurd follows
  tested_same (Some x) (Some y) follows id member members is file first = comparison_same x y follows id member members is file first (m.test w id x) refl

  test_followed : (f : Frame P) (g : Frame Q) → f.file ≡ 1 → SameFrame Stands f g → (ptr : Operand) → IsKnown M ptr
      → (id : TypeId) (member : Home) (members : List Home) → members_of M id ≡ member ∷ members
      → Followed (SameValue Stands) (tested_at m w f ptr id) (compared_at n v g Eq ty.Ptr (rewritten_operand M ptr) (address_of_member member))
  unfolding ty.out-Ty operand.out-Operand denote.Hole.Carrier.out const.out-Const
  test_followed f g first same ptr known id member members is =
      tested_same (pointer_of m w f ptr) (pointer_of n v g (rewritten_operand M ptr))
      (pointer_followed m n w v Stands M b f g first same ptr known) id member members is g.file (sym same.file ∙ first)

  set_same : (f : Frame P) (g : Frame Q) → SameFrame Stands f g → (dst : List ℕ) (x : Value P) (y : Value Q) → SameValue Stands x y
      → SameFrame Stands (set_next f dst x) (set_next g dst y)
  set_same f g same dst x y value = record {
    file = same.file;
    func = same.func;
    block = same.block;
    place = ap (λ k. k + 1) same.place;
    registers = same_put Stands f.registers g.registers dst x y same.registers value;
  }

  abbrev SameFirst : Frame P → Frame Q → Type 0
  SameFirst f g = SameFrame Stands f g × (f.file ≡ 1)

  frame_followed : (ms os : List Module) (f : Frame P) (g : Frame Q) → f.file ≡ 1 → SameFrame Stands f g → (dst : List ℕ) (ptr : Operand) → IsKnown M ptr
      → (id : TypeId) (member : Home) (members : List Home) → members_of M id ≡ member ∷ members
      → Followed SameFirst (plain m ms w f (Test dst ptr id)) (plain n os v g (Compare dst Eq ty.Ptr (rewritten_operand M ptr) (address_of_member member)))
  frame_followed ms os f g first same dst ptr known id member members is =
      in_turn (SameValue Stands) SameFirst (tested_at m w f ptr id) (compared_at n v g Eq ty.Ptr (rewritten_operand M ptr) (address_of_member member))
      (λ x. Some (set_next f dst x)) (λ y. Some (set_next g dst y)) (test_followed f g first same ptr known id member members is)
      (λ x y value. (set_same f g same dst x y value, first))

  with_frame : (s : State W P) (t : State V Q) → Related Stands w v s t → (f : Frame P) (g : Frame Q) → SameFirst f g
      → Related Stands w v (record s { frame = f }) (record t { frame = g })
  with_frame s t r f g same = record {
    kept = r.kept;
    output_kept = r.output_kept;
    frame = same.0;
    file = same.1;
    callers = r.callers;
    output_callers = r.output_callers;
    taken = r.taken;
    events = r.events;
    status = r.status;
    result = r.result;
  }

  with_result : (s : State W P) (t : State V Q) → Related Stands w v s t → (x : Option (Value P)) (y : Option (Value Q)) → SameOption Stands x y
      → Related Stands w v (record s { status = Returned; result = x }) (record t { status = Returned; result = y })
  with_result s t r x y same = record {
    kept = r.kept;
    output_kept = r.output_kept;
    frame = r.frame;
    file = r.file;
    callers = r.callers;
    output_callers = r.output_callers;
    taken = r.taken;
    events = r.events;
    status = refl;
    result = same;
  }

  module _ (ms os : List Module) (answers : List ℕ) where
    left_followed : (s : State W P) (t : State V Q) → Related Stands w v s t → (x : Option (Value P)) (y : Option (Value Q)) → SameOption Stands x y
        → Followed (Related Stands w v) (left ms s x s.callers) (left os t y t.callers)
    left_followed s t r x y same =
        subst (λ callers. Followed (Related Stands w v) (left ms s x callers) (left os t y t.callers)) (sym r.callers)
        (subst (λ callers. Followed (Related Stands w v) (left ms s x []) (left os t y callers)) (sym r.output_callers) (with_result s t r x y same))

    test_act : (s : State W P) (t : State V Q) → Related Stands w v s t → (dst : List ℕ) (ptr : Operand) → IsKnown M ptr
        → (id : TypeId) (member : Home) (members : List Home) → members_of M id ≡ member ∷ members
        → Followed (Related Stands w v) (act m ms answers s (Test dst ptr id)) (act n os answers t (Compare dst Eq ty.Ptr (rewritten_operand M ptr) (address_of_member member)))
    test_act s t r dst ptr known id member members is =
        subst (λ memory. Followed (Related Stands w v) (on_frame s (plain m ms memory s.frame (Test dst ptr id)))
        (on_frame t (plain n os t.memory t.frame (Compare dst Eq ty.Ptr (rewritten_operand M ptr) (address_of_member member))))) (sym r.kept)
        (subst (λ memory. Followed (Related Stands w v) (on_frame s (plain m ms w s.frame (Test dst ptr id)))
        (on_frame t (plain n os memory t.frame (Compare dst Eq ty.Ptr (rewritten_operand M ptr) (address_of_member member))))) (sym r.output_kept)
        (in_turn SameFirst (Related Stands w v) (plain m ms w s.frame (Test dst ptr id)) (plain n os v t.frame (Compare dst Eq ty.Ptr (rewritten_operand M ptr) (address_of_member member)))
        (λ f. Some (record s { frame = f })) (λ g. Some (record t { frame = g }))
        (frame_followed ms os s.frame t.frame r.file r.frame dst ptr known id member members is) (with_frame s t r)))

    ret_act : (s : State W P) (t : State V Q) → Related Stands w v s t → (ty : Ty) (value : Operand) → IsKnown M value
        → Followed (Related Stands w v) (act m ms answers s (Ret ty (Some value))) (act n os answers t (Ret ty (Some (rewritten_operand M value))))
    ret_act s t r ty value known =
        subst (λ memory. Followed (Related Stands w v) (value_of m memory s.frame value >>= λ x. left ms s (Some x) s.callers)
        (value_of n t.memory t.frame (rewritten_operand M value) >>= λ y. left os t (Some y) t.callers)) (sym r.kept)
        (subst (λ memory. Followed (Related Stands w v) (value_of m w s.frame value >>= λ x. left ms s (Some x) s.callers)
        (value_of n memory t.frame (rewritten_operand M value) >>= λ y. left os t (Some y) t.callers)) (sym r.output_kept)
        (in_turn (SameValue Stands) (Related Stands w v) (value_of m w s.frame value) (value_of n v t.frame (rewritten_operand M value))
        (λ x. left ms s (Some x) s.callers) (λ y. left os t (Some y) t.callers)
        (value_followed m n w v Stands M b s.frame t.frame r.file r.frame value known) (λ x y same. left_followed s t r (Some x) (Some y) same)))

    pub act_followed : (s : State W P) (t : State V Q) → Related Stands w v s t → (i : Inst) → IsPlain M i → (j : Inst) → rewritten_inst M i ≡ j ∷ []
        → Followed (Related Stands w v) (act m ms answers s i) (act n os answers t j)
    act_followed s t r (Test dst ptr id) plain j is =
        let shape : test_shape (members_of M id) dst (rewritten_operand M ptr) ≡ test_shape (plain.1.0 ∷ plain.1.1.0) dst (rewritten_operand M ptr) =
        ap (λ members. test_shape members dst (rewritten_operand M ptr)) plain.1.1.1 in
        let same : Compare dst Eq ty.Ptr (rewritten_operand M ptr) (address_of_member plain.1.0) ≡ j = cc in
        subst (λ k. Followed (Related Stands w v) (act m ms answers s (Test dst ptr id)) (act n os answers t k)) same
        (test_act s t r dst ptr plain.0 id plain.1.0 plain.1.1.0 plain.1.1.1)
    act_followed s t r (Ret ty None) plain j is =
        let same : Ret ty None ≡ j = cc in
        subst (λ k. Followed (Related Stands w v) (act m ms answers s (Ret ty None)) (act n os answers t k)) same (left_followed s t r None None tt)
    act_followed s t r (Ret ty (Some value)) plain j is =
        let same : Ret ty (Some (rewritten_operand M value)) ≡ j = cc in
        subst (λ k. Followed (Related Stands w v) (act m ms answers s (Ret ty (Some value))) (act n os answers t k)) same (ret_act s t r ty value plain)
    act_followed s t r _ plain j is = absurd plain
