-- The instruction that the output's frame stands at is what the source's becomes.
use Rattle.std.proofs.Common.{◌≡◌, ℕ, ◌+◌, ◌-◌, ◌==◌, Bool, true, false, zero, suc, List, [], ◌∷◌, ◌++◌, map, Option, Some, None, option_map, refl, sym, ap, subst, ◌∙◌, slice_get, Contains}
use Rattle.std.proofs.lemmas.Option.{slice_get-map}
use Rattle.std.specs.Prelude.{if◌then◌else◌}
use Rattle.std.specs.List.{flat_map}
use Rattle.ir_values.specs.declared.types.Ty as ty
use Rattle.ir_values.specs.declared.modules.Module.{Module}
use Rattle.ir_values.specs.declared.modules.Func.{Func}
use Rattle.ir_values.specs.declared.modules.Block.{Block}
use Rattle.ir_values.specs.declared.instructions.Inst.{Inst}
use Rattle.ir_values.specs.declared.instructions.Inst.TheVariants.{Test, Ret, Compare}
use Rattle.ir_values.specs.declared.instructions.Pred.TheVariants.{Eq}
use Rattle.ir_meaning.specs.Places.{module_at, function_at, instruction_at, fetched}
use Rattle.ir_meaning.specs.Sequence.{◌>>=◌}
use Rattle.test_lowering.specs.Rewriting.{address_of_member, test_shape, rewritten, rewritten_func, rewritten_block, rewritten_inst, rewritten_operand}
use Rattle.test_lowering.specs.TestAt.{HasInst}
use Rattle.test_lowering.proofs.PlaceLaws.{contains_at}
use Rattle.simulation.proofs.Following.{Followed}
use Rattle.simulation.proofs.StepLaws.{IsPlain, AreAllPlain, Becomes}

module _ (M : Module) (all : AreAllPlain M) where
  abbrev IsSingle : Inst → Type 0
  IsSingle i = (j : Inst) × (rewritten_inst M i ≡ j ∷ [])

  single : (i : Inst) → IsPlain M i → IsSingle i
  single (Test dst ptr id) plain = (
    Compare dst Eq ty.Ptr (rewritten_operand M ptr) (address_of_member plain.1.0),
    ap (λ members. test_shape members dst (rewritten_operand M ptr)) plain.1.1.1,
  )
  single (Ret ty None) plain = (Ret ty None, refl)
  single (Ret ty (Some value)) plain = (Ret ty (Some (rewritten_operand M value)), refl)
  single _ plain = absurd plain

  flat_at : (insts : List Inst) → ((k : ℕ) (i : Inst) → slice_get insts k ≡ Some i → IsSingle i) → (k : ℕ) (i j : Inst) → slice_get insts k ≡ Some i
      → rewritten_inst M i ≡ j ∷ [] → slice_get (flat_map (rewritten_inst M) insts) k ≡ Some j
  flat_at [] singles k i j at is = cc
  flat_at (x ∷ xs) singles zero i j at is = let same : x ≡ i = cc in rw (same, is) refl
  flat_at (x ∷ xs) singles (suc k) i j at is =
      rw (singles zero x refl).1 (flat_at xs (λ l y e. singles (suc l) y e) k i j at is)

  module _ (f : Func) (in_module : Contains M.funcs f) (block : Block) (in_function : Contains f.blocks block) where
    has : (k : ℕ) (i : Inst) → slice_get block.insts k ≡ Some i → HasInst M i
    has k i at = (f, (block, in_module, in_function, contains_at block.insts i k at))

    inst_followed : (k : ℕ) (o : Option Inst) → slice_get block.insts k ≡ o
        → Followed (Becomes M) o (slice_get (flat_map (rewritten_inst M) block.insts) k)
    inst_followed k None e = tt
    inst_followed k (Some i) e =
        let s = single i (all i (has k i e)) in
        rw (flat_at block.insts (λ l x at. single x (all x (has l x at))) k i s.0 e s.1) (s.1, has k i e)

  block_followed : (f : Func) → Contains M.funcs f → (block place : ℕ) (o : Option Block) → slice_get f.blocks block ≡ o
      → Followed (Becomes M) (o >>= λ b. slice_get b.insts place) (option_map (rewritten_block M) o >>= λ b. slice_get b.insts place)
  block_followed f held block place None e = tt
  block_followed f held block place (Some b) e = inst_followed f held b (contains_at f.blocks b block e) place (slice_get b.insts place) refl

  func_followed : (func block place : ℕ) (o : Option Func) → slice_get M.funcs func ≡ o
      → Followed (Becomes M) (o >>= λ f. (slice_get f.blocks block >>= λ b. slice_get b.insts place))
      (option_map (rewritten_func M) o >>= λ f. (slice_get f.blocks block >>= λ b. slice_get b.insts place))
  func_followed func block place None e = tt
  func_followed func block place (Some f) e =
      rw (slice_get-map (rewritten_block M) f.blocks block) (block_followed f (contains_at M.funcs f func e) block place (slice_get f.blocks block) refl)

  pub instruction_followed : (func block place : ℕ)
      → Followed (Becomes M) (instruction_at (M ∷ []) 1 func block place) (instruction_at (rewritten M ∷ []) 1 func block place)
  instruction_followed func block place =
      rw (slice_get-map (rewritten_func M) M.funcs func) (func_followed func block place (slice_get M.funcs func) refl)
