-- Branches, and the phis of the block that one enters.
use Rattle.std.specs.Prelude.{ℕ, ◌+◌, ◌==◌, nat_eq, Bool, true, false, List, [], ◌∷◌, slice_get, if◌then◌else◌, Option, Some, None}
use Rattle.std.specs.List.{position}
use Rattle.std.specs.Cmp.Lexicographic.{pointwise}
use Rattle.ir_values.specs.declared.types.Width.{Width}
use Rattle.ir_values.specs.declared.constants.Operand.{Operand}
use Rattle.ir_values.specs.declared.instructions.Inst.{Inst}
use Rattle.ir_values.specs.declared.instructions.Inst.TheVariants.{Phi}
use Rattle.ir_values.specs.declared.modules.Block.{Block}
use Rattle.ir_values.specs.declared.modules.Module.{Module}
use Rattle.ir_memories.specs.Model.{Model}
use Rattle.ir_meaning.specs.declared.states.Register.{Register}
use Rattle.ir_meaning.specs.declared.states.Frame.{Frame}
use Rattle.ir_meaning.specs.Places.{function_at}
use Rattle.ir_meaning.specs.Registers.{put}
use Rattle.ir_meaning.specs.Operands.{integer_of, truth_of, value_of}
use Rattle.ir_meaning.specs.Frames.{next}
use Rattle.ir_meaning.specs.Sequence.{◌>>=◌}

abbrev pub is_labelled : List ℕ → Block → Bool
is_labelled label block = pointwise nat_eq block.label label

-- the operand of a phi for the block that control comes from
abbrev pub arm_of : List (Operand × List ℕ) → List ℕ → Option Operand
arm_of [] label = None
arm_of (arm ∷ rest) label = if pointwise nat_eq arm.1 label then Some arm.0 else arm_of rest label

-- the label of the case that a number meets
abbrev pub case_of : ℕ → List ℕ → List (ℕ × List ℕ) → List ℕ
case_of n other [] = other
case_of n other (case ∷ rest) = if case.0 == n then case.1 else case_of n other rest

abbrev pub begins_with_phi : List Inst → Bool
begins_with_phi [] = false
begins_with_phi (Phi dst ty arms ∷ rest) = true
begins_with_phi (inst ∷ rest) = false

module _ {W P : Type 0} (m : Model W P) (w : W) (f : Frame P) where
  -- The registers with those of a block's phis, and the place behind the phis. The phis read the frame that branches, so that all
  -- are read before any is written.
  -- Source: LLVM Language Reference, "'phi' Instruction".
  abbrev pub phis : List ℕ → List (Register P) → ℕ → List Inst → Option (List (Register P) × ℕ)
  phis label registers place [] = Some (registers, place)
  phis label registers place (Phi dst ty arms ∷ rest) = do
    operand ← arm_of arms label
    value ← value_of m w f operand
    phis label (put registers dst value) (place + 1) rest
  phis label registers place (inst ∷ rest) = Some (registers, place)

  -- Source: LLVM Language Reference, "'llvm.assume' Intrinsic".
  abbrev pub assumed_at : Operand → Option (Frame P)
  assumed_at cond = truth_of m w f cond >>= λ holds. if holds then Some (next f) else None

module _ {W P : Type 0} (m : Model W P) (modules : List Module) (w : W) (f : Frame P) where
  -- the frame behind the phis of the block of this label
  abbrev pub entered : List ℕ → Option (Frame P)
  entered to = do
    function ← function_at modules f.file f.func
    here ← slice_get function.blocks f.block
    at ← position (is_labelled to) function.blocks
    block ← slice_get function.blocks at
    after ← phis m w f here.label f.registers 0 block.insts
    Some (record f { block = at; place = after.1; registers = after.0 })

  -- Source: LLVM Language Reference, "'br' Instruction".
  abbrev pub branched_at : Operand → List ℕ → List ℕ → Option (Frame P)
  branched_at cond on off = truth_of m w f cond >>= λ holds. entered (if holds then on else off)

  -- Source: LLVM Language Reference, "'switch' Instruction".
  abbrev pub switched_at : Width → Operand → List ℕ → List (ℕ × List ℕ) → Option (Frame P)
  switched_at width value other cases = integer_of m w f width value >>= λ n. entered (case_of n other cases)
