-- What a memory means: its pointers, and what each operation gives. None means that the step is undefined.
use Rattle.std.specs.Prelude.{ℕ, Bool, List, Option}
use Rattle.ir_values.specs.declared.types.Ty.{Ty}
use Rattle.ir_values.specs.declared.modules.TypeId.{TypeId}
use Rattle.ir_memories.specs.declared.values.Value.{Value}
use Rattle.ir_memories.specs.declared.values.Goal.{Goal}

pub record Model (W P : Type 0) : Type 0 where
  pub null : P
  -- the address `offset` bytes from the start of what the name denotes in the module of a file
  pub address : W → (file : ℕ) → (name : List ℕ) → (offset : ℕ) → P
  pub moved : P → ℕ → P
  pub load : W → Ty → P → Option (Value P)
  pub store : W → Value P → P → Option W
  pub equal : W → P → P → Option Bool
  pub test : W → TypeId → P → Option Bool
  pub goal : W → P → Option Goal
  pub number : W → P → Option ℕ
