-- What a run of modules by their meaning comes to.
use Rattle.std.specs.Prelude.{ℕ, List, [], map, All}
use Rattle.ir_values.specs.declared.modules.Module.{Module}
use Rattle.type_metadata.specs.declared.objects.Object.{Object}
use Rattle.type_metadata.specs.declared.types.Types.{Types}
use Rattle.type_metadata.specs.Counted.{AreCounted}
use Rattle.type_metadata.specs.Marks.{identifiers, carriers}
use Rattle.ir_memories.specs.declared.symbolic.SPtr.{SPtr}
use Rattle.ir_memories.specs.Symbolic.{symbolic}
use Rattle.ir_memories.specs.Worlds.{world, IsLaid}
use Rattle.ir_meaning.specs.declared.states.Outcome.{Outcome}
use Rattle.ir_meaning.specs.Starts.{outcome}

-- the types that are collected of modules
abbrev pub types_of : List Module → Types
types_of ms = record { ids = identifiers ms; carriers = map (carriers ms) (identifiers ms) }

-- what n steps come to, from the modules' memory on and an entry that takes no arguments; `answers` are those that externals give
abbrev pub source_run : List Module → (entry : Object) → (answers : List ℕ) → (n : ℕ) → Outcome SPtr
source_run ms entry answers n = outcome symbolic ms (world ms (types_of ms)) entry [] answers n

-- modules in which a run may begin: each variable has a type of a size
pub record IsSource (ms : List Module) : Type 0 where
  pub counted : AreCounted ms
  pub laid : All IsLaid ms
