-- Runs of a source module and of its output, and when they come to the same.
use Rattle.std.specs.Prelude.{◌≡◌, ◌≢◌, ℕ, zero, suc, ◌+◌, ◌%◌, ◌^◌, List, [], ◌∷◌, map, slice_get, if◌then◌else◌, Option, Some, None}
use Rattle.std.specs.Option.{option_map}
use Rattle.ir_values.specs.declared.modules.Module.{Module}
use Rattle.type_metadata.specs.declared.objects.Object.{Object}
use Rattle.type_metadata.specs.declared.types.Types.{Types}
use Rattle.type_metadata.specs.Marks.{identifiers, carriers}
use Rattle.ir_memories.specs.declared.symbolic.SPtr.{SPtr}
use Rattle.ir_memories.specs.declared.symbolic.SPtr.TheVariants.{Null, At}
use Rattle.ir_memories.specs.declared.symbolic.Symbolic.{Symbolic}
use Rattle.ir_memories.specs.Symbolic.{symbolic}
use Rattle.ir_memories.specs.Numeric.{numeric, placed}
use Rattle.ir_memories.specs.Worlds.{world}
use Rattle.ir_memories.specs.Placement.{Placement, IsPlaced}
use Rattle.ir_memories.specs.Stated.{placement_of}
use Rattle.ir_meaning.specs.declared.states.Outcome.{Outcome}
use Rattle.ir_meaning.specs.declared.states.Status.TheVariants.{Undefined}
use Rattle.ir_meaning.specs.Starts.{IsEntry, outcome}
use Rattle.test_lowering.specs.Rewriting.{home_of, group_name, rewritten}
use Rattle.simulation.specs.Same.{SameOption, SameEvents}

-- the types that are collected of one module
abbrev pub types_of : Module → Types
types_of m = record { ids = identifiers (m ∷ []); carriers = map (carriers (m ∷ [])) (identifiers (m ∷ [])) }

abbrev pub source_memory : Module → Symbolic
source_memory m = world (m ∷ []) (types_of m)

-- what n steps of the source come to. `answers` are those that externals give.
abbrev pub source_run : Module → (entry : Object) → (args answers : List ℕ) → (n : ℕ) → Outcome SPtr
source_run m entry args answers n = outcome symbolic (m ∷ []) (source_memory m) entry args answers n

-- what n steps of an output come to, its objects, in printed order, at the addresses `at`
abbrev pub output_run : Module → (at : List ℕ) → (entry : Object) → (args answers : List ℕ) → (n : ℕ) → Outcome ℕ
output_run m at entry args answers n = outcome numeric (m ∷ []) (placed m at) entry args answers n

-- the name of the output's object in which an object of the source has its home, and the home's offset there
abbrev pub name_of_home : Module → Object → Option (List ℕ)
name_of_home m object = if object.function
    then option_map (λ f. f.name) (slice_get m.funcs object.index)
    else option_map (λ v. group_name (home_of object.index).group) (slice_get m.vars object.index)

abbrev pub offset_of_home : Object → ℕ
offset_of_home object = if object.function then 0 else (home_of object.index).offset

abbrev pub IsNumber : Placement → Option (List ℕ) → ℕ → ℕ → Type 0
IsNumber p None offset a = ⊥
IsNumber p (Some name) offset a = a ≡ (p name + offset) % 2 ^ 64

-- a pointer into an object of a file, by the file's number; no object stands at 0
abbrev pub StandsIn : Module → Placement → (object : Object) → (file : ℕ) → (offset a : ℕ) → Type 0
StandsIn m p object zero offset a = a ≡ offset % 2 ^ 64
StandsIn m p object (suc zero) offset a = IsNumber p (name_of_home m object) (offset_of_home object + offset) a
StandsIn m p object (suc (suc file)) offset a = ⊥

-- the number `a` is the source's pointer in the output: null is 0, and a pointer into an object is behind its home
abbrev pub Stands : Module → Placement → SPtr → ℕ → Type 0
Stands m p Null a = a ≡ 0
Stands m p (At object offset) a = StandsIn m p object object.file offset a

-- two runs stand the same way, made the same calls of externals and gave the same result
pub record SameOutcome (m : Module) (p : Placement) (s : Outcome SPtr) (t : Outcome ℕ) : Type 0 where
  pub events : SameEvents (Stands m p) s.events t.events
  pub status : s.status ≡ t.status
  pub result : SameOption (Stands m p) s.result t.result

-- Some steps of the output come to what n steps of the source come to. So far they are as many.
pub record IsFollowed (m : Module) (at : List ℕ) (entry : Object) (args answers : List ℕ) (n : ℕ) : Type 0 where
  pub steps : ℕ
  pub bound : steps ≡ n
  pub same : SameOutcome m (placement_of (rewritten m) at) (source_run m entry args answers n) (output_run (rewritten m) at entry args answers steps)

-- Where n steps of the source meet no undefined step, the output at these addresses follows them.
abbrev pub IsSimulated : Module → List ℕ → Type 0
IsSimulated m at = (entry : Object) (args answers : List ℕ) (n : ℕ) → IsEntry (m ∷ []) entry args
    → (source_run m entry args answers n).status ≢ Undefined → IsFollowed m at entry args answers n

-- At all addresses that are a placement of the output, it follows the source.
abbrev pub IsAlwaysSimulated : Module → Type 0
IsAlwaysSimulated m = (at : List ℕ) → IsPlaced (rewritten m) (placement_of (rewritten m) at) → IsSimulated m at
