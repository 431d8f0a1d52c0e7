-- What holds of the modules of files without flaws.
use Rattle.std.specs.Prelude.{ℕ, false, List, [], ◌∷◌}
use Rattle.ltt_base.specs.declared.refusal.Placed.{Placed}
use Rattle.ir_values.specs.declared.units.Unit.{Unit as TheUnit}
use Rattle.ir_text.specs.Answers.{IsRead}
use Rattle.ir_check.specs.Answers.{IsClean}
use Rattle.built_modules.specs.Modules.{module_of}
use Rattle.type_metadata.specs.Counted.{IsCounted}
use Rattle.ir_memories.specs.Worlds.{IsLaid}
use Rattle.source_runs.specs.Runs.{IsSource}
use Rattle.sized_modules.specs.Written.{AreWritten}

-- the types that a text gives hold no pair
abbrev pub ReadAreWritten : Type 0
ReadAreWritten = (file : ℕ) (text : List ℕ) (us : List (Placed TheUnit)) → IsRead file text us → AreWritten us

-- each variable of a file without flaws has a type of a size
abbrev pub CleanAreLaid : Type 0
CleanAreLaid = (us : List (Placed TheUnit)) (file : ℕ) → AreWritten us → IsClean false us → IsLaid (module_of false us file)

-- the variables and functions of such a file can be counted
abbrev pub CleanAreCounted : Type 0
CleanAreCounted = (us : List (Placed TheUnit)) (file : ℕ) → IsClean false us → IsCounted (module_of false us file)

-- in the module of a text without flaws a run may begin
abbrev pub CleanCanRun : Type 0
CleanCanRun = (file : ℕ) (text : List ℕ) (us : List (Placed TheUnit)) → IsRead file text us → IsClean false us
    → IsSource (module_of false us file ∷ [])
