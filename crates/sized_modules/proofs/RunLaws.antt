-- In the module of a text without flaws a run may begin.
use Rattle.std.proofs.Common.{ℕ, false, List, [], ◌∷◌, All, arith}
use Rattle.std.proofs.lemmas.List.Elements.{All-nil, All-cons}
use Rattle.ltt_base.specs.declared.refusal.Placed.{Placed}
use Rattle.ir_values.specs.declared.modules.Module.{Module}
use Rattle.ir_values.specs.declared.units.Unit.{Unit as TheUnit}
use Rattle.unit_grammar.specs.Pieces.{pieces}
use Rattle.ir_text.specs.Answers.{IsRead}
use Rattle.ir_check.specs.Answers.{IsClean}
use Rattle.built_modules.specs.Modules.{module_of}
use Rattle.type_metadata.specs.Counted.{IsCounted}
use Rattle.ir_memories.specs.Worlds.{IsLaid}
use Rattle.source_runs.specs.Runs.{IsSource}
use Rattle.sized_modules.specs.Written.{AreWritten}
use Rattle.sized_modules.proofs.ReadLemmas.{units_written}
use Rattle.sized_modules.proofs.CleanLemmas.{clean_are_laid}
use Rattle.sized_modules.proofs.CountLemmas.{clean_are_counted}

-- the types that a text gives hold no pair
pub read_are_written : (file : ℕ) (text : List ℕ) (us : List (Placed TheUnit)) → IsRead file text us → AreWritten us
read_are_written file text us read = units_written (pieces text read.tokens) us [] read.reads

one : (P : Module → Type 0) (m : Module) → P m → All P (m ∷ [])
one P m holds = All-cons P m [] holds (All-nil P)

pub clean_files_can_run : (file : ℕ) (text : List ℕ) (us : List (Placed TheUnit)) → IsRead file text us → IsClean false us
    → IsSource (module_of false us file ∷ [])
clean_files_can_run file text us read clean = record {
  counted = record {
    files = omega arith;
    modules = one IsCounted (module_of false us file) (clean_are_counted us file clean);
  };
  laid = one IsLaid (module_of false us file) (clean_are_laid false us file (read_are_written file text us read) clean);
}
