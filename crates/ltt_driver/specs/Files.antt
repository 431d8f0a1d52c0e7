-- What a command makes of a file's text, or the refusal of the text.
use Rattle.std.specs.Prelude.{◌≡◌, ℕ, ◌⊎◌, Bool, true, false, List, [], ◌∷◌, ◌++◌, codes, Some, None}
use Rattle.ltt_base.specs.declared.refusal.Code.TheVariants.{E05, E07}
use Rattle.ltt_base.specs.declared.refusal.Placed.{Placed}
use Rattle.ltt_base.specs.declared.refusal.Refusal.{Refusal}
use Rattle.ltt_base.specs.declared.refusal.Fault.{Fault}
use Rattle.ltt_base.specs.declared.refusal.Fault.TheVariants.{Refused, Memory}
use Rattle.ir_values.specs.declared.modules.Module.{Module}
use Rattle.ir_values.specs.declared.units.Unit.{Unit as TheUnit}
use Rattle.ir_text.specs.Answers as reader
use Rattle.ir_check.specs.Answers as check
use Rattle.ir_print.specs.ModuleText.{module_text}
use Rattle.thin_files.specs.declared.thin.Thin.{Thin}
use Rattle.thin_files.specs.Thin.{IsThin, module_of}
use Rattle.test_lowering.specs.Rewriting.{rewritten}
use Rattle.ir_memories.specs.Placement.{Placement, IsPlaced}
use Rattle.test_lowering.specs.TestAt.{IsExact}
use Rattle.simulation.specs.Runs.{IsAlwaysSimulated}
use Rattle.built_modules.specs.Modules as built
use Rattle.type_metadata.specs.declared.objects.Object.{Object}
use Rattle.ir_memories.specs.declared.symbolic.SPtr.{SPtr}
use Rattle.ir_meaning.specs.declared.states.Outcome.{Outcome}
use Rattle.source_runs.specs.Entries.{entry_of}
use Rattle.source_runs.specs.Lines.{run_text}
use Rattle.source_runs.specs.Runs.{source_run}
use Rattle.ltt_driver.specs.Asked.{Command, Lower, Check, Reprint, Run}

-- bytes of all texts of a call
unfoldable pub text_limit : ℕ
text_limit = 67108864

-- the text reads as these units, of which none has a flaw; those of an output may be what a source's may not
pub record IsChecked (output : Bool) (text : List ℕ) (units : List (Placed TheUnit)) : Type 0 where
  pub read : reader.IsRead 1 text units
  pub clean : check.IsClean output units

-- the text has units, and the first with a flaw is refused
pub record IsFlawed (output : Bool) (text : List ℕ) (refusal : Refusal) : Type 0 where
  pub units : List (Placed TheUnit)
  pub read : reader.IsRead 1 text units
  pub refused : check.IsRefused output units refusal

-- the refusal of a text that isn't read, or of units with a flaw
unfoldable pub IsUnchecked : Bool → List ℕ → Refusal → Type 0
IsUnchecked output text refusal = reader.IsRefused 1 text refusal ⊎ IsFlawed output text refusal

-- The text is a thin file without a flaw, and `m` is the rewriting of the module that the file is. At every placement that
-- meets the alignments of `m`, each test of the file, as `m` has it, is true exactly at addresses that carry
-- its identifier; and where n steps of the file meet no undefined step, n steps of `m` come to the same.
pub record IsLoweredTo (text : List ℕ) (m : Module) : Type 0 where
  pub units : List (Placed TheUnit)
  pub thin : Thin
  pub checked : IsChecked false text units
  pub is : IsThin units thin
  pub made : m ≡ rewritten (module_of thin)
  pub exact : (p : Placement) → IsPlaced m p → IsExact (module_of thin) p
  pub simulated : IsAlwaysSimulated (module_of thin)

abbrev pub form_refusal : Refusal
form_refusal = record { code = E07; place = record { file = 1; line = 1; column = 1 }; word = codes "form" }

-- the text has units without a flaw, and isn't a thin file
pub record IsNotThin (text : List ℕ) (refusal : Refusal) : Type 0 where
  pub units : List (Placed TheUnit)
  pub checked : IsChecked false text units
  pub no_thin : (t : Thin) → IsThin units t → ⊥
  pub is : refusal ≡ form_refusal

-- the fault is this refusal, unless memory is wanting
abbrev pub Refuses : Refusal → Fault → Type 0
Refuses due (Refused refusal) = refusal ≡ due
Refuses due Memory = Unit {0}

-- the refusal of a text that isn't lowered
unfoldable pub IsNotLowered : List ℕ → Refusal → Type 0
IsNotLowered text refusal = IsUnchecked false text refusal ⊎ IsNotThin text refusal

abbrev pub accepted_line : List ℕ
accepted_line = codes "accepted 1\n"

-- the module of a text's units, of which none has a flaw
pub record IsModuleOf (output : Bool) (text : List ℕ) (m : Module) : Type 0 where
  pub units : List (Placed TheUnit)
  pub checked : IsChecked output text units
  pub is : m ≡ built.module_of output units 1

-- what so many steps of modules come to, from the function of this name on, with these answers
pub record IsRunOf (ms : List Module) (steps : ℕ) (entry answers : List ℕ) (outcome : Outcome SPtr) : Type 0 where
  pub object : Object
  pub begins : entry_of ms entry ≡ Some object
  pub is : outcome ≡ source_run ms object answers steps

abbrev pub entry_refusal : List ℕ → Refusal
entry_refusal entry = record { code = E05; place = record { file = 0; line = 0; column = 0 }; word = codes "@" ++ entry }

-- no run begins at this name
pub record HasNoEntry (ms : List Module) (entry : List ℕ) (refusal : Refusal) : Type 0 where
  pub none : entry_of ms entry ≡ None
  pub is : refusal ≡ entry_refusal entry

-- the text of what so many steps of a text's module come to
pub record IsRun (steps : ℕ) (entry answers text made : List ℕ) : Type 0 where
  pub m : Module
  pub source : IsModuleOf false text m
  pub outcome : Outcome SPtr
  pub ran : IsRunOf (m ∷ []) steps entry answers outcome
  pub is : made ≡ run_text outcome

-- no run of the text's module begins at this name
pub record IsModuleUnrun (entry text : List ℕ) (refusal : Refusal) : Type 0 where
  pub m : Module
  pub source : IsModuleOf false text m
  pub none : HasNoEntry (m ∷ []) entry refusal

-- the refusal of a text that isn't run
unfoldable pub IsNotRun : List ℕ → List ℕ → Refusal → Type 0
IsNotRun entry text refusal = IsUnchecked false text refusal ⊎ IsModuleUnrun entry text refusal

-- a command makes this of a text
abbrev pub IsMade : Command → List ℕ → List ℕ → Type 0
IsMade Lower text made = (m : Module) × IsLoweredTo text m × (made ≡ module_text m)
IsMade Check text made = (units : List (Placed TheUnit)) × IsChecked false text units × (made ≡ accepted_line)
IsMade Reprint text made = (m : Module) × IsModuleOf true text m × (made ≡ module_text m)
IsMade (Run steps entry answers) text made = IsRun steps entry answers text made

-- a command refuses a text
abbrev pub IsRefusedBy : Command → List ℕ → Refusal → Type 0
IsRefusedBy Lower text refusal = IsNotLowered text refusal
IsRefusedBy Check text refusal = IsUnchecked false text refusal
IsRefusedBy Reprint text refusal = IsUnchecked true text refusal
IsRefusedBy (Run steps entry answers) text refusal = IsNotRun entry text refusal
