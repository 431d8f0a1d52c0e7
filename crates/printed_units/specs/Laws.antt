-- What holds of the text of every module that can be read again.
use Rattle.std.specs.Prelude.{◌≡◌, ℕ, List, map}
use Rattle.ltt_base.specs.declared.refusal.Placed.{Placed}
use Rattle.ir_values.specs.declared.units.Unit.{Unit as TheUnit}
use Rattle.ir_values.specs.declared.modules.Module.{Module}
use Rattle.ir_text.specs.Answers.{IsRead}
use Rattle.ir_print.specs.ModuleText.{module_text}
use Rattle.printed_units.specs.Written.{IsWritten}
use Rattle.printed_units.specs.Lines.{forms_of}

-- its text reads as these units, which say what its lines say
pub record ReadsAgain (file : ℕ) (m : Module) : Type 0 where
  pub us : List (Placed TheUnit)
  pub read : IsRead file (module_text m) us
  pub say : map (λ u. u.value.form) us ≡ forms_of m

abbrev pub PrintedReadsAgain : Type 0
PrintedReadsAgain = (file : ℕ) (m : Module) → IsWritten m → ReadsAgain file m
