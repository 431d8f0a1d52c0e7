-- What is read again of a printed module: the same module.
use Rattle.std.specs.Prelude.{◌≡◌, ℕ, true, List, map}
use Rattle.ltt_base.specs.declared.refusal.Placed.{Placed}
use Rattle.ir_values.specs.declared.units.Unit.{Unit as TheUnit}
use Rattle.ir_values.specs.declared.modules.Module.{Module}
use Rattle.ir_text.specs.Answers.{IsRead}
use Rattle.ir_print.specs.ModuleText.{module_text}
use Rattle.built_modules.specs.Modules.{module_of}
use Rattle.printed_units.specs.Lines.{forms_of}
use Rattle.printed_modules.specs.Printed.{IsPrinted, plain}
use Rattle.printed_modules.specs.Examples.{example}

-- units that say what the lines of a printed module say have the same module, up to what a text doesn't tell
abbrev pub LinesAreTheModule : Type 0
LinesAreTheModule = (us : List (Placed TheUnit)) (file : ℕ) (m : Module) → IsPrinted m → map (λ u. u.value.form) us ≡ forms_of m
    → plain (module_of true us file) ≡ plain m

-- the text of a module is that of these units, whose module is the same up to what a text doesn't tell, and is printed the same
pub record IsSameAgain (file : ℕ) (m : Module) : Type 0 where
  pub us : List (Placed TheUnit)
  pub read : IsRead file (module_text m) us
  pub same : plain (module_of true us file) ≡ plain m
  pub printed : module_text (module_of true us file) ≡ module_text m

abbrev pub PrintedIsSameAgain : Type 0
PrintedIsSameAgain = (file : ℕ) (m : Module) → IsPrinted m → IsSameAgain file m

-- what a text doesn't tell changes no text
abbrev pub PlainIsPrinted : Type 0
PlainIsPrinted = (m : Module) → module_text (plain m) ≡ module_text m

-- there are such modules
abbrev pub ExampleIsPrinted : Type 0
ExampleIsPrinted = IsPrinted example
