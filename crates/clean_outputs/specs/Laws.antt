-- What holds of the module of each output without flaws: it is as a printed one, and is read again as the same.
use Rattle.std.specs.Prelude.{◌≡◌, ℕ, true, List}
use Rattle.ltt_base.specs.declared.refusal.Placed.{Placed}
use Rattle.ir_values.specs.declared.modules.Module.{Module}
use Rattle.ir_values.specs.declared.units.Unit.{Unit as TheUnit}
use Rattle.ir_text.specs.Answers.{IsRead}
use Rattle.ir_print.specs.ModuleText.{module_text}
use Rattle.ir_check.specs.Answers.{IsClean}
use Rattle.built_modules.specs.Modules.{module_of}
use Rattle.printed_units.specs.Written.{IsBytes, IsWritten}
use Rattle.printed_modules.specs.Printed.{IsPrinted}
use Rattle.printed_modules.specs.Laws.{IsSameAgain}
use Rattle.clean_outputs.specs.Examples.{example}
use Rattle.clean_outputs.specs.Shallow.{IsShallow, HasNoNamedType, declarations_first}

-- a text of bytes that is an output without flaws
pub record IsCleanOutput (file : ℕ) (text : List ℕ) (us : List (Placed TheUnit)) : Type 0 where
  pub bytes : IsBytes text
  pub read : IsRead file text us
  pub clean : IsClean true us

-- its module is as a printed one once its declarations stand first, where its types have at most the levels that a text may have
abbrev pub CleanOutputsArePrinted : Type 0
CleanOutputsArePrinted = (file : ℕ) (text : List ℕ) (us : List (Placed TheUnit)) → IsCleanOutput file text us → IsShallow (module_of true us file)
    → IsPrinted (declarations_first (module_of true us file))

-- a module has the same text once its declarations stand first
abbrev pub OrderIsPrinted : Type 0
OrderIsPrinted = (m : Module) → module_text (declarations_first m) ≡ module_text m

-- that text is of units whose module is the same, up to what a text doesn't tell
abbrev pub CleanIsSameAgain : Type 0
CleanIsSameAgain = (file : ℕ) (text : List ℕ) (us : List (Placed TheUnit)) → IsCleanOutput file text us → IsShallow (module_of true us file)
    → (again : ℕ) → IsSameAgain again (declarations_first (module_of true us file))

-- this is needed: each module whose names, types, constants and instructions can be written is such
abbrev pub WrittenModulesAreShallow : Type 0
WrittenModulesAreShallow = (m : Module) → IsWritten m → IsShallow m

-- it holds where no type has a name
abbrev pub OutputsWithoutNamedTypesAreShallow : Type 0
OutputsWithoutNamedTypesAreShallow = (file : ℕ) (text : List ℕ) (us : List (Placed TheUnit)) → IsCleanOutput file text us → HasNoNamedType us
    → IsShallow (module_of true us file)

abbrev pub OutputsWithoutNamedTypesAreSameAgain : Type 0
OutputsWithoutNamedTypesAreSameAgain = (file : ℕ) (text : List ℕ) (us : List (Placed TheUnit)) → IsCleanOutput file text us → HasNoNamedType us
    → (again : ℕ) → IsSameAgain again (declarations_first (module_of true us file))

-- some text is such an output, of a module with a variable
abbrev pub ExampleIsOutput : Type 0
ExampleIsOutput = (us : List (Placed TheUnit)) × IsCleanOutput 1 (module_text example) us × IsShallow (module_of true us 1)
