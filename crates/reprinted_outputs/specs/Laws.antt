-- What `lower` writes of a thin file is as a printed module, and is read again as the same.
use Rattle.std.specs.Prelude.{ℕ, List, IfSome}
use Rattle.ltt_base.specs.declared.refusal.Placed.{Placed}
use Rattle.ir_values.specs.declared.units.Unit.{Unit as TheUnit}
use Rattle.ir_text.specs.Answers.{IsRead}
use Rattle.thin_files.specs.declared.thin.Second.{Second}
use Rattle.thin_files.specs.declared.thin.Thin.{Thin}
use Rattle.thin_files.specs.Thin.{IsAllowed, IsThin, module_of}
use Rattle.thin_files.specs.Laws.{example}
use Rattle.test_lowering.specs.Rewriting.{rewritten}
use Rattle.printed_units.specs.Written.{IsBytes}
use Rattle.printed_modules.specs.Printed.{IsPrinted}
use Rattle.printed_modules.specs.Laws.{IsSameAgain}

-- the names of the second function and of its register are texts of bytes
pub record AreSecondBytes (s : Second) : Type 0 where
  pub name : IsBytes s.name
  pub register : IsBytes s.register

-- the names of the functions, of the parameter and of the registers are texts of bytes; an output has no other name of its file
pub record AreBytes (t : Thin) : Type 0 where
  pub name : IsBytes t.name
  pub pointer : IsBytes t.pointer
  pub register : IsBytes t.register
  pub second : IfSome t.second AreSecondBytes

-- the output module of a thin file is as a printed one
abbrev pub OutputsArePrinted : Type 0
OutputsArePrinted = (t : Thin) → IsAllowed t → AreBytes t → IsPrinted (rewritten (module_of t))

-- its text is that of units whose module is the same, up to what a text doesn't tell
abbrev pub OutputsAreSameAgain : Type 0
OutputsAreSameAgain = (t : Thin) → IsAllowed t → AreBytes t → (file : ℕ) → IsSameAgain file (rewritten (module_of t))

-- so is that of the output of each text of bytes that is a thin file
abbrev pub ReadOutputsAreSameAgain : Type 0
ReadOutputsAreSameAgain = (file : ℕ) (text : List ℕ) (us : List (Placed TheUnit)) (t : Thin) → IsBytes text → IsRead file text us → IsThin us t
    → (again : ℕ) → IsSameAgain again (rewritten (module_of t))

-- some thin file is such a one
abbrev pub ExampleHasOutput : Type 0
ExampleHasOutput = IsAllowed example × AreBytes example
