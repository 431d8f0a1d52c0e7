-- What the units of a text say.
use Rattle.std.specs.Prelude.{ℕ, List}
use Rattle.ltt_base.specs.declared.refusal.Placed.{Placed}
use Rattle.ir_values.specs.declared.units.Unit.{Unit as TheUnit}
use Rattle.ir_text.specs.Answers.{IsRead}
use Rattle.printed_units.specs.Written.{IsBytes}
use Rattle.said_units.specs.Sayable.{AreSaid}

-- the units of a text of bytes are such as a text can say
abbrev pub ReadUnitsAreSaid : Type 0
ReadUnitsAreSaid = (file : ℕ) (text : List ℕ) (us : List (Placed TheUnit)) → IsBytes text → IsRead file text us → AreSaid us
