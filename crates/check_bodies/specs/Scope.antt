-- A function of a file: the file's units, and where its head stands among them.
use Rattle.std.specs.Prelude.{ℕ, List}
use Rattle.ltt_base.specs.declared.refusal.Placed.{Placed}
use Rattle.ir_values.specs.declared.units.Unit.{Unit}

pub record Scope : Type 0 where
  pub units : List (Placed Unit)
  pub head : ℕ
