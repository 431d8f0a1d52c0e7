-- Modules whose files, variables and functions can be counted by 32 bits.
use Rattle.std.specs.Prelude.{◌^◌, ◌<◌, ◌≤◌, List, length, All}
use Rattle.ir_values.specs.declared.modules.Module.{Module}

pub record IsCounted (m : Module) : Type 0 where
  pub variables : length m.vars ≤ 2 ^ 32
  pub functions : length m.funcs ≤ 2 ^ 32

pub record AreCounted (ms : List Module) : Type 0 where
  pub files : length ms < 2 ^ 32
  pub modules : All IsCounted ms
