-- One part of a step after another: where a part is undefined, the whole is.
use Rattle.std.specs.Prelude.{Option, Some, None}

infixl 10 ◌>>=◌
abbrev pub ◌>>=◌ : {A B : Type 0} → Option A → (A → Option B) → Option B
None >>= rest = None
Some value >>= rest = rest value
