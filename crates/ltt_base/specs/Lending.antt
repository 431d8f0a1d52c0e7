-- What a list or a stack ends as, where a `&mut` to one of its items is returned.
use Rattle.std.specs.Prelude.{ℕ, List, ◌∷◌, drop, slice_set}
use Rattle.std.specs.Borrow.{Lends, Fml, RattleType, MutBor}
use Rattle.ltt_base.specs.contracts.list.List.{the_row}
use Rattle.ltt_base.specs.contracts.stack.Stack as stack

-- once the borrow ends, the place has the last value written through it
abbrev pub LendsItem : (T : RattleType) → MutBor (List T.Denot) → ℕ → MutBor T.Denot → Fml
LendsItem T items at item = Lends (the_row T) T items item (slice_set items.now at)

-- once the borrow ends, the top has the last value written through it
abbrev pub LendsTop : (T : RattleType) → MutBor (List T.Denot) → MutBor T.Denot → Fml
LendsTop T items top = Lends (stack.the_row T) T items top (λ item. item ∷ drop 1 items.now)
