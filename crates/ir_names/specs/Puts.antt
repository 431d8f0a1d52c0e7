-- Text on its way through a buffer to a sink: what is put, and what has become of it.
use Rattle.std.specs.Prelude.{◌≡◌, ℕ, ◌≤◌, Bool, true, false, List, ◌++◌, length, take, drop, Option}
use Rattle.ltt_base.specs.Outside.{Rose, Took}

pub record State : Type 0 where
  -- what the sink has taken, where it tells, and the faults that it has counted
  pub taken : Option (List ℕ)
  pub faults : ℕ
  -- what waits to be written
  pub buffer : List ℕ
  -- whether the sink has failed
  pub failed : Bool
  -- which sink it is
  pub name : ℕ

-- so many bytes of a text were taken, and the others wait, unless the sink has failed
pub record Moves (old new : State) (text : List ℕ) (count : ℕ) : Type 0 where
  pub within : count ≤ length text
  pub took : Took old.taken new.taken (take count text)
  pub waits : new.failed ≡ false → new.buffer ≡ drop count text

-- a text was put behind what waited; after a failure nothing is taken
pub record Puts (old new : State) (text : List ℕ) : Type 0 where
  pub moves : old.failed ≡ false → (count : ℕ) × Moves old new (old.buffer ++ text) count
  pub rose : old.failed ≡ false → new.failed ≡ true → Rose old.faults new.faults
  pub stays : old.failed ≡ true → (new.failed ≡ true) × (new.taken ≡ old.taken)
  pub counts : old.faults ≤ new.faults
  pub same : new.name ≡ old.name
