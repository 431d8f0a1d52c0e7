-- A sink in memory: what it has taken, and what its next write does.
use Rattle.std.specs.Prelude.{ℕ, ◌-◌, min, Bool, ◌||◌, ◌==◌, List, ◌++◌, length, take, if◌then◌else◌}
use Rattle.ltt_base.specs.Calls.{up, fails}

pub record SinkState : Type 0 where
  -- the bytes taken so far
  pub taken : List ℕ
  -- the bytes that there is room for in all
  pub room : ℕ
  -- the bytes that one write takes at most
  pub most : ℕ
  -- the numbers of the writes that fail
  pub failing : List ℕ
  -- the writes made so far, and the faults counted so far
  pub writes : ℕ
  pub faults : ℕ

-- whether the next write fails: its number is listed, or no room is left
abbrev pub write_fails : SinkState → Bool
write_fails sink = fails sink.failing (up sink.writes) || (length sink.taken == sink.room)

-- how many bytes of so many the next write takes, if it doesn't fail
abbrev pub write_count : SinkState → ℕ → ℕ
write_count sink size = min (min sink.most (sink.room - length sink.taken)) size

-- the sink after a write of this piece
abbrev pub after_write : SinkState → List ℕ → SinkState
after_write sink piece = if write_fails sink
    then record sink { writes = up sink.writes; faults = up sink.faults }
    else record sink { writes = up sink.writes; taken = sink.taken ++ take (write_count sink (length piece)) piece }
