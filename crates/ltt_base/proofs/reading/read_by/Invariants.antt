use Rattle.std.proofs.Common.{length, ◌-◌, ◌≡◌, ◌≤◌, ◌↔◌, ℕ, List}
use Rattle.std.specs.Io.KnownBytes.{prepend_known}
use Rattle.ltt_base.proofs.reading.read_by.Given as goal

abbrev pub invariant-loop-text : goal.invariant-loop-text
invariant-loop-text g l = ((other : List ℕ) → g.F.Files.held l.files other ≡ g.F.Files.held l.initial.files other)
    × ((other : List ℕ) → g.F.Files.faults l.initial.files other ≤ g.F.Files.faults l.files other)
    × ((other : List ℕ) → g.F.Files.is_selected l.files other ↔ g.F.Files.is_selected l.initial.files other)
    × (prepend_known l.text (g.F.Files.left l.files) ≡ g.F.Files.left l.initial.files)
    × (length l.text ≤ l.limit)

abbrev pub decreases-loop-text : goal.decreases-loop-text
decreases-loop-text g l = l.limit - length l.text
