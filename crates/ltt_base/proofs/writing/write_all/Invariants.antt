use Rattle.std.proofs.Common.{length, ◌-◌, ◌≡◌, ◌≤◌, take}
use Rattle.ltt_base.specs.Outside.{Took}
use Rattle.ltt_base.proofs.writing.write_all.Given as goal

abbrev pub invariant-loop-done : goal.invariant-loop-done
invariant-loop-done g l = (l.done ≤ length l.text)
    × Took (g.O.Sink.taken l.initial.out) (g.O.Sink.taken l.out) (take l.done l.text)
    × (g.O.Sink.faults l.initial.out ≤ g.O.Sink.faults l.out)
    × (l.done ≡ 0 → l.out ≡ l.initial.out)

abbrev pub decreases-loop-done : goal.decreases-loop-done
decreases-loop-done g l = length l.text - l.done
