use Rattle.std.proofs.Common.{take, Ok}
use Rattle.std.specs.List.{flat_map}
use Rattle.ir_print.specs.Printing.{Prints}
use Rattle.source_runs.specs.Lines.{event_line}
use Rattle.source_runs.proofs.telling.print_events.Given as goal

abbrev pub invariant-loop-event : goal.invariant-loop-event
invariant-loop-event g l = Prints (g.O.Sink.taken l.initial.out) (g.O.Sink.taken l.out) (g.O.Sink.faults l.initial.out) (g.O.Sink.faults l.out)
    (flat_map event_line (take l.event-index l.events)) (Ok tt)
