use Rattle.std.proofs.Common.{sym}
use Rattle.source_runs.specs.Lines.{event_line}
use Rattle.source_runs.proofs.PrintLemmas.{next-printed, stopped-printed}
use Rattle.source_runs.proofs.telling.print_events.Goals as goal

pub loop-event-preserved : goal.loop-event-preserved
loop-event-preserved g c = let is = c.event-item.is in
    next-printed event_line c.args.events.now c.loop-event.event-index c.event-item.result c.loop-event-test.true c.loop-event.invariant (rw (sym is) c.in-Ok.ensures)

pub returns-in-Err : goal.returns-in-Err
returns-in-Err g c = let is = c.event-item.is in
    stopped-printed event_line c.args.events.now c.loop-event.event-index c.event-item.result c.loop-event-test.true c.loop-event.invariant (rw (sym is) c.in-Err.ensures)
