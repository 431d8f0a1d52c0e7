use Rattle.source_runs.specs.Lines.{status_line}
use Rattle.source_runs.proofs.PrintLemmas.{prints-then, prints-stopped}
use Rattle.source_runs.proofs.telling.print_lines.Goals as goal

pub returns-in-Ok : goal.returns-in-Ok
returns-in-Ok g c = prints-then _ (rw c.items.ensures at c.in-Ok.ensures) c.print_status.ensures

pub returns-in-Err : goal.returns-in-Err
returns-in-Err g c = prints-stopped (status_line c.args.outcome.now.status c.args.outcome.now.result) (rw c.items.ensures at c.in-Err.ensures)
