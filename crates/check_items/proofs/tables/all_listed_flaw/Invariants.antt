use Rattle.std.proofs.Common.{◌≡◌, drop}
use Rattle.check_names.specs.Flaws.{each}
use Rattle.check_items.specs.Tables.{listed_flaw}
use Rattle.check_items.proofs.tables.all_listed_flaw.Given as goal

abbrev pub invariant-loop-at : goal.invariant-loop-at
invariant-loop-at l = l.flaw ≡ each (listed_flaw l.context.output l.context.units) (drop l.at l.funcs)
