use Rattle.std.proofs.Common.{sym}
use Rattle.ltt_driver.proofs.PipelineLemmas.{no_entry}
use Rattle.ltt_driver.proofs.pipeline.run_modules.Goals as goal

pub returns-in-None-clause-refused : goal.returns-in-None-clause-refused
returns-in-None-clause-refused c = λ refusal is.
    no_entry c.args.modules.now c.args.entry.now c.no_entry.result refusal (sym c.in-None.ensures.value) c.no_entry.ensures (cc is)
