use Rattle.std.proofs.Common.{◌≡◌, subst}
use Rattle.std.specs.Result.{IsErrAnd}
use Rattle.ltt_base.specs.declared.refusal.Fault.TheVariants.{Refused}
use Rattle.ltt_driver.proofs.PipelineLemmas.{not_source, can_run, not_run}
use Rattle.ltt_driver.proofs.pipeline.run_text.Goals as goal

pub returns-in_err-module-clause-refused : goal.returns-in_err-module-clause-refused
returns-in_err-module-clause-refused c = λ refusal is.
    let same : Refused refusal ≡ c.in_err-module.field-0.0 = subst (λ r. IsErrAnd r (λ fault. fault ≡ c.in_err-module.field-0.0)) is c.from_residual.ensures.1 in
    not_source c.args.entry.now c.args.text.now refusal (c.in_err-module.ensures.refused refusal (cc same))

pub run_modules-requires : goal.run_modules-requires
run_modules-requires c =
    can_run c.args.text.now c.in_ok-module.module c.items.result.now c.in_ok-module.ensures.made
    (cc (c.items.ensures, c.in_ok-add.ensures.added, c.new-modules.ensures))

pub returns-clause-refused : goal.returns-clause-refused
returns-clause-refused c = λ refusal is.
    not_run c.args.entry.now c.args.text.now c.in_ok-module.module c.items.result.now refusal c.in_ok-module.ensures.made
    (cc (c.items.ensures, c.in_ok-add.ensures.added, c.new-modules.ensures)) (c.run_modules.ensures.refused refusal is)
