use Rattle.std.proofs.Common.{◌≡◌, sym, subst, Err}
use Rattle.std.specs.Result.{IsErrAnd}
use Rattle.ltt_base.specs.declared.refusal.Fault.TheVariants.{Refused}
use Rattle.ir_check.specs.Answers as check
use Rattle.ir_check.specs.Walk.{IsAny}
use Rattle.ltt_driver.specs.Files.{text_limit}
use Rattle.ltt_driver.proofs.PipelineLemmas.{unread, flawed}
use Rattle.ltt_driver.proofs.pipeline.checked_units.Goals as goal

pub read_units-requires : goal.read_units-requires
unfolding text_limit
read_units-requires c = c.requires

pub returns-in_err-units-clause-refused : goal.returns-in_err-units-clause-refused
returns-in_err-units-clause-refused c = λ refusal is.
    let same : Refused refusal ≡ c.in_err-units.field-0.0 = subst (λ r. IsErrAnd r (λ fault. fault ≡ c.in_err-units.field-0.0)) is c.from_residual.ensures.1 in
    unread c.args.output c.args.text.now c.in_err-units.field-0.0 refusal c.in_err-units.ensures (sym same)

pub returns-in-Err-clause-refused : goal.returns-in-Err-clause-refused
returns-in-Err-clause-refused c = λ refusal is.
    let answers : check.Answers {M = Unit {0}} IsAny c.args.output c.in_ok-units.units (Err c.in-Err.fault) =
    subst (λ us. check.Answers {M = Unit {0}} IsAny c.args.output us (Err c.in-Err.fault)) c.items.ensures c.in-Err.ensures in
    flawed {M = Unit {0}} IsAny c.args.output c.args.text.now c.in_ok-units.units (Err c.in-Err.fault) refusal c.in_ok-units.ensures answers (cc is)
