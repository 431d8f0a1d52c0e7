use Rattle.std.proofs.Common.{◌≡◌, sym, subst, false}
use Rattle.std.specs.Result.{IsErrAnd}
use Rattle.ltt_base.specs.declared.refusal.Fault.TheVariants.{Refused}
use Rattle.ir_values.specs.declared.modules.Module.{Module}
use Rattle.ir_check.specs.Answers as check
use Rattle.built_modules.specs.Modules.{module_of}
use Rattle.ltt_driver.specs.Files.{text_limit}
use Rattle.ltt_driver.proofs.PipelineLemmas.{unread, flawed}
use Rattle.ltt_driver.proofs.pipeline.source_of.Goals as goal

pub read_units-requires : goal.read_units-requires
unfolding text_limit
read_units-requires c = c.requires

pub returns-in_err-units-clause-refused : goal.returns-in_err-units-clause-refused
returns-in_err-units-clause-refused c = λ refusal is.
    let same : Refused refusal ≡ c.in_err-units.field-0.0 = subst (λ r. IsErrAnd r (λ fault. fault ≡ c.in_err-units.field-0.0)) is c.from_residual.ensures.1 in
    unread false c.args.text.now c.in_err-units.field-0.0 refusal c.in_err-units.ensures (sym same)

pub returns-clause-refused : goal.returns-clause-refused
returns-clause-refused c = λ refusal is.
    let answers : check.Answers {M = Module} (λ m. m ≡ module_of false c.in_ok-units.units 1) false c.in_ok-units.units c.check_source.result =
    subst (λ us. check.Answers {M = Module} (λ m. m ≡ module_of false us 1) false us c.check_source.result) c.items.ensures c.check_source.ensures in
    flawed (λ m. m ≡ module_of false c.in_ok-units.units 1) false c.args.text.now c.in_ok-units.units c.check_source.result refusal c.in_ok-units.ensures answers is
