use Rattle.std.proofs.Common.{◌≡◌, subst, MatchOption}
use Rattle.std.specs.Result.{IsErrAnd}
use Rattle.ltt_base.specs.declared.refusal.Fault.TheVariants.{Refused}
use Rattle.thin_files.specs.declared.thin.Thin.{Thin}
use Rattle.thin_files.specs.Thin.{IsThin}
use Rattle.ltt_driver.proofs.PipelineLemmas.{unchecked, not_thin, lowered}
use Rattle.ltt_driver.proofs.pipeline.lower_text.Goals as goal

pub returns-in_err-units-clause-refused : goal.returns-in_err-units-clause-refused
returns-in_err-units-clause-refused c = λ refusal is.
    let same : Refused refusal ≡ c.in_err-units.field-0.0 = subst (λ r. IsErrAnd r (λ fault. fault ≡ c.in_err-units.field-0.0)) is c.from_residual.ensures.1 in
    unchecked c.args.text.now refusal (c.in_err-units.ensures.refused refusal (cc same))

pub returns-in-Some-clause-lowered : goal.returns-in-Some-clause-lowered
returns-in-Some-clause-lowered c =
    let is_thin : IsThin c.in_ok-units.units c.in-Some.thin =
    subst (λ units. IsThin units c.in-Some.thin) c.items.ensures
    (subst (λ found. MatchOption found ((t : Thin) → IsThin c.items.result.now t → ⊥) (IsThin c.items.result.now)) c.in-Some.is c.in_ok-thin.ensures) in
    lowered c.args.text.now c.in_ok-units.units c.in-Some.thin c.in_ok-lower_thin-in-Some.field-0
    c.in_ok-units.ensures.checked is_thin c.in_ok-lower_thin-in-Some.ensures

pub returns-clause-refused : goal.returns-clause-refused
returns-clause-refused c = λ refusal is.
    let no_thin : (t : Thin) → IsThin c.in_ok-units.units t → ⊥ =
    subst (λ units. (t : Thin) → IsThin units t → ⊥) c.items.ensures
    (subst (λ found. MatchOption found ((t : Thin) → IsThin c.items.result.now t → ⊥) (IsThin c.items.result.now)) c.in-None.is c.in_ok-thin.ensures) in
    not_thin c.args.text.now c.in_ok-units.units c.refused_form.result refusal c.in_ok-units.ensures.checked no_thin c.refused_form.ensures (cc is)
