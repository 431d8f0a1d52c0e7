use Rattle.std.proofs.Common.{◌≡◌, true, sym, ◌∙◌}
use Rattle.test_lowering.proofs.RewritingLaws.{object-here, object-next}
use Rattle.test_lowering.proofs.functions.object.Goals as goal

pub returns-then-is_bytes : goal.returns-then-is_bytes
returns-then-is_bytes c =
    let number = c.loop-number.number in
    sym (object-here c.args.variables.now number number c.args.name.now c.index-variables-number.result c.loop-number-test.true
    c.index-variables-number.is (c.is_bytes.ensures.0 c.if-is_bytes.true)) ∙ c.loop-number.invariant

pub loop-number-preserved : goal.loop-number-preserved
loop-number-preserved c =
    let number = c.loop-number.number in
    sym (object-next c.args.variables.now number number c.args.name.now c.index-variables-number.result c.loop-number-test.true
    c.index-variables-number.is (λ same. let held : c.is_bytes.result ≡ true = c.is_bytes.ensures.1 same in cc (held, c.if-is_bytes.false)))
    ∙ c.loop-number.invariant
