use Rattle.std.proofs.Common.{arith}
use Rattle.thin_files.proofs.Numbers.{number_from-least}
use Rattle.thin_files.proofs.thin.rules.is_below.Goals as goal

pub returns-then-value-from : goal.returns-then-value-from
returns-then-value-from c =
    let least = number_from-least c.args.digits.now c.loop-digit.digit-index c.loop-digit.value _ c.loop-digit-test.true
    c.loop-digit.invariant.so_far in
    (λ no. cc, λ below. absurd (omega (arith, least)))
