use Rattle.std.proofs.Common.{◌≡◌, ◌≤◌, drop}
use Rattle.check_bodies.specs.Numbers.{with_digits, most}
use Rattle.check_bodies.proofs.numbers.digits.Given as goal

abbrev pub invariant-loop-digit : goal.invariant-loop-digit
invariant-loop-digit l = (with_digits l.n (drop l.digit-index l.name) ≡ with_digits 0 l.name) × (l.n ≤ most)
