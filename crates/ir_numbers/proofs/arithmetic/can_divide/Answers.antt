use Rattle.std.proofs.Common.{rules, ◌∙◌}
use Rattle.ir_numbers.proofs.arithmetic.can_divide.Goals as goal
use Rattle.ir_numbers.proofs.SignedLemmas.{can_divide-some, can_divide-none}

pub returns-in-Some : goal.returns-in-Some
returns-in-Some c = c.fits.ensures ∙ can_divide-some _ _ _ c.signed.result c.signed-2.result c.in-Some.quotient
    (search rules) (search rules) c.requires.a c.requires.b c.signed.ensures c.signed-2.ensures c.in-Some.ensures

pub returns-in-None : goal.returns-in-None
returns-in-None c = can_divide-none _ _ _ c.signed.result c.signed-2.result
    (search rules) (search rules) c.requires.a c.requires.b c.signed.ensures c.signed-2.ensures c.in-None.ensures
