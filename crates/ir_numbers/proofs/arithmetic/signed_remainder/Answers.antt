use Rattle.std.proofs.Common.{rules, ◌≡◌, true, ap, sym, ◌∙◌}
use Rattle.ir_numbers.specs.Numbers.{bits, wrapped}
use Rattle.ir_numbers.specs.Arithmetic.{can_divide}
use Rattle.ir_numbers.proofs.SignedLemmas.{remainder-is, some_if-true}
use Rattle.ir_numbers.proofs.arithmetic.signed_remainder.Goals as goal

pub returns-then-can_divide : goal.returns-then-can_divide
returns-then-can_divide c =
    let divides : can_divide (bits c.args.width) c.args.a c.args.b ≡ true = sym c.can_divide.ensures ∙ c.if-can_divide.true in
    some_if-true _ _ _ divides (c.wrapped.ensures ∙ ap (wrapped (bits c.args.width)) (remainder-is _ _ _ c.signed.result c.signed-then-can_divide.result
    (search rules) (search rules) c.requires.a c.requires.b c.signed.ensures c.signed-then-can_divide.ensures))
