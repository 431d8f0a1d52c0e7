use Rattle.std.proofs.Common.{subst, IfOk}
use Rattle.check_items.specs.Identifiers.{IsTooManyFrom}
use Rattle.check_items.proofs.identifiers.too_many_from.Goals as goal

pub returns : goal.returns
returns c = subst (λ file. IfOk c.first_past.result (IsTooManyFrom file.units)) c.context.ensures c.first_past.ensures
