use Rattle.clean_outputs.proofs.OrderLemmas.{order_is_printed}
use Rattle.clean_outputs.proofs.laws.order_is_printed.Goals as goal

pub returns : goal.returns
returns c = order_is_printed
