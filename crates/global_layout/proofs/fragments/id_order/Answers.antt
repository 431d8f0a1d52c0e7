use Rattle.std.proofs.Common.{◌∙◌, ap}
use Rattle.global_layout.specs.Ordered.{ordered}
use Rattle.global_layout.proofs.OrderedLemmas.{sorted-ordered}
use Rattle.global_layout.proofs.fragments.id_order.Goals as goal

pub returns-in-Ok : goal.returns-in-Ok
returns-in-Ok c =
    sorted-ordered c.in_ok-pairs.pairs.items c.sort.new.self.items c.in-Ok.ensures.permutation c.in-Ok.ensures.sorted ∙ ap ordered c.in_ok-pairs.ensures
