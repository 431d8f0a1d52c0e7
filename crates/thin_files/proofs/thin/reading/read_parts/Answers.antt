use Rattle.std.proofs.Common.{map, sym, ap, ◌∙◌, rules}
use Rattle.thin_files.specs.Thin.{node_form}
use Rattle.thin_files.specs.Shape.{tail_forms, IsTail}
use Rattle.thin_files.proofs.Reading.{none_at}
use Rattle.thin_files.proofs.thin.reading.read_parts.Goals as goal

pub returns-in-None-3 : goal.returns-in-None-3
returns-in-None-3 c =
    let function = c.in-Some.function in
    let second = c.in-Some-2.tail.second in
    let tail : IsTail function.rest.now second (map node_form c.in-Some-2.tail.nodes) = rw c.in-Some-2.is at c.in_ok-tail-in-Some.ensures in
    none_at c.args.front.now c.args.rest.now function.rest.now second c.items.result.now function.name.now function.pointer.now
    function.register.now function.tested.now (search rules)
    (tail.said ∙ ap (λ nodes. tail_forms second (map node_form nodes)) (sym c.items.ensures))
    (rw c.in-None-3.is at c.in_ok-variables-in-Some-2.ensures)
