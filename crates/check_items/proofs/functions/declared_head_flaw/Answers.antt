use Rattle.std.proofs.Common.{◌∙◌, ap}
use Rattle.check_constants.specs.Intrinsics.{intrinsic_of}
use Rattle.check_items.specs.Functions.{typed_head_flaw, is_left}
use Rattle.check_items.proofs.functions.declared_head_flaw.Goals as goal

pub returns : goal.returns
returns c =
    let output = c.args.types.now.output in
    let us = c.args.types.now.units in
    let head = c.args.head.now in
    c.in_ok-flaw.ensures
    ∙ ap (λ quiet. typed_head_flaw output us c.args.at quiet c.own_intrinsic-intrinsic.result head) (c.is_left-quiet.ensures ∙ ap (is_left output) c.bytes.ensures)
    ∙ ap (λ intrinsic. typed_head_flaw output us c.args.at (is_left output head.name) intrinsic head)
    (c.own_intrinsic-intrinsic.ensures ∙ ap (intrinsic_of output) c.bytes-2.ensures)
