use Rattle.std.proofs.Common.{◌≡◌, subst, IfOk}
use Rattle.ir_values.specs.declared.modules.Func.{Func}
use Rattle.thin_files.specs.Thin.{CarriesAt}
use Rattle.test_lowering.proofs.RewritingLaws.{function-made}
use Rattle.test_lowering.proofs.functions.lowered_function.Goals as goal

pub returns : goal.returns
returns c =
    let t = c.args.thin.now in
    let number = c.carrier-group.result.0 in
    let offset = c.carrier-group.result.1 in
    let carries : CarriesAt t.variables t.tested number offset =
    subst (λ variables. CarriesAt variables t.tested number offset) c.items.ensures
    (subst (λ id. CarriesAt c.items.result.now id number offset) c.bytes.ensures c.carrier-group.ensures) in
    subst (λ (whole : Func). IfOk c.function_with.result (λ f. f ≡ whole))
    (function-made t c.requires number offset carries c.in_ok-pointer.pointer c.in_ok-pointer.ensures c.in_ok-insts.insts c.in_ok-insts.ensures)
    c.function_with.ensures
