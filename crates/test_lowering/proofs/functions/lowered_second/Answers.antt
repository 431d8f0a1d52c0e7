use Rattle.std.proofs.Common.{◌≡◌, ap, ◌∙◌, map, subst, IfOk}
use Rattle.ir_values.specs.declared.modules.Func.{Func}
use Rattle.ir_values.specs.declared.constants.Operand as operand
use Rattle.thin_files.specs.Thin.{CarriesAt, variable_of}
use Rattle.test_lowering.specs.Rewriting.{address_in, object_from}
use Rattle.test_lowering.proofs.RewritingLaws.{second-made}
use Rattle.test_lowering.proofs.functions.lowered_second.Goals as goal

pub returns : goal.returns
returns c =
    let t = c.args.thin.now in
    let s = c.args.second.now in
    let number = c.carrier-group.result.0 in
    let offset = c.carrier-group.result.1 in
    let carries : CarriesAt t.variables s.tested number offset =
    subst (λ variables. CarriesAt variables s.tested number offset) c.items-variables.ensures
    (subst (λ id. CarriesAt c.items-variables.result.now id number offset) c.bytes.ensures c.carrier-group.ensures) in
    let pointer = c.in_ok-pointer.ensures
    ∙ ap (λ variables. operand.Const (address_in (object_from 0 (map variable_of variables) s.object) s.object c.distance.result))
    c.items-variables.ensures
    ∙ ap (λ distance. operand.Const (address_in (object_from 0 (map variable_of t.variables) s.object) s.object distance)) c.distance.ensures in
    subst (λ (whole : Func). IfOk c.second_with.result (λ f. f ≡ whole))
    (second-made t c.requires.allowed s number offset carries c.in_ok-pointer.pointer pointer c.in_ok-insts.insts c.in_ok-insts.ensures)
    c.second_with.ensures
