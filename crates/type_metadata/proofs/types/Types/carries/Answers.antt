use Rattle.std.proofs.Common.{◌∙◌, ◌↔◌, subst, sym, ap, IsTrue}
use Rattle.std.specs.List.{list_any}
use Rattle.type_metadata.specs.Same.{same_carrier}
use Rattle.type_metadata.specs.Types.{IsCarrier}
use Rattle.type_metadata.proofs.CarrierLaws.{tells_carrier}
use Rattle.type_metadata.proofs.types.Types.carries.Goals as goal

pub returns-clause-exact : goal.returns-clause-exact
returns-clause-exact c = λ ms are.
    subst (λ answer. IsTrue answer ↔ IsCarrier ms c.args.id.now (record { object = c.args.object; offset = c.args.offset }))
    (sym (c.has.ensures ∙ ap (list_any (same_carrier (record { object = c.args.object; offset = c.args.offset }))) c.row.ensures))
    (tells_carrier ms c.args.self.now c.args.id.now (record { object = c.args.object; offset = c.args.offset }) are)
