use Rattle.std.proofs.Common.{IsTrue, ◌↔◌, IfOk, IfSome, subst, sym}
use Rattle.thin_files.specs.Thin.{IsSecondAllowed}
use Rattle.thin_files.proofs.thin.allowed.is_second_fine.Goals as goal

pub returns-in-Some : goal.returns-in-Some
returns-in-Some c =
    subst (λ second. IfOk c.is_second_allowed.result (λ fine. IsTrue fine ↔ IfSome second (IsSecondAllowed c.args.thin.now)))
    (sym c.in-Some.is) c.is_second_allowed.ensures
