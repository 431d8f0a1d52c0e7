use Rattle.std.proofs.Common.{sym, Option, Some, None}
use Rattle.ir_lex.specs.declared.choice.Cut.{Cut}
use Rattle.std.specs.Prelude.{◌≡◌, List, ℕ, IfSome, IfNone}
use Rattle.ir_lex.specs.Choice.{longest}
use Rattle.ir_lex.specs.Kinds.{Begins, NoneBegins}
use Rattle.ir_lex.proofs.ChoiceLaws.{none_begins, begins_longest}
use Rattle.ir_lex.proofs.choice.front.Goals as goal

found_by : (bytes : List ℕ) (o : Option Cut) → o ≡ longest bytes → IfSome o (λ cut. Begins bytes cut.kind cut.len)
found_by bytes None e = tt
found_by bytes (Some cut) e = begins_longest bytes cut (sym e)

none_by : (bytes : List ℕ) (o : Option Cut) → o ≡ longest bytes → IfNone o (NoneBegins bytes)
none_by bytes None e = none_begins bytes (sym e)
none_by bytes (Some cut) e = tt

pub returns-clause-found : goal.returns-clause-found
returns-clause-found c = found_by c.args.bytes.now c.longest.result c.longest.ensures

pub returns-clause-none : goal.returns-clause-none
returns-clause-none c = none_by c.args.bytes.now c.longest.result c.longest.ensures
