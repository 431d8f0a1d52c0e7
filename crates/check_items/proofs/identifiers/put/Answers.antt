use Rattle.check_items.proofs.FoundLemmas.{on_ok, on_err, has_put}
use Rattle.check_items.proofs.identifiers.put.Goals.{in-Ok, in-Err}
use Rattle.check_items.proofs.identifiers.put.Goals as goal

pub returns : goal.returns
returns c = elim c.match-insert.branch [
  | in-Ok w ↦ on_ok c.match-insert.result (λ q. has_put c.args.name q c.args.found.now c.insert.new.self w.in-Ok.ensures.updates)
  | in-Err w ↦ on_err _ c.match-insert.result _ w.result-is
]
