use Rattle.std.proofs.Common.{Some, ◌∙◌}
use Rattle.check_bodies.proofs.IndexLemmas.{on_ok, on_err, found_put}
use Rattle.check_bodies.proofs.index.put.Goals.{in-Ok, in-Err}
use Rattle.check_bodies.proofs.index.put.Goals as goal

pub returns : goal.returns
returns c = elim c.match-insert.branch [
  | in-Ok w ↦ on_ok c.match-insert.result (λ q. found_put c.args.name.now c.in_ok-key.key q c.args.map.now c.insert.new.self _ (c.in_ok-key.ensures ∙ c.bytes.ensures) w.in-Ok.ensures.updates)
  | in-Err w ↦ on_err _ c.match-insert.result _ w.result-is
]
