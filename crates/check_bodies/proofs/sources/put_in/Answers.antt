use Rattle.check_bodies.proofs.IndexLemmas.{sources_put}
use Rattle.check_bodies.proofs.sources.put_in.Goals as goal

pub returns-in-Ok : goal.returns-in-Ok
returns-in-Ok c = λ q. sources_put c.args.to q c.args.map.now c.insert.new.self c.args.marks c.in-Ok.ensures.updates
