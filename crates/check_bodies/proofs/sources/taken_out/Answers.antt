use Rattle.check_bodies.proofs.IndexLemmas.{sources_removed}
use Rattle.check_bodies.proofs.sources.taken_out.Goals as goal

pub returns-in-Some-clause-rest : goal.returns-in-Some-clause-rest
returns-in-Some-clause-rest c = λ q apart. sources_removed c.args.to.now q c.args.map.now c.remove.new.self c.in-Some.ensures.updates apart
