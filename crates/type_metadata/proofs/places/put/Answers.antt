use Rattle.type_metadata.proofs.KeyLaws.{object_put}
use Rattle.type_metadata.proofs.places.put.Goals as goal

pub returns-in-Ok : goal.returns-in-Ok
returns-in-Ok c = object_put c.args.object c.args.map.now c.insert.new.self _ c.in-Ok.ensures.updates
