use Rattle.std.proofs.lemmas.Map.Text.{btree_map_updates_str}
use Rattle.check_instructions.proofs.phis.put.Goals as goal

pub returns-in-Ok : goal.returns-in-Ok
returns-in-Ok c = btree_map_updates_str c.args.label.now c.args.map.now c.insert.new.self _ c.in-Ok.ensures.updates
