use Rattle.std.proofs.Common.{◌≡◌}
use Rattle.std.proofs.lemmas.Result.{IfOk-at_ok}
use Rattle.type_metadata.proofs.KeyLaws.{name_put}
use Rattle.type_metadata.proofs.names.put_key.Goals as goal

pub returns : goal.returns
returns c =
    let same = IfOk-at_ok (λ key. key.items ≡ c.args.name.now) c.in_ok-key.was c.from_slice.ensures.items in
    rw same at (name_put c.in_ok-key.key.items c.args.map.now c.insert.new.self _ c.in_ok-insert.ensures.updates)
