use Rattle.std.proofs.Common.{rules, ◌≡◌, ◌∙◌, sym, ap, length, vec_len, get_or}
use Rattle.bit_sets.specs.declared.filling.Stood.{Stood}
use Rattle.bit_sets.specs.Lanes.{byte_of}
use Rattle.bit_sets.specs.Computing.{joined}
use Rattle.bit_sets.proofs.JoinLemmas.{bytes-none, bytes-step, all-lent}
use Rattle.bit_sets.proofs.bytes.bytes_of.Goals as goal

pub loop-at-init : goal.loop-at-init
loop-at-init c = c.in_ok-bytes.ensures ∙ sym (bytes-none 0 c.args.count)

pub loop-at-preserved : goal.loop-at-preserved
loop-at-preserved c =
    let bytes = c.loop-at.bytes in
    let long : vec_len bytes ≡ length bytes.items = search rules in
    let same : length c.write.new.bytes ≡ length bytes.items = search rules in
    let d : Stood = record { number = 0; spot = record { start = 0; mask = 0 } } in
    let stood = c.args.stood.now in
    let at = c.loop-at.at in
    all-lent bytes.len c.write.new.bytes bytes.items long same
    ∙ bytes-step c.args.sets.now stood at c.args.count d c.index-sets-one.result bytes.items c.write.new.bytes c.loop-at-test.true
    (c.requires.within at d c.loop-at-test.true) c.index-sets-one.is c.loop-at.invariant
    (c.write.ensures ∙ ap (joined (byte_of c.index-sets-one.result (get_or stood at d).spot) 0) c.as_mut_slice.ensures.value)
