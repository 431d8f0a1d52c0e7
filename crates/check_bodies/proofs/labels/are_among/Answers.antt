use Rattle.std.proofs.Common.{sym}
use Rattle.check_bodies.proofs.LabelLemmas.{among_no, among_yes}
use Rattle.check_bodies.proofs.labels.are_among.Goals as goal

pub returns-then-not-is_among : goal.returns-then-not-is_among
returns-then-not-is_among c = among_no c.args.labels.now c.args.others.now c.in_ok-map.map c.loop-label.label-index c.bytes.result.now _
    c.loop-label-test.true (cc (c.bytes.ensures, c.label-item.is)) c.in_ok-map.ensures (sym c.if-not-is_among.ensures) c.loop-label.invariant

pub loop-label-preserved : goal.loop-label-preserved
loop-label-preserved c = among_yes c.args.labels.now c.args.others.now c.in_ok-map.map c.loop-label.label-index c.bytes.result.now _
    c.loop-label-test.true (cc (c.bytes.ensures, c.label-item.is)) c.in_ok-map.ensures (sym c.if-not-is_among.ensures) c.loop-label.invariant
