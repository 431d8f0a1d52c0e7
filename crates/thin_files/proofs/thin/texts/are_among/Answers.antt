use Rattle.std.proofs.Common.{◌≡◌, true, subst, sym, arith}
use Rattle.std.specs.List.{Contains}
use Rattle.thin_files.proofs.Lists.{all_more, all_items, not_all}
use Rattle.thin_files.proofs.Places.{among}
use Rattle.thin_files.proofs.thin.texts.are_among.Goals as goal

pub loop-node-preserved : goal.loop-node-preserved
loop-node-preserved c =
    let is = among c.args.numbers.now c.in_ok-places.places c.bytes.result.now c.in_ok-places.ensures in
    all_more (λ n. Contains c.args.numbers.now n.number) _ _ c.node-item.result c.loop-node-test.true c.node-item.is
    c.loop-node.invariant
    (subst (Contains c.args.numbers.now) c.bytes.ensures (is.0 (c.is_among.ensures.0 c.if-not-is_among.false)))

pub returns-then-not-is_among : goal.returns-then-not-is_among
returns-then-not-is_among c =
    let is = among c.args.numbers.now c.in_ok-places.places c.bytes.result.now c.in_ok-places.ensures in
    not_all (λ n. Contains c.args.numbers.now n.number) _ _ c.node-item.result c.loop-node-test.true c.node-item.is (λ inside.
    let held : c.is_among.result ≡ true =
    c.is_among.ensures.1 (is.1 (subst (Contains c.args.numbers.now) (sym c.bytes.ensures) inside)) in cc)

pub returns : goal.returns
returns c = all_items (λ n. Contains c.args.numbers.now n.number) _ _ (omega arith) c.loop-node.invariant
