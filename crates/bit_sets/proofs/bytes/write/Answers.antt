use Rattle.std.proofs.Common.{◌∙◌, inl, inr, sym, ap, ◌-◌}
use Rattle.bit_sets.specs.BitSet.{bit_in}
use Rattle.bit_sets.proofs.JoinLemmas.{write-begins, write-ends, write-set, write-clear}
use Rattle.bit_sets.proofs.bytes.write.Goals as goal
use Rattle.bit_sets.proofs.bytes.write.Goals.{then-is_set, else-is_set}

pub loop-at-init : goal.loop-at-init
loop-at-init c = write-begins c.args.set.now c.args.spot c.args.bytes.now

pub returns-then-bit-set : goal.returns-then-bit-set
returns-then-bit-set c = c.loop-at.invariant ∙ write-ends c.args.set.now c.args.spot c.loop-at.at c.args.bytes.now (inr c.if-bit-set.true)

pub returns : goal.returns
returns c = c.loop-at.invariant ∙ write-ends c.args.set.now c.args.spot c.loop-at.at c.args.bytes.now (inl c.loop-at-test.false)

pub loop-at-preserved : goal.loop-at-preserved
loop-at-preserved c =
    let set = c.args.set.now in
    let bit = c.is_set.ensures ∙ ap (λ words. bit_in words (c.loop-at.at - c.args.spot.start)) c.items.ensures in
    elim c.if-is_set.branch [
      | then-is_set w ↦ w.bytes-is ∙ write-set set c.args.spot c.loop-at.at c.loop-at.bytes c.args.bytes.now c.loop-at-test.true c.loop-at.auto.at
          c.if-bit-set.false (sym bit ∙ w.if-is_set.true) c.loop-at.invariant
      | else-is_set w ↦ w.bytes-is ∙ c.loop-at.invariant ∙ write-clear set c.args.spot c.loop-at.at c.args.bytes.now c.loop-at.auto.at
          c.if-bit-set.false (sym bit ∙ w.if-is_set.false)
    ]
