use Rattle.std.proofs.Common.{◌≡◌, ◌+◌, ◌-◌, ◌≤◌, suc, drop, ◌∙◌, arith}
use Rattle.unit_grammar.specs.Seeing.{seen_piece, tokens}
use Rattle.unit_grammar.specs.Signs as spec
use Rattle.unit_grammar.proofs.EnclosedLaws.{closing_step, closing_ends, open_most}
use Rattle.unit_grammar.proofs.brackets.enclosed.Goals as goal

pub returns-then-count-eq0 : goal.returns-then-count-eq0
returns-then-count-eq0 c =
    c.loop-at.invariant.0
    ∙ closing_ends (spec.mark c.args.opening.now) (spec.mark c.args.closing.now) (drop c.loop-at.at (tokens c.args.input.now))
    (drop (c.loop-at.at + 1) (tokens c.args.input.now)) (seen_piece c.in-Some.seen) c.loop-at.others c.open_behind-count.result
    c.in-Some.ensures c.open_behind-count.ensures c.if-count-eq0.true

pub loop-at-preserved : goal.loop-at-preserved
loop-at-preserved c =
    let some = c.if-count-eq0.false in
    let count : suc (c.open_behind-count.result - 1) ≡ c.open_behind-count.result = omega arith in
    let most : c.open_behind-count.result ≤ c.loop-at.others + 2 =
    (rw c.open_behind-count.ensures (open_most (spec.mark c.args.opening.now) (spec.mark c.args.closing.now) c.loop-at.others (seen_piece c.in-Some.seen))) in
    let few = c.loop-at.invariant.1 in (
      c.loop-at.invariant.0
          ∙ closing_step (spec.mark c.args.opening.now) (spec.mark c.args.closing.now) (drop c.loop-at.at (tokens c.args.input.now))
          (drop (c.loop-at.at + 1) (tokens c.args.input.now)) (seen_piece c.in-Some.seen) c.loop-at.others (suc (c.open_behind-count.result - 1))
          c.in-Some.ensures (count ∙ c.open_behind-count.ensures),
      omega arith,
    )
