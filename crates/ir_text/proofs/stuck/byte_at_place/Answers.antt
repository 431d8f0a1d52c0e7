use Rattle.std.proofs.Common.{refl, add-one}
use Rattle.ir_text.proofs.PlaceLaws.{walked_start, walks, found_here}
use Rattle.ir_text.proofs.stuck.byte_at_place.Goals as goal

pub loop-i-init : goal.loop-i-init
loop-i-init c = walked_start c.args.file c.args.text.now c.args.place

pub returns-then-is_at : goal.returns-then-is_at
returns-then-is_at c =
    let both = c.is_at.ensures.0 c.if-is_at.true in (
      c.loop-i.i,
      found_here c.args.file c.args.text.now c.args.place c.loop-i.i c.loop-i.line c.loop-i.column c.requires.0
          c.loop-i-test.true c.loop-i.invariant c.requires.1 both.0 both.1,
      refl,
    )

pub loop-i-preserved : goal.loop-i-preserved
loop-i-preserved c =
    rw (c.behind.ensures.line, c.behind.ensures.column, add-one)
    (walks c.args.file c.args.text.now c.args.place c.loop-i.i c.loop-i.line c.loop-i.column c.loop-i-test.true c.loop-i.invariant
    (λ both. let met = c.is_at.ensures.1 both in let not_met = c.if-is_at.false in cc))
