use Rattle.std.proofs.Common.{drop}
use Rattle.unit_grammar.specs.Seeing.{tokens}
use Rattle.ir_text.proofs.ReadLaws.{adds_more, stops_with}
use Rattle.ir_text.proofs.reading.units.Goals as goal

pub loop-at-preserved : goal.loop-at-preserved
loop-at-preserved c =
    adds_more (tokens c.args.input.now) (drop c.loop-at.at (tokens c.args.input.now)) (drop c.in_ok-at.at (tokens c.args.input.now))
    c.loop-at.units c.add_unit.new.units c.loop-at.invariant c.in_ok-at.ensures

pub returns-in_err-at : goal.returns-in_err-at
returns-in_err-at c =
    stops_with (tokens c.args.input.now) (drop c.loop-at.at (tokens c.args.input.now)) c.loop-at.units c.from_residual.result
    c.in_err-at.field-0.0 c.from_residual.ensures.1 c.loop-at.invariant c.in_err-at.ensures
