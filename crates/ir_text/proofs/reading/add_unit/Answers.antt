use Rattle.std.proofs.Common.{◌+◌, drop}
use Rattle.unit_grammar.specs.Seeing.{seen_piece, tokens}
use Rattle.ir_text.proofs.ReadLaws.{ok_of, adds, lacks, nests}
use Rattle.ir_text.proofs.reading.add_unit.Goals as goal

pub returns-else-is_err : goal.returns-else-is_err
returns-else-is_err c =
    adds (drop c.args.at (tokens c.args.input.now)) (drop c.in-Ok.next (tokens c.args.input.now)) (drop (c.args.at + 1) (tokens c.args.input.now))
    (seen_piece c.args.first) c.in-Ok.value c.args.units.now c.push.new.self c.requires c.in-Ok.ensures
    (ok_of _ _ c.if-is_err.ensures.value c.push.ensures.added)

pub returns-in-Err-Absent : goal.returns-in-Err-Absent
returns-in-Err-Absent c =
    lacks (drop c.args.at (tokens c.args.input.now)) (drop (c.args.at + 1) (tokens c.args.input.now)) (seen_piece c.args.first)
    c.refused.result c.requires (rw c.in-Err-Absent.field-0-is at c.in-Err-Absent.ensures) c.refused.ensures

pub returns-in-Err-Deep : goal.returns-in-Err-Deep
returns-in-Err-Deep c =
    nests (drop c.args.at (tokens c.args.input.now)) (drop (c.args.at + 1) (tokens c.args.input.now)) (seen_piece c.args.first)
    c.refused-in-Err-Deep.result c.requires (rw c.in-Err-Deep.field-0-is at c.in-Err-Deep.ensures) c.refused-in-Err-Deep.ensures
