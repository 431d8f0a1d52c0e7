use Rattle.std.proofs.Common.{rules}
use Rattle.std.specs.Fmt.{signed_decimal}
use Rattle.ir_names.specs.Puts.{Puts}
use Rattle.ir_print.specs.Instructions.{inst_pieces}
use Rattle.ir_names.proofs.PutLemmas.{puts-then}
use Rattle.ir_print.proofs.instructions.put_checked_load.Goals as goal

pub returns : goal.returns
unfolding inst_pieces
returns g c =
    let offset : Puts (g.P.Printer.state c.put-3.new.self) (g.P.Printer.state c.put_signed_decimal.new.line) (signed_decimal c.args.offset) = search rules in
    puts-then c.put_local.ensures (puts-then c.put.ensures (puts-then c.put_pair.ensures (puts-then c.put-2.ensures
    (puts-then c.put_typed.ensures (puts-then c.put-3.ensures (puts-then offset
    (puts-then c.put-4.ensures (puts-then c.put_id.ensures c.put-5.ensures))))))))
