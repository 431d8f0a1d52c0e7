use Rattle.std.proofs.Common.{arith}
use Rattle.ir_lex.proofs.PlaceLemmas.{place_more}
use Rattle.ir_lex.proofs.GapLemmas.{open_more}
use Rattle.ir_lex.proofs.gap.gap_end.Goals as goal

pub bytes-preserved : goal.bytes-preserved
bytes-preserved c = record {
  place_is = let e = place_more c.args.place.file c.args.text.now c.bytes.at (omega arith) in cc;
  open_is = open_more c.args.text.now c.args.start c.bytes.at c.bytes.inside _ (omega arith) (omega arith) c.bytes.invariant.open_is (let e = c.open_after.ensures in let d = c.in-Some.is in cc);
}
