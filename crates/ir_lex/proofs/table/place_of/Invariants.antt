use Rattle.std.proofs.Common.{◌-◌, map}
use Rattle.ir_lex.proofs.TableLemmas.{Narrows}
use Rattle.ir_lex.proofs.table.place_of.Given as goal

abbrev pub invariant-search : goal.invariant-search
invariant-search l = Narrows (map (λ word. word.now) l.words) l.word l.low l.high

abbrev pub decreases-search : goal.decreases-search
decreases-search l = l.high - l.low
