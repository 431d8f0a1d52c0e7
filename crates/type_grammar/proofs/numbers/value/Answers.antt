use Rattle.type_grammar.proofs.NumberLemmas.{overflow_at}
use Rattle.type_grammar.proofs.numbers.value.Goals as goal

pub returns-in-None : goal.returns-in-None
returns-in-None c =
    overflow_at c.args.bytes.now c.loop-byte.byte-index c.loop-byte.value c.loop-byte-test.true c.loop-byte.invariant.0 c.in-None.ensures
