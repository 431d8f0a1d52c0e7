use Rattle.bit_sets.proofs.ShapeLemmas.{unsat-exact, single-exact, all_ones-exact, inline-exact, byte_array-exact}
use Rattle.bit_sets.proofs.laws.tests_are_exact.Goals as goal

pub returns : goal.returns
returns c = record {
  unsat = unsat-exact;
  single = single-exact;
  all_ones = all_ones-exact;
  inline = inline-exact;
  byte_array = byte_array-exact;
}
