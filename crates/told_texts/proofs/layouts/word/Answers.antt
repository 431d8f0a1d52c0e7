use Rattle.std.proofs.Common.{refl, arith}
use Rattle.told_texts.proofs.layouts.word.Goals as goal

pub returns : goal.returns
returns c = record { extent = omega arith; align = (3, omega arith, refl) }
