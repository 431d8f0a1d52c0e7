use Rattle.ir_lex.proofs.TableLemmas.{words_stand_once}
use Rattle.ir_lex.proofs.laws.words_stand_once.Goals as goal

pub returns : goal.returns
returns c = words_stand_once
