use Rattle.printed_tokens.proofs.CutLaws.{atoms_are_cut}
use Rattle.printed_tokens.proofs.laws.atoms_are_cut.Goals as goal

pub returns : goal.returns
returns c = atoms_are_cut
