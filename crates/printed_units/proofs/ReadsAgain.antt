-- The text of a module that can be read again is read as the units of its lines.
use Rattle.std.proofs.Common.{subst}
use Rattle.unit_grammar.specs.Pieces.{pieces}
use Rattle.ir_text.specs.Answers.{IsRead}
use Rattle.printed_tokens.specs.Atoms.{rendered}
use Rattle.printed_tokens.proofs.CutLaws.{atoms_are_cut}
use Rattle.printed_units.specs.Lines.{module_atoms}
use Rattle.printed_units.specs.Laws.{PrintedReadsAgain}
use Rattle.printed_units.proofs.LineText.{module_prints}
use Rattle.printed_units.proofs.ReadLaws.{lines_read}

pub printed_reads_again : PrintedReadsAgain
printed_reads_again file m is =
    let prints = module_prints m is in
    let cut = atoms_are_cut file (module_atoms m) prints.separated in
    let (us, reads, say) = lines_read m is 0 (pieces (rendered (module_atoms m)) cut.tokens) cut.look in
    record {
      us = us;
      read = subst (λ text. IsRead file text us) prints.renders (record { tokens = cut.tokens; are = cut.are; reads = reads });
      say = say;
    }
