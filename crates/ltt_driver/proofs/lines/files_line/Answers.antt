use Rattle.std.proofs.Common.{sym}
use Rattle.ltt_driver.proofs.LineLemmas.{files_text}
use Rattle.ltt_driver.proofs.lines.files_line.Goals as goal

pub returns : goal.returns
returns c = sym files_text
