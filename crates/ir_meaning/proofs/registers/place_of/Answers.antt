use Rattle.std.proofs.Common.{None, sym, ◌∙◌}
use Rattle.ltt_base.proofs.MemoryLemmas.{placed}
use Rattle.ir_meaning.specs.Registers.{is_named}
use Rattle.ir_meaning.proofs.registers.place_of.Goals as goal

pub returns-in-None : goal.returns-in-None
returns-in-None g c =
    placed (is_named {P = g.row.P.Denot} c.args.name.now) c.args.registers.now None (sym c.in-None.is ∙ c.find.ensures)
