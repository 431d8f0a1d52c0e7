use Rattle.std.proofs.Common.{sym, ◌∙◌}
use Rattle.check_items.proofs.identifiers.has_too_many.Goals as goal

pub returns : goal.returns
returns c = c.is_reached.ensures ∙ sym (c.requires.from c.args.at c.requires.inside)
