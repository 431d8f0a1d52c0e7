use Rattle.std.proofs.Common.{◌∙◌, sym}
use Rattle.check_names.proofs.SearchLemmas.{first_gets, first_none}
use Rattle.check_instructions.specs.Phis.{has_label}
use Rattle.check_instructions.proofs.phis.first_arm.Goals as goal

pub returns-in-Some : goal.returns-in-Some
returns-in-Some c = c.arm_at.ensures ∙ first_gets (has_label c.args.label.now) c.in-Some.at c.args.arms.now
    (sym (c.requires c.args.label.now) ∙ sym c.place_in.ensures ∙ c.in-Some.is)

pub returns-in-None : goal.returns-in-None
returns-in-None c = sym (first_none (has_label c.args.label.now) 0 c.args.arms.now
    (sym (c.requires c.args.label.now) ∙ sym c.place_in.ensures ∙ c.in-None.is))
