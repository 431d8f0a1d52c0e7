use Rattle.std.proofs.Common.{◌≡◌, drop}
use Rattle.std.specs.List.{list_any}
use Rattle.check_instructions.specs.Phis.{is_second_value}
use Rattle.check_instructions.proofs.phis.are_torn.Given as goal

abbrev pub invariant-loop-arm : goal.invariant-loop-arm
invariant-loop-arm l = list_any (is_second_value l.arms) (drop l.arm-index l.arms) ≡ list_any (is_second_value l.arms) l.arms
