use Rattle.std.proofs.Common.{◌≡◌, ◌*◌, ◌^◌, ◌≤◌, drop}
use Rattle.check_types.specs.Parts.{offset_from}
use Rattle.check_types.proofs.parts.struct_offset.Given as goal

abbrev pub invariant-loop-part : goal.invariant-loop-part
invariant-loop-part l = (offset_from l.types.units l.from (drop l.part-index l.parts) l.left ≡ offset_from l.types.units 0 l.parts l.fn.at)
    × (l.from ≤ l.part-index * 2 ^ 25)
