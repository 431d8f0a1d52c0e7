use Rattle.std.proofs.Common.{subst, sym, ◌∙◌, ◌≤◌}
use Rattle.std.specs.List.{All}
use Rattle.ir_memories.proofs.StatedLemmas.{rooms_aligned}
use Rattle.ir_memories.proofs.stated.placed.Goals as goal

pub place-requires-clause-aligned : goal.place-requires-clause-aligned
place-requires-clause-aligned c =
    subst (All (λ room. 1 ≤ room.align)) (sym (c.items.ensures ∙ c.in_ok-rooms.ensures)) (rooms_aligned c.args.output.now c.requires.aligned)
