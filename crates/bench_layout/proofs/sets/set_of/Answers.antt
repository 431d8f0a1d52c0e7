use Rattle.bench_layout.proofs.sets.set_of.Goals as goal

pub returns : goal.returns
returns c = record { members = c.args.offsets.now; are_offsets = c.requires; is = c.in_ok-set.ensures }
