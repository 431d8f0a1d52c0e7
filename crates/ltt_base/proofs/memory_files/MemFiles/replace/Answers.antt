use Rattle.std.proofs.Common.{ap, slice_index_or}
use Rattle.ltt_base.proofs.MemoryLemmas.{place_of-replaced, held_replaced, held_others}
use Rattle.ltt_base.proofs.memory_files.MemFiles.replace.Goals as goal

pub returns-clause-added : goal.returns-clause-added
returns-clause-added c =
    rw (← c.self.view_is) (held_replaced c.self.inside.files c.args.place c.at_mut.result.now c.at_mut.ensures.value c.args.bytes)

pub returns-clause-others : goal.returns-clause-others
returns-clause-others c =
    rw (← c.self.view_is) (held_others c.self.inside.files c.args.place c.at_mut.result.now c.at_mut.ensures.value c.args.bytes)

pub returns-clause-counts : goal.returns-clause-counts
returns-clause-counts c =
    rw (← c.self.view_is) (λ name. ap (λ place. slice_index_or c.self.inside.counts place c.self.inside.others)
    (place_of-replaced c.self.inside.files c.args.place c.at_mut.result.now c.at_mut.ensures.value c.args.bytes name))
