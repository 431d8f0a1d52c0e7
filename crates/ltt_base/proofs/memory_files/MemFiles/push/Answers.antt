use Rattle.std.proofs.Common.{ap, sym, ◌∙◌}
use Rattle.ltt_base.specs.MemoryFiles.{place_of, bytes_at, held}
use Rattle.ltt_base.proofs.MemoryLemmas.{held_pushed, held_besides, ok_of}
use Rattle.ltt_base.proofs.memory_files.MemFiles.push.Goals as goal

pub returns-clause-added : goal.returns-clause-added
returns-clause-added c =
    let files = ok_of _ _ (sym c.is_err-2.ensures.value ∙ c.if-is_err-2.false) c.push-2.ensures.added in
    ap (λ list. bytes_at list (place_of c.args.file.name list)) files
    ∙ held_pushed c.self.inside.files c.args.file (rw (← c.self.view_is) at c.requires)

pub returns-clause-others : goal.returns-clause-others
returns-clause-others c =
    let files = ok_of _ _ (sym c.is_err-2.ensures.value ∙ c.if-is_err-2.false) c.push-2.ensures.added in
    λ name apart. ap (λ list. bytes_at list (place_of name list)) files ∙ held_besides c.self.inside.files c.args.file name apart
    ∙ ap (λ m. held m name) c.self.view_is
