use Rattle.std.proofs.Common.{◌≡◌, ◌+◌, ◌++◌, take, drop, arith, length, sym, ap, ◌∙◌}
use Rattle.std.proofs.lemmas.Grind.{common_steps}
use Rattle.std.proofs.lemmas.List.{take_at, drop-drop, take-append-drop}
use Rattle.ltt_base.proofs.memory_files.fill.Goals as goal

pub returns-clause-moved : goal.returns-clause-moved
returns-clause-moved c =
    let bytes = c.args.bytes.now in
    let at = c.args.at in
    let count = c.min-count.result in
    let piece = c.copy_from_slice.new.self in
    let rest = drop count c.args.into.now in
    let moved : piece ≡ take count (drop at bytes) = c.copy_from_slice.ensures.after ∙ ap (λ k. take k (drop at bytes)) (omega arith) in
    let size : length (take count (drop at bytes)) ≡ count = grind (arith, common_steps) in
    let front : take count (piece ++ rest) ≡ piece = take_at piece rest count (ap length moved ∙ size) in
    sym (take-append-drop count (drop at bytes))
    ∙ ap (λ list. take count (drop at bytes) ++ list) (drop-drop count at bytes)
    ∙ ap (λ list. list ++ drop (at + count) bytes) (sym (front ∙ moved))
