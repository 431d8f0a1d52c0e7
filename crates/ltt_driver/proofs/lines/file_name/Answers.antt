use Rattle.std.proofs.Common.{string_bytes, Some, None, sym, ◌∙◌, ap}
use Rattle.std.proofs.lemmas.Option.{slice_get-get_or, slice_get_past}
use Rattle.ltt_driver.proofs.LineLemmas.{named}
use Rattle.ltt_driver.proofs.lines.file_name.Goals as goal

pub returns-in-Some : goal.returns-in-Some
returns-in-Some c =
    let name = c.in-Some.name.now in
    let found = slice_get-get_or c.args.names.now _ name (c.in-Some.ensures.lookup.3.0) ∙ ap (λ n. Some n) (sym c.in-Some.ensures.lookup.1) in
    c.as_bytes.ensures.value ∙ sym (named string_bytes c.args.names.now c.args.file (Some name) c.if-file-eq0.false found)

pub returns-in-None : goal.returns-in-None
returns-in-None c =
    let past = slice_get_past c.args.names.now _ c.in-None.ensures.lookup.3 in
    sym (named string_bytes c.args.names.now c.args.file None c.if-file-eq0.false past)
