use Rattle.std.proofs.Common.{◌≡◌, ap, ◌∙◌, ◌<◌, length, arith}
use Rattle.ltt_base.specs.MemoryFiles.{place_of}
use Rattle.ltt_base.proofs.MemoryLemmas.{one_name, place_of-bound}
use Rattle.ltt_base.proofs.memory_files.MemFiles.add.Goals as goal

pub returns-then-place-len-clause-others : goal.returns-then-place-len-clause-others
returns-then-place-len-clause-others c =
    let files = c.args.self.now.files in
    let name = c.args.name.now in
    let place : c.place_of-place.result ≡ place_of name files =
    c.place_of-place.ensures ∙ ap (λ n. place_of n c.items.result.now) c.as_bytes.ensures.value
    ∙ ap (place_of name) (c.items.ensures ∙ ap (λ m. m.files) c.self.view_is) in
    let count : c.len.result ≡ length files = c.len.ensures ∙ ap (λ m. length m.files) c.self.view_is in
    let within : place_of name files < length files = omega arith in
    λ other apart. c.replace.ensures.others other (λ is. apart (one_name files name other within (is ∙ place)))

pub push-requires : goal.push-requires
push-requires c =
    let files = c.args.self.now.files in
    let name = c.args.name.now in
    let place : c.place_of-place.result ≡ place_of name files =
    c.place_of-place.ensures ∙ ap (λ n. place_of n c.items.result.now) c.as_bytes.ensures.value
    ∙ ap (place_of name) (c.items.ensures ∙ ap (λ m. m.files) c.self.view_is) in
    let count : c.len.result ≡ length files = c.len.ensures ∙ ap (λ m. length m.files) c.self.view_is in
    let bound = place_of-bound name files in
    let none : place_of name files ≡ length files = omega arith in
    ap (λ n. place_of n files) (c.in_ok-name.ensures ∙ c.as_bytes-2.ensures.value) ∙ none
