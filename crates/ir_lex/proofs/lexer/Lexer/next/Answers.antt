use Rattle.std.proofs.Common.{◌≡◌, ◌+◌, ◌-◌, length-drop, drop, ◌∙◌, ap, arith}
use Rattle.std.proofs.lemmas.List.{take_rest}
use Rattle.ir_lex.specs.Letters.{is_name_byte}
use Rattle.ir_lex.specs.Kinds.{Begins}
use Rattle.ir_lex.proofs.NameLemmas.{run_over}
use Rattle.ir_lex.proofs.PlaceLemmas.{place_own, place_file}
use Rattle.ir_lex.proofs.lexer.Lexer.next.Goals as goal

pub place_of-self-inside-requires-clause-place : goal.place_of-self-inside-requires-clause-place
place_of-self-inside-requires-clause-place c =
    let gap = c.gap_end-start in
    place_own gap.result.1 c.self.inside.place.file c.self.inside.text.now gap.result.0 gap.ensures.place

pub invariant_of-self : goal.invariant_of-self
invariant_of-self c =
    let text = c.self.inside.text.now in
    let start = c.gap_end-start.result.0 in
    let cut = c.in-Some.cut in
    let begins : Begins (drop start text) cut.kind cut.len = rw (take_rest text start) at c.in-Some.ensures.found in
    let inside = begins.within in
    let order = c.gap_end-start.ensures.end.within in
    record {
      size = c.self.invariant.size;
      within = omega (arith, length-drop start text);
      place_is = place_own c.place_of-self-inside.result c.gap_end-start.result.1.file text (start + cut.len) c.place_of-self-inside.ensures;
      names_end = λ before. run_over is_name_byte text start (start + cut.len) c.names_end-names.result (omega arith) before (λ _. c.names_end-names.ensures.end);
    }

pub returns : goal.returns
returns c =
    let text = c.self.inside.text.now in
    let start = c.gap_end-start.result.0 in
    let cut = c.in-Some.cut in
    let gap = c.gap_end-start.ensures in
    let begins : Begins (drop start text) cut.kind cut.len = rw (take_rest text start) at c.in-Some.ensures.found in
    let size : start + cut.len - start ≡ cut.len = omega arith in
    let file : c.place_of-self-inside.result.file ≡ c.self.inside.place.file =
    place_file c.place_of-self-inside.result _ text _ c.place_of-self-inside.ensures ∙ place_file c.gap_end-start.result.1 _ text start gap.place in
    let inside = gap.end.within in
    rw (← c.self.view_is) (
      record {
        behind = gap.end.order;
        gap = let h = gap.end.gap (omega arith) in h.0;
        begins = rw size begins;
        place = gap.place;
      },
      ap (λ f. record { file = f; text = text; at = start + cut.len }) file,
    )
