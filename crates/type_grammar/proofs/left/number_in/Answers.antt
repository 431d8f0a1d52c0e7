use Rattle.std.proofs.Common.{◌≡◌, List, ℕ, drop, length, sym, ap, ◌∙◌, arith}
use Rattle.unit_grammar.specs.Pieces.{Piece}
use Rattle.unit_grammar.specs.Seeing.{tokens}
use Rattle.unit_grammar.proofs.ExactLaws.{found_rest}
use Rattle.type_grammar.proofs.LeftLaws.{in_front, none_in_front, number_deep}
use Rattle.type_grammar.proofs.left.number_in.Goals as goal

pub returns-then-left : goal.returns-then-left
returns-then-left c =
    let ts = tokens c.args.input.now in
    let one = c.left.ensures in
    let other = c.left-in-Ok.ensures in
    let test = c.if-left.true in
    let same : length (drop c.in-Ok.last ts) ≡ length (drop c.args.behind ts) = omega arith in
    c.address_of.ensures
    ∙ sym (in_front (drop c.args.at ts) (drop c.args.behind ts) (drop c.in-Ok.last ts) c.in-Ok.text c.in-Ok.ensures same)

pub returns-else-left : goal.returns-else-left
returns-else-left c =
    let ts = tokens c.args.input.now in
    sym (none_in_front (drop c.args.at ts) (drop c.args.behind ts) c.requires
    (λ x e.
    let one = c.left.ensures in
    let other = c.left-in-Ok.ensures in
    let test = c.if-left.false in
    let rests : drop c.in-Ok.last ts ≡ drop c.args.behind ts = found_rest (sym c.in-Ok.ensures ∙ e) in
    let same : length (drop c.in-Ok.last ts) ≡ length (drop c.args.behind ts) = ap (λ (us : List Piece). length us) rests in
    omega arith))

pub returns-in-Err-Absent : goal.returns-in-Err-Absent
returns-in-Err-Absent c =
    let ts = tokens c.args.input.now in
    let none = rw c.in-Err-Absent.field-0-is at c.in-Err-Absent.ensures in
    sym (none_in_front (drop c.args.at ts) (drop c.args.behind ts) c.requires (λ x e. cc))

pub returns-in-Err-Deep : goal.returns-in-Err-Deep
returns-in-Err-Deep c =
    let ts = tokens c.args.input.now in
    absurd (number_deep (drop c.args.at ts) (rw c.in-Err-Deep.field-0-is at c.in-Err-Deep.ensures))
