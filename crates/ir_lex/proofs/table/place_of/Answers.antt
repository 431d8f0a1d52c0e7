use Rattle.std.proofs.Common.{◌≡◌, ℕ, ◌+◌, ◌-◌, ◌/◌, ◌<◌, ◌≤◌, length, map, List, get_or, ap, sym, ◌∙◌, Bor, [], arith}
use Rattle.std.specs.Ordering.{nat_cmp}
use Rattle.std.specs.Cmp.Lexicographic.{slice_cmp}
use Rattle.std.proofs.lemmas.List.{get_or-map, length-map}
use Rattle.ir_lex.proofs.TableLemmas.{Narrows, narrows_up, narrows_down, narrows_none, get_is}
use Rattle.ir_lex.proofs.table.place_of.Goals as goal

abbrev words_of : List (Bor (List ℕ)) → List (List ℕ)
words_of words = map (λ word. word.now) words

record Middle (low high count : ℕ) : Type 0 where
  least : low ≤ low + (high - low) / 2
  less : low + (high - low) / 2 < high
  within : low + (high - low) / 2 < count

middle_is : (low high count : ℕ) → low < high → high ≤ count → Middle low high count
middle_is low high count some within = record { least = omega arith; less = omega arith; within = omega arith }

middle_of : (words : List (Bor (List ℕ))) (word : List ℕ) (low high : ℕ) → low < high → Narrows (words_of words) word low high → Middle low high (length words)
middle_of words word low high some n = let within = n.within in middle_is low high (length words) some (omega (arith, length-map words (λ (w : Bor (List ℕ)). w.now)))

pub search-preserved-in-Less : goal.search-preserved-in-Less
search-preserved-in-Less c =
    let words = c.args.words.now in
    let low = c.search.low in
    let high = c.search.high in
    let m = middle_of words c.args.word.now low high c.search-test.true c.search.invariant in
    let middle = low + (high - low) / 2 in
    let e = ap (slice_cmp nat_cmp c.args.word.now) (get_or-map (λ (w : Bor (List ℕ)). w.now) words middle _ [] m.within) ∙ sym c.in-Less.ensures in
    narrows_down (words_of words) c.args.word.now low middle high c.requires.ascending c.search.invariant m.least m.less e

pub search-preserved : goal.search-preserved
search-preserved c =
    let words = c.args.words.now in
    let low = c.search.low in
    let high = c.search.high in
    let m = middle_of words c.args.word.now low high c.search-test.true c.search.invariant in
    let middle = low + (high - low) / 2 in
    let e = ap (slice_cmp nat_cmp c.args.word.now) (get_or-map (λ (w : Bor (List ℕ)). w.now) words middle _ [] m.within) ∙ sym c.in-Greater.ensures in
    narrows_up (words_of words) c.args.word.now low middle high c.requires.ascending c.search.invariant m.least m.less e

pub returns-in-Equal-clause-found : goal.returns-in-Equal-clause-found
returns-in-Equal-clause-found c =
    let words = c.args.words.now in
    let low = c.search.low in
    let high = c.search.high in
    let m = middle_of words c.args.word.now low high c.search-test.true c.search.invariant in
    let middle = low + (high - low) / 2 in
    let e = ap (slice_cmp nat_cmp c.args.word.now) (get_or-map (λ (w : Bor (List ℕ)). w.now) words middle _ [] m.within) ∙ sym c.in-Equal.ensures in
    let less = m.less in
    let n = c.search.invariant in
    let within = n.within in
    get_is (words_of words) middle c.args.word.now (omega arith) e

pub returns-clause-absent : goal.returns-clause-absent
returns-clause-absent c is =
    narrows_none (words_of c.args.words.now) c.args.word.now c.search.low c.search.high c.search.invariant c.search-test.false is
