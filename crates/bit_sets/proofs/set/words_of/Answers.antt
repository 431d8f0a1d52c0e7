use Rattle.std.proofs.Common.{rules, ◌≡◌, [], length, ◌∙◌, sym, ap, refl, get_or, take, vec_len}
use Rattle.bit_sets.specs.BitSet.{bit_of, word_count}
use Rattle.bit_sets.proofs.WordLemmas.{words-none, length-words}
use Rattle.bit_sets.proofs.MarkLemmas.{mark-within, marked-offset}
use Rattle.bit_sets.proofs.set.words_of.Goals as goal

pub loop-offset-init : goal.loop-offset-init
loop-offset-init c = c.in_ok-words.ensures ∙ sym (words-none (bit_of [] c.args.low c.args.align) 0 (word_count c.args.size_m1) (λ k. refl))

pub index_mut-requires : goal.index_mut-requires
index_mut-requires c =
    let words = c.loop-offset.words in
    let long : vec_len words ≡ length words.items = search rules in
    let count : length words.items ≡ word_count c.args.size_m1 =
    ap length c.loop-offset.invariant ∙ length-words (bit_of (take c.loop-offset.offset-index c.args.offsets.now) c.args.low c.args.align) 0 (word_count c.args.size_m1) in
    let is = c.requires.aligned c.loop-offset.offset-index 0 c.loop-offset-test.true in
    mark-within c.args.low c.args.align c.args.size_m1 (get_or c.args.offsets.now c.loop-offset.offset-index 0) (vec_len words) is (long ∙ count)

pub loop-offset-preserved : goal.loop-offset-preserved
loop-offset-preserved c =
    let is = c.requires.aligned c.loop-offset.offset-index 0 c.loop-offset-test.true in
    marked-offset c.args.offsets.now c.args.low c.args.align c.args.size_m1 c.loop-offset.offset-index c.loop-offset.words.items c.index_mut.result.now
    c.loop-offset-test.true is c.loop-offset.invariant c.index_mut.ensures.value
