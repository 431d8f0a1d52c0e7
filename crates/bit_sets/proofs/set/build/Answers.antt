use Rattle.std.proofs.Common.{rules, ◌-◌, ◌/◌, ◌^◌, ◌<◌, length, ◌∙◌, sym, ap, subst}
use Rattle.bit_sets.specs.BitSet as spec
use Rattle.bit_sets.proofs.NumberLemmas.{mask-below}
use Rattle.bit_sets.proofs.SetLemmas.{AreNumbers, low-each, numbers-small, numbers-bits, set-from}
use Rattle.bit_sets.proofs.set.build.Goals as goal

numbers : (c : goal.After-align_of_mask-align) → AreNumbers c.args.offsets.now c.least-min.result c.greatest.result c.mask_from.result c.align_of_mask-align.result
numbers c = record { is_low = c.least-min.ensures; is_high = c.greatest.ensures; is_mask = c.mask_from.ensures; is_align = c.align_of_mask-align.ensures }

pub mask_from-requires : goal.mask_from-requires
mask_from-requires c = low-each c.args.offsets.now c.least-min.result c.least-min.ensures

pub align_of_mask-align-requires : goal.align_of_mask-align-requires
align_of_mask-align-requires c =
    subst (λ mask. mask < 2 ^ 27) (sym c.mask_from.ensures) (mask-below c.least-min.result c.args.offsets.now c.requires)

pub words_of-requires-clause-aligned : goal.words_of-requires-clause-aligned
words_of-requires-clause-aligned c =
    numbers-bits c.args.offsets.now c.least-min.result c.greatest.result c.mask_from.result c.align_of_mask-align.result c.requires (numbers c)

pub words_of-requires-clause-small : goal.words_of-requires-clause-small
words_of-requires-clause-small c =
    numbers-small c.args.offsets.now c.least-min.result c.greatest.result c.mask_from.result c.align_of_mask-align.result c.requires (numbers c)

pub kind_of-kind-requires : goal.kind_of-kind-requires
kind_of-kind-requires c =
    numbers-small c.args.offsets.now c.least-min.result c.greatest.result c.mask_from.result c.align_of_mask-align.result c.requires
    (record { is_low = c.least-min.ensures; is_high = c.greatest.ensures; is_mask = c.mask_from.ensures; is_align = c.align_of_mask-align.ensures })

pub returns : goal.returns
returns c =
    let some : 0 < length c.args.offsets.now = search rules in
    set-from c.args.offsets.now c.least-min.result c.greatest.result c.mask_from.result c.align_of_mask-align.result c.in_ok-words.words c.kind_of-kind.result
    some
    (record { is_low = c.least-min.ensures; is_high = c.greatest.ensures; is_mask = c.mask_from.ensures; is_align = c.align_of_mask-align.ensures })
    c.in_ok-words.ensures
    (c.kind_of-kind.ensures
    ∙ ap (λ ws. spec.kind_of (spec.bit_in ws) (c.greatest.result - c.least-min.result) ((c.greatest.result - c.least-min.result) / 2 ^ c.align_of_mask-align.result)) c.items.ensures)
