use Rattle.std.proofs.Common.{◌-◌, ◌^◌, ◌∙◌, sym, ap, take, ◌++◌, ◌∷◌, []}
use Rattle.std.proofs.lemmas.List.{append-nil}
use Rattle.bit_sets.specs.Lanes.{arrays_from}
use Rattle.bit_sets.proofs.FillingLemmas.{arrays-more, array-one, array-none}
use Rattle.bit_sets.proofs.filling.arrays.Goals as goal
use Rattle.bit_sets.proofs.filling.arrays.Goals.{then-is_byte_array+in-Ok, else-is_byte_array}

pub loop-number-preserved : goal.loop-number-preserved
loop-number-preserved c =
    let k = c.loop-number.number in
    let set = c.index-sets-number.result in
    let more = arrays-more c.args.sets.now k set c.loop-number-test.true c.index-sets-number.is in
    elim c.if-is_byte_array.branch [
      | then-is_byte_array+in-Ok w ↦
          ap (λ v. v.items) w.pairs-is ∙ w.in-Ok.ensures.items
          ∙ ap (λ pairs. pairs ++ (2 ^ 27 - set.size_m1, k) ∷ []) c.loop-number.invariant
          ∙ sym (more ∙ ap (λ pairs. arrays_from 0 (take k c.args.sets.now) ++ pairs) (array-one k set (sym c.is_byte_array.ensures ∙ w.if-is_byte_array.true)))
      | else-is_byte_array w ↦
          ap (λ v. v.items) w.pairs-is ∙ c.loop-number.invariant
          ∙ sym (more ∙ ap (λ pairs. arrays_from 0 (take k c.args.sets.now) ++ pairs) (array-none k set (sym c.is_byte_array.ensures ∙ w.if-is_byte_array.false))
          ∙ append-nil (arrays_from 0 (take k c.args.sets.now)))
    ]
