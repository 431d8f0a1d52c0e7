-- Lemmas on a list that is seen from its end.
use Rattle.std.proofs.Common.{◌≡◌, suc, ◌-◌, ◌<◌, List, [], ◌∷◌, ◌++◌, length, take, drop, reverse, get_or, slice_get, slice_set, Some, ap, sym, ◌∙◌, arith}
use Rattle.std.proofs.Math.Seq.{take-suc}
use Rattle.std.proofs.lemmas.List.{set_split, reverse-append}
use Rattle.std.proofs.lemmas.Option.{get_or_from_slice_get}
use Rattle.std.proofs.lemmas.Grind.{common_steps}

module _ {X : Type 0} (xs : List X) (some : 0 < length xs) where
  -- the last item, and then the others from the end
  pub reverse-last : (other : X) → reverse xs ≡ get_or xs (length xs - 1) other ∷ reverse (take (length xs - 1) xs)
  reverse-last other =
      let last = length xs - 1 in
      let all : take (suc last) xs ≡ xs = grind (arith, common_steps) in
      ap reverse (sym all ∙ take-suc xs last other (omega arith)) ∙ reverse-append (take last xs) (get_or xs last other ∷ [])

  -- another last item is another top
  pub reverse-set_last : (item : X) → reverse (slice_set xs (length xs - 1) item) ≡ item ∷ drop 1 (reverse xs)
  reverse-set_last item =
      let last = length xs - 1 in
      let none : drop (suc last) xs ≡ [] = grind (arith, common_steps) in
      ap reverse (set_split xs last item (omega arith) ∙ ap (λ rest. take last xs ++ item ∷ rest) none)
      ∙ reverse-append (take last xs) (item ∷ []) ∙ ap (λ rest. item ∷ drop 1 rest) (sym (reverse-last item))

  pub top-reverse : (item : X) → slice_get xs (length xs - 1) ≡ Some item → slice_get (reverse xs) 0 ≡ Some item
  top-reverse item is = ap (λ list. slice_get list 0) (reverse-last item) ∙ ap Some (get_or_from_slice_get xs _ item item is)
