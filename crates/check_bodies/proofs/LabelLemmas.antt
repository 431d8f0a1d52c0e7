-- The loop that tests whether labels stand among others.
use Rattle.std.proofs.Common.{◌≡◌, ℕ, ◌+◌, ◌<◌, suc, Bool, true, false, ◌&&◌, List, [], ◌∷◌, length, get_or, drop, refl, sym, ap, ◌∙◌, add-one, drop-cons}
use Rattle.std.specs.Prelude.{is_some}
use Rattle.std.specs.List.{list_any}
use Rattle.std.specs.Str.{bytes_eq}
use Rattle.std.specs.BTreeMap.{BTreeMap}
use Rattle.std.specs.Borrow.{Bor}
use Rattle.check_bodies.specs.Blocks.{are_among}
use Rattle.check_bodies.specs.Labels.{place_in, Holds}

step : (labels others : List (List ℕ)) (i : ℕ) (x : List ℕ) → i < length labels → x ≡ get_or labels i x →
    are_among (drop i labels) others ≡ (list_any (λ y. bytes_eq y x) others && are_among (drop (i + 1) labels) others)
step labels others i x within here =
    let first : drop i labels ≡ x ∷ drop (i + 1) labels = rw add-one (drop-cons labels i x within ∙ ap (λ y. y ∷ drop (suc i) labels) (sym here)) in
    ap (λ ls. are_among ls others) first

pub among_no : (labels others : List (List ℕ)) (map : BTreeMap (Bor (List ℕ)) ℕ) (i : ℕ) (x : List ℕ) (whole : Bool) → i < length labels → x ≡ get_or labels i x →
    Holds others map → is_some (place_in x map) ≡ false → are_among (drop i labels) others ≡ whole → false ≡ whole
among_no labels others map i x whole within here holds lacking is =
    let none : list_any (λ y. bytes_eq y x) others ≡ false = sym (holds x) ∙ lacking in
    sym (ap (λ b. b && are_among (drop (i + 1) labels) others) none) ∙ sym (step labels others i x within here) ∙ is

pub among_yes : (labels others : List (List ℕ)) (map : BTreeMap (Bor (List ℕ)) ℕ) (i : ℕ) (x : List ℕ) (whole : Bool) → i < length labels → x ≡ get_or labels i x →
    Holds others map → is_some (place_in x map) ≡ true → are_among (drop i labels) others ≡ whole → are_among (drop (i + 1) labels) others ≡ whole
among_yes labels others map i x whole within here holds found is =
    let some : list_any (λ y. bytes_eq y x) others ≡ true = sym (holds x) ∙ found in
    sym (ap (λ b. b && are_among (drop (i + 1) labels) others) some) ∙ sym (step labels others i x within here) ∙ is
