-- Items that are put one behind the other.
use Rattle.std.proofs.Common.{◌≡◌, sym, ◌∙◌, ap, ℕ, ◌+◌, ◌<◌, List, [], ◌∷◌, ◌++◌, length, take, get_or}
use Rattle.std.specs.List.{flat_map}
use Rattle.std.proofs.lemmas.Grind.{flat_map-append}
use Rattle.std.proofs.lemmas.List.{take_more, append-nil}
use Rattle.ir_names.specs.Puts.{State, Puts}
use Rattle.ir_names.proofs.PutLemmas.{puts-then, puts-as}

pub flat_map-last : {X : Type 0} (text : X → List ℕ) (items : List X) (item : X) → flat_map text (items ++ (item ∷ [])) ≡ flat_map text items ++ text item
flat_map-last text items item = flat_map-append text items (item ∷ []) ∙ ap (λ end. flat_map text items ++ end) (append-nil (text item))

-- an item more
pub next-flat : {X : Type 0} {a b c : State} (text : X → List ℕ) (items : List X) (i : ℕ) (d : X) → i < length items
    → Puts a b (flat_map text (take i items)) → Puts b c (text (get_or items i d)) → Puts a c (flat_map text (take (i + 1) items))
next-flat text items i d h p q =
    puts-as (sym (ap (flat_map text) (take_more items i d h) ∙ flat_map-last text (take i items) (get_or items i d))) (puts-then p q)
