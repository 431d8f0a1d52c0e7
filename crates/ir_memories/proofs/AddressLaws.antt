-- Each object stands at the address that a placement gives its name.
use Rattle.std.proofs.Common.{◌≡◌, ◌∙◌, ℕ, ◌+◌, Bool, true, false, List, [], ◌∷◌, map, drop, refl, ap, arith}
use Rattle.std.specs.Prelude.{nat_eq, if◌then◌else◌, slice_index}
use Rattle.std.specs.Cmp.Lexicographic.{pointwise}
use Rattle.std.specs.List.{Contains}
use Rattle.type_metadata.proofs.SameLaws.{bytes_one}
use Rattle.ir_memories.specs.Placement.{Placement, Placeable}
use Rattle.ir_memories.specs.Stated.{printed}
use Rattle.ir_memories.specs.Laws.{AddressLaw}
use Rattle.ir_memories.proofs.StatedLaws.{base_among, base_printed, step_of, in_rest}

address_cases : (at : List ℕ) (p : Placement) (index : ℕ) (object : Placeable) (objects : List Placeable) (wanted : Placeable) (b : Bool) →
    pointwise nat_eq object.name wanted.name ≡ b → slice_index at index ≡ p object.name →
    (pointwise nat_eq object.name wanted.name ≡ false → base_among at (index + 1) wanted.name 0 objects ≡ p wanted.name) →
    (if b then slice_index at index else base_among at (index + 1) wanted.name 0 objects) ≡ p wanted.name
address_cases at p index object objects wanted true is here rest = here ∙ ap p (bytes_one object.name wanted.name is)
address_cases at p index object objects wanted false is here rest = rest is

address_at : (at : List ℕ) (p : Placement) (index : ℕ) (objects : List Placeable) → drop index at ≡ map (λ o. p o.name) objects →
    (wanted : Placeable) → Contains objects wanted → base_among at index wanted.name 0 objects ≡ p wanted.name
unfolding base_among
address_at at p index [] is wanted (k, within, here) = absurd (omega (arith, within))
address_at at p index (object ∷ objects) is wanted inside =
    let step = step_of at index _ _ is in
    address_cases at p index object objects wanted (pointwise nat_eq object.name wanted.name) refl step.0
    (λ apart. address_at at p (index + 1) objects step.1 wanted (in_rest object objects wanted inside apart))

pub address_law : AddressLaw
address_law m p object at =
    base_printed m (map (λ o. p o.name) (printed m)) object.name
    ∙ address_at (map (λ o. p o.name) (printed m)) p 0 (printed m) refl object at
