-- The places of texts in a list, looked up by their bytes.
use Rattle.std.specs.Prelude.{◌≡◌, ℕ, ◌<◌, List, length, Contains, slice_index_or, Option, Some, None}
use Rattle.std.specs.BTreeMap.{BTreeMap, get_by}
use Rattle.std.specs.Cmp.Lexicographic.{slice_cmp}
use Rattle.std.specs.Ordering.{nat_cmp}
use denote.Ref.{Bor}

-- the place that stands at these bytes
abbrev pub place_at : BTreeMap (Bor (List ℕ)) ℕ → List ℕ → Option ℕ
place_at places bytes = get_by (λ key. slice_cmp nat_cmp bytes key.now) places

-- a place of the text, where it has one
abbrev pub IsPlace : List (List ℕ) → List ℕ → Option ℕ → Type 0
IsPlace texts text None = ¬ Contains texts text
IsPlace texts text (Some place) = (place < length texts) × (slice_index_or texts place text ≡ text)

-- a map that gives each of these texts, and no other, a place of it
pub record ArePlaces (texts : List (List ℕ)) (places : BTreeMap (Bor (List ℕ)) ℕ) : Type 0 where
  pub at : (text : List ℕ) → IsPlace texts text (place_at places text)
