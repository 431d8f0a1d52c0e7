-- The theorems on tests: each shape is true exactly at the addresses of members, at every address of the group.
use Rattle.std.specs.Prelude.{◌≡◌, ℕ, ◌^◌, ◌<◌, Bool, true, false, List, [], ◌∷◌, length, IsTrue, ◌↔◌, Some, None, IsSome, slice_index_or}
use Rattle.bit_sets.specs.declared.lanes.Spot.{Spot}
use Rattle.bit_sets.specs.Lanes.{lanes_of, set_at, is_byte_array}
use Rattle.bit_sets.specs.declared.set.BitSet.{BitSet}
use Rattle.bit_sets.specs.declared.set.Kind.TheVariants.{Unsat, Single, AllOnes, Inline, ByteArray}
use Rattle.bit_sets.specs.BitSet.{AreOffsets, set_of}
use Rattle.bit_sets.specs.Tests.{IsAddress, single_test, all_ones_test, inline_test, byte_array_test, Holds}

-- a test of the set of some members is exact
abbrev pub IsExact : List ℕ → (ℕ → ℕ → Bool) → Type 0
IsExact members test = (base a : ℕ) → base < 2 ^ 64 → a < 2 ^ 64 → IsTrue (test base a) ↔ IsAddress members base a

abbrev pub UnsatIsExact : Type 0
UnsatIsExact = (members : List ℕ) → AreOffsets members → (set_of members).kind ≡ Unsat → IsExact members (λ base a. false)

abbrev pub SingleIsExact : Type 0
SingleIsExact = (members : List ℕ) → AreOffsets members → (set_of members).kind ≡ Single → IsExact members (single_test (set_of members))

abbrev pub AllOnesIsExact : Type 0
AllOnesIsExact = (members : List ℕ) → AreOffsets members → (set_of members).kind ≡ AllOnes → IsExact members (all_ones_test (set_of members))

abbrev pub InlineIsExact : Type 0
InlineIsExact = (members : List ℕ) → AreOffsets members → (set_of members).kind ≡ Inline → IsExact members (inline_test (set_of members))

-- whatever else stands in the bytes
abbrev pub ByteArrayIsExact : Type 0
ByteArrayIsExact = (members : List ℕ) (bytes : List ℕ) (start mask : ℕ) → AreOffsets members → Holds bytes start mask (set_of members)
    → IsExact members (byte_array_test (set_of members) bytes start mask)

-- In the bytes, under a spot's mask and from its start on, stand the bits of its set, whatever else was placed.
abbrev pub LanesHold : Type 0
LanesHold = (sets : List BitSet) (number : ℕ) (spot : Spot) → slice_index_or (lanes_of sets).spots number None ≡ Some spot
    → Holds (lanes_of sets).bytes spot.start spot.mask (set_at sets number)

-- There is a spot exactly for a byte array.
abbrev pub ArraysHaveSpots : Type 0
ArraysHaveSpots = (sets : List BitSet) (number : ℕ) → number < length sets
    → IsSome (slice_index_or (lanes_of sets).spots number None) ↔ (is_byte_array (set_at sets number).kind ≡ true)

-- Each kind is that of some members.
abbrev pub KindsAreMet : Type 0
KindsAreMet = ((set_of []).kind ≡ Unsat) × ((set_of (7 ∷ [])).kind ≡ Single) × ((set_of (8 ∷ 0 ∷ [])).kind ≡ AllOnes)
    × ((set_of (16 ∷ 112 ∷ 48 ∷ [])).kind ≡ Inline) × ((set_of (0 ∷ 8 ∷ 512 ∷ [])).kind ≡ ByteArray)
