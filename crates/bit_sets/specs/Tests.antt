-- What the five shapes of a test answer at a number.
use Rattle.std.specs.Prelude.{◌≡◌, ℕ, ◌+◌, ◌-◌, ◌/◌, ◌%◌, ◌^◌, ◌≤◌, Bool, ◌&&◌, not, List, ◌==◌, if◌then◌else◌, nat_le, slice_index, Contains}
use Rattle.std.specs.Int.{rotate_right, w64}
use Rattle.std.specs.Int.Bits.{bit_and}
use Rattle.bit_sets.specs.declared.set.BitSet.{BitSet}
use Rattle.bit_sets.specs.BitSet.{bit_in}

-- `base` is the address of the combined variable or the table.

-- a is the address of a member
abbrev pub IsAddress : List ℕ → ℕ → ℕ → Type 0
IsAddress members base a = (member : ℕ) × Contains members member × (a ≡ (base + member) % 2 ^ 64)

-- the address of the least member
abbrev pub start_of : BitSet → ℕ → ℕ
start_of set base = (base + set.min) % 2 ^ 64

-- a - b, modulo 2 ^ 64
abbrev pub difference : ℕ → ℕ → ℕ
difference a b = (a + (2 ^ 64 - b)) % 2 ^ 64

-- the distance from the least member, rotated: the number of the bit of an address
abbrev pub place_of : BitSet → ℕ → ℕ → ℕ
place_of set base a = rotate_right w64 (difference a (start_of set base)) set.align

-- the place, or 0 where it is past the bits
abbrev pub chosen : BitSet → ℕ → ℕ
chosen set place = if nat_le place set.size_m1 then place else 0

-- whether the set has a bit at a place
abbrev pub is_held : BitSet → ℕ → Bool
is_held set place = nat_le place set.size_m1 && bit_in set.words place

-- one member: equality
abbrev pub single_test : BitSet → ℕ → ℕ → Bool
single_test set base a = a == start_of set base

-- all bits set: subtraction, rotation and comparison
abbrev pub all_ones_test : BitSet → ℕ → ℕ → Bool
all_ones_test set base a = nat_le (place_of set base a) set.size_m1

-- the same, and a bit of a 64-bit word
abbrev pub inline_test : BitSet → ℕ → ℕ → Bool
inline_test set base a =
    let place = place_of set base a in
    nat_le place set.size_m1 && (slice_index set.words 0 / 2 ^ chosen set place % 2 == 1)

-- the same, and a bit of a byte array that stands from `start` on under `mask`
abbrev pub byte_array_test : BitSet → List ℕ → ℕ → ℕ → ℕ → ℕ → Bool
byte_array_test set bytes start mask base a =
    let place = place_of set base a in
    nat_le place set.size_m1 && not (bit_and (slice_index bytes (start + chosen set place)) mask == 0)

-- the bits under the mask, from the start on, are those of the set
abbrev pub Holds : List ℕ → ℕ → ℕ → BitSet → Type 0
Holds bytes start mask set =
    (i : ℕ) → i ≤ set.size_m1 → not (bit_and (slice_index bytes (start + i)) mask == 0) ≡ bit_in set.words i
