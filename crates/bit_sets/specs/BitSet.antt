-- The members of a type identifier as bits: the numbers and the kind of a list of offsets.
use Rattle.std.specs.Prelude.{suc, zero, ◌≡◌, ℕ, ◌+◌, ◌-◌, ◌*◌, ◌/◌, ◌%◌, ◌^◌, ◌<◌, ◌≤◌, min, max, Bool, true, ◌&&◌, List, [], ◌∷◌, ◌==◌, if◌then◌else◌, nat_lt, fold, slice_index, All}
use Rattle.std.specs.List.{list_any}
use Rattle.std.specs.Int.{trailing_zeros, w64, bit_at}
use Rattle.std.specs.Int.Bits.{bit_or}
use Rattle.bit_sets.specs.declared.set.BitSet.{BitSet}
use Rattle.bit_sets.specs.declared.set.Kind.{Kind}
use Rattle.bit_sets.specs.declared.set.Kind.TheVariants.{Unsat, Single, AllOnes, Inline, ByteArray}

-- offsets in a combined variable or a table
abbrev pub AreOffsets : List ℕ → Type 0
AreOffsets members = All (λ member. member < 2 ^ 27) members

abbrev pub is_member : List ℕ → ℕ → Bool
is_member members offset = list_any (λ member. member == offset) members

-- The numbers of a set.

abbrev pub least : List ℕ → ℕ
least members = fold min (slice_index members 0) members

abbrev pub greatest : List ℕ → ℕ
greatest members = fold max 0 members

-- the bits that stand in some distance from `low`
abbrev pub mask_from : ℕ → List ℕ → ℕ
mask_from low members = fold (λ mask member. bit_or mask (member - low)) 0 members

-- the low bits that no distance has
abbrev pub align_of_mask : ℕ → ℕ
align_of_mask mask = if mask == 0 then 0 else trailing_zeros w64 mask

abbrev pub align_of : List ℕ → ℕ
align_of members = align_of_mask (mask_from (least members) members)

-- the number of bits, less one
abbrev pub size_m1_of : List ℕ → ℕ
size_m1_of members = (greatest members - least members) / 2 ^ align_of members

-- Bit i stands for the offset `low + i * 2 ^ align`. It is set where that offset is a member.
abbrev pub bit_of : List ℕ → ℕ → ℕ → ℕ → Bool
bit_of members low align i = is_member members (low + i * 2 ^ align)

abbrev pub set_bit_of : List ℕ → ℕ → Bool
set_bit_of members i = bit_of members (least members) (align_of members) i

-- whether a test holds of each number below n
unfoldable pub holds_below : (ℕ → Bool) → ℕ → Bool
holds_below test zero = true
holds_below test (suc n) = holds_below test n && test n

-- Bits in words of 64, from the low end.

-- the number whose bit k is bit `first + k`, of n bits
unfoldable pub word_from : (ℕ → Bool) → ℕ → ℕ → ℕ
word_from bit first zero = 0
word_from bit first (suc n) = (if bit first then 1 else 0) + 2 * word_from bit (first + 1) n

-- n words from bit `first` on
unfoldable pub words_from : (ℕ → Bool) → ℕ → ℕ → List ℕ
words_from bit first zero = []
words_from bit first (suc n) = word_from bit first 64 ∷ words_from bit (first + 64) n

-- whether bit i of the words is set
abbrev pub bit_in : List ℕ → ℕ → Bool
bit_in words i = bit_at (slice_index words (i / 64)) (i % 64) == 1

-- an offset has a bit among 0 to size_m1
pub record IsBit (low align size_m1 offset : ℕ) : Type 0 where
  pub above : low ≤ offset
  pub on_step : (offset - low) / 2 ^ align * 2 ^ align ≡ offset - low
  pub within : (offset - low) / 2 ^ align ≤ size_m1

-- the words that hold bits 0 to size_m1
abbrev pub word_count : ℕ → ℕ
word_count size_m1 = size_m1 / 64 + 1

-- The kind of a set that has a member: one offset; all bits set; bits in a word; bits in a byte array.
abbrev pub kind_of : (ℕ → Bool) → ℕ → ℕ → Kind
kind_of bit span size_m1 =
    if span == 0 then Single
    else if holds_below bit (size_m1 + 1) then AllOnes
    else if nat_lt size_m1 64 then Inline
    else ByteArray

abbrev pub no_set : BitSet
no_set = record { kind = Unsat; min = 0; align = 0; size_m1 = 0; words = [] }

-- the set of members, where there is one
abbrev pub some_set : List ℕ → BitSet
some_set members = record {
  kind = kind_of (set_bit_of members) (greatest members - least members) (size_m1_of members);
  min = least members;
  align = align_of members;
  size_m1 = size_m1_of members;
  words = words_from (set_bit_of members) 0 (word_count (size_m1_of members));
}

-- the set of these members
abbrev pub set_of : List ℕ → BitSet
set_of [] = no_set
set_of (member ∷ more) = some_set (member ∷ more)

-- a set that has the numbers and the kind of some offsets
pub record IsSet (set : BitSet) : Type 0 where
  pub members : List ℕ
  pub are_offsets : AreOffsets members
  pub is : set ≡ set_of members
