-- The byte arrays of the sets that have more than 64 bits, in eight lanes.
use Rattle.std.specs.Prelude.{suc, zero, ◌≡◌, ℕ, ◌+◌, ◌-◌, ◌^◌, ◌<◌, ◌≤◌, Bool, true, false, ◌&&◌, List, [], ◌∷◌, ◌++◌, ◌==◌, if◌then◌else◌, nat_le, fold, replicate, length, slice_index, slice_index_or, slice_set, Option, Some, None, Result, Ok, Err, codes}
use Rattle.std.specs.List.{position_or_len}
use Rattle.std.specs.Int.Bits.{bit_or}
use Rattle.ltt_base.specs.declared.refusal.Code.TheVariants.{E12}
use Rattle.ltt_base.specs.declared.refusal.Fault.{Fault}
use Rattle.ltt_base.specs.declared.refusal.Fault.TheVariants.{Refused, Memory}
use Rattle.ltt_base.specs.declared.refusal.Refusal.{Refusal}
use Rattle.bit_sets.specs.declared.set.BitSet.{BitSet}
use Rattle.bit_sets.specs.declared.set.Kind.{Kind}
use Rattle.bit_sets.specs.declared.set.Kind.TheVariants.{ByteArray}
use Rattle.bit_sets.specs.declared.lanes.Spot.{Spot}
use Rattle.bit_sets.specs.declared.lanes.Lanes.{Lanes}
use Rattle.bit_sets.specs.declared.filling.Stood.{Stood}
use Rattle.bit_sets.specs.declared.filling.Filling.{Filling}
use Rattle.bit_sets.specs.BitSet.{bit_in, no_set, least, greatest}
use Rattle.bit_sets.specs.Ordered.{ordered}

-- The order: falling number of bits, and given order on a tie.

abbrev pub is_byte_array : Kind → Bool
is_byte_array ByteArray = true
is_byte_array _ = false

-- each byte array's number, behind a key that falls as its bits rise
abbrev pub arrays_from : ℕ → List BitSet → List (ℕ × ℕ)
arrays_from number [] = []
arrays_from number (set ∷ sets) =
    if is_byte_array set.kind
    then (2 ^ 27 - set.size_m1, number) ∷ arrays_from (number + 1) sets
    else arrays_from (number + 1) sets

-- the byte arrays in the order in which they are placed
abbrev pub array_order : List BitSet → List (ℕ × ℕ)
array_order sets = ordered (arrays_from 0 sets)

-- The lanes.

-- the first of the shortest lanes
abbrev pub shortest : List ℕ → ℕ
shortest lengths = position_or_len (λ len. len == least lengths) lengths

abbrev pub set_at : List BitSet → ℕ → BitSet
set_at sets number = slice_index_or sets number no_set

-- one array more, at the end of the shortest lane
abbrev pub filled_by : ℕ → Filling → ℕ → Filling
filled_by size_m1 filling number =
    let lane = shortest filling.lengths in
    let start = slice_index filling.lengths lane in
    record {
      lengths = slice_set filling.lengths lane (start + (size_m1 + 1));
      stood = filling.stood ++ record { number = number; spot = record { start = start; mask = 2 ^ lane } } ∷ [];
    }

abbrev pub filled_more : List BitSet → Filling → ℕ × ℕ → Filling
filled_more sets filling pair = filled_by (set_at sets pair.1).size_m1 filling pair.1

abbrev pub none_filled : Filling
none_filled = record { lengths = replicate 8 0; stood = [] }

-- the arrays of these pairs, in their order
abbrev pub filled_in : List BitSet → List (ℕ × ℕ) → Filling
filled_in sets order = fold (filled_more sets) none_filled order

abbrev pub filled : List BitSet → Filling
filled sets = filled_in sets (array_order sets)

-- What the lanes hold.

-- what an array puts into byte k
abbrev pub byte_of : BitSet → Spot → ℕ → ℕ
byte_of set spot k =
    if nat_le spot.start k && (nat_le (k - spot.start) set.size_m1 && bit_in set.words (k - spot.start)) then spot.mask else 0

-- byte k, in which all arrays stand that reach it
abbrev pub byte_at : List BitSet → List Stood → ℕ → ℕ
byte_at sets stood k = fold (λ byte one. bit_or byte (byte_of (set_at sets one.number) one.spot k)) 0 stood

-- n bytes from byte k on
abbrev pub bytes_from : (ℕ → ℕ) → ℕ → ℕ → List ℕ
bytes_from byte k zero = []
bytes_from byte k (suc n) = byte k ∷ bytes_from byte (k + 1) n

-- each set's spot
abbrev pub spots_of : ℕ → List Stood → List (Option Spot)
spots_of count stood = fold (λ spots one. slice_set spots one.number (Some one.spot)) (replicate count None) stood

-- the longest lane's length
abbrev pub byte_count : List BitSet → ℕ
byte_count sets = greatest (filled sets).lengths

-- the bytes and spots of what was placed
abbrev pub lanes_from : List BitSet → Filling → Lanes
lanes_from sets filling = record {
  bytes = bytes_from (byte_at sets filling.stood) 0 (greatest filling.lengths);
  spots = spots_of (length sets) filling.stood;
}

abbrev pub lanes_of : List BitSet → Lanes
lanes_of sets = lanes_from sets (filled sets)

-- Answers.

abbrev pub most_bytes : ℕ
most_bytes = 16777216

abbrev pub too_many_bytes : Refusal
too_many_bytes = record { code = E12; place = record { file = 0; line = 0; column = 0 }; word = codes "bits" }

-- that refusal, or want of memory for its word
abbrev pub IsTooMany : Fault → Type 0
IsTooMany (Refused refusal) = refusal ≡ too_many_bytes
IsTooMany Memory = Unit {0}

-- the lanes, where they have at most so many bytes
abbrev pub ArePlaced : List BitSet → Result Lanes Fault → Type 0
ArePlaced sets (Ok lanes) = (lanes ≡ lanes_of sets) × (byte_count sets ≤ most_bytes)
ArePlaced sets (Err (Refused refusal)) = (refusal ≡ too_many_bytes) × (most_bytes < byte_count sets)
ArePlaced sets (Err Memory) = Unit {0}
