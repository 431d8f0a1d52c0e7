-- List forms that only private clauses cite.
use Rattle.std.specs.Prelude.{ℕ, ◌+◌, List, [], ◌∷◌, if◌then◌else◌, nat_lt}
use Rattle.std.specs.Int.Bits.{bit_or}

-- each byte, the first of which is byte k, with what is put into it
abbrev pub joined : (ℕ → ℕ) → ℕ → List ℕ → List ℕ
joined part k [] = []
joined part k (byte ∷ bytes) = bit_or byte (part k) ∷ joined part (k + 1) bytes

-- what is put into the bytes before byte n
abbrev pub part_before : (ℕ → ℕ) → ℕ → ℕ → ℕ
part_before part n k = if nat_lt k n then part k else 0
