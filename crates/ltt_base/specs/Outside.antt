-- What reads and writes do: the bytes that they move, where those are told, and the faults that they count.
use Rattle.std.specs.Prelude.{◌≡◌, ℕ, ◌+◌, ◌-◌, ◌^◌, ◌<◌, ◌≤◌, min, List, length, take, Result, IfOk}
use Rattle.std.specs.Io.KnownBytes.{IsAtEnd, prepend_known, append_known}
use Rattle.std.specs.declared.option.Option.{Option}

-- a count of faults is greater than it was, or stands at the last value of a u64
abbrev pub Rose : ℕ → ℕ → Type 0
Rose before now = min (before + 1) (2 ^ 64 - 1) ≤ now

-- a read moved a prefix of the rest to the front of `into`; it moved nothing only at the end or without room
abbrev pub Reads : {E : Type 0} → Option (List ℕ) → Option (List ℕ) → Result ℕ E → List ℕ → Type 0
Reads old new result into = IfOk result (λ count.
    (count ≤ length into) × (old ≡ prepend_known (take count into) new) × (count ≡ 0 → 0 < length into → IsAtEnd new))

-- a write took a prefix of the piece, at least a byte
abbrev pub Takes : {E : Type 0} → Option (List ℕ) → Option (List ℕ) → Result ℕ E → List ℕ → Type 0
Takes old new result piece = IfOk result (λ count.
    (1 ≤ count) × (count ≤ length piece) × (new ≡ append_known old (take count piece)))

-- this text was taken whole
abbrev pub Took : Option (List ℕ) → Option (List ℕ) → List ℕ → Type 0
Took old new text = new ≡ append_known old text

-- a prefix of this text was taken
abbrev pub TookPart : Option (List ℕ) → Option (List ℕ) → List ℕ → Type 0
TookPart old new text = (count : ℕ) × Took old new (take count text)
