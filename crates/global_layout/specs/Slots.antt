-- The slot of an object in its combined variable.
use Rattle.std.specs.Prelude.{suc, zero, ℕ, ◌+◌, ◌-◌, ◌*◌, ◌/◌, if◌then◌else◌, nat_le}
use Rattle.global_layout.specs.declared.ids.Shape.{Shape}

-- the first of p, 2 * p, 4 * p .. that is at least n, of at most `doublings` doublings
unfoldable pub doubled_to : ℕ → ℕ → ℕ → ℕ
doubled_to zero p n = p
doubled_to (suc doublings) p n = if nat_le n p then p else doubled_to doublings (2 * p) n

-- the least power of two that is at least n, which n doublings reach
abbrev pub power_above : ℕ → ℕ
power_above n = doubled_to n 1 n

-- the least power of two if that adds at most 32 bytes, else the least multiple of 32
abbrev pub pad : ℕ → ℕ
pad n = if nat_le (power_above n) (n + 32) then power_above n else (n + 31) / 32 * 32

-- the least multiple of an alignment that is at least n
abbrev pub raised : ℕ → ℕ → ℕ
raised n align = (n + (align - 1)) / align * align

-- the bytes of an object's slot: those before it, its own, those behind it, and padding
abbrev pub slot_size : Shape → ℕ
slot_size shape = pad (raised shape.before shape.align + shape.extent + shape.after)

-- where an object stands, whose slot is the next behind `end`
abbrev pub home_behind : ℕ → Shape → ℕ
home_behind end shape = raised end shape.align + raised shape.before shape.align

-- the end of that slot
abbrev pub end_behind : ℕ → Shape → ℕ
end_behind end shape = raised end shape.align + slot_size shape
