-- How an integer of a width is printed.
use Rattle.std.specs.Prelude.{ℕ, ◌-◌, ◌*◌, ◌%◌, ◌^◌, ◌==◌, nat_lt, if◌then◌else◌, List, ◌++◌, codes, decimal}
use Rattle.ir_values.specs.declared.types.Width.{Width}

-- the signed decimal of a number below `2 * half`, of which those from `half` on stand for numbers below 0
abbrev pub signed_text : ℕ → ℕ → List ℕ
signed_text half n = if nat_lt n half then decimal n else codes "-" ++ decimal (2 * half - n)

abbrev pub truth_text : ℕ → List ℕ
truth_text n = if n == 0 then codes "false" else codes "true"

-- an integer, modulo 2 to the power of its width
unfoldable pub integer_text : Width → ℕ → List ℕ
integer_text Width.W1 n = truth_text (n % 2)
integer_text Width.W8 n = signed_text (2 ^ 7) (n % 2 ^ 8)
integer_text Width.W16 n = signed_text (2 ^ 15) (n % 2 ^ 16)
integer_text Width.W32 n = signed_text (2 ^ 31) (n % 2 ^ 32)
integer_text Width.W64 n = signed_text (2 ^ 63) (n % 2 ^ 64)
