-- Which objects carry a type identifier, and where.
use Rattle.std.specs.Prelude.{◌≡◌, ℕ, ◌+◌, slice_get, Some, Contains, if◌then◌else◌, nat_le}
use Rattle.std.specs.List.{list_any}
use Rattle.ir_values.specs.declared.modules.TypeId.{TypeId}
use Rattle.ir_values.specs.declared.modules.Var.{Var}
use Rattle.ir_values.specs.declared.modules.Module.{Module}
use Rattle.type_metadata.specs.Sizes.{size_of}

-- `object`, the number of a variable of the module from 0, is associated with the identifier at
-- `offset` bytes from its start
abbrev pub Carries : Module → TypeId → ℕ → ℕ → Type 0
Carries m id object offset = (v : Var) × (slice_get m.vars object ≡ Some v) × Contains v.entries (record { offset = offset; id = id })

-- the bytes of a variable, and one more where an entry stands at its end
abbrev pub extent_of : Var → ℕ
extent_of v = if list_any (λ entry. nat_le (size_of v.ty) entry.offset) v.entries then size_of v.ty + 1 else size_of v.ty
