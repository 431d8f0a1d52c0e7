-- The registers of a frame, by their names. A register that isn't set has no value.
use Rattle.std.specs.Prelude.{ℕ, Bool, if◌then◌else◌, nat_eq, List, [], ◌∷◌, Option, Some, None}
use Rattle.std.specs.Cmp.Lexicographic.{pointwise}
use Rattle.ir_memories.specs.declared.values.Value.{Value}
use Rattle.ir_meaning.specs.declared.states.Register.{Register}

abbrev pub is_named : {P : Type 0} → List ℕ → Register P → Bool
is_named name register = pointwise nat_eq register.name name

-- what a name's register holds
abbrev pub get : {P : Type 0} → List (Register P) → List ℕ → Option (Value P)
get [] name = None
get (register ∷ rest) name = if is_named name register then Some register.value else get rest name

-- the registers once a name's register holds a value, in place of what it held
abbrev pub put : {P : Type 0} → List (Register P) → List ℕ → Value P → List (Register P)
put [] name value = record { name = name; value = value } ∷ []
put (register ∷ rest) name value = if is_named name register
    then record register { value = value } ∷ rest
    else register ∷ put rest name value
