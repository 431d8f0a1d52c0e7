-- Lemmas on the registers of a frame.
use Rattle.std.proofs.Common.{◌≡◌, ◌≢◌, ℕ, ◌≤◌, List, [], ◌∷◌, ◌++◌, length, slice_get, slice_set, Some, refl, arith}
use Rattle.std.specs.List.{position_or_len}
use Rattle.std.proofs.lemmas.Grind.{common_steps}
use Rattle.std.specs.Cmp.Lexicographic.{same_text}
use Rattle.std.proofs.lemmas.Cmp.{nat_list_eq_equiv}
use Rattle.ir_memories.specs.declared.values.Value.{Value}
use Rattle.ir_meaning.specs.declared.states.Register.{Register}
use Rattle.ir_meaning.specs.Registers.{is_named, get, put}

-- a register that is found is replaced at its place
pub put_found : {P : Type 0} (registers : List (Register P)) (name : List ℕ) (value : Value P) (r : Register P)
    → slice_get registers (position_or_len (is_named name) registers) ≡ Some r
    → put registers name value ≡ slice_set registers (position_or_len (is_named name) registers) (record r { value = value })
put_found [] name value r is = cc
put_found (first ∷ rest) name value r is = let others = put_found rest name value r in grind (arith, common_steps)

-- one that isn't found is added
pub put_added : {P : Type 0} (registers : List (Register P)) (name : List ℕ) (value : Value P)
    → length registers ≤ position_or_len (is_named name) registers
    → put registers name value ≡ registers ++ record { name = name; value = value } ∷ []
put_added [] name value none = refl
put_added (first ∷ rest) name value none = let others = put_added rest name value in grind (arith, common_steps)

-- what was put is got
pub get-put_same : {P : Type 0} (registers : List (Register P)) (name : List ℕ) (value : Value P)
    → get (put registers name value) name ≡ Some value
get-put_same [] name value = let own = nat_list_eq_equiv.refl name in grind arith
get-put_same (first ∷ rest) name value = let others = get-put_same rest name value in grind arith

-- and other registers hold what they held
pub get-put_other : {P : Type 0} (registers : List (Register P)) (name other : List ℕ) (value : Value P) → other ≢ name
    → get (put registers name value) other ≡ get registers other
get-put_other [] name other value apart = let one = same_text name other in grind arith
get-put_other (first ∷ rest) name other value apart =
    let others = get-put_other rest name other value apart in
    let one = same_text first.name name in
    let two = same_text first.name other in
    grind arith
