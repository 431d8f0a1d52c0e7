-- Measures that are within their limits.
use Rattle.std.proofs.Common.{◌≡◌, refl, ◌∙◌, ap, sym, ℕ, ◌+◌, ◌*◌, ◌^◌, ◌≤◌, max, Bool, true, false, cond, ◌&&◌, nat_le, List, [], ◌∷◌, Option, Some, None, arith}
use Rattle.std.specs.Int.{next_multiple_of}
use Rattle.check_types.specs.Measures.{Measure, measure_of, within, array_measure, with_part, parts_measure, struct_measure}

-- a measure is what these numbers are, which are within the limits
pub record Within (count size align : ℕ) (m : Measure) : Type 0 where
  pub is : measure_of count size align ≡ m
  pub count_most : count ≤ 4096
  pub size_most : nat_le size (2 ^ 24) ≡ true

within_choice : (count size align : ℕ) (m : Measure) (few small : Bool) → nat_le count 4096 ≡ few → nat_le size (2 ^ 24) ≡ small
    → cond (few && small) (Some (measure_of count size align)) None ≡ Some m → Within count size align m
within_choice count size align m true true few small is = record { is = grind arith; count_most = grind arith; size_most = small }
within_choice count size align m true false few small is = absurd (grind arith)
within_choice count size align m false small few _ is = absurd (grind arith)

pub within_limits : (count size align : ℕ) (m : Measure) → within count size align ≡ Some m → Within count size align m
within_limits count size align m is = within_choice count size align m (nat_le count 4096) (nat_le size (2 ^ 24)) refl refl is

-- an array's measure, by its part's
pub record ArrayOf (count : ℕ) (part : Option Measure) (m : Measure) : Type 0 where
  pub one : Measure
  pub is : part ≡ Some one
  pub limits : Within (one.count + 1) (count * one.size) one.align m

pub array_of : (count : ℕ) (part : Option Measure) (m : Measure) → array_measure count part ≡ Some m → ArrayOf count part m
array_of count None m is = absurd (grind arith)
array_of count (Some one) m is =
    record { one = one; is = refl; limits = within_limits (one.count + 1) (count * one.size) one.align m is }

-- a struct's measure, by what its parts take
pub record StructOf (parts : Option Measure) (m : Measure) : Type 0 where
  pub all : Measure
  pub is : parts ≡ Some all
  pub limits : Within all.count (next_multiple_of all.size all.align) all.align m

pub struct_of : (parts : Option Measure) (m : Measure) → struct_measure parts ≡ Some m → StructOf parts m
struct_of None m is = absurd (grind arith)
struct_of (Some all) m is =
    record { all = all; is = refl; limits = within_limits all.count (next_multiple_of all.size all.align) all.align m is }

past_parts : (ms : List (Option Measure)) → parts_measure None ms ≡ None
unfolding parts_measure
past_parts [] = refl
past_parts (m ∷ ms) = past_parts ms

-- what is before the second part of a struct, by its first
pub record Started (before : Measure) (first : Option Measure) (rest : List (Option Measure)) (after : Measure) : Type 0 where
  pub one : Measure
  pub is : first ≡ Some one
  pub behind : parts_measure (Some (measure_of (before.count + one.count) (next_multiple_of before.size one.align + one.size) (max before.align one.align))) rest
      ≡ Some after

-- a measure of parts is none where one before them is past the limits
clash_parts : {P : Type 0} (ms : List (Option Measure)) (m : Measure) → parts_measure None ms ≡ Some m → P
clash_parts ms m is = let none : None ≡ Some m = sym (past_parts ms) ∙ is in absurd (grind arith)

started_with : (before one : Measure) (rest : List (Option Measure)) (after : Measure) (made : Option Measure) → with_part before one ≡ made
    → parts_measure made rest ≡ Some after → Started before (Some one) rest after
started_with before one rest after None made is = clash_parts rest after is
started_with before one rest after (Some next) made is =
    let size = next_multiple_of before.size one.align + one.size in
    let limits = within_limits (before.count + one.count) size (max before.align one.align) next made in
    record { one = one; is = refl; behind = ap (λ m. parts_measure (Some m) rest) limits.is ∙ is }

pub started : (before : Measure) (first : Option Measure) (rest : List (Option Measure)) (after : Measure)
    → parts_measure (Some before) (first ∷ rest) ≡ Some after → Started before first rest after
unfolding parts_measure
started before None rest after is = clash_parts rest after is
started before (Some one) rest after is = started_with before one rest after (with_part before one) refl is

-- behind no part
pub ended : (before after : Measure) → parts_measure (Some before) [] ≡ Some after → before ≡ after
unfolding parts_measure
ended before after is = grind arith

-- parts don't make a count less
pub grows : (ms : List (Option Measure)) (before after : Measure) → parts_measure (Some before) ms ≡ Some after → before.count ≤ after.count
grows [] before after is = let same : before.count ≡ after.count = ap (λ m. m.count) (ended before after is) in omega (arith, same)
grows (m ∷ ms) before after is =
    let start = started before m ms after is in
    let size = next_multiple_of before.size start.one.align + start.one.size in
    let more = grows ms (measure_of (before.count + start.one.count) size (max before.align start.one.align)) after start.behind in
    omega (arith, more)
