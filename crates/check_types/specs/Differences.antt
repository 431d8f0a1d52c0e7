-- Whether two written types differ, with their names replaced.
-- Source: LLVM Language Reference, "Type System". Differs: a part that isn't known differs from nothing; nor does a type past the limits.
use Rattle.std.specs.Prelude.{ℕ, zero, suc, nat_eq, Bool, true, false, not, ◌&&◌, ◌||◌, List, [], ◌∷◌, Option, Some}
use Rattle.ltt_base.specs.declared.refusal.Placed.{Placed}
use Rattle.ir_values.specs.declared.types.Ty.{Ty, out-Ty}
use Rattle.ir_values.specs.declared.types.Ty.TheOpen.{Ty-F}
use Rattle.ir_values.specs.declared.units.Unit as unit
use Rattle.ir_numbers.specs.Numbers.{bits}
use Rattle.check_types.specs.Heads.{head}
use Rattle.check_types.specs.Measures.{is_past}

-- parts in order, as many of one as of the other, none of which differs
abbrev pub lists_differ : (Ty → Ty → Bool) → List Ty → List Ty → Bool
lists_differ differ [] [] = false
lists_differ differ (one ∷ ones) (other ∷ others) = differ one other || lists_differ differ ones others
lists_differ differ _ _ = true

abbrev pub layers_differ : (Ty → Ty → Bool) → Ty-F Ty → Ty-F Ty → Bool
layers_differ differ (Ty-F.Int one) (Ty-F.Int other) = not (nat_eq (bits one) (bits other))
layers_differ differ (Ty-F.Array many one) (Ty-F.Array few other) = not (nat_eq many few) || differ one other
layers_differ differ (Ty-F.Struct ones) (Ty-F.Struct others) = lists_differ differ ones others
layers_differ differ Ty-F.Void Ty-F.Void = false
layers_differ differ Ty-F.Ptr Ty-F.Ptr = false
layers_differ differ Ty-F.Pair Ty-F.Pair = false
layers_differ differ _ _ = true

-- two types, where both are known
abbrev pub heads_differ : (Ty → Ty → Bool) → Option Ty → Option Ty → Bool
heads_differ differ (Some one) (Some other) = layers_differ differ (out-Ty one) (out-Ty other)
heads_differ differ _ _ = false

-- two types differ in a part that is so many levels deep at most
unfoldable pub differ_within : List (Placed unit.Unit) → ℕ → Ty → Ty → Bool
differ_within us zero one other = false
differ_within us (suc levels) one other = heads_differ (differ_within us levels) (head us one) (head us other)

-- two types differ; one within the limits has at most 4,096 levels
unfoldable pub differ : List (Placed unit.Unit) → Ty → Ty → Bool
differ us one other = (not (is_past us one) && not (is_past us other)) && differ_within us 4096 one other
