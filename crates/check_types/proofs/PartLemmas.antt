-- Types that differ, and types with their names replaced, level by level.
use Rattle.std.proofs.Common.{◌≡◌, refl, ◌∙◌, ap, sym, subst, ℕ, zero, suc, ◌-◌, ◌≢◌, Bool, true, false, List, [], ◌∷◌, length, Option, Some, None, arith}
use Rattle.std.specs.Prelude.{not, cond, nat_eq, Result, IfOk}
use Rattle.ltt_base.specs.declared.refusal.Memory.{Memory}
use Rattle.ltt_base.specs.declared.refusal.Placed.{Placed}
use Rattle.ir_numbers.specs.Numbers.{bits}
use Rattle.ir_values.specs.declared.types.Ty.{Ty, out-Ty}
use Rattle.ir_values.specs.declared.types.Ty.TheOpen.{Ty-F}
use Rattle.ir_values.specs.declared.units.Unit as unit
use Rattle.check_types.specs.Named.{named_type, is_endless}
use Rattle.check_types.specs.Heads.{type_head, option_head, followed, named_head, head}
use Rattle.check_types.specs.Differences.{lists_differ, layers_differ, heads_differ, differ_within}
use Rattle.check_types.specs.Replaced.{head_replaced, replaced_within}

abbrev Units : Type 0
Units = List (Placed unit.Unit)

pub differ_none : (us : Units) (one other : Ty) → differ_within us 0 one other ≡ false
unfolding differ_within
differ_none us one other = refl

pub replaced_none : (us : Units) (ty : Ty) → replaced_within us 0 ty ≡ ty
unfolding replaced_within
replaced_none us ty = refl

pub lists_apart : (differ : Ty → Ty → Bool) (ones others : List Ty) → length ones ≢ length others → lists_differ differ ones others ≡ true
lists_apart differ [] [] apart = grind arith
lists_apart differ [] (other ∷ others) apart = refl
lists_apart differ (one ∷ ones) [] apart = refl
lists_apart differ (one ∷ ones) (other ∷ others) apart =
    let rest = lists_apart differ ones others (omega arith) in
    grind arith

-- what a type is, is no name and isn't left out
abbrev is_known : Ty-F Ty → Bool
is_known (Ty-F.Named name) = false
is_known (Ty-F.Left text) = false
is_known _ = true

abbrev is_known_head : Option Ty → Bool
is_known_head None = true
is_known_head (Some ty) = is_known (out-Ty ty)

type_known : (follow : List ℕ → Option Ty) → ((name : List ℕ) → is_known_head (follow name) ≡ true)
    → (ty : Ty) (layer : Ty-F Ty) → out-Ty ty ≡ layer → is_known_head (type_head follow ty layer) ≡ true
type_known follow known ty (Ty-F.Named name) is = known name
type_known follow known ty (Ty-F.Left text) is = refl
type_known follow known ty Ty-F.Void is = ap is_known is
type_known follow known ty (Ty-F.Int width) is = ap is_known is
type_known follow known ty Ty-F.Ptr is = ap is_known is
type_known follow known ty Ty-F.Pair is = ap is_known is
type_known follow known ty (Ty-F.Array count part) is = ap is_known is
type_known follow known ty (Ty-F.Struct parts) is = ap is_known is

option_known : (follow : List ℕ → Option Ty) → ((name : List ℕ) → is_known_head (follow name) ≡ true)
    → (ty : Option Ty) → is_known_head (option_head follow ty) ≡ true
option_known follow known None = refl
option_known follow known (Some ty) = type_known follow known ty (out-Ty ty) refl

followed_known : (us : Units) (n : ℕ) (name : List ℕ) → is_known_head (followed us n name) ≡ true
unfolding followed
followed_known us zero name = refl
followed_known us (suc n) name = option_known (followed us n) (followed_known us n) (named_type us name)

cond_known : (endless : Bool) (ty : Option Ty) → is_known_head ty ≡ true → is_known_head (cond endless None ty) ≡ true
cond_known true ty is = refl
cond_known false ty is = is

named_known : (us : Units) (name : List ℕ) → is_known_head (named_head us name) ≡ true
unfolding named_head
named_known us name = cond_known (is_endless us name) (followed us (length us) name) (followed_known us (length us) name)

head_known : (us : Units) (ty : Ty) → is_known_head (head us ty) ≡ true
head_known us ty = type_known (named_head us) (named_known us) ty (out-Ty ty) refl

lists_same : (differ : Ty → Ty → Bool) → ((ty : Ty) → differ ty ty ≡ false) → (parts : List Ty) → lists_differ differ parts parts ≡ false
lists_same differ same [] = refl
lists_same differ same (part ∷ parts) = let first = same part in let rest = lists_same differ same parts in grind arith

equal : (n : ℕ) → not (nat_eq n n) ≡ false
equal n = grind arith

layers_same : (differ : Ty → Ty → Bool) → ((ty : Ty) → differ ty ty ≡ false) → (layer : Ty-F Ty) → is_known layer ≡ true
    → layers_differ differ layer layer ≡ false
layers_same differ same (Ty-F.Int width) is = equal (bits width)
layers_same differ same (Ty-F.Array count part) is = let count_same = equal count in let part_same = same part in grind arith
layers_same differ same (Ty-F.Struct parts) is = lists_same differ same parts
layers_same differ same Ty-F.Void is = refl
layers_same differ same Ty-F.Ptr is = refl
layers_same differ same Ty-F.Pair is = refl
layers_same differ same (Ty-F.Named name) is = grind arith
layers_same differ same (Ty-F.Left text) is = grind arith

heads_same : (differ : Ty → Ty → Bool) → ((ty : Ty) → differ ty ty ≡ false) → (ty : Option Ty) → is_known_head ty ≡ true
    → heads_differ differ ty ty ≡ false
heads_same differ same None is = refl
heads_same differ same (Some ty) is = layers_same differ same (out-Ty ty) is

same_within : (us : Units) (n : ℕ) (ty : Ty) → differ_within us n ty ty ≡ false
unfolding differ_within
same_within us zero ty = refl
same_within us (suc n) ty = heads_same (differ_within us n) (same_within us n) (head us ty) (head_known us ty)

-- nothing differs from itself
pub differ_same : (us : Units) (n : ℕ) (one other : Ty) → one ≡ other → false ≡ differ_within us n one other
differ_same us n one other is = sym (ap (differ_within us n one) (sym is) ∙ same_within us n one)

differ_at : (us : Units) (n : ℕ) (one other : Ty) → n ≢ 0
    → heads_differ (differ_within us (n - 1)) (head us one) (head us other) ≡ differ_within us n one other
unfolding differ_within
differ_at us zero one other some = grind arith
differ_at us (suc n) one other some = let less : suc n - 1 ≡ n = omega arith in rw less refl

pub differ_step : (us : Units) (n : ℕ) (one other : Ty) (one_head other_head : Option Ty) (differs : Bool) → n ≢ 0
    → one_head ≡ head us one → other_head ≡ head us other → differs ≡ heads_differ (differ_within us (n - 1)) one_head other_head
    → differs ≡ differ_within us n one other
differ_step us n one other one_head other_head differs some one_is other_is is =
    is ∙ ap (λ h. heads_differ (differ_within us (n - 1)) h other_head) one_is
    ∙ ap (heads_differ (differ_within us (n - 1)) (head us one)) other_is ∙ differ_at us n one other some

replaced_at : (us : Units) (n : ℕ) (ty : Ty) → n ≢ 0 → head_replaced (replaced_within us (n - 1)) ty (head us ty) ≡ replaced_within us n ty
unfolding replaced_within
replaced_at us zero ty some = grind arith
replaced_at us (suc n) ty some = let less : suc n - 1 ≡ n = omega arith in rw less refl

pub replaced_step : (us : Units) (n : ℕ) (ty : Ty) (known : Option Ty) (answer : Result Ty Memory) → n ≢ 0 → known ≡ head us ty
    → IfOk answer (λ r. r ≡ head_replaced (replaced_within us (n - 1)) ty known) → IfOk answer (λ r. r ≡ replaced_within us n ty)
replaced_step us n ty known answer some is ok =
    subst (λ v. IfOk answer (λ r. r ≡ v)) (ap (head_replaced (replaced_within us (n - 1)) ty) is ∙ replaced_at us n ty some) ok
