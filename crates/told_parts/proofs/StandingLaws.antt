-- A variable and two functions alone can be placed.
use Rattle.std.proofs.Common.{◌≡◌, ◌≢◌, ℕ, zero, suc, ◌+◌, ◌^◌, ◌<◌, ◌≤◌, Bool, true, false, List, [], ◌∷◌, ◌++◌, length, map, max, refl, sym, ap, subst, ◌∙◌, arith, All, AllPairs, if◌then◌else◌}
use Rattle.std.specs.Int.{next_multiple_of}
use Rattle.std.proofs.lemmas.List.Elements.{All-nil, All-cons}
use Rattle.std.proofs.lemmas.List.Kept.{AllPairs-cons}
use Rattle.ir_values.specs.declared.modules.Block.{Block}
use Rattle.ir_values.specs.declared.modules.Var.{Var}
use Rattle.ir_values.specs.declared.modules.Func.{Func}
use Rattle.ir_values.specs.declared.modules.Jump.{Jump}
use Rattle.ir_values.specs.declared.modules.Module.{Module}
use Rattle.ir_numbers.specs.Layout.{IsLaidOut}
use Rattle.type_metadata.specs.Same.{same_flag}
use Rattle.type_metadata.specs.Sizes.{size_of}
use Rattle.ir_memories.specs.declared.stated.Room.{Room}
use Rattle.ir_memories.specs.Numeric.{has_none}
use Rattle.ir_memories.specs.Placement.{Placeable, of_variable, of_table, of_function}
use Rattle.ir_memories.specs.Stated.{room_of, rooms, functions_that, stated, end_from, IsPlaceable, HaveNames, AreAddresses}
use Rattle.ir_memories.proofs.StatedLaws.{stated_law}
use Rattle.told_parts.specs.Standing.{IsLittle, AreApart, AreDefined, CanStand}

has_some : (blocks : List Block) → blocks ≢ [] → has_none blocks ≡ false
has_some [] none = absurd (none refl)
has_some (block ∷ blocks) some = refl

abbrev function_rooms : List Func → List Room
function_rooms fs = map (λ f. room_of (of_function f)) (functions_that true fs) ++ map (λ f. room_of (of_function f)) (functions_that false fs)

-- those of two functions that are external, or not
abbrev two : Bool → Bool → (f g : Func) → Bool → List Func
two a b f g external = if same_flag a external
    then f ∷ (if same_flag b external then g ∷ [] else [])
    else (if same_flag b external then g ∷ [] else [])

abbrev two_rooms : Bool → Bool → (f g : Func) → List Room
two_rooms a b f g = map (λ h. room_of (of_function h)) (two a b f g true) ++ map (λ h. room_of (of_function h)) (two a b f g false)

defined_rooms : (f g : Func) → AreDefined f g → function_rooms (f ∷ g ∷ []) ≡ room_of (of_function f) ∷ room_of (of_function g) ∷ []
defined_rooms f g defined =
    subst (λ a. two_rooms a (has_none g.blocks) f g ≡ room_of (of_function f) ∷ room_of (of_function g) ∷ []) (sym (has_some f.blocks defined.first))
    (subst (λ b. two_rooms false b f g ≡ room_of (of_function f) ∷ room_of (of_function g) ∷ []) (sym (has_some g.blocks defined.second)) refl)

-- the rooms of a module by its parts
abbrev parts : List Var → List Jump → List Room → List Room
parts vs ts fs = map (λ v. room_of (of_variable v)) vs ++ (map (λ t. room_of (of_table t)) ts ++ fs)

three_rooms : (m : Module) (v : Var) (f g : Func) → m.vars ≡ v ∷ [] → m.jumps ≡ [] → m.funcs ≡ f ∷ g ∷ [] → AreDefined f g →
    rooms m ≡ room_of (of_variable v) ∷ room_of (of_function f) ∷ room_of (of_function g) ∷ []
three_rooms m v f g vars jumps funcs defined =
    ap (λ vs. parts vs m.jumps (function_rooms m.funcs)) vars
    ∙ ap (λ ts. parts (v ∷ []) ts (function_rooms m.funcs)) jumps
    ∙ ap (λ fs. parts (v ∷ []) [] (function_rooms fs)) funcs
    ∙ ap (λ rs. parts (v ∷ []) [] rs) (defined_rooms f g defined)

most : (x : ℕ) → next_multiple_of x 8 ≤ x + 8
most x = omega arith

most-one : (x : ℕ) → next_multiple_of x 1 ≤ x + 1
most-one x = omega arith

at_least_one : (n : ℕ) → max 1 n ≤ n + 1
at_least_one zero = omega arith
at_least_one (suc n) = omega arith

ends_at : (base room : ℕ) → base < 2 ^ 32 → room ≤ 2 ^ 27 + 1 → next_multiple_of (next_multiple_of (next_multiple_of base 8 + room) 1 + 1) 1 + 1 < 2 ^ 64
ends_at base room low size =
    let first = most base in
    let second = most-one (next_multiple_of base 8 + room) in
    let third = most-one (next_multiple_of (next_multiple_of base 8 + room) 1 + 1) in
    omega arith

ends : (v : Var) (f g : Func) (base : ℕ) → IsLittle v base →
    end_from base (room_of (of_variable v) ∷ room_of (of_function f) ∷ room_of (of_function g) ∷ []) < 2 ^ 64
ends v f g base little = subst (λ align. next_multiple_of (next_multiple_of (next_multiple_of base align + max 1 (size_of v.ty)) 1 + 1) 1 + 1 < 2 ^ 64)
    (sym little.align) (ends_at base (max 1 (size_of v.ty)) little.low (let size = little.size in let least = at_least_one (size_of v.ty) in omega arith))

pub placeable : (m : Module) (v : Var) (f g : Func) (base : ℕ) → m.vars ≡ v ∷ [] → m.jumps ≡ [] → m.funcs ≡ f ∷ g ∷ [] → CanStand v f g base → IsPlaceable m base
placeable m v f g base vars jumps funcs can =
    let ones : 1 ≤ v.align = subst (λ align. 1 ≤ align) (sym can.room.align) (omega arith) in
    record {
      laid = subst (λ vs. All (λ w. IsLaidOut w.ty) vs) (sym vars) (All-cons (λ w. IsLaidOut w.ty) v [] can.room.laid (All-nil (λ w. IsLaidOut w.ty)));
      aligned = subst (λ vs. All (λ w. 1 ≤ w.align) vs) (sym vars) (All-cons (λ w. 1 ≤ w.align) v [] ones (All-nil (λ w. 1 ≤ w.align)));
      tables = subst (λ ts. All (λ t. length t.funcs ≤ 2 ^ 32) ts) (sym jumps) (All-nil (λ t. length t.funcs ≤ 2 ^ 32));
      fits = subst (λ rs. end_from base rs < 2 ^ 64) (sym (three_rooms m v f g vars jumps funcs can.defined)) (ends v f g base can.room);
    }

pairs_none : (R : Placeable → Placeable → Type 0) → AllPairs R []
pairs_none R i j d before within = absurd (omega (arith, before, within))

pairs_three : (R : Placeable → Placeable → Type 0) (a b c : Placeable) → R a b → R a c → R b c → AllPairs R (a ∷ b ∷ c ∷ [])
pairs_three R a b c ab ac bc =
    AllPairs-cons R a (b ∷ c ∷ []) (All-cons (R a) b (c ∷ []) ab (All-cons (R a) c [] ac (All-nil (R a))))
    (AllPairs-cons R b (c ∷ []) (All-cons (R b) c [] bc (All-nil (R b))) (AllPairs-cons R c [] (All-nil (R c)) (pairs_none R)))

abbrev differ : Placeable → Placeable → Type 0
differ one other = one.name ≢ other.name

names : (m : Module) (v : Var) (f g : Func) → m.vars ≡ v ∷ [] → m.jumps ≡ [] → m.funcs ≡ f ∷ g ∷ [] → AreApart v.name f.name g.name → HaveNames m
names m v f g vars jumps funcs apart =
    subst (λ vs. AllPairs differ (map of_variable vs ++ map of_table m.jumps ++ map of_function m.funcs)) (sym vars)
    (subst (λ ts. AllPairs differ (map of_variable (v ∷ []) ++ map of_table ts ++ map of_function m.funcs)) (sym jumps)
    (subst (λ fs. AllPairs differ (map of_variable (v ∷ []) ++ map of_table [] ++ map of_function fs)) (sym funcs)
    (pairs_three differ (of_variable v) (of_function f) (of_function g) apart.first apart.second apart.third)))

pub addresses : (m : Module) (v : Var) (f g : Func) (base : ℕ) → m.vars ≡ v ∷ [] → m.jumps ≡ [] → m.funcs ≡ f ∷ g ∷ [] → CanStand v f g base →
    AreAddresses m (stated m base)
addresses m v f g base vars jumps funcs can = record {
  counted = subst (λ fs. length fs ≤ 2 ^ 32) (sym funcs) (omega arith);
  placed = stated_law m base (placeable m v f g base vars jumps funcs can) (names m v f g vars jumps funcs can.apart) can.room.some;
}
