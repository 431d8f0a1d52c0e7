-- The answers of tests, and the example.
use Rattle.std.proofs.Common.{◌≡◌, ◌≢◌, ◌∙◌, ◌↔◌, ℕ, zero, suc, ◌+◌, ◌^◌, ◌<◌, ◌≤◌, Bool, true, false, ◌&&◌, max, List, [], ◌∷◌, length, refl, sym, ap, subst, arith, Option, Some, None}
use Rattle.std.specs.Prelude.{nat_le, nat_lt, if◌then◌else◌}
use Rattle.std.specs.List.{All, AllPairs, list_any}
use Rattle.ir_values.specs.declared.types.Width.TheVariants.{W64}
use Rattle.ir_values.specs.declared.types.Ty as ty
use Rattle.ir_values.specs.declared.types.Ty.{fold-roll-Ty}
use Rattle.ir_values.specs.declared.types.Ty.TheOpen.{Ty-F}
use Rattle.ir_values.specs.declared.types.Ty.TheVariants.{rolls-Int}
use Rattle.ir_numbers.specs.Layout.{Layout, layout, layout_step, scalar, IsLaidOut}
use Rattle.ir_values.specs.declared.modules.TypeId.{TypeId}
use Rattle.ir_values.specs.declared.modules.Module.{Module}
use Rattle.type_metadata.specs.declared.objects.Object.{Object}
use Rattle.type_metadata.specs.declared.types.Types.{Types}
use Rattle.type_metadata.specs.Counted.{IsCounted, AreCounted}
use Rattle.type_metadata.specs.Carriers.{extent_of}
use Rattle.type_metadata.specs.Types.{has_carrier, IsCarrier, AreTypes}
use Rattle.type_metadata.proofs.CarrierLaws.{tells_carrier}
use Rattle.ir_memories.specs.declared.symbolic.SPtr.TheVariants.{Null, At}
use Rattle.ir_memories.specs.Symbolic.{test, extent_in, equal}
use Rattle.ir_memories.specs.Worlds.{world, IsLaid, AreSource}
use Rattle.ir_memories.specs.Placement.{of_variable}
use Rattle.ir_memories.specs.Stated.{AreAddresses, IsPlaceable, HaveNames, rooms, end_from, stated}
use Rattle.ir_memories.specs.Laws.{TestLaw, ExampleLaw, example_variable, example_module, example_modules, example_id, example_types, example_world, example_object}
use Rattle.ir_memories.proofs.StatedLaws.{stated_law}

outside_cases : (offset extent : ℕ) (answer : Option Bool) → extent ≤ offset → (if nat_lt offset extent then answer else None) ≡ None
outside_cases offset extent answer past = let fails : nat_lt offset extent ≡ false = grind arith in
    ap (λ t. if t then answer else None) fails

inside_cases : (offset extent : ℕ) (answer : Option Bool) → offset < extent → (if nat_lt offset extent then answer else None) ≡ answer
inside_cases offset extent answer below = let holds : nat_lt offset extent ≡ true = grind arith in
    ap (λ t. if t then answer else None) holds

some_true : (b : Bool) → Some b ≡ Some true → b ≡ true
some_true b is = cc

inside : (ms : List Module) (types : Types) → AreTypes ms types → (id : TypeId) (object : Object) (offset : ℕ) →
    offset < extent_in (world ms types) object →
    (test (world ms types) id (At object offset) ≡ Some true) ↔ IsCarrier ms id (record { object = object; offset = offset })
inside ms types are id object offset below =
    let answer = inside_cases offset (extent_in (world ms types) object) (Some (has_carrier types id (record { object = object; offset = offset }))) below in
    let told = tells_carrier ms types id (record { object = object; offset = offset }) are in
    (λ is. told.0 (some_true _ (sym answer ∙ is)), λ carries. answer ∙ ap Some (told.1 carries))

pub test_law : TestLaw
test_law = record {
  null = λ w id. refl;
  outside = λ w id object offset past. outside_cases offset (extent_in w object) _ past;
  inside = inside;
}

-- The example.

layout-word : layout (ty.Int W64) ≡ scalar 8
layout-word = ap layout (sym (rolls-Int W64)) ∙ fold-roll-Ty Layout (λ x. layout_step x) (Ty-F.Int W64)

extent : extent_of example_variable ≡ 9
extent = ap (λ (l : Layout). if list_any (λ entry. nat_le l.size entry.offset) example_variable.entries then l.size + 1 else l.size) layout-word

tested : (offset : ℕ) → test example_world example_id (At example_object offset)
    ≡ (if nat_lt offset 9 then Some (has_carrier example_types example_id (record { object = example_object; offset = offset })) else None)
tested offset = ap (λ e. if nat_lt offset e then Some (has_carrier example_types example_id (record { object = example_object; offset = offset })) else None) extent

and_true : (b : Bool) → (b && true) ≡ b
and_true true = refl
and_true false = refl

compared : (offset : ℕ) → equal example_world (At example_object offset) Null ≡ (if nat_lt offset 9 then Some false else None)
compared offset = ap (λ e. if nat_lt offset e && true then Some false else None) extent
    ∙ ap (λ t. if t then Some false else None) (and_true (nat_lt offset 9))

all_one : {X : Type 0} (P : X → Type 0) (x : X) → P x → All P (x ∷ [])
all_one P x holds zero d within = holds
all_one P x holds (suc k) d within = absurd (omega (arith, within))

none : {X : Type 0} (P : X → Type 0) → All P []
none P k d within = absurd (omega (arith, within))

pairs_one : {X : Type 0} (R : X → X → Type 0) (x : X) → AllPairs R (x ∷ [])
pairs_one R x i zero d before within = absurd (omega (arith, before))
pairs_one R x i (suc j) d before within = absurd (omega (arith, within))

ends : end_from 4096 (rooms example_module) ≡ 4104
ends = ap (λ (l : Layout). 4096 + max 1 l.size) layout-word

laid : IsLaid example_module
laid = all_one (λ v. IsLaidOut v.ty) example_variable (ap (λ (l : Layout). l.is_laid) layout-word)

pub names : HaveNames example_module
names = pairs_one (λ one other. one.name ≢ other.name) (of_variable example_variable)

pub placeable : IsPlaceable example_module 4096
placeable = record {
  laid = laid;
  aligned = all_one (λ v. 1 ≤ v.align) example_variable (omega arith);
  tables = none (λ t. length t.funcs ≤ 2 ^ 32);
  fits = omega (arith, ends);
}

counted : AreCounted example_modules
counted = record {
  files = omega arith;
  modules = all_one IsCounted example_module (record { variables = omega arith; functions = omega arith });
}

placed : AreAddresses example_module (stated example_module 4096)
placed = record { counted = omega arith; placed = stated_law example_module 4096 placeable names (omega arith) }

-- what the example's addresses and types meet, where they were made of equal values
pub addresses : (m : Module) (at : List ℕ) → m ≡ example_module → at ≡ stated m 4096 → AreAddresses m at
addresses m at is at_is = subst (λ n. at ≡ stated n 4096 → AreAddresses n at) (sym is)
    (λ stands. subst (AreAddresses example_module) (sym stands) placed) at_is

pub source : (ms : List Module) (types : Types) → ms ≡ example_modules → AreTypes ms types → AreSource ms types
source ms types is are = record {
  counted = subst AreCounted (sym is) counted;
  laid = subst (All IsLaid) (sym is) (all_one IsLaid example_module laid);
  collected = are;
}

pub example : ExampleLaw
example = record {
  source = source example_modules example_types refl (record { ids = refl; carriers = refl });
  denoted = refl;
  carries = tested 8;
  beside = tested 0;
  outside = tested 9;
  null = refl;
  apart = compared 8;
  undefined = compared 9;
  stored = refl;
  stored_there = refl;
  placeable = placeable;
  names = names;
  placed = stated_law example_module 4096 placeable names (omega arith);
}
