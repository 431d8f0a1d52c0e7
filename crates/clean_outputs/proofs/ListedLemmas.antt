-- What holds of all that the units of a file give, from what holds of the unit at each place.
use Rattle.std.proofs.Common.{◌≡◌, refl, subst, arith, ℕ, zero, suc, ◌+◌, Bool, List, [], ◌∷◌, ◌++◌, Some, slice_get}
use Rattle.std.specs.Prelude.{flat_map}
use Rattle.std.specs.List.{AllByRecursion}
use Rattle.ltt_base.specs.declared.refusal.Placed.{Placed}
use Rattle.ir_values.specs.declared.modules.Func.{Func}
use Rattle.ir_values.specs.declared.units.Unit.{Unit as TheUnit}
use Rattle.built_modules.specs.Functions.{funcs_in, funcs_from}
use Rattle.printed_units.proofs.ListLemmas.{all_joined}
use Rattle.sized_modules.proofs.UnitLemmas.{Units}

-- the item at a place has what all have
pub all_got : {X : Type 0} (P : X → Type 0) (xs : List X) (at : ℕ) (x : X) → AllByRecursion P xs → slice_get xs at ≡ Some x → P x
all_got P [] at x all here = absurd (grind arith)
all_got P (y ∷ xs) zero x all here = let same : y ≡ x = cc here in subst P same all.0
all_got P (y ∷ xs) (suc at) x all here = all_got P xs at x all.1 here

-- what each item gives
pub flat_got : {X Y : Type 0} (P : Y → Type 0) (f : X → List Y) (xs : List X)
    → ((at : ℕ) (x : X) → slice_get xs at ≡ Some x → AllByRecursion P (f x)) → AllByRecursion P (flat_map f xs)
flat_got P f [] each = tt
flat_got P f (x ∷ xs) each = all_joined P (f x) (flat_map f xs) (each 0 x refl) (flat_got P f xs (λ at y here. each (suc at) y here))

pub all_front : {X : Type 0} (P : X → Type 0) (xs ys : List X) → AllByRecursion P (xs ++ ys) → AllByRecursion P xs
all_front P [] ys all = tt
all_front P (x ∷ xs) ys all = (all.0, all_front P xs ys all.1)

pub all_back : {X : Type 0} (P : X → Type 0) (xs ys : List X) → AllByRecursion P (xs ++ ys) → AllByRecursion P ys
all_back P [] ys all = all
all_back P (x ∷ xs) ys all = all_back P xs ys all.1

-- what all units give together, each gives
pub flat_parts : {X Y : Type 0} (P : Y → Type 0) (f : X → List Y) (xs : List X) → AllByRecursion P (flat_map f xs) → (at : ℕ) (x : X)
    → slice_get xs at ≡ Some x → AllByRecursion P (f x)
flat_parts P f [] all at x here = absurd (grind arith)
flat_parts P f (y ∷ xs) all zero x here =
    let same : y ≡ x = cc here in subst (λ z. AllByRecursion P (f z)) same (all_front P (f y) (flat_map f xs) all)
flat_parts P f (y ∷ xs) all (suc at) x here = flat_parts P f xs (all_back P (f y) (flat_map f xs) all) at x here

-- what each unit gives as functions
module _ (output : Bool) (us : Units) (file : ℕ) (P : Func → Type 0) where
  abbrev Gives : ℕ → Placed TheUnit → Type 0
  Gives at u = AllByRecursion P (funcs_in output us file at u.place u.value.form)

  funcs_got_from : (from : ℕ) (vs : Units) → ((at : ℕ) (u : Placed TheUnit) → slice_get vs at ≡ Some u → Gives (from + at) u)
      → AllByRecursion P (funcs_from output us file from vs)
  unfolding funcs_from
  funcs_got_from from [] each = tt
  funcs_got_from from (u ∷ vs) each =
      let here : from + 0 ≡ from = omega arith in
      all_joined P (funcs_in output us file from u.place u.value.form) (funcs_from output us file (from + 1) vs)
      (subst (λ at. Gives at u) here (each 0 u refl))
      (funcs_got_from (from + 1) vs (λ at v got. let behind : from + suc at ≡ (from + 1) + at = omega arith in
      subst (λ at. Gives at v) behind (each (suc at) v got)))

  pub funcs_got : ((at : ℕ) (u : Placed TheUnit) → slice_get us at ≡ Some u → AllByRecursion P (funcs_in output us file at u.place u.value.form))
      → AllByRecursion P (funcs_from output us file 0 us)
  funcs_got each =
      funcs_got_from 0 us (λ at u here. let same : at ≡ 0 + at = omega arith in subst (λ k. Gives k u) same (each at u here))

  -- what all give together, each gives
  funcs_parts_from : (from : ℕ) (vs : Units) → AllByRecursion P (funcs_from output us file from vs) → (at : ℕ) (u : Placed TheUnit)
      → slice_get vs at ≡ Some u → Gives (from + at) u
  unfolding funcs_from
  funcs_parts_from from [] all at u here = absurd (grind arith)
  funcs_parts_from from (v ∷ vs) all zero u here =
      let same : v ≡ u = cc here in
      let first : from ≡ from + 0 = omega arith in
      let own = all_front P (funcs_in output us file from v.place v.value.form) (funcs_from output us file (from + 1) vs) all in
      subst (λ at. Gives at u) first (subst (Gives from) same own)
  funcs_parts_from from (v ∷ vs) all (suc at) u here =
      let behind : (from + 1) + at ≡ from + suc at = omega arith in
      let others = all_back P (funcs_in output us file from v.place v.value.form) (funcs_from output us file (from + 1) vs) all in
      subst (λ k. Gives k u) behind (funcs_parts_from (from + 1) vs others at u here)

  pub funcs_parts : AllByRecursion P (funcs_from output us file 0 us) → (at : ℕ) (u : Placed TheUnit) → slice_get us at ≡ Some u
      → AllByRecursion P (funcs_in output us file at u.place u.value.form)
  funcs_parts all at u here = let same : 0 + at ≡ at = omega arith in subst (λ k. Gives k u) same (funcs_parts_from 0 us all at u here)
