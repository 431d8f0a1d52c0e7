-- Constants that come to addresses of globals.
use Rattle.std.proofs.Common.{◌≡◌, refl, sym, ap, subst, ℕ, zero, suc, ◌^◌, ◌<◌, ◌≤◌, true, false, List, codes, map, Option, Some, None, arith}
use Rattle.ltt_base.specs.declared.refusal.Code.TheVariants.{E07}
use Rattle.ir_values.specs.declared.types.Ty.{Ty}
use Rattle.ir_values.specs.declared.types.Ty.TheVariants.{Ptr}
use Rattle.ir_values.specs.declared.types.Ty.TheOpen.{Ty-F}
use Rattle.ir_values.specs.declared.constants.Const.{Const, out-Const}
use Rattle.ir_values.specs.declared.constants.Const.TheOpen.{Const-F}
use Rattle.ir_values.specs.declared.constants.Operand.{Operand}
use Rattle.check_names.specs.declared.spaces.Space.TheVariants.{Globals}
use Rattle.check_names.specs.Spaces.{sign, missing_flaw}
use Rattle.ir_names.specs.Words.{named_word}
use Rattle.check_names.specs.Flaws.{◌then◌, each}
use Rattle.check_names.specs.Reserved.{reserved_flaw, use_flaw}
use Rattle.check_types.specs.declared.places.Allowed.TheVariants.{NonVoid}
use Rattle.check_types.specs.Written.{is_pointer, type_flaw}
use Rattle.check_constants.specs.Intrinsics.{is_declared_intrinsic, uncalled_flaw}
use Rattle.check_constants.specs.Indices.{known, indices_flaw}
use Rattle.check_constants.specs.Addresses.{global_step, indices_of}
use Rattle.check_constants.specs.Keeping.{address_kept}
use Rattle.check_constants.specs.Rules.{pointer_flaw, used_flaw, valueless_flaw, one_index_flaw, moved_parts_flaw, flaw_step}
use Rattle.check_constants.specs.Constants.{weighed, operand_weighed}
use Rattle.check_constants.specs.Callees.{global_of}
use Rattle.check_constants.specs.Judged.{constant_flaw}
use Rattle.printed_units.specs.Written.{IsBytes, IsName, address_levels}
use Rattle.sized_modules.proofs.FlawLemmas.{none_first, none_second, unbroken_word}
use Rattle.sized_modules.proofs.UnitLemmas.{Units}
use Rattle.said_units.specs.Sayable.{SaidConstLayer, IsSaidConstWithin}
use Rattle.clean_outputs.proofs.NameLemmas.{free_name}
use Rattle.clean_outputs.proofs.TypeLemmas.{SoundLayer}
use Rattle.clean_outputs.proofs.WeighedLayers.{IsGoodWithin, null_good, address_good, found_in, weighed_out, flaw_out}

-- a global that may be used where it isn't called
pub record IsUsed (us : Units) (name : List ℕ) : Type 0 where
  pub name_is : IsName name
  pub plain : is_declared_intrinsic us name ≡ false

pub used : (us : Units) (name : List ℕ) → IsBytes name → used_flaw true us name ≡ None → IsUsed us name
used us name bytes none =
    let free = none_second (missing_flaw us Globals name) (reserved_flaw true (sign Globals) name)
    (none_first (use_flaw true us Globals name) (uncalled_flaw us name) none) in
    let uncalled = none_second (use_flaw true us Globals name) (uncalled_flaw us name) none in
    record {
      name_is = free_name (sign Globals) name bytes free;
      plain = unbroken_word (is_declared_intrinsic us name) E07 (named_word (codes "@") name) uncalled;
    }

-- the flaws of a moved address that are none
pub base_flaw : (us : Units) (at : Option Ty) (own : Ty) (base : Const) (indices : List Operand)
    → flaw_step true us false NonVoid at (found_in (Const-F.Gep own base indices)) ≡ None
    → (constant_flaw true us false (Some Ptr) base ≡ None) × (pointer_flaw false (known us at) ≡ None)
base_flaw us at own base indices none =
    let found = weighed base in
    let others = map operand_weighed indices in
    let by = indices_of us others in
    let parts = moved_parts_flaw true us false found others in
    let behind = indices_flaw true us false own by then pointer_flaw false (known us at) in
    let typed = type_flaw true us false NonVoid own then (parts then behind) in
    let rest = none_second (type_flaw true us false NonVoid own) (parts then behind)
    (none_second (valueless_flaw true us own found by) typed none) in (
      none_first (found.flaw true us false NonVoid (Some Ptr)) (each (one_index_flaw true us false) others) (none_first parts behind rest),
      none_second (indices_flaw true us false own by) (pointer_flaw false (known us at)) (none_second parts behind rest),
    )

-- the global at whose address a constant without flaws begins may be used
abbrev pub IsMaybeUsed : Units → Option (List ℕ) → Type 0
IsMaybeUsed us None = Unit {0}
IsMaybeUsed us (Some name) = IsUsed us name

abbrev BelowUsed : Units → ℕ → Type 0
BelowUsed us n = (type : Ty) (constant : Const) → IsSaidConstWithin n type constant → constant_flaw true us false (Some type) constant ≡ None
    → IsMaybeUsed us (global_of constant)

layer_used : (us : Units) (n : ℕ) → BelowUsed us n → (type : Ty) (layer : Const-F Const Operand)
    → SaidConstLayer n (IsSaidConstWithin n) type layer → flaw_step true us false NonVoid (Some type) (found_in layer) ≡ None
    → IsMaybeUsed us (global_step (found_in layer))
layer_used us n below type (Const-F.Addr name offset) said none =
    used us name said.0 (none_first (used_flaw true us name) (pointer_flaw false (known us (Some type))) none)
layer_used us n below type (Const-F.Gep own base indices) said none =
    below Ptr base said.1 (base_flaw us (Some type) own base indices none).0
layer_used us n below type (Const-F.Typed own part) said none = absurd said
layer_used us n below type _ said none = tt

pub global_used : (us : Units) (n : ℕ) → BelowUsed us n
global_used us zero type constant said none = absurd said
global_used us (suc n) type constant said none =
    subst (IsMaybeUsed us) (sym (ap (λ w. w.global) (weighed_out constant (out-Const constant) refl)))
    (layer_used us n (global_used us n) type (out-Const constant) said (flaw_out us (Some type) constant (out-Const constant) refl none))

levels_fit : (offset n : ℕ) → address_levels offset ≤ suc (suc n)
levels_fit zero n = omega arith
levels_fit (suc offset) n = omega arith

-- an address that is moved, behind which there is another level
pub moved_good : (us : Units) (n : ℕ) (whole : Ty) (global : Option (List ℕ)) (offset : ℕ) (shape : Ty-F Ty) → SoundLayer us whole shape
    → is_pointer shape ≡ true → IsMaybeUsed us global → offset < 2 ^ 64 → IsGoodWithin (suc (suc n)) whole (address_kept global offset)
moved_good us n whole None offset shape sound same is near = null_good us (suc n) whole shape sound same
moved_good us n whole (Some name) offset shape sound same is near =
    address_good us (suc n) whole name offset shape sound same (record { name = is.name_is; near = near; levels = levels_fit offset n })
