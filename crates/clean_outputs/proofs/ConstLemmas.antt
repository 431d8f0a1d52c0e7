-- A constant without flaws is kept as one that can be printed, in the one form in which a module keeps it.
use Rattle.std.proofs.Common.{◌≡◌, refl, sym, ap, subst, ◌∙◌, ℕ, zero, suc, ◌+◌, ◌%◌, ◌^◌, ◌<◌, ◌≤◌, true, false, List, length, map, Some, None, arith}
use Rattle.std.proofs.Math.Nat.{mod-lt}
use Rattle.ltt_base.specs.declared.refusal.Code.TheVariants.{E06}
use Rattle.ir_values.specs.declared.types.Width.TheVariants.{W64}
use Rattle.ir_values.specs.declared.types.Ty.{Ty, out-Ty}
use Rattle.ir_values.specs.declared.types.Ty.TheVariants.{Ptr}
use Rattle.ir_values.specs.declared.types.Ty.TheOpen.{Ty-F}
use Rattle.ir_values.specs.declared.constants.Const.{Const, out-Const}
use Rattle.ir_values.specs.declared.constants.Const.TheVariants.{Addr}
use Rattle.ir_values.specs.declared.constants.Const.TheOpen.{Const-F}
use Rattle.ir_values.specs.declared.constants.Operand.{Operand}
use Rattle.check_names.specs.Flaws.{when}
use Rattle.check_types.specs.declared.places.Allowed.TheVariants.{NonVoid}
use Rattle.check_types.specs.Heads.{head}
use Rattle.check_types.specs.Replaced.{replaced}
use Rattle.check_types.specs.Written.{is_void_head, is_pointer}
use Rattle.check_constants.specs.Callees.{global_of, offset_of}
use Rattle.check_constants.specs.Intrinsics.{is_declared_intrinsic}
use Rattle.check_constants.specs.Indices.{moved}
use Rattle.check_constants.specs.Addresses.{indices_of, offset_step}
use Rattle.check_constants.specs.Keeping.{zero_of, left_kept, kept_step}
use Rattle.check_constants.specs.Shapes.{is_other, is_width, is_array, is_struct, are_bytes}
use Rattle.check_constants.specs.Rules.{used_flaw, pointer_flaw, parts_flaw, left_constant_flaw, flaw_step}
use Rattle.check_constants.specs.Constants.{weighed, operand_weighed}
use Rattle.check_constants.specs.Judged.{constant_flaw}
use Rattle.check_constants.specs.Kept.{kept}
use Rattle.printed_units.specs.Written.{IsTyWithin, address_levels}
use Rattle.sized_modules.proofs.FlawLemmas.{none_first, none_second, unbroken}
use Rattle.sized_modules.proofs.UnitLemmas.{Units}
use Rattle.said_units.specs.Sayable.{SaidConstLayer, IsSaidConstWithin}
use Rattle.clean_outputs.proofs.FileLemmas.{IsFile}
use Rattle.clean_outputs.proofs.TypeLemmas.{IsSoundPart, SoundLayer, sound_head}
use Rattle.clean_outputs.proofs.WeighedLayers.{IsGoodWithin, found_in, weighed_out, kept_out, flaw_out, tested, number_good, address_number_good, null_good, address_good, zero_good, left_good}
use Rattle.clean_outputs.proofs.AddressLemmas.{IsUsed, IsMaybeUsed, used, base_flaw, global_used, moved_good}
use Rattle.clean_outputs.proofs.AddressesKept.{layer_comes}
use Rattle.clean_outputs.proofs.AggregateLemmas.{Below, array_kept_good, struct_kept_good, text_kept_good}

near : (m : ℕ) → m % 2 ^ 64 < 2 ^ 64
near m = mod-lt m (omega arith)

moved_known : (us : Units) (n : ℕ) (type : Ty) (whole : Ty) (own : Ty) (base : Const) (indices : List Operand) (shape : Ty-F Ty)
    → SoundLayer us whole shape → is_pointer shape ≡ true → IsSaidConstWithin n Ptr base → constant_flaw true us false (Some Ptr) base ≡ None
    → IsGoodWithin (suc n) whole (kept_step us (Some type) (found_in (Const-F.Gep own base indices)))
moved_known us zero type whole own base indices shape sound pointer said none = absurd said
moved_known us (suc n) type whole own base indices shape sound pointer said none =
    moved_good us n whole (global_of base) (offset_step us (found_in (Const-F.Gep own base indices))) shape sound pointer
    (global_used us (suc n) Ptr base said none) (near ((weighed base).offset us + moved us own (indices_of us (map operand_weighed indices))))

layer_good : (us : Units) → IsFile us → (n : ℕ) → Below us n → (type known : Ty) → head us type ≡ Some known
    → SoundLayer us (replaced us type) (out-Ty known) → is_void_head (head us type) ≡ false → IsTyWithin (suc n) (replaced us type)
    → (layer : Const-F Const Operand) → SaidConstLayer n (IsSaidConstWithin n) type layer
    → flaw_step true us false NonVoid (Some type) (found_in layer) ≡ None
    → IsGoodWithin (suc n) (replaced us type) (kept_step us (Some type) (found_in layer))
layer_good us of n below type known is sound unvoid written (Const-F.Int width value) said none =
    number_good us n (replaced us type) width value (out-Ty known) sound
    (tested (is_width width) (head us type) known is (unbroken (is_other (is_width width) (head us type)) E06 none)) said
layer_good us of n below type known is sound unvoid written Const-F.Null said none =
    null_good us n (replaced us type) (out-Ty known) sound
    (tested is_pointer (head us type) known is (unbroken (is_other is_pointer (head us type)) E06 none))
layer_good us of n below type known is sound unvoid written (Const-F.Addr name offset) said none =
    let may = used us name said.0 (none_first (used_flaw true us name) (pointer_flaw false (head us type)) none) in
    let pointer = none_second (used_flaw true us name) (pointer_flaw false (head us type)) none in
    address_good us n (replaced us type) name offset (out-Ty known) sound
    (tested is_pointer (head us type) known is (unbroken (is_other is_pointer (head us type)) E06 pointer))
    (record {
      name = may.name_is;
      near = subst (λ m. m < 2 ^ 64) (sym said.1) (near 0);
      levels = subst (λ m. address_levels m ≤ suc n) (sym said.1) (omega arith);
    })
layer_good us of n below type known is sound unvoid written (Const-F.Zero own) said none =
    subst (λ t. IsGoodWithin (suc n) (replaced us type) (zero_of (replaced us t) (head us t))) (sym said)
    (subst (λ h. IsGoodWithin (suc n) (replaced us type) (zero_of (replaced us type) h)) (sym is)
    (zero_good us n (replaced us type) (out-Ty known) sound (ap is_void_head (sym is) ∙ unvoid)))
layer_good us of n below type known is sound unvoid written (Const-F.Array part parts) said none =
    let found = map weighed parts in
    let other = is_other (is_array (length found)) (head us type) in
    let behind = parts_flaw true us false (head us type) 0 found in
    array_kept_good us of n below type known is (out-Ty known) refl sound written part parts said.0 said.1
    (tested (is_array (length found)) (head us type) known is (unbroken other E06 (none_first (when other E06) behind none)))
    (none_second (when other E06) behind none)
layer_good us of n below type known is sound unvoid written (Const-F.Struct parts) said none =
    let found = map weighed parts in
    let other = is_other (is_struct (length found)) (head us type) in
    let behind = parts_flaw true us false (head us type) 0 found in
    struct_kept_good us of n below type known is (out-Ty known) refl sound written parts said
    (tested (is_struct (length found)) (head us type) known is (unbroken other E06 (none_first (when other E06) behind none)))
    (none_second (when other E06) behind none)
layer_good us of n below type known is sound unvoid written (Const-F.Bytes text) said none =
    text_kept_good us of n (replaced us type) (out-Ty known) sound text said
    (tested (are_bytes us (length text)) (head us type) known is (unbroken (is_other (are_bytes us (length text)) (head us type)) E06 none))
layer_good us of n below type known is sound unvoid written (Const-F.Gep own base indices) said none =
    let flaws = base_flaw us (Some type) own base indices none in
    moved_known us n type (replaced us type) own base indices (out-Ty known) sound
    (tested is_pointer (head us type) known is (unbroken (is_other is_pointer (head us type)) E06 flaws.1)) said.1 flaws.0
layer_good us of n below type known is sound unvoid written (Const-F.Number name offset) said none =
    let other = is_other (is_width W64) (head us type) in
    let may = used us name said.0 (none_first (used_flaw true us name) (when other E06) none) in
    address_number_good us n (replaced us type) name offset (out-Ty known) sound
    (tested (is_width W64) (head us type) known is (unbroken other E06 (none_second (used_flaw true us name) (when other E06) none)))
    (record { name = may.name_is; near = said.1; levels = said.2 })
layer_good us of n below type known is sound unvoid written (Const-F.Left text) said none =
    subst (λ h. IsGoodWithin (suc n) (replaced us type) (left_kept text h)) (sym is)
    (left_good us n (replaced us type) text (out-Ty known) sound (ap (λ h. left_constant_flaw h text) (sym is) ∙ none))
layer_good us of n below type known is sound unvoid written (Const-F.Typed own part) said none = absurd said

pub const_good : (us : Units) → IsFile us → (n : ℕ) (type : Ty) (constant : Const) → IsSoundPart us type → IsTyWithin n (replaced us type)
    → IsSaidConstWithin n type constant → constant_flaw true us false (Some type) constant ≡ None
    → IsGoodWithin n (replaced us type) (kept us (Some type) constant)
const_good us of zero type constant sound written said none = absurd said
const_good us of (suc n) type constant sound written said none =
    let at_head = sound_head us of type sound.sound in
    subst (IsGoodWithin (suc n) (replaced us type)) (sym (kept_out us (Some type) constant (out-Const constant) refl))
    (layer_good us of n (const_good us of n) type at_head.known at_head.is at_head.layer sound.unvoid written (out-Const constant) said
    (flaw_out us (Some type) constant (out-Const constant) refl none))

-- what is known of a constant that comes to an address
pub record ComesTo (us : Units) (constant : Const) (name : List ℕ) (offset : ℕ) : Type 0 where
  pub global : global_of constant ≡ Some name
  pub by : offset_of us constant ≡ offset
  pub plain : is_declared_intrinsic us name ≡ false

pub address_known : (us : Units) (n : ℕ) (constant : Const) (name : List ℕ) (offset : ℕ) → IsSaidConstWithin n Ptr constant
    → constant_flaw true us false (Some Ptr) constant ≡ None → kept us (Some Ptr) constant ≡ Addr name offset
    → ComesTo us constant name offset
address_known us zero constant name offset said none is = absurd said
address_known us (suc n) constant name offset said none is =
    let weighs = weighed_out constant (out-Const constant) refl in
    let comes = layer_comes us n (out-Const constant) name offset said (sym (kept_out us (Some Ptr) constant (out-Const constant) refl) ∙ is) in
    let from : global_of constant ≡ Some name = ap (λ w. w.global) weighs ∙ comes.global in
    let may : IsUsed us name = subst (IsMaybeUsed us) from (global_used us (suc n) Ptr constant said none) in
    record { global = from; by = ap (λ w. w.offset us) weighs ∙ comes.by; plain = may.plain }
