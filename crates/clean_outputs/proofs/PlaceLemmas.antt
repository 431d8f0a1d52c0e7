-- Types and values at the places of instructions.
use Rattle.std.proofs.Common.{◌≡◌, refl, sym, ap, ◌∙◌, arith, Bool, true, false, not, ◌||◌, map, Option, Some, None}
use Rattle.ltt_base.specs.declared.refusal.Code.TheVariants.{E06}
use Rattle.ir_values.specs.declared.types.Ty.{Ty, out-Ty}
use Rattle.ir_values.specs.declared.types.Ty.TheVariants.{outs-Int, outs-Ptr, outs-Array, outs-Struct}
use Rattle.ir_values.specs.declared.types.Ty.TheOpen.{Ty-F}
use Rattle.check_names.specs.declared.flaws.Flaw.{Flaw}
use Rattle.check_names.specs.Flaws.{◌then◌, when}
use Rattle.check_types.specs.declared.places.Allowed.TheVariants.{Scalar, Integer}
use Rattle.check_types.specs.Heads.{head}
use Rattle.check_types.specs.Measures.{past_flaw}
use Rattle.check_types.specs.Replaced.{replaced}
use Rattle.check_types.specs.Written.{written, place_flaw, type_flaw, is_allowed, is_integer, is_pointer, is_void, is_void_head}
use Rattle.sized_modules.proofs.FlawLemmas.{none_first, none_second}
use Rattle.sized_modules.proofs.UnitLemmas.{Units}
use Rattle.clean_outputs.proofs.FileLemmas.{IsFile}
use Rattle.clean_outputs.proofs.TypeLemmas.{IsSoundPart, SoundLayer, allowed_at, sound_head}

-- of two flaws that are none, none counts
pub then_none : (a b : Option Flaw) → a ≡ None → b ≡ None → a then b ≡ None
then_none None b one two = two
then_none (Some f) b one two = absurd (grind arith)

-- an integer may stand where an integer or a pointer may

layer_scalar : (layer : Ty-F Ty) → is_integer layer ≡ true → is_integer layer || is_pointer layer ≡ true
layer_scalar (Ty-F.Int width) is = refl
layer_scalar Ty-F.Void is = absurd (cc is)
layer_scalar Ty-F.Ptr is = absurd (cc is)
layer_scalar Ty-F.Pair is = absurd (cc is)
layer_scalar (Ty-F.Array count part) is = absurd (cc is)
layer_scalar (Ty-F.Struct parts) is = absurd (cc is)
layer_scalar (Ty-F.Named name) is = absurd (cc is)
layer_scalar (Ty-F.Left text) is = absurd (cc is)

integer_allowed : (known : Option Ty) → is_allowed Integer known ≡ true → is_allowed Scalar known ≡ true
integer_allowed None is = refl
integer_allowed (Some type) is = layer_scalar (out-Ty type) is

met : (allowed : Bool) → allowed ≡ true → when (not allowed) E06 ≡ None
met true is = refl
met false is = absurd (cc is)

pub integer_scalar : (us : Units) (type : Ty) → type_flaw true us false Integer type ≡ None → type_flaw true us false Scalar type ≡ None
integer_scalar us type none =
    let own = (written true us false type).flaw in
    let front = own then place_flaw us false Integer type in
    let first = none_first own (place_flaw us false Integer type) (none_first front (past_flaw us type) none) in
    let allowed = integer_allowed (head us type) (allowed_at us Integer type refl none) in
    then_none (own then place_flaw us false Scalar type) (past_flaw us type)
    (then_none own (place_flaw us false Scalar type) first (met (is_allowed Scalar (head us type)) allowed))
    (none_second front (past_flaw us type) none)

-- what isn't `void` stands for what isn't

layer_unvoid : (us : Units) (whole : Ty) (layer : Ty-F Ty) → SoundLayer us whole layer → is_void layer ≡ false → is_void (out-Ty whole) ≡ false
layer_unvoid us whole Ty-F.Void is other = absurd (cc other)
layer_unvoid us whole (Ty-F.Int width) is other = ap (λ type. is_void (out-Ty type)) is ∙ ap is_void (outs-Int width)
layer_unvoid us whole Ty-F.Ptr is other = ap (λ type. is_void (out-Ty type)) is ∙ ap is_void outs-Ptr
layer_unvoid us whole Ty-F.Pair is other = absurd is
layer_unvoid us whole (Ty-F.Array count part) is other =
    ap (λ type. is_void (out-Ty type)) is.0 ∙ ap is_void (outs-Array count (replaced us part))
layer_unvoid us whole (Ty-F.Struct parts) is other =
    ap (λ type. is_void (out-Ty type)) is.0 ∙ ap is_void (outs-Struct (map (replaced us) parts))
layer_unvoid us whole (Ty-F.Named name) is other = absurd is
layer_unvoid us whole (Ty-F.Left text) is other = absurd is

pub replaced_unvoid : (us : Units) → IsFile us → (type : Ty) → IsSoundPart us type → is_void (out-Ty (replaced us type)) ≡ false
replaced_unvoid us of type part =
    let own = sound_head us of type part.sound in
    layer_unvoid us (replaced us type) (out-Ty own.known) own.layer (sym (ap is_void_head own.is) ∙ part.unvoid)
