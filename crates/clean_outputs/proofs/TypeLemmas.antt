-- What a type without flaws stands for: a type that is written out.
use Rattle.std.proofs.Common.{◌≡◌, refl, ◌∙◌, ap, sym, subst, ℕ, zero, suc, ◌^◌, ◌<◌, Bool, true, false, not, cond, ◌&&◌, List, [], ◌∷◌, map, Option}
use Rattle.std.specs.Prelude.{IfSome}
use Rattle.std.proofs.Common.{Some, None, arith}
use Rattle.std.specs.Prelude.{is_none, codes}
use Rattle.std.specs.List.{AllByRecursion}
use Rattle.ltt_base.specs.declared.refusal.Code.TheVariants.{E06, E12}
use Rattle.ir_values.specs.declared.types.Width.TheVariants.{W1, W8, W16, W32, W64}
use Rattle.ir_values.specs.declared.types.Ty.{Ty, out-Ty, roll-Ty, roll-out-Ty, map-Ty, fold_out-Ty}
use Rattle.ir_values.specs.declared.types.Ty.TheVariants as ty
use Rattle.ir_values.specs.declared.types.Ty.TheVariants.{rolls-Void, rolls-Int, rolls-Ptr, outs-Void, outs-Int, outs-Ptr, outs-Array, outs-Struct}
use Rattle.ir_values.specs.declared.types.Ty.TheOpen.{Ty-F}
use Rattle.check_names.specs.declared.flaws.Flaw.{Flaw}
use Rattle.check_names.specs.Flaws.{◌then◌}
use Rattle.check_types.specs.declared.places.Allowed.{Allowed}
use Rattle.check_types.specs.declared.places.Allowed.TheVariants.{NonVoid, Returned, Scalar, Integer, Bit}
use Rattle.check_types.specs.Heads.{type_head, named_head, head}
use Rattle.check_types.specs.Measures.{Measure, measure_step, named_measure, measure, is_past, past_flaw}
use Rattle.check_types.specs.Replaced.{layer_replaced, head_replaced, replaced}
use Rattle.check_types.specs.Written.{Written, written_step, written, type_flaw, place_flaw, allows, is_allowed, is_void, is_integer, is_bit}
use Rattle.check_types.specs.Written.{is_metadata_place, is_metadata_type, is_void_head}
use Rattle.kept_parts.specs.Widths.{layer_width, width_of}
use Rattle.built_instructions.specs.Values.{width_or, width_at}
use Rattle.type_grammar.specs.Levels.{levels}
use Rattle.printed_units.specs.Written.{TyLayer, IsTy, IsTyWithin}
use Rattle.printed_units.proofs.WrittenLemmas.{int_is_ty, ptr_is_ty, void_is_ty}
use Rattle.sized_modules.specs.Written.{pair_step, has_pair}
use Rattle.sized_modules.proofs.CleanLemmas.{unvoid_head}
use Rattle.sized_modules.proofs.FlawLemmas.{none_first, none_second, unbroken, unbroken_word, holds, clash}
use Rattle.sized_modules.proofs.HeadLemmas.{IsPlain, Takes, Layer, Known, HasHead, is_known, opened, has_head}
use Rattle.sized_modules.proofs.UnitLemmas.{Units}
use Rattle.said_units.specs.Sayable.{SaidTyLayer, IsSaidTyWithin, IsSaidTy}
use Rattle.clean_outputs.specs.Shallow.{ShallowTyLayer, IsShallowTyWithin}
use Rattle.clean_outputs.proofs.FileLemmas.{IsFile, said_plain}
use Rattle.clean_outputs.proofs.HeadReplaced.{IsSaidSome, head_said, IsPart, array_part, StructPart, StructParts, struct_parts, replaced_is}

-- a type that is said and written without a flaw, within the limits
pub record IsSound (us : Units) (type : Ty) : Type 0 where
  pub plain : IsPlain true us type
  pub small : is_past us type ≡ false
  pub said : (n : ℕ) × IsSaidTyWithin n type

-- a part of one, which isn't `void`
pub record IsSoundPart (us : Units) (part : Ty) : Type 0 where
  pub sound : IsSound us part
  pub unvoid : is_void_head (head us part) ≡ false

-- where no metadata may stand the flaws of a type are those that are joined
named_none : (b c : Bool) (flaw : Option Flaw) → b ≡ false → cond (b && c) None flaw ≡ None → flaw ≡ None
named_none true c flaw other none = absurd (grind arith)
named_none false c flaw other none = none

flaws_none : (us : Units) (allowed : Allowed) (type : Ty) → is_metadata_place allowed ≡ false → type_flaw true us false allowed type ≡ None
    → ((written true us false type).flaw then place_flaw us false allowed type) then past_flaw us type ≡ None
flaws_none us allowed type other none =
    named_none (is_metadata_place allowed) (is_metadata_type (out-Ty type))
    (((written true us false type).flaw then place_flaw us false allowed type) then past_flaw us type) other none

-- a written type without a flaw, and what it may be at its place
pub sound_within : (us : Units) (allowed : Allowed) (n : ℕ) (type : Ty) → is_metadata_place allowed ≡ false → IsSaidTyWithin n type
    → type_flaw true us false allowed type ≡ None → IsSound us type
sound_within us allowed n type other said none =
    let own = (written true us false type).flaw in
    let place = place_flaw us false allowed type in
    let all = flaws_none us allowed type other none in
    record {
      plain = record {
        clean = none_first own place (none_first (own then place) (past_flaw us type) all);
        plain = said_plain n type said;
      };
      small = unbroken_word (is_past us type) E12 (codes "type") (none_second (own then place) (past_flaw us type) all);
      said = (n, said);
    }

pub sound_of : (us : Units) (allowed : Allowed) (type : Ty) → is_metadata_place allowed ≡ false → IsSaidTy type
    → type_flaw true us false allowed type ≡ None → IsSound us type
sound_of us allowed type other said none = sound_within us allowed levels type other said none

pub allowed_at : (us : Units) (allowed : Allowed) (type : Ty) → is_metadata_place allowed ≡ false
    → type_flaw true us false allowed type ≡ None → is_allowed allowed (head us type) ≡ true
allowed_at us allowed type other none =
    let own = (written true us false type).flaw in
    let place = place_flaw us false allowed type in
    let front = none_first (own then place) (past_flaw us type) (flaws_none us allowed type other none) in
    holds (is_allowed allowed (head us type)) (unbroken (not (is_allowed allowed (head us type))) E06 (none_second own place front))

-- what a sound type is once its names are replaced, where its head has this layer
abbrev pub SoundLayer : Units → Ty → Ty-F Ty → Type 0
SoundLayer us whole Ty-F.Void = whole ≡ ty.Void
SoundLayer us whole (Ty-F.Int width) = whole ≡ ty.Int width
SoundLayer us whole Ty-F.Ptr = whole ≡ ty.Ptr
SoundLayer us whole (Ty-F.Array count part) = (whole ≡ ty.Array count (replaced us part)) × (count < 2 ^ 64) × IsSoundPart us part
SoundLayer us whole (Ty-F.Struct parts) = (whole ≡ ty.Struct (map (replaced us) parts)) × AllByRecursion (IsSoundPart us) parts
SoundLayer us whole _ = ⊥

-- the head of a sound type is known, and tells what the type stands for
pub record HasSoundHead (us : Units) (type : Ty) : Type 0 where
  pub known : Ty
  pub is : head us type ≡ Some known
  pub layer : SoundLayer us (replaced us type) (out-Ty known)

-- a type is what its outermost layer says
rolled : (type made : Ty) (layer : Ty-F Ty) → out-Ty type ≡ layer → roll-Ty layer ≡ made → type ≡ made
rolled type made layer opens rolls = sym (roll-out-Ty type) ∙ ap roll-Ty opens ∙ rolls

-- a part that takes so much is sound
sound_part : (us : Units) (m : Measure) (n : ℕ) (part : Ty) → IsPart us m part → IsSaidTyWithin n part → IsSoundPart us part
sound_part us m n part is said =
    record {
      sound = record { plain = is.takes.plain; small = ap (λ (m : Option Measure). is_none m) is.takes.takes; said = (n, said) };
      unvoid = is.unvoid;
    }

sound_parts : (us : Units) (most n : ℕ) (parts : List Ty) → StructParts us most parts → AllByRecursion (IsSaidTyWithin n) parts
    → AllByRecursion (IsSoundPart us) parts
sound_parts us most n [] are said = tt
sound_parts us most n (part ∷ parts) are said =
    let own : StructPart us most part = are.0 in
    (sound_part us own.one n part own.is said.0, sound_parts us most n parts are.1 said.1)

sound_layer : (us : Units) (m : Measure) (n : ℕ) (whole known : Ty) (layer : Ty-F Ty) → out-Ty known ≡ layer
    → whole ≡ layer_replaced (replaced us) known layer → Layer true us m layer → is_known layer ≡ true → SaidTyLayer (IsSaidTyWithin n) layer
    → SoundLayer us whole layer
sound_layer us m n whole known Ty-F.Void opens is layer seen said = is ∙ rolled known ty.Void Ty-F.Void opens rolls-Void
sound_layer us m n whole known (Ty-F.Int width) opens is layer seen said =
    is ∙ rolled known (ty.Int width) (Ty-F.Int width) opens (rolls-Int width)
sound_layer us m n whole known Ty-F.Ptr opens is layer seen said = is ∙ rolled known ty.Ptr Ty-F.Ptr opens rolls-Ptr
sound_layer us m n whole known (Ty-F.Array count part) opens is layer seen said =
    let own = array_part us m count part layer in
    (is, said.0, sound_part us own.one n part own.is said.1)
sound_layer us m n whole known (Ty-F.Struct parts) opens is layer seen said =
    (is, sound_parts us m.count n parts (struct_parts us m parts layer) said)
sound_layer us m n whole known Ty-F.Pair opens is layer seen said = absurd said
sound_layer us m n whole known (Ty-F.Named name) opens is layer seen said = clash false seen refl
sound_layer us m n whole known (Ty-F.Left text) opens is layer seen said = clash false seen refl

-- by what is known of its head, and of the levels of that
levels_head : (us : Units) (type known : Ty) (m : Measure) (n : ℕ) → head us type ≡ Some known
    → replaced us type ≡ layer_replaced (replaced us) known (out-Ty known) → Known true us m known → IsSaidTyWithin n known → HasSoundHead us type
levels_head us type known m zero is whole has said = absurd said
levels_head us type known m (suc n) is whole has said =
    record {
      known = known;
      is = is;
      layer = sound_layer us m n (replaced us type) known (out-Ty known) refl whole
          (opened true us m known (out-Ty known) refl has.takes) has.known said;
    }

option_sound : (us : Units) (type : Ty) (m : Measure) (known : Option Ty) → head us type ≡ known
    → replaced us type ≡ head_replaced (replaced us) type known → HasHead true us m known → IfSome known IsSaidSome → HasSoundHead us type
option_sound us type m None is whole has said = absurd has
option_sound us type m (Some known) is whole has said = levels_head us type known m said.0 is whole has said.1

measure_sound : (us : Units) → IsFile us → (type : Ty) → IsSound us type → (m : Option Measure) → measure us type ≡ m → is_none m ≡ false
    → HasSoundHead us type
measure_sound us of type sound None is some = clash true refl some
measure_sound us of type sound (Some m) is some =
    let takes : Takes true us m type = record { plain = sound.plain; takes = is } in
    option_sound us type m (head us type) refl (replaced_is us of.plain type m takes) (has_head true us m of.plain type takes)
    (head_said us of type sound.said)

pub sound_head : (us : Units) → IsFile us → (type : Ty) → IsSound us type → HasSoundHead us type
sound_head us of type sound = measure_sound us of type sound (measure us type) refl sound.small

-- it is written out, where it has no more levels

abbrev WrittenOut : Units → ℕ → Type 0
WrittenOut us n = (type : Ty) → IsSound us type → IsShallowTyWithin n (replaced us type) → IsTyWithin n (replaced us type)

parts_written : (us : Units) (n : ℕ) → WrittenOut us n → (parts : List Ty) → AllByRecursion (IsSoundPart us) parts
    → AllByRecursion (IsShallowTyWithin n) (map (replaced us) parts) → AllByRecursion (IsTyWithin n) (map (replaced us) parts)
parts_written us n next [] sound shallow = tt
parts_written us n next (part ∷ parts) sound shallow =
    let own : IsSoundPart us part = sound.0 in
    (next part own.sound shallow.0, parts_written us n next parts sound.1 shallow.1)

layer_written : (us : Units) (n : ℕ) → WrittenOut us n → (whole : Ty) (layer : Ty-F Ty) → SoundLayer us whole layer
    → IsShallowTyWithin (suc n) whole → IsTyWithin (suc n) whole
layer_written us n next whole Ty-F.Void sound shallow =
    subst (IsTyWithin (suc n)) (sym sound) (subst (TyLayer (IsTyWithin n)) (sym outs-Void) tt)
layer_written us n next whole (Ty-F.Int width) sound shallow =
    subst (IsTyWithin (suc n)) (sym sound) (subst (TyLayer (IsTyWithin n)) (sym (outs-Int width)) tt)
layer_written us n next whole Ty-F.Ptr sound shallow =
    subst (IsTyWithin (suc n)) (sym sound) (subst (TyLayer (IsTyWithin n)) (sym outs-Ptr) tt)
layer_written us n next whole (Ty-F.Array count part) sound shallow =
    let made = ty.Array count (replaced us part) in
    let own : IsSoundPart us part = sound.2 in
    let outer : IsShallowTyWithin (suc n) made = subst (IsShallowTyWithin (suc n)) sound.0 shallow in
    let inner : IsShallowTyWithin n (replaced us part) = subst (ShallowTyLayer (IsShallowTyWithin n)) (outs-Array count (replaced us part)) outer in
    subst (IsTyWithin (suc n)) (sym sound.0)
    (subst (TyLayer (IsTyWithin n)) (sym (outs-Array count (replaced us part))) (sound.1, next part own.sound inner))
layer_written us n next whole (Ty-F.Struct parts) sound shallow =
    let made = ty.Struct (map (replaced us) parts) in
    let outer : IsShallowTyWithin (suc n) made = subst (IsShallowTyWithin (suc n)) sound.0 shallow in
    let inner : AllByRecursion (IsShallowTyWithin n) (map (replaced us) parts) =
    subst (ShallowTyLayer (IsShallowTyWithin n)) (outs-Struct (map (replaced us) parts)) outer in
    subst (IsTyWithin (suc n)) (sym sound.0)
    (subst (TyLayer (IsTyWithin n)) (sym (outs-Struct (map (replaced us) parts))) (parts_written us n next parts sound.1 inner))
layer_written us n next whole _ sound shallow = absurd sound

pub sound_written : (us : Units) → IsFile us → (n : ℕ) (type : Ty) → IsSound us type → IsShallowTyWithin n (replaced us type)
    → IsTyWithin n (replaced us type)
sound_written us of zero type sound shallow = absurd shallow
sound_written us of (suc n) type sound shallow =
    let own = sound_head us of type sound in
    layer_written us n (sound_written us of n) (replaced us type) (out-Ty own.known) own.layer shallow

-- types at places that allow some alone

pub nonvoid_at : (us : Units) (type : Ty) → type_flaw true us false NonVoid type ≡ None → is_void_head (head us type) ≡ false
nonvoid_at us type none = unvoid_head (head us type) (allowed_at us NonVoid type refl none)

-- the head of a type at such a place
head_at : (us : Units) → IsFile us → (allowed : Allowed) (type : Ty) → is_metadata_place allowed ≡ false → IsSaidTy type
    → type_flaw true us false allowed type ≡ None → HasSoundHead us type
head_at us of allowed type other said none = sound_head us of type (sound_of us allowed type other said none)

known_at : (us : Units) (allowed : Allowed) (type known : Ty) → is_metadata_place allowed ≡ false → type_flaw true us false allowed type ≡ None
    → head us type ≡ Some known → allows allowed (out-Ty known) ≡ true
known_at us allowed type known other none is = ap (is_allowed allowed) (sym is) ∙ allowed_at us allowed type other none

integer_layer : (us : Units) (whole : Ty) (layer : Ty-F Ty) → SoundLayer us whole layer → is_integer layer ≡ true
    → whole ≡ ty.Int (width_or (layer_width layer))
integer_layer us whole (Ty-F.Int width) sound is = sound
integer_layer us whole Ty-F.Void sound is = clash false is refl
integer_layer us whole Ty-F.Ptr sound is = clash false is refl
integer_layer us whole Ty-F.Pair sound is = clash false is refl
integer_layer us whole (Ty-F.Array count part) sound is = clash false is refl
integer_layer us whole (Ty-F.Struct parts) sound is = clash false is refl
integer_layer us whole (Ty-F.Named name) sound is = clash false is refl
integer_layer us whole (Ty-F.Left text) sound is = clash false is refl

pub integer_at : (us : Units) → IsFile us → (type : Ty) → IsSaidTy type → type_flaw true us false Integer type ≡ None
    → replaced us type ≡ ty.Int (width_at us type)
integer_at us of type said none =
    let own = head_at us of Integer type refl said none in
    integer_layer us (replaced us type) (out-Ty own.known) own.layer (known_at us Integer type own.known refl none own.is)
    ∙ ap (λ (known : Option Ty). ty.Int (width_or (width_of known))) (sym own.is)

bit_layer : (us : Units) (whole : Ty) (layer : Ty-F Ty) → SoundLayer us whole layer → is_bit layer ≡ true → whole ≡ ty.Int W1
bit_layer us whole (Ty-F.Int W1) sound is = sound
bit_layer us whole (Ty-F.Int W8) sound is = clash false is refl
bit_layer us whole (Ty-F.Int W16) sound is = clash false is refl
bit_layer us whole (Ty-F.Int W32) sound is = clash false is refl
bit_layer us whole (Ty-F.Int W64) sound is = clash false is refl
bit_layer us whole Ty-F.Void sound is = clash false is refl
bit_layer us whole Ty-F.Ptr sound is = clash false is refl
bit_layer us whole Ty-F.Pair sound is = clash false is refl
bit_layer us whole (Ty-F.Array count part) sound is = clash false is refl
bit_layer us whole (Ty-F.Struct parts) sound is = clash false is refl
bit_layer us whole (Ty-F.Named name) sound is = clash false is refl
bit_layer us whole (Ty-F.Left text) sound is = clash false is refl

pub bit_at : (us : Units) → IsFile us → (type : Ty) → IsSaidTy type → type_flaw true us false Bit type ≡ None
    → replaced us type ≡ ty.Int W1
bit_at us of type said none =
    let own = head_at us of Bit type refl said none in
    bit_layer us (replaced us type) (out-Ty own.known) own.layer (known_at us Bit type own.known refl none own.is)

-- a type of one layer is written out
single_layer : (us : Units) (whole : Ty) (layer : Ty-F Ty) → SoundLayer us whole layer → allows Returned layer ≡ true → IsTy whole
single_layer us whole Ty-F.Void sound is = subst IsTy (sym sound) void_is_ty
single_layer us whole (Ty-F.Int width) sound is = subst IsTy (sym sound) (int_is_ty width)
single_layer us whole Ty-F.Ptr sound is = subst IsTy (sym sound) ptr_is_ty
single_layer us whole Ty-F.Pair sound is = clash false is refl
single_layer us whole (Ty-F.Array count part) sound is = clash false is refl
single_layer us whole (Ty-F.Struct parts) sound is = clash false is refl
single_layer us whole (Ty-F.Named name) sound is = clash false is refl
single_layer us whole (Ty-F.Left text) sound is = clash false is refl

scalar_returned : (layer : Ty-F Ty) → allows Scalar layer ≡ true → (allows Returned layer ≡ true) × (is_void layer ≡ false)
scalar_returned (Ty-F.Int width) is = (refl, refl)
scalar_returned Ty-F.Ptr is = (refl, refl)
scalar_returned Ty-F.Void is = clash false is refl
scalar_returned Ty-F.Pair is = clash false is refl
scalar_returned (Ty-F.Array count part) is = clash false is refl
scalar_returned (Ty-F.Struct parts) is = clash false is refl
scalar_returned (Ty-F.Named name) is = clash false is refl
scalar_returned (Ty-F.Left text) is = clash false is refl

pub scalar_at : (us : Units) → IsFile us → (type : Ty) → IsSaidTy type → type_flaw true us false Scalar type ≡ None
    → IsTy (replaced us type) × (is_void_head (head us type) ≡ false)
scalar_at us of type said none =
    let own = head_at us of Scalar type refl said none in
    let one = scalar_returned (out-Ty own.known) (known_at us Scalar type own.known refl none own.is) in
    (single_layer us (replaced us type) (out-Ty own.known) own.layer one.0, ap is_void_head own.is ∙ one.1)

pub returned_at : (us : Units) → IsFile us → (type : Ty) → IsSaidTy type → type_flaw true us false Returned type ≡ None
    → IsTy (replaced us type)
returned_at us of type said none =
    let own = head_at us of Returned type refl said none in
    single_layer us (replaced us type) (out-Ty own.known) own.layer (known_at us Returned type own.known refl none own.is)

-- types that no unit writes

layer_sound : (us : Units) (type : Ty) (layer : Ty-F Ty) → out-Ty type ≡ layer
    → (written_step true us false (map-Ty Ty Written (written true us false) layer)).flaw ≡ None
    → pair_step (map-Ty Ty Bool has_pair layer) ≡ false
    → is_none (measure_step (named_measure us) (map-Ty Ty (Option Measure) (measure us) layer)) ≡ false
    → SaidTyLayer (IsSaidTyWithin 0) layer → is_void_head (type_head (named_head us) type layer) ≡ false → IsSoundPart us type
unfolding measure
layer_sound us type layer opens clean plain small said unvoid =
    let step = written_step true us false in
    let size = measure_step (named_measure us) in
    record {
      sound = record {
        plain = record {
          clean = ap (λ w. w.flaw) (fold_out-Ty Written step type)
              ∙ ap (λ l. (step (map-Ty Ty Written (written true us false) l)).flaw) opens ∙ clean;
          plain = fold_out-Ty Bool pair_step type ∙ ap (λ l. pair_step (map-Ty Ty Bool has_pair l)) opens ∙ plain;
        };
        small = ap (λ (m : Option Measure). is_none m) (fold_out-Ty (Option Measure) size type)
            ∙ ap (λ l. is_none (size (map-Ty Ty (Option Measure) (measure us) l))) opens ∙ small;
        said = (1, subst (SaidTyLayer (IsSaidTyWithin 0)) (sym opens) said);
      };
      unvoid = ap (λ l. is_void_head (type_head (named_head us) type l)) opens ∙ unvoid;
    }

pub pointer_sound : (us : Units) → IsSoundPart us ty.Ptr
pointer_sound us = layer_sound us ty.Ptr Ty-F.Ptr outs-Ptr refl refl refl tt (ap is_void outs-Ptr)

pub bit_sound : (us : Units) → IsSoundPart us (ty.Int W1)
bit_sound us = layer_sound us (ty.Int W1) (Ty-F.Int W1) (outs-Int W1) refl refl refl tt (ap is_void (outs-Int W1))
