-- The parts of aggregates, each behind its written type, and aggregates as they are kept.
use Rattle.std.proofs.Common.{◌≡◌, refl, sym, ap, subst, ◌∙◌, ℕ, suc, ◌+◌, nat_eq, nat_lt, Bool, true, false, ◌&&◌, List, [], ◌∷◌, length, map, slice_get, Option, Some, None, arith}
use Rattle.std.specs.List.{AllByRecursion, AllZip}
use Rattle.std.proofs.lemmas.Bool.Decides.{nat_tests}
use Rattle.ltt_base.specs.declared.refusal.Code.TheVariants.{E06}
use Rattle.ir_values.specs.declared.types.Width.TheVariants.{W8}
use Rattle.ir_values.specs.declared.types.Ty.{Ty, out-Ty}
use Rattle.ir_values.specs.declared.types.Ty.TheVariants as ty
use Rattle.ir_values.specs.declared.types.Ty.TheVariants.{outs-Array as outs-Elements, outs-Struct as outs-Fields}
use Rattle.ir_values.specs.declared.types.Ty.TheOpen.{Ty-F}
use Rattle.ir_values.specs.declared.constants.Const.{Const, out-Const}
use Rattle.ir_values.specs.declared.constants.Const.TheOpen.{Const-F}
use Rattle.ir_values.specs.declared.constants.Operand.{Operand}
use Rattle.check_names.specs.Flaws.{◌then◌, when}
use Rattle.check_types.specs.declared.places.Allowed.TheVariants.{NonVoid}
use Rattle.check_types.specs.Differences.{differ}
use Rattle.check_types.specs.Heads.{head}
use Rattle.check_types.specs.Parts.{part_in, head_part}
use Rattle.check_types.specs.Replaced.{replaced}
use Rattle.check_types.specs.Written.{type_flaw}
use Rattle.check_constants.specs.Keeping.{array_kept, struct_kept, bytes_kept, values_of, types_of, option_replaced}
use Rattle.check_constants.specs.Shapes.{is_array, is_struct, is_byte_or_unknown, are_bytes}
use Rattle.check_constants.specs.Rules.{part_flaw, parts_flaw}
use Rattle.check_constants.specs.Weighed.{Weighed}
use Rattle.check_constants.specs.Constants.{const_step, weighed}
use Rattle.check_constants.specs.Judged.{constant_flaw}
use Rattle.check_constants.specs.Kept.{kept}
use Rattle.printed_units.specs.Written.{IsBytes, TyLayer, IsTyWithin, IsConstWithin}
use Rattle.printed_modules.specs.Printed.{IsKeptWithin}
use Rattle.sized_modules.proofs.FlawLemmas.{none_first, none_second, unbroken}
use Rattle.sized_modules.proofs.UnitLemmas.{Units}
use Rattle.said_units.specs.Sayable.{IsSaidTyWithin, SaidTypedLayer, IsSaidTyped, WrittenLayer, BeginsWith, IsSaidConstWithin}
use Rattle.clean_outputs.proofs.FileLemmas.{IsFile}
use Rattle.clean_outputs.proofs.TypeLemmas.{IsSound, IsSoundPart, SoundLayer, sound_head, nonvoid_at, sound_within}
use Rattle.clean_outputs.proofs.DifferLemmas.{same_replaced}
use Rattle.clean_outputs.proofs.WeighedLayers.{IsGoodWithin, weighed_out}
use Rattle.clean_outputs.proofs.AggregatesKept.{byte_is, bytes_good, array_good, struct_good}

-- a type of any number of levels that is written without a flaw
part_sound : (us : Units) (n : ℕ) (type : Ty) → IsSaidTyWithin n type → type_flaw true us false NonVoid type ≡ None → IsSoundPart us type
part_sound us n type said none =
    record { sound = sound_within us NonVoid n type refl said none; unvoid = nonvoid_at us type none }

-- the parts of aggregates

abbrev WrittenSound : Units → Option Ty → Type 0
WrittenSound us None = Unit {0}
WrittenSound us (Some own) = IsSound us own

-- a part of an aggregate that is kept at the type of its place
pub record IsGoodPart (us : Units) (n : ℕ) (place : Ty) (part : Weighed) : Type 0 where
  pub sound : WrittenSound us part.written
  pub same : option_replaced us part.written ≡ replaced us place
  pub good : IsGoodWithin n (replaced us place) (part.kept us None)

-- what holds of constants with fewer levels
abbrev pub Below : Units → ℕ → Type 0
Below us n = (type : Ty) (constant : Const) → IsSoundPart us type → IsTyWithin n (replaced us type) → IsSaidConstWithin n type constant
    → constant_flaw true us false (Some type) constant ≡ None → IsGoodWithin n (replaced us type) (kept us (Some type) constant)

module _ (us : Units) (of : IsFile us) (n : ℕ) (below : Below us n) where
  typed_good : (place : Ty) → IsSoundPart us place → IsTyWithin n (replaced us place) → (own : Ty) (constant : Const) → IsSaidTyWithin n own
      → IsSaidConstWithin n own constant → part_flaw true us false (Some place) (const_step (Const-F.Typed own (weighed constant))) ≡ None
      → IsGoodPart us n place (const_step (Const-F.Typed own (weighed constant)))
  typed_good place sound whole own constant said_type said none =
      let of_type = type_flaw true us false NonVoid own in
      let of_value = constant_flaw true us false (Some own) constant in
      let differs = differ us own place in
      let both = none_first (of_type then of_value) (when differs E06) none in
      let own_sound = part_sound us n own said_type (none_first of_type of_value both) in
      let same : replaced us own ≡ replaced us place =
      same_replaced us of own place own_sound.sound sound.sound
      (unbroken differs E06 (none_second (of_type then of_value) (when differs E06) none)) in
      record {
        sound = own_sound.sound;
        same = same;
        good = subst (λ t. IsGoodWithin n t (kept us (Some own) constant)) same
            (below own constant own_sound (subst (IsTyWithin n) (sym same) whole) said (none_second of_type of_value both));
      }

  part_good : (place : Ty) → IsSoundPart us place → IsTyWithin n (replaced us place) → (part : Const) (layer : Const-F Const Operand)
      → out-Const part ≡ layer → SaidTypedLayer n (IsSaidConstWithin n) layer → part_flaw true us false (Some place) (weighed part) ≡ None
      → IsGoodPart us n place (weighed part)
  part_good place sound whole part (Const-F.Typed own constant) opens said none =
      let is = weighed_out part (Const-F.Typed own constant) opens in
      subst (IsGoodPart us n place) (sym is)
      (typed_good place sound whole own constant said.0 said.1 (ap (part_flaw true us false (Some place)) (sym is) ∙ none))
  part_good place sound whole part _ opens said none = absurd said

  -- the parts of an array

  each_good : (place : Ty) → IsSoundPart us place → IsTyWithin n (replaced us place) → (known : Option Ty)
      → ((at : ℕ) → head_part at known ≡ Some place) → (at : ℕ) (parts : List Const) → AllByRecursion (IsSaidTyped n (IsSaidConstWithin n)) parts
      → parts_flaw true us false known at (map weighed parts) ≡ None → AllByRecursion (IsGoodPart us n place) (map weighed parts)
  unfolding parts_flaw
  each_good place sound whole known leads at [] said none = tt
  each_good place sound whole known leads at (part ∷ parts) said none =
      let first = part_flaw true us false (head_part at known) (weighed part) in
      let others = parts_flaw true us false known (suc at) (map weighed parts) in (
        part_good place sound whole part (out-Const part) refl said.0
            (ap (λ p. part_flaw true us false p (weighed part)) (sym (leads at)) ∙ none_first first others none),
        each_good place sound whole known leads (suc at) parts said.1 (none_second first others none),
      )

  -- the parts of a struct, from a place on

  fields_good : (places : List Ty) → AllByRecursion (IsSoundPart us) places → AllByRecursion (IsTyWithin n) (map (replaced us) places)
      → (known : Option Ty) (at : ℕ) → ((k there : ℕ) → there ≡ at + k → head_part there known ≡ slice_get places k)
      → (parts : List Const) → nat_eq (length (map weighed parts)) (length places) ≡ true → AllByRecursion (IsSaidTyped n (IsSaidConstWithin n)) parts
      → parts_flaw true us false known at (map weighed parts) ≡ None → AllZip (IsGoodPart us n) places (map weighed parts)
  unfolding parts_flaw
  fields_good [] sound whole known at leads [] many said none = tt
  fields_good (place ∷ places) sound whole known at leads (part ∷ parts) many said none =
      let first = part_flaw true us false (head_part at known) (weighed part) in
      let others = parts_flaw true us false known (suc at) (map weighed parts) in (
        part_good place sound.0 whole.0 part (out-Const part) refl said.0
            (ap (λ p. part_flaw true us false p (weighed part)) (sym (leads 0 at (omega arith))) ∙ none_first first others none),
        fields_good places sound.1 whole.1 known (suc at) (λ k there is. leads (suc k) there (omega arith)) parts (grind (arith, nat_tests)) said.1
            (none_second first others none),
      )
  fields_good _ sound whole known at leads _ many said none = absurd (grind (arith, nat_tests))

-- what parts that are kept tell

values_good : (us : Units) (n : ℕ) (place : Ty) (parts : List Weighed) → AllByRecursion (IsGoodPart us n place) parts
    → AllByRecursion (IsGoodWithin n (replaced us place)) (values_of us parts)
values_good us n place [] good = tt
values_good us n place (part ∷ parts) good = (good.0.good, values_good us n place parts good.1)

fields_printed : (us : Units) (n : ℕ) (places : List Ty) (parts : List Weighed) → AllZip (IsGoodPart us n) places parts
    → AllZip (IsConstWithin n) (map (replaced us) places) (values_of us parts)
fields_printed us n [] [] good = tt
fields_printed us n (place ∷ places) (part ∷ parts) good = (good.0.good.0, fields_printed us n places parts good.1)
fields_printed us n _ _ good = absurd good

fields_kept : (us : Units) (n : ℕ) (places : List Ty) (parts : List Weighed) → AllZip (IsGoodPart us n) places parts
    → AllByRecursion (IsKeptWithin n) (values_of us parts)
fields_kept us n [] [] good = tt
fields_kept us n (place ∷ places) (part ∷ parts) good = (good.0.good.1, fields_kept us n places parts good.1)
fields_kept us n _ _ good = absurd good

fields_typed : (us : Units) (n : ℕ) (places : List Ty) (parts : List Weighed) → AllZip (IsGoodPart us n) places parts
    → types_of us parts ≡ map (replaced us) places
fields_typed us n [] [] good = refl
fields_typed us n (place ∷ places) (part ∷ parts) good =
    ap (λ type. type ∷ types_of us parts) good.0.same ∙ ap (λ types. replaced us place ∷ types) (fields_typed us n places parts good.1)
fields_typed us n _ _ good = absurd good

-- the first part of an array has the array's type

written_first : (part : Ty) (first : Const) (layer : Const-F Const Operand) → out-Const first ≡ layer → WrittenLayer part layer
    → (weighed first).written ≡ Some part
written_first part first (Const-F.Typed own constant) opens is =
    ap (λ w. w.written) (weighed_out first (Const-F.Typed own constant) opens) ∙ ap Some is
written_first part first _ opens is = absurd is

record ArrayPart (us : Units) (part place : Ty) (parts : List Const) : Type 0 where
  sound : IsSound us part
  same : replaced us part ≡ replaced us place
  some : nat_lt 0 (length parts) ≡ true

array_part : (us : Units) (n : ℕ) (part place : Ty) (parts : List Const) → BeginsWith part parts
    → AllByRecursion (IsGoodPart us n place) (map weighed parts) → ArrayPart us part place parts
array_part us n part place [] begins good = absurd begins
array_part us n part place (first ∷ others) begins good =
    let is = written_first part first (out-Const first) refl begins in
    record {
      sound = subst (WrittenSound us) is good.0.sound;
      same = ap (option_replaced us) (sym is) ∙ good.0.same;
      some = more (length others);
    } where
      more : (m : ℕ) → nat_lt 0 (suc m) ≡ true
      more m = grind (arith, nat_tests)

length_values : (us : Units) (parts : List Const) → length (values_of us (map weighed parts)) ≡ length (map weighed parts)
length_values us [] = refl
length_values us (part ∷ parts) = ap suc (length_values us parts)

length_weighed : (parts : List Const) → length parts ≡ length (map weighed parts)
length_weighed [] = refl
length_weighed (part ∷ parts) = ap suc (length_weighed parts)

same_number : (a b : ℕ) → nat_eq a b ≡ true → a ≡ b
same_number a b same = grind (arith, nat_tests)

-- an array or a struct at a type whose head is known

pub array_kept_good : (us : Units) → IsFile us → (n : ℕ) → Below us n → (type known : Ty) → head us type ≡ Some known → (shape : Ty-F Ty)
    → out-Ty known ≡ shape → SoundLayer us (replaced us type) shape → IsTyWithin (suc n) (replaced us type) → (part : Ty) (parts : List Const)
    → BeginsWith part parts → AllByRecursion (IsSaidTyped n (IsSaidConstWithin n)) parts → is_array (length (map weighed parts)) shape ≡ true
    → parts_flaw true us false (head us type) 0 (map weighed parts) ≡ None
    → IsGoodWithin (suc n) (replaced us type) (array_kept us part (values_of us (map weighed parts)))
array_kept_good us of n below type known known_is (Ty-F.Array count place) opens sound written_is part parts begins said many none =
    let whole : out-Ty (replaced us type) ≡ Ty-F.Array count (replaced us place) = ap out-Ty sound.0 ∙ outs-Elements count (replaced us place) in
    let place_written : IsTyWithin n (replaced us place) = (subst (TyLayer (IsTyWithin n)) whole written_is).1 in
    let good = each_good us of n below place sound.2 place_written (head us type)
    (λ at. ap (head_part at) known_is ∙ ap (part_in at) opens) 0 parts said none in
    let of_part = array_part us n part place parts begins good in
    let values = values_of us (map weighed parts) in
    let long : length values ≡ count = length_values us parts ∙ same_number (length (map weighed parts)) count many in
    let at_head = sound_head us of part of_part.sound in
    array_good us n (replaced us type) part at_head.known values
    (sound.0 ∙ ap (λ m. ty.Array m (replaced us place)) (sym long) ∙ ap (ty.Array (length values)) (sym of_part.same))
    at_head.is at_head.layer (subst (IsTyWithin n) (sym of_part.same) place_written)
    (ap (nat_lt 0) (length_values us parts ∙ sym (length_weighed parts)) ∙ of_part.some)
    (subst (λ t. AllByRecursion (IsGoodWithin n t) values) (sym of_part.same) (values_good us n place (map weighed parts) good))
array_kept_good us of n below type known known_is _ opens sound written_is part parts begins said many none = absurd (grind arith)

pub struct_kept_good : (us : Units) → IsFile us → (n : ℕ) → Below us n → (type known : Ty) → head us type ≡ Some known → (shape : Ty-F Ty)
    → out-Ty known ≡ shape → SoundLayer us (replaced us type) shape → IsTyWithin (suc n) (replaced us type) → (parts : List Const)
    → AllByRecursion (IsSaidTyped n (IsSaidConstWithin n)) parts → is_struct (length (map weighed parts)) shape ≡ true
    → parts_flaw true us false (head us type) 0 (map weighed parts) ≡ None
    → IsGoodWithin (suc n) (replaced us type) (struct_kept (types_of us (map weighed parts)) (values_of us (map weighed parts)))
struct_kept_good us of n below type known known_is (Ty-F.Struct places) opens sound written_is parts said many none =
    let types = map (replaced us) places in
    let whole : out-Ty (replaced us type) ≡ Ty-F.Struct types = ap out-Ty sound.0 ∙ outs-Fields types in
    let places_written : AllByRecursion (IsTyWithin n) types = subst (TyLayer (IsTyWithin n)) whole written_is in
    let good = fields_good us of n below places sound.1 places_written (head us type) 0
    (λ k there same. ap (head_part there) known_is ∙ ap (part_in there) opens ∙ ap (slice_get places) same ∙ ap (slice_get places) (from_none k))
    parts many said none in
    let values = values_of us (map weighed parts) in
    subst (λ own. IsGoodWithin (suc n) (replaced us type) (struct_kept own values)) (sym (fields_typed us n places (map weighed parts) good))
    (struct_good n (replaced us type) types values sound.0 places_written (fields_printed us n places (map weighed parts) good)
    (fields_kept us n places (map weighed parts) good)) where
      from_none : (k : ℕ) → 0 + k ≡ k
      from_none k = omega arith
struct_kept_good us of n below type known known_is _ opens sound written_is parts said many none = absurd (grind arith)

-- a string at a type whose head is known

byte_known : (us : Units) → IsFile us → (part : Ty) → IsSoundPart us part → is_byte_or_unknown (head us part) ≡ true → replaced us part ≡ ty.Int W8
byte_known us of part sound byte =
    let at_head = sound_head us of part sound.sound in
    byte_is us (replaced us part) (out-Ty at_head.known) at_head.layer (ap is_byte_or_unknown (sym at_head.is) ∙ byte)

both_first : (a b : Bool) → a && b ≡ true → a ≡ true
both_first a b both = grind arith

both_second : (a b : Bool) → a && b ≡ true → b ≡ true
both_second a b both = grind arith

pub text_kept_good : (us : Units) → IsFile us → (n : ℕ) (whole : Ty) (shape : Ty-F Ty) → SoundLayer us whole shape → (text : List ℕ) → IsBytes text
    → are_bytes us (length text) shape ≡ true → IsGoodWithin (suc n) whole (bytes_kept text)
text_kept_good us of n whole (Ty-F.Array count part) sound text bytes are =
    let long = nat_eq (length text) count in
    let byte = is_byte_or_unknown (head us part) in
    bytes_good n whole text
    (sound.0 ∙ ap (ty.Array count) (byte_known us of part sound.2 (both_second long byte are))
    ∙ ap (λ m. ty.Array m (ty.Int W8)) (sym (same_number (length text) count (both_first long byte are)))) bytes
text_kept_good us of n whole _ sound text bytes are = absurd (grind arith)
