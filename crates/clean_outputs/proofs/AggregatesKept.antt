-- Aggregates as they are kept at a type: zeros, bytes, or part by part.
use Rattle.std.proofs.Common.{◌≡◌, refl, sym, ap, subst, ◌∙◌, ℕ, zero, suc, ◌%◌, ◌^◌, ◌<◌, nat_eq, nat_lt, Bool, true, false, cond, ◌&&◌, List, [], ◌∷◌, length, map, arith, Some}
use Rattle.std.specs.List.{AllByRecursion, AllZip, list_all}
use Rattle.std.proofs.Math.Nat.{mod-lt, mod-eq_of_lt}
use Rattle.std.proofs.lemmas.Bool.Decides.{nat_tests}
use Rattle.ir_values.specs.declared.types.Width.TheVariants.{W8}
use Rattle.ir_values.specs.declared.types.Ty.{Ty, out-Ty}
use Rattle.ir_values.specs.declared.types.Ty.TheVariants as ty
use Rattle.ir_values.specs.declared.types.Ty.TheVariants.{outs-Void, outs-Int as outs-Integer, outs-Ptr, outs-Array as outs-Elements, outs-Struct as outs-Fields}
use Rattle.ir_values.specs.declared.types.Ty.TheOpen.{Ty-F}
use Rattle.ir_values.specs.declared.constants.Const.{Const, out-Const}
use Rattle.ir_values.specs.declared.constants.Const.TheVariants as const
use Rattle.ir_values.specs.declared.constants.Const.TheVariants.{outs-Zero, outs-Array, outs-Struct, outs-Bytes}
use Rattle.ir_values.specs.declared.constants.Const.TheOpen.{Const-F}
use Rattle.ir_values.specs.declared.constants.Operand.{Operand}
use Rattle.ir_numbers.specs.Numbers.{bits}
use Rattle.check_types.specs.Heads.{head}
use Rattle.check_types.specs.Replaced.{replaced}
use Rattle.check_constants.specs.Keeping.{is_zero, are_zero, is_byte_layer, is_byte_head, byte_of, array_kept, struct_kept, bytes_kept}
use Rattle.printed_units.specs.Written.{IsBytes, IsTyWithin, ConstLayer, IsConstWithin}
use Rattle.printed_modules.specs.Printed.{IsKeptWithin}
use Rattle.sized_modules.proofs.UnitLemmas.{Units}
use Rattle.clean_outputs.proofs.TypeLemmas.{SoundLayer}
use Rattle.clean_outputs.proofs.WeighedLayers.{IsGoodWithin, made_good}

-- of two constants the one that a test picks
pub picked : (P : Const → Type 0) (test : Bool) (met unmet : Const) → (test ≡ true → P met) → (test ≡ false → P unmet) → P (cond test met unmet)
picked P true met unmet at_met at_unmet = at_met refl
picked P false met unmet at_met at_unmet = at_unmet refl

each_printed : (n : ℕ) (element : Ty) (values : List Const) → AllByRecursion (IsGoodWithin n element) values
    → AllByRecursion (IsConstWithin n element) values
each_printed n element [] good = tt
each_printed n element (value ∷ values) good = (good.0.0, each_printed n element values good.1)

each_kept : (n : ℕ) (element : Ty) (values : List Const) → AllByRecursion (IsGoodWithin n element) values
    → AllByRecursion (IsKeptWithin n) values
each_kept n element [] good = tt
each_kept n element (value ∷ values) good = (good.0.1, each_kept n element values good.1)

-- bytes

abbrev byte_value : Const → ℕ
byte_value value = byte_of (out-Const value)

small_byte : (v : ℕ) → v < 256 → nat_eq (v % 256) 0 ≡ nat_eq v 0
small_byte v small = ap (λ m. nat_eq m 0) (mod-eq_of_lt small)

byte_layer_zero : (n : ℕ) (P : Ty → Const → Type 0) (type : Ty) (layer : Const-F Const Operand) → ConstLayer n P type (Ty-F.Int W8) layer
    → nat_eq (byte_of layer) 0 ≡ is_zero layer
byte_layer_zero n P type (Const-F.Int width v) is = small_byte v (subst (λ w. v < 2 ^ bits w) (sym is.0) is.1)
byte_layer_zero n P type (Const-F.Number name offset) is = absurd (grind (arith, is.0))
byte_layer_zero n P type _ is = absurd is

byte_zero : (n : ℕ) (value : Const) → IsConstWithin n (ty.Int W8) value → nat_eq (byte_value value) 0 ≡ is_zero (out-Const value)
byte_zero zero value is = absurd is
byte_zero (suc n) value is =
    byte_layer_zero n (IsConstWithin n) (ty.Int W8) (out-Const value)
    (subst (λ s. ConstLayer n (IsConstWithin n) (ty.Int W8) s (out-Const value)) (outs-Integer W8) is)

zeros_same : (n : ℕ) (values : List Const) → AllByRecursion (IsGoodWithin n (ty.Int W8)) values
    → list_all (λ byte. nat_eq byte 0) (map byte_value values) ≡ are_zero values
zeros_same n [] good = refl
zeros_same n (value ∷ values) good =
    ap (λ zero_first. zero_first && list_all (λ byte. nat_eq byte 0) (map byte_value values)) (byte_zero n value good.0.0)
    ∙ ap (λ others. is_zero (out-Const value) && others) (zeros_same n values good.1)

byte_below : (layer : Const-F Const Operand) → nat_lt (byte_of layer) 256 ≡ true
byte_below (Const-F.Int width v) = below (v % 256) (mod-lt v (omega arith)) where
  below : (m : ℕ) → m < 256 → nat_lt m 256 ≡ true
  below m less = grind (arith, nat_tests)
byte_below _ = refl

bytes_below : (values : List Const) → IsBytes (map byte_value values)
bytes_below [] = refl
bytes_below (value ∷ values) =
    ap (λ small. small && list_all (λ byte. nat_lt byte 256) (map byte_value values)) (byte_below (out-Const value)) ∙ bytes_below values

-- the byte is told by a type's head as by the type with its names replaced
byte_same : (us : Units) (whole : Ty) (shape : Ty-F Ty) → SoundLayer us whole shape → is_byte_layer shape ≡ is_byte_layer (out-Ty whole)
byte_same us whole Ty-F.Void sound = ap is_byte_layer (sym (ap out-Ty sound ∙ outs-Void))
byte_same us whole (Ty-F.Int width) sound = ap is_byte_layer (sym (ap out-Ty sound ∙ outs-Integer width))
byte_same us whole Ty-F.Ptr sound = ap is_byte_layer (sym (ap out-Ty sound ∙ outs-Ptr))
byte_same us whole (Ty-F.Array count part) sound = ap is_byte_layer (sym (ap out-Ty sound.0 ∙ outs-Elements count (replaced us part)))
byte_same us whole (Ty-F.Struct parts) sound = ap is_byte_layer (sym (ap out-Ty sound.0 ∙ outs-Fields (map (replaced us) parts)))
byte_same us whole _ sound = absurd sound

pub byte_is : (us : Units) (whole : Ty) (shape : Ty-F Ty) → SoundLayer us whole shape → is_byte_layer shape ≡ true → whole ≡ ty.Int W8
byte_is us whole (Ty-F.Int W8) sound byte = sound
byte_is us whole _ sound byte = absurd (grind arith)

-- each form

zeros_good : (n : ℕ) (whole element : Ty) (count : ℕ) → whole ≡ ty.Array count element
    → IsGoodWithin (suc n) whole (const.Zero (ty.Array count element))
zeros_good n whole element count is =
    made_good n whole (const.Zero (ty.Array count element)) (Ty-F.Array count element) (Const-F.Zero (ty.Array count element))
    (ap out-Ty is ∙ outs-Elements count element) (outs-Zero (ty.Array count element)) is tt

text_good : (n : ℕ) (whole : Ty) (count : ℕ) (text : List ℕ) → whole ≡ ty.Array count (ty.Int W8) → length text ≡ count → IsBytes text
    → list_all (λ byte. nat_eq byte 0) text ≡ false → IsGoodWithin (suc n) whole (const.Bytes text)
text_good n whole count text is long bytes some =
    made_good n whole (const.Bytes text) (Ty-F.Array count (ty.Int W8)) (Const-F.Bytes text)
    (ap out-Ty is ∙ outs-Elements count (ty.Int W8)) (outs-Bytes text) (refl, long, bytes) some

parts_good : (n : ℕ) (whole element : Ty) (count : ℕ) (values : List Const) → whole ≡ ty.Array count element → IsTyWithin n element
    → length values ≡ count → nat_lt 0 (length values) ≡ true → AllByRecursion (IsGoodWithin n element) values
    → is_byte_layer (out-Ty element) ≡ false → are_zero values ≡ false → IsGoodWithin (suc n) whole (const.Array element values)
parts_good n whole element count values is written long some good other nonzero =
    made_good n whole (const.Array element values) (Ty-F.Array count element) (Const-F.Array element values)
    (ap out-Ty is ∙ outs-Elements count element) (outs-Array element values)
    (refl, long, record { type = written; some = some; each = each_printed n element values good })
    (nonzero, other, each_kept n element values good)

-- a string

pub bytes_good : (n : ℕ) (whole : Ty) (text : List ℕ) → whole ≡ ty.Array (length text) (ty.Int W8) → IsBytes text
    → IsGoodWithin (suc n) whole (bytes_kept text)
bytes_good n whole text is bytes =
    picked (IsGoodWithin (suc n) whole) (list_all (λ byte. nat_eq byte 0) text) (const.Zero (ty.Array (length text) (ty.Int W8))) (const.Bytes text)
    (λ zeros. zeros_good n whole (ty.Int W8) (length text) is) (λ some. text_good n whole (length text) text is refl bytes some)

-- an array by its parts

length_bytes : (values : List Const) → length (map byte_value values) ≡ length values
length_bytes [] = refl
length_bytes (value ∷ values) = ap suc (length_bytes values)

pub array_good : (us : Units) (n : ℕ) (whole part known : Ty) (values : List Const) → whole ≡ ty.Array (length values) (replaced us part)
    → head us part ≡ Some known → SoundLayer us (replaced us part) (out-Ty known) → IsTyWithin n (replaced us part)
    → nat_lt 0 (length values) ≡ true → AllByRecursion (IsGoodWithin n (replaced us part)) values
    → IsGoodWithin (suc n) whole (array_kept us part values)
array_good us n whole part known values is known_is sound written some good =
    let byte_head : is_byte_head (head us part) ≡ is_byte_layer (out-Ty known) = ap is_byte_head known_is in
    let text = const.Bytes (map byte_value values) in
    let parts = const.Array (replaced us part) values in
    picked (IsGoodWithin (suc n) whole) (are_zero values) (const.Zero (ty.Array (length values) (replaced us part)))
    (cond (is_byte_head (head us part)) text parts) (λ zeros. zeros_good n whole (replaced us part) (length values) is)
    (λ nonzero. picked (IsGoodWithin (suc n) whole) (is_byte_head (head us part)) text parts
    (λ byte. let byte_type : replaced us part ≡ ty.Int W8 = byte_is us (replaced us part) (out-Ty known) sound (sym byte_head ∙ byte) in
    text_good n whole (length values) (map byte_value values) (is ∙ ap (ty.Array (length values)) byte_type) (length_bytes values)
    (bytes_below values) (zeros_same n values (subst (λ t. AllByRecursion (IsGoodWithin n t) values) byte_type good) ∙ nonzero))
    (λ other. parts_good n whole (replaced us part) (length values) values is written refl some good
    (sym (byte_same us (replaced us part) (out-Ty known) sound) ∙ sym byte_head ∙ other) nonzero))

-- a struct by its parts

pub struct_good : (n : ℕ) (whole : Ty) (types : List Ty) (values : List Const) → whole ≡ ty.Struct types → AllByRecursion (IsTyWithin n) types
    → AllZip (IsConstWithin n) types values → AllByRecursion (IsKeptWithin n) values → IsGoodWithin (suc n) whole (struct_kept types values)
struct_good n whole types values is written printed kept_are =
    picked (IsGoodWithin (suc n) whole) (are_zero values) (const.Zero (ty.Struct types)) (const.Struct values)
    (λ zeros. made_good n whole (const.Zero (ty.Struct types)) (Ty-F.Struct types) (Const-F.Zero (ty.Struct types))
    (ap out-Ty is ∙ outs-Fields types) (outs-Zero (ty.Struct types)) is tt)
    (λ nonzero. made_good n whole (const.Struct values) (Ty-F.Struct types) (Const-F.Struct values)
    (ap out-Ty is ∙ outs-Fields types) (outs-Struct values) (record { each_type = written; each = printed }) (nonzero, kept_are))
