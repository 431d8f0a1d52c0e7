-- Types that are written out are what they are, whatever names the units have.
use Rattle.std.proofs.Common.{map-id, ◌≡◌, refl, sym, ap, ◌∙◌, ℕ, zero, suc, Bool, true, false, cond, List, [], map, Option, Some}
use Rattle.std.specs.List.{AllByRecursion}
use Rattle.ltt_base.specs.declared.refusal.Placed.{Placed}
use Rattle.ir_values.specs.declared.types.Width.{Width}
use Rattle.ir_values.specs.declared.types.Ty.{Ty, out-Ty, roll-Ty, roll-out-Ty, fold_out-Ty, map-Ty}
use Rattle.ir_values.specs.declared.types.Ty.TheVariants as ty
use Rattle.ir_values.specs.declared.types.Ty.TheVariants.{rolls-Array, rolls-Struct}
use Rattle.ir_values.specs.declared.types.Ty.TheOpen.{Ty-F}
use Rattle.ir_values.specs.declared.units.Unit.{Unit as TheUnit}
use Rattle.check_types.specs.Heads.{type_head, named_head, head}
use Rattle.check_types.specs.Measures.{Measure, single, array_measure, parts_measure, struct_measure, measure_step, named_measure, measure, is_past, align_in, align}
use Rattle.check_types.specs.Replaced.{layer_replaced, head_replaced, replaced_within, replaced}
use Rattle.printed_units.specs.Written.{TyLayer, IsTyWithin}
use Rattle.printed_units.proofs.ListLemmas.{map_same}
use Rattle.printed_units.proofs.WrittenLemmas.{int_within}

abbrev pub Units : Type 0
Units = List (Placed TheUnit)

-- a type is what its outermost layer says
ty_rolled : (type made : Ty) (layer : Ty-F Ty) → out-Ty type ≡ layer → roll-Ty layer ≡ made → made ≡ type
ty_rolled type made layer opens rolls = sym rolls ∙ ap roll-Ty (sym opens) ∙ roll-out-Ty type

-- heads

layer_head : (follow : List ℕ → Option Ty) (P : Ty → Type 0) (type : Ty) (layer : Ty-F Ty) → TyLayer P layer
    → type_head follow type layer ≡ Some type
layer_head follow P type (Ty-F.Named name) is = absurd is
layer_head follow P type (Ty-F.Left text) is = absurd is
layer_head follow P type _ is = refl

pub ty_head : (us : Units) (n : ℕ) (type : Ty) → IsTyWithin n type → head us type ≡ Some type
ty_head us zero type is = absurd is
ty_head us (suc n) type is = layer_head (named_head us) (IsTyWithin n) type (out-Ty type) is

pub integer_head : (us : Units) (width : Width) → head us (ty.Int width) ≡ Some (ty.Int width)
integer_head us width = ty_head us 1 (ty.Int width) (int_within 0 width)

-- types with their names replaced

parts_same : (f : Ty → Ty) (P : Ty → Type 0) → ((part : Ty) → P part → f part ≡ part) → (parts : List Ty) → AllByRecursion P parts
    → map f parts ≡ parts
parts_same f P same parts are = map_same f (λ part. part) P same parts are ∙ map-id parts

layer_same : (f : Ty → Ty) (P : Ty → Type 0) → ((part : Ty) → P part → f part ≡ part) → (type : Ty) (layer : Ty-F Ty) → out-Ty type ≡ layer
    → TyLayer P layer → layer_replaced f type layer ≡ type
layer_same f P same type (Ty-F.Array count part) opens is =
    ap (ty.Array count) (same part is.1) ∙ ty_rolled type (ty.Array count part) (Ty-F.Array count part) opens (rolls-Array count part)
layer_same f P same type (Ty-F.Struct parts) opens is =
    ap ty.Struct (parts_same f P same parts is) ∙ ty_rolled type (ty.Struct parts) (Ty-F.Struct parts) opens (rolls-Struct parts)
layer_same f P same type _ opens is = refl

replaced_levels : (us : Units) (levels n : ℕ) (type : Ty) → IsTyWithin n type → replaced_within us levels type ≡ type
unfolding replaced_within
replaced_levels us zero n type is = refl
replaced_levels us (suc levels) zero type is = absurd is
replaced_levels us (suc levels) (suc n) type is =
    ap (head_replaced (replaced_within us levels) type) (ty_head us (suc n) type is)
    ∙ layer_same (replaced_within us levels) (IsTyWithin n) (replaced_levels us levels n) type (out-Ty type) refl is

either_same : (past : Bool) (type other : Ty) → other ≡ type → cond past type other ≡ type
either_same true type other same = refl
either_same false type other same = same

pub ty_replaced : (us : Units) (n : ℕ) (type : Ty) → IsTyWithin n type → replaced us type ≡ type
unfolding replaced
ty_replaced us n type is = either_same (is_past us type) type (replaced_within us 4096 type) (replaced_levels us 4096 n type is)

-- what types take

abbrev Names : Type 0
Names = List ℕ → Option Measure

layer_measured : (p q : Names) (f g : Ty → Option Measure) (P : Ty → Type 0) → ((part : Ty) → P part → f part ≡ g part) → (layer : Ty-F Ty)
    → TyLayer P layer → measure_step p (map-Ty Ty (Option Measure) f layer) ≡ measure_step q (map-Ty Ty (Option Measure) g layer)
layer_measured p q f g P same Ty-F.Void is = refl
layer_measured p q f g P same (Ty-F.Int width) is = refl
layer_measured p q f g P same Ty-F.Ptr is = refl
layer_measured p q f g P same Ty-F.Pair is = refl
layer_measured p q f g P same (Ty-F.Array count part) is = ap (array_measure count) (same part is.1)
layer_measured p q f g P same (Ty-F.Struct parts) is =
    ap (λ ms. struct_measure (parts_measure (single 0 1) ms)) (map_same f g P same parts is)
layer_measured p q f g P same (Ty-F.Named name) is = absurd is
layer_measured p q f g P same (Ty-F.Left text) is = absurd is

pub measure_opened : (us : Units) (type : Ty)
    → measure us type ≡ measure_step (named_measure us) (map-Ty Ty (Option Measure) (measure us) (out-Ty type))
unfolding measure
measure_opened us type = fold_out-Ty (Option Measure) (λ layer. measure_step (named_measure us) layer) type

ty_measured : (us vs : Units) (n : ℕ) (type : Ty) → IsTyWithin n type → measure us type ≡ measure vs type
ty_measured us vs zero type is = absurd is
ty_measured us vs (suc n) type is =
    measure_opened us type
    ∙ layer_measured (named_measure us) (named_measure vs) (measure us) (measure vs) (IsTyWithin n) (ty_measured us vs n) (out-Ty type) is
    ∙ sym (measure_opened vs type)

pub ty_align : (us : Units) (n : ℕ) (type : Ty) → IsTyWithin n type → align us type ≡ align [] type
ty_align us n type is = ap align_in (ty_measured us [] n type is)
