-- A type takes what it takes once its names are replaced.
use Rattle.std.proofs.Common.{◌≡◌, refl, ◌∙◌, ap, sym, ℕ, zero, suc, List, [], ◌∷◌, map}
use Rattle.std.specs.List.{AllByRecursion}
use Rattle.ir_values.specs.declared.types.Ty.{Ty, out-Ty}
use Rattle.ir_values.specs.declared.types.Ty.TheVariants as ty
use Rattle.ir_values.specs.declared.types.Ty.TheVariants.{outs-Void, outs-Int, outs-Ptr, outs-Array, outs-Struct}
use Rattle.ir_values.specs.declared.types.Ty.TheOpen.{Ty-F}
use Rattle.check_types.specs.Measures.{single, array_measure, parts_measure, struct_measure, measure, align_in, align}
use Rattle.check_types.specs.Replaced.{replaced}
use Rattle.sized_modules.proofs.UnitLemmas.{Units}
use Rattle.printed_modules.proofs.TypeKept.{measure_opened}
use Rattle.clean_outputs.proofs.FileLemmas.{IsFile}
use Rattle.clean_outputs.proofs.TypeLemmas.{IsSound, IsSoundPart, SoundLayer, sound_head}
use Rattle.clean_outputs.proofs.CountLemmas.{Counted, CountedParts, layer_measure, head_takes, counted_parts, counted_none, counted_most}

-- a type takes what its layer does
made_measure : (us : Units) (whole made : Ty) (layer : Ty-F Ty) → whole ≡ made → out-Ty made ≡ layer → measure us whole ≡ layer_measure us layer
made_measure us whole made layer is opens = ap (measure us) is ∙ measure_opened us made ∙ ap (layer_measure us) opens

-- sound types of so many types take the same once their names are replaced
abbrev Keeps : Units → ℕ → Type 0
Keeps us n = (type : Ty) → IsSound us type → Counted us n type → measure us (replaced us type) ≡ measure us type

parts_kept : (us : Units) (n : ℕ) → Keeps us n → (parts : List Ty) → AllByRecursion (IsSoundPart us) parts → AllByRecursion (Counted us n) parts
    → map (measure us) (map (replaced us) parts) ≡ map (measure us) parts
parts_kept us n keeps [] sound counted = refl
parts_kept us n keeps (part ∷ parts) sound counted =
    λ i. keeps part sound.0.sound counted.0 i ∷ parts_kept us n keeps parts sound.1 counted.1 i

layer_kept : (us : Units) (n : ℕ) → Keeps us n → (whole : Ty) (layer : Ty-F Ty) → SoundLayer us whole layer → CountedParts us n layer
    → measure us whole ≡ layer_measure us layer
layer_kept us n keeps whole Ty-F.Void is counted = made_measure us whole ty.Void Ty-F.Void is outs-Void
layer_kept us n keeps whole (Ty-F.Int width) is counted = made_measure us whole (ty.Int width) (Ty-F.Int width) is (outs-Int width)
layer_kept us n keeps whole Ty-F.Ptr is counted = made_measure us whole ty.Ptr Ty-F.Ptr is outs-Ptr
layer_kept us n keeps whole (Ty-F.Array count part) is counted =
    made_measure us whole (ty.Array count (replaced us part)) (Ty-F.Array count (replaced us part)) is.0 (outs-Array count (replaced us part))
    ∙ ap (array_measure count) (keeps part is.2.sound counted)
layer_kept us n keeps whole (Ty-F.Struct parts) is counted =
    made_measure us whole (ty.Struct (map (replaced us) parts)) (Ty-F.Struct (map (replaced us) parts)) is.0 (outs-Struct (map (replaced us) parts))
    ∙ ap (λ ms. struct_measure (parts_measure (single 0 1) ms)) (parts_kept us n keeps parts is.1 counted)
layer_kept us n keeps whole _ is counted = absurd is

keeps_within : (us : Units) → IsFile us → (n : ℕ) → Keeps us n
keeps_within us of zero type sound own = counted_none us of type sound own
keeps_within us of (suc n) type sound own =
    let own_head = sound_head us of type sound in
    let known = own_head.known in
    layer_kept us n (keeps_within us of n) (replaced us type) (out-Ty known) own_head.layer (counted_parts us of n type sound own known own_head.is)
    ∙ sym (measure_opened us known) ∙ head_takes us of own.m type sound own.takes known own_head.is ∙ sym own.takes

pub replaced_measure : (us : Units) → IsFile us → (type : Ty) → IsSound us type → measure us (replaced us type) ≡ measure us type
replaced_measure us of type sound = keeps_within us of 4096 type sound (counted_most us of type sound)

-- it takes the place of what is written
pub replaced_align : (us : Units) → IsFile us → (type : Ty) → IsSound us type → align us (replaced us type) ≡ align us type
replaced_align us of type sound = ap align_in (replaced_measure us of type sound)
