-- The slot of a combined variable holds the bytes of its object.
use Rattle.std.proofs.Common.{◌≡◌, ℕ, ◌+◌, ◌-◌, ◌*◌, ◌/◌, ◌^◌, ◌≤◌, true, List, [], ◌∷◌, refl, sym, ap, subst, ◌∙◌, arith, zero, suc, map}
use Rattle.std.proofs.lemmas.Bool.Decides.{nat_tests}
use Rattle.std.proofs.Math.Nat.{pow-succ'}
use Rattle.std.specs.Prelude.{nat_le, if◌then◌else◌}
use Rattle.ir_values.specs.declared.types.Width.{Width}
use Rattle.ir_values.specs.declared.types.Width.TheVariants.{W8, W64}
use Rattle.ir_values.specs.declared.types.Ty as ty
use Rattle.ir_values.specs.declared.types.Ty.{Ty, fold-roll-Ty}
use Rattle.ir_values.specs.declared.types.Ty.TheOpen.{Ty-F}
use Rattle.ir_values.specs.declared.types.Ty.TheVariants.{rolls-Struct, rolls-Array, rolls-Int}
use Rattle.test_lowering.specs.Rewriting.{doubled_to, power_above, pad, gap_types}
use Rattle.ir_numbers.specs.Layout.{Layout, layout, layout_step, within}
use Rattle.type_metadata.specs.Sizes.{size_of}

twice : (doublings p n : ℕ) → n ≤ p * 2 ^ suc doublings → n ≤ 2 * p * 2 ^ doublings
twice doublings p n below = let h = rw (pow-succ' 2 doublings) at below in omega (arith, h)

doubled_reaches : (doublings p n : ℕ) → n ≤ p * 2 ^ doublings → n ≤ doubled_to doublings p n
unfolding doubled_to
doubled_reaches zero p n below = omega (arith, below)
doubled_reaches (suc doublings) p n below =
    let next : n ≤ doubled_to doublings (2 * p) n = doubled_reaches doublings (2 * p) n (twice doublings p n below) in
    grind (arith, nat_tests)

layout-array : (count : ℕ) (part : Ty) → layout (ty.Array count part) ≡ layout_step (Ty-F.Array count (layout part))
layout-array count part = ap layout (sym (rolls-Array count part)) ∙ fold-roll-Ty Layout (λ x. layout_step x) (Ty-F.Array count part)

layout-int : (width : Width) → layout (ty.Int width) ≡ layout_step (Ty-F.Int width)
layout-int width = ap layout (sym (rolls-Int width)) ∙ fold-roll-Ty Layout (λ x. layout_step x) (Ty-F.Int width)

layout-struct : (parts : List Ty) → layout (ty.Struct parts) ≡ layout_step (Ty-F.Struct (map layout parts))
layout-struct parts = ap layout (sym (rolls-Struct parts)) ∙ fold-roll-Ty Layout (λ x. layout_step x) (Ty-F.Struct parts)

pub size-words : (count : ℕ) → layout (ty.Array count (ty.Int W64)) ≡ within (count * 8) 8 true
size-words count = layout-array count (ty.Int W64) ∙ rw (layout-int W64) refl

size-bytes : (count : ℕ) → layout (ty.Array count (ty.Int W8)) ≡ within (count * 1) 1 true
size-bytes count = layout-array count (ty.Int W8) ∙ rw (layout-int W8) refl

layout-combined : (count gap : ℕ) → layout (ty.Struct (ty.Array count (ty.Int W64) ∷ ty.Array gap (ty.Int W8) ∷ []))
    ≡ layout_step (Ty-F.Struct (within (count * 8) 8 true ∷ within (gap * 1) 1 true ∷ []))
layout-combined count gap =
    layout-struct (ty.Array count (ty.Int W64) ∷ ty.Array gap (ty.Int W8) ∷ [])
    ∙ ap (λ (parts : List Layout). layout_step (Ty-F.Struct parts))
    (ap (λ (first : Layout). first ∷ layout (ty.Array gap (ty.Int W8)) ∷ []) (size-words count)
    ∙ ap (λ (second : Layout). within (count * 8) 8 true ∷ second ∷ []) (size-bytes gap))

pub layout-alone : (count : ℕ) → layout (ty.Struct (ty.Array count (ty.Int W64) ∷ []))
    ≡ layout_step (Ty-F.Struct (within (count * 8) 8 true ∷ []))
layout-alone count =
    layout-struct (ty.Array count (ty.Int W64) ∷ [])
    ∙ ap (λ (first : Layout). layout_step (Ty-F.Struct (first ∷ []))) (size-words count)

pub size-combined : (count gap : ℕ) → count * 8 + gap ≤ size_of (ty.Struct (ty.Array count (ty.Int W64) ∷ gap_types gap))
size-combined count zero = subst (λ (l : Layout). count * 8 + 0 ≤ l.size) (sym (layout-alone count)) (omega arith)
size-combined count (suc gap) = subst (λ (l : Layout). count * 8 + suc gap ≤ l.size) (sym (layout-combined count (suc gap))) (omega arith)

pub pad-reaches : (n : ℕ) → n ≤ 2 ^ 64 → n ≤ pad n
pad-reaches n below =
    let power : n ≤ power_above n = doubled_reaches 64 1 n (omega arith) in
    pad_cases (power_above n) power where
      pad_cases : (power : ℕ) → n ≤ power → n ≤ (if nat_le power (n + 32) then power else (n + 31) / 32 * 32)
      pad_cases power above = grind (arith, nat_tests)
