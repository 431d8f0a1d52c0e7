-- Types that don't differ stand for the same.
use Rattle.std.proofs.Common.{◌≡◌, refl, ◌∙◌, ap, sym, ℕ, zero, suc, nat_eq, Bool, true, false, not, ◌&&◌, List, [], ◌∷◌, map, arith}
use Rattle.std.specs.List.{AllByRecursion}
use Rattle.std.proofs.lemmas.Bool.Decides.{nat_tests}
use Rattle.ir_numbers.specs.Numbers.{bits}
use Rattle.ir_values.specs.declared.types.Width.{Width}
use Rattle.ir_values.specs.declared.types.Width.TheVariants.{W1, W8, W16, W32, W64}
use Rattle.ir_values.specs.declared.types.Ty.{Ty, out-Ty}
use Rattle.ir_values.specs.declared.types.Ty.TheVariants as ty
use Rattle.ir_values.specs.declared.types.Ty.TheOpen.{Ty-F}
use Rattle.check_types.specs.Differences.{lists_differ, layers_differ, heads_differ, differ_within, differ}
use Rattle.check_types.specs.Heads.{head}
use Rattle.check_types.specs.Measures.{is_past}
use Rattle.check_types.specs.Replaced.{replaced}
use Rattle.sized_modules.proofs.FlawLemmas.{neither_first, neither_second, holds}
use Rattle.sized_modules.proofs.UnitLemmas.{Units}
use Rattle.clean_outputs.proofs.FileLemmas.{IsFile}
use Rattle.clean_outputs.proofs.TypeLemmas.{IsSound, IsSoundPart, SoundLayer, sound_head}
use Rattle.clean_outputs.proofs.CountLemmas.{Counted, CountedParts, counted_parts, counted_none, counted_most}

-- widths of as many bits are the same
same_bits : (one other : Width) → nat_eq (bits one) (bits other) ≡ true → one ≡ other
same_bits W1 W1 is = refl
same_bits W8 W8 is = refl
same_bits W16 W16 is = refl
same_bits W32 W32 is = refl
same_bits W64 W64 is = refl
same_bits _ _ is = absurd (grind arith)

same_number : (one other : ℕ) → nat_eq one other ≡ true → one ≡ other
same_number one other is = grind (arith, nat_tests)

-- sound types, one of so many types at most, stand for the same where they don't differ
abbrev Agrees : Units → ℕ → Type 0
Agrees us n = (one other : Ty) → IsSound us one → IsSound us other → Counted us n one → differ_within us n one other ≡ false
    → replaced us one ≡ replaced us other

same_parts : (us : Units) (n : ℕ) → Agrees us n → (ones others : List Ty) → AllByRecursion (IsSoundPart us) ones → AllByRecursion
    (IsSoundPart us) others
    → AllByRecursion (Counted us n) ones → lists_differ (differ_within us n) ones others ≡ false → map (replaced us) ones ≡ map (replaced us) others
same_parts us n agrees [] [] sound also counted same = refl
same_parts us n agrees (one ∷ ones) (other ∷ others) sound also counted same =
    let part = differ_within us n one other in
    let rest = lists_differ (differ_within us n) ones others in
    let first : replaced us one ≡ replaced us other = agrees one other sound.0.sound also.0.sound counted.0 (neither_first part rest same) in
    let behind : map (replaced us) ones ≡ map (replaced us) others =
    same_parts us n agrees ones others sound.1 also.1 counted.1 (neither_second part rest same) in
    λ i. first i ∷ behind i
same_parts us n agrees _ _ sound also counted same = absurd (grind arith)

module _ (us : Units) (n : ℕ) (agrees : Agrees us n) (whole also : Ty) where
  same_int : (width : Width) (layer : Ty-F Ty) → whole ≡ ty.Int width → SoundLayer us also layer
      → layers_differ (differ_within us n) (Ty-F.Int width) layer ≡ false → whole ≡ also
  same_int width (Ty-F.Int other) is so same =
      is ∙ ap ty.Int (same_bits width other (holds (nat_eq (bits width) (bits other)) same)) ∙ sym so
  same_int width _ is so same = absurd (grind arith)

  same_array : (many : ℕ) (part : Ty) (layer : Ty-F Ty) → SoundLayer us whole (Ty-F.Array many part) → Counted us n part → SoundLayer us also layer
      → layers_differ (differ_within us n) (Ty-F.Array many part) layer ≡ false → whole ≡ also
  same_array many part (Ty-F.Array few other) is counted so same =
      let uncounted = not (nat_eq many few) in
      let differs = differ_within us n part other in
      let number = same_number many few (holds (nat_eq many few) (neither_first uncounted differs same)) in
      let alike : replaced us part ≡ replaced us other = agrees part other is.2.sound so.2.sound counted (neither_second uncounted differs same) in
      is.0 ∙ ap (λ count. ty.Array count (replaced us part)) number ∙ ap (ty.Array few) alike ∙ sym so.0
  same_array many part _ is counted so same = absurd (grind arith)

  same_struct : (parts : List Ty) (layer : Ty-F Ty) → SoundLayer us whole (Ty-F.Struct parts) → AllByRecursion (Counted us n) parts
      → SoundLayer us also layer → layers_differ (differ_within us n) (Ty-F.Struct parts) layer ≡ false → whole ≡ also
  same_struct parts (Ty-F.Struct others) is counted so same =
      is.0 ∙ ap ty.Struct (same_parts us n agrees parts others is.1 so.1 counted same) ∙ sym so.0
  same_struct parts _ is counted so same = absurd (grind arith)

  same_layer : (one other : Ty-F Ty) → SoundLayer us whole one → CountedParts us n one → SoundLayer us also other
      → layers_differ (differ_within us n) one other ≡ false → whole ≡ also
  same_layer Ty-F.Void Ty-F.Void is counted so same = is ∙ sym so
  same_layer Ty-F.Void _ is counted so same = absurd (grind arith)
  same_layer (Ty-F.Int width) other is counted so same = same_int width other is so same
  same_layer Ty-F.Ptr Ty-F.Ptr is counted so same = is ∙ sym so
  same_layer Ty-F.Ptr _ is counted so same = absurd (grind arith)
  same_layer (Ty-F.Array many part) other is counted so same = same_array many part other is counted so same
  same_layer (Ty-F.Struct parts) other is counted so same = same_struct parts other is counted so same
  same_layer _ other is counted so same = absurd is

agrees_within : (us : Units) → IsFile us → (n : ℕ) → Agrees us n
unfolding differ_within
agrees_within us of zero one other sound also own same = counted_none us of one sound own
agrees_within us of (suc n) one other sound also own same =
    let first = sound_head us of one sound in
    let second = sound_head us of other also in
    let heads : heads_differ (differ_within us n) (head us one) (head us other) ≡ layers_differ (differ_within us n) (out-Ty first.known)
    (out-Ty second.known) =
    λ i. heads_differ (differ_within us n) (first.is i) (second.is i) in
    same_layer us n (agrees_within us of n) (replaced us one) (replaced us other) (out-Ty first.known) (out-Ty second.known) first.layer
    (counted_parts us of n one sound own first.known first.is) second.layer (sym heads ∙ same)

-- types within the limits differ in their parts alone
differ_rest : (past beyond differs : Bool) → past ≡ false → beyond ≡ false → (not past && not beyond) && differs ≡ false → differs ≡ false
differ_rest past beyond differs small less same = grind arith

pub same_replaced : (us : Units) → IsFile us → (one other : Ty) → IsSound us one → IsSound us other → differ us one other ≡ false
    → replaced us one ≡ replaced us other
unfolding differ
same_replaced us of one other sound also same =
    agrees_within us of 4096 one other sound also (counted_most us of one sound)
    (differ_rest (is_past us one) (is_past us other) (differ_within us 4096 one other) sound.small also.small same)
