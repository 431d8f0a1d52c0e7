-- What is found of a constant, by its outermost layer, and constants of one level that are kept.
use Rattle.std.proofs.Common.{◌≡◌, refl, sym, ap, subst, ◌∙◌, ℕ, suc, ◌-◌, ◌%◌, ◌^◌, ◌<◌, nat_eq, nat_le, nat_lt, Bool, true, false, cond, List, map, Option, Some, None, is_none, arith}
use Rattle.std.proofs.Math.Nat.{mod-lt}
use Rattle.std.proofs.lemmas.Option.{cond_some}
use Rattle.std.proofs.lemmas.Bool.Decides.{nat_tests}
use Rattle.ltt_base.specs.declared.refusal.Code.TheVariants.{E06, E07}
use Rattle.ir_values.specs.declared.types.Width.{Width}
use Rattle.ir_values.specs.declared.types.Width.TheVariants.{W1, W8, W16, W32, W64}
use Rattle.ir_values.specs.declared.types.Ty.{Ty, out-Ty}
use Rattle.ir_values.specs.declared.types.Ty.TheVariants.{outs-Int as outs-Integer, outs-Ptr, outs-Array as outs-Elements, outs-Struct as outs-Fields}
use Rattle.ir_values.specs.declared.types.Ty.TheOpen.{Ty-F}
use Rattle.ir_values.specs.declared.constants.Const.{Const, out-Const, map-Const, fold_out-Const}
use Rattle.ir_values.specs.declared.constants.Const.TheVariants as const
use Rattle.ir_values.specs.declared.constants.Const.TheVariants.{outs-Int, outs-Null, outs-Addr, outs-Zero, outs-Number}
use Rattle.ir_values.specs.declared.constants.Const.TheOpen.{Const-F}
use Rattle.ir_values.specs.declared.constants.Operand.{Operand}
use Rattle.ir_numbers.specs.Numbers.{bits}
use Rattle.check_names.specs.Flaws.{when, worded_when}
use Rattle.check_types.specs.declared.places.Allowed.TheVariants.{NonVoid}
use Rattle.check_types.specs.Replaced.{replaced}
use Rattle.check_types.specs.Written.{is_void, is_pointer}
use Rattle.check_constants.specs.Numbers.{is_number, is_negative, magnitude, held, number_in}
use Rattle.check_constants.specs.Addresses.{number_at}
use Rattle.check_constants.specs.Keeping.{layer_zero, number_kept, kept_step}
use Rattle.check_constants.specs.Shapes.{is_other, is_width}
use Rattle.check_constants.specs.Rules.{left_constant_word, flaw_step}
use Rattle.check_constants.specs.Weighed.{Weighed}
use Rattle.check_constants.specs.Constants.{const_step, operand_step, weighed, operand_weighed}
use Rattle.check_constants.specs.Judged.{constant_flaw}
use Rattle.check_constants.specs.Kept.{kept}
use Rattle.printed_units.specs.Written.{IsAddress, ConstLayer, IsConstWithin}
use Rattle.printed_modules.specs.Printed.{KeptLayer, IsKeptWithin}
use Rattle.sized_modules.proofs.FlawLemmas.{unbroken, holds}
use Rattle.sized_modules.proofs.UnitLemmas.{Units}
use Rattle.clean_outputs.proofs.TypeLemmas.{SoundLayer}

-- can be printed at a type, and is in its one form
abbrev pub IsGoodWithin : ℕ → Ty → Const → Type 0
IsGoodWithin n type constant = IsConstWithin n type constant × IsKeptWithin n constant

-- a layer with what is found of its parts
abbrev pub found_in : Const-F Const Operand → Const-F Weighed Weighed
found_in layer = map-Const Const Operand Weighed Weighed weighed operand_weighed layer

pub weighed_out : (constant : Const) (layer : Const-F Const Operand) → out-Const constant ≡ layer
    → weighed constant ≡ const_step (found_in layer)
weighed_out constant layer opens =
    fold_out-Const Weighed Weighed const_step operand_step constant ∙ ap (λ l. const_step (found_in l)) opens

pub kept_out : (us : Units) (at : Option Ty) (constant : Const) (layer : Const-F Const Operand) → out-Const constant ≡ layer
    → kept us at constant ≡ kept_step us at (found_in layer)
kept_out us at constant layer opens = ap (λ w. w.kept us at) (weighed_out constant layer opens)

pub flaw_out : (us : Units) (at : Option Ty) (constant : Const) (layer : Const-F Const Operand) → out-Const constant ≡ layer
    → constant_flaw true us false at constant ≡ None → flaw_step true us false NonVoid at (found_in layer) ≡ None
flaw_out us at constant layer opens none =
    ap (λ w. w.flaw true us false NonVoid at) (sym (weighed_out constant layer opens)) ∙ none

-- a constant whose layer is told, at a type whose layer is told
pub made_good : (n : ℕ) (whole : Ty) (constant : Const) (shape : Ty-F Ty) (layer : Const-F Const Operand) → out-Ty whole ≡ shape
    → out-Const constant ≡ layer → ConstLayer n (IsConstWithin n) whole shape layer → KeptLayer (IsKeptWithin n) layer
    → IsGoodWithin (suc n) whole constant
made_good n whole constant shape layer shaped opens is kept_is = (
  subst (λ s. ConstLayer n (IsConstWithin n) whole s (out-Const constant)) (sym shaped)
      (subst (λ l. ConstLayer n (IsConstWithin n) whole shape l) (sym opens) is),
  subst (KeptLayer (IsKeptWithin n)) (sym opens) kept_is,
)

-- a known type passes the test that it isn't other than
pub tested : (test : Ty-F Ty → Bool) (at : Option Ty) (known : Ty) → at ≡ Some known → is_other test at ≡ false
    → test (out-Ty known) ≡ true
tested test at known is none = holds (test (out-Ty known)) (ap (is_other test) (sym is) ∙ none)

width_same : (one other : Width) → nat_eq (bits one) (bits other) ≡ true → one ≡ other
width_same W1 W1 same = refl
width_same W8 W8 same = refl
width_same W16 W16 same = refl
width_same W32 W32 same = refl
width_same W64 W64 same = refl
width_same _ _ same = absurd (grind arith)

-- numbers

pub number_good : (us : Units) (n : ℕ) (whole : Ty) (width : Width) (value : ℕ) (shape : Ty-F Ty) → SoundLayer us whole shape
    → is_width width shape ≡ true → value < 2 ^ bits width → IsGoodWithin (suc n) whole (const.Int width value)
number_good us n whole width value (Ty-F.Int own) sound same small =
    made_good n whole (const.Int width value) (Ty-F.Int own) (Const-F.Int width value) (ap out-Ty sound ∙ outs-Integer own)
    (outs-Int width value) (sym (width_same width own same), small) tt
number_good us n whole width value _ sound same small = absurd (grind arith)

pub address_number_good : (us : Units) (n : ℕ) (whole : Ty) (name : List ℕ) (offset : ℕ) (shape : Ty-F Ty) → SoundLayer us whole shape
    → is_width W64 shape ≡ true → IsAddress n name offset → IsGoodWithin (suc n) whole (const.Number name offset)
address_number_good us n whole name offset (Ty-F.Int own) sound same is =
    made_good n whole (const.Number name offset) (Ty-F.Int own) (Const-F.Number name offset) (ap out-Ty sound ∙ outs-Integer own)
    (outs-Number name offset) (sym (width_same W64 own same), is) tt
address_number_good us n whole name offset _ sound same is = absurd (grind arith)

-- pointers

pub null_good : (us : Units) (n : ℕ) (whole : Ty) (shape : Ty-F Ty) → SoundLayer us whole shape → is_pointer shape ≡ true
    → IsGoodWithin (suc n) whole const.Null
null_good us n whole Ty-F.Ptr sound same =
    made_good n whole const.Null Ty-F.Ptr Const-F.Null (ap out-Ty sound ∙ outs-Ptr) outs-Null tt tt
null_good us n whole _ sound same = absurd (grind arith)

pub address_good : (us : Units) (n : ℕ) (whole : Ty) (name : List ℕ) (offset : ℕ) (shape : Ty-F Ty) → SoundLayer us whole shape
    → is_pointer shape ≡ true → IsAddress (suc n) name offset → IsGoodWithin (suc n) whole (const.Addr name offset)
address_good us n whole name offset Ty-F.Ptr sound same is =
    made_good n whole (const.Addr name offset) Ty-F.Ptr (Const-F.Addr name offset) (ap out-Ty sound ∙ outs-Ptr) (outs-Addr name offset) is tt
address_good us n whole name offset _ sound same is = absurd (grind arith)

-- zeros

bits_hold_zero : (width : Width) → 0 < 2 ^ bits width
bits_hold_zero W1 = omega arith
bits_hold_zero W8 = omega arith
bits_hold_zero W16 = omega arith
bits_hold_zero W32 = omega arith
bits_hold_zero W64 = omega arith

pub zero_good : (us : Units) (n : ℕ) (whole : Ty) (shape : Ty-F Ty) → SoundLayer us whole shape → is_void shape ≡ false
    → IsGoodWithin (suc n) whole (layer_zero whole shape)
zero_good us n whole Ty-F.Void sound unvoid = absurd (grind arith)
zero_good us n whole (Ty-F.Int width) sound unvoid =
    made_good n whole (const.Int width 0) (Ty-F.Int width) (Const-F.Int width 0) (ap out-Ty sound ∙ outs-Integer width) (outs-Int width 0)
    (refl, bits_hold_zero width) tt
zero_good us n whole Ty-F.Ptr sound unvoid =
    made_good n whole const.Null Ty-F.Ptr Const-F.Null (ap out-Ty sound ∙ outs-Ptr) outs-Null tt tt
zero_good us n whole (Ty-F.Array count part) sound unvoid =
    made_good n whole (const.Zero whole) (Ty-F.Array count (replaced us part)) (Const-F.Zero whole)
    (ap out-Ty sound.0 ∙ outs-Elements count (replaced us part)) (outs-Zero whole) refl tt
zero_good us n whole (Ty-F.Struct parts) sound unvoid =
    made_good n whole (const.Zero whole) (Ty-F.Struct (map (replaced us) parts)) (Const-F.Zero whole)
    (ap out-Ty sound.0 ∙ outs-Fields (map (replaced us) parts)) (outs-Zero whole) refl tt
zero_good us n whole _ sound unvoid = absurd sound

-- numbers by their texts

held_small : (k : ℕ) (negative : Bool) (n m : ℕ) → 0 < 2 ^ k → held k negative n ≡ Some m → m < 2 ^ k
held_small k true n m some is =
    let made = (cond_some (nat_le n (2 ^ (k - 1))) ((2 ^ k - n) % 2 ^ k) m is).1 in
    subst (λ r. r < 2 ^ k) made (mod-lt (2 ^ k - n) some)
held_small k false n m some is =
    let both = cond_some (nat_lt n (2 ^ k)) n m is in
    subst (λ r. r < 2 ^ k) both.1 (below n (2 ^ k) both.0) where
      below : (a b : ℕ) → nat_lt a b ≡ true → a < b
      below a b less = grind (arith, nat_tests)

none_kept : (m : ℕ) → ◌≡◌ {A = Option ℕ} None (Some m) → ⊥
none_kept m is = grind arith

number_small : (width : Width) (text : List ℕ) (m : ℕ) → number_in width text ≡ Some m → m < 2 ^ bits width
unfolding number_in
number_small width text m is = choice (is_number text) is where
  choice : (number : Bool) → cond number (held (bits width) (is_negative text) (magnitude text)) None ≡ Some m → m < 2 ^ bits width
  choice true own = held_small (bits width) (is_negative text) (magnitude text) m (bits_hold_zero width) own
  choice false own = absurd (none_kept m own)

number_found : (number : Bool) (found : Option ℕ) (word : List ℕ)
    → cond number (when (is_none found) E06) (worded_when true E07 word) ≡ None → is_none found ≡ false
number_found true found word none = unbroken (is_none found) E06 none
number_found false found word none = absurd (grind arith)

text_good : (us : Units) (n : ℕ) (whole : Ty) (width : Width) (text : List ℕ) (found : Option ℕ) → SoundLayer us whole (Ty-F.Int width)
    → number_in width text ≡ found → is_none found ≡ false → IsGoodWithin (suc n) whole (number_kept text (Ty-F.Int width) found)
text_good us n whole width text None sound is some = absurd (grind arith)
text_good us n whole width text (Some m) sound is some =
    number_good us n whole width m (Ty-F.Int width) sound (same (bits width)) (number_small width text m is) where
      same : (k : ℕ) → nat_eq k k ≡ true
      same k = grind (arith, nat_tests)

pub left_good : (us : Units) (n : ℕ) (whole : Ty) (text : List ℕ) (shape : Ty-F Ty) → SoundLayer us whole shape
    → cond (is_number text) (when (is_none (number_at shape text)) E06) (worded_when true E07 (left_constant_word text)) ≡ None
    → IsGoodWithin (suc n) whole (number_kept text shape (number_at shape text))
left_good us n whole text (Ty-F.Int width) sound none =
    text_good us n whole width text (number_in width text) sound refl
    (number_found (is_number text) (number_in width text) (left_constant_word text) none)
left_good us n whole text _ sound none = absurd (grind (arith, number_found (is_number text) None (left_constant_word text) none))
