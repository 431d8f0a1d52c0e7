-- The layout of a type with its names replaced is the type's measure.
use Rattle.std.proofs.Common.{◌≡◌, refl, ◌∙◌, ap, sym, subst, ℕ, zero, suc, ◌+◌, ◌*◌, ◌^◌, ◌≤◌, max, Bool, true, false, nat_le, List, [], ◌∷◌, map, Option, Some, None, arith}
use Rattle.std.specs.List.{list_all, list_any}
use Rattle.std.specs.Int.{next_multiple_of}
use Rattle.ltt_base.specs.declared.refusal.Code.TheVariants.{E06}
use Rattle.ir_values.specs.declared.types.Ty as ty
use Rattle.ir_values.specs.declared.types.Ty.{Ty, out-Ty, fold_out-Ty, fold-roll-Ty, map-Ty}
use Rattle.ir_values.specs.declared.types.Ty.TheOpen.{Ty-F}
use Rattle.ir_values.specs.declared.types.Ty.TheVariants.{rolls-Struct, rolls-Array}
use Rattle.ir_numbers.specs.Layout.{Layout, width_bytes, layout, layout_step, end_of, greatest_align, struct_layout}
use Rattle.ir_numbers.specs.Layout as layouts
use Rattle.check_names.specs.Flaws.{each, when}
use Rattle.check_types.specs.Heads.{head}
use Rattle.check_types.specs.Measures.{Measure, measure_of, single, parts_measure, measure}
use Rattle.check_types.specs.Replaced.{layer_replaced, head_replaced, replaced_within}
use Rattle.check_types.specs.Written.{written, part_flaw, is_void, is_void_head}
use Rattle.sized_modules.specs.Written.{has_pair}
use Rattle.sized_modules.proofs.FlawLemmas.{none_first, none_second, unbroken, neither_first, neither_second, clash}
use Rattle.sized_modules.proofs.HeadLemmas.{ArePlain, Takes, Layer, HasHead, is_known, opened, has_head, void_is}
use Rattle.sized_modules.proofs.LimitLemmas.{Within, array_of, struct_of, started, ended, grows}
use Rattle.sized_modules.proofs.UnitLemmas.{Units}

-- a layout as a measure tells it
abbrev pub laid : Measure → Layout
laid m = record { size = m.size; align = m.align; is_laid = true }

layout-array : (count : ℕ) (part : Ty) → layout (ty.Array count part) ≡ layout_step (Ty-F.Array count (layout part))
layout-array count part = ap layout (sym (rolls-Array count part)) ∙ fold-roll-Ty Layout (λ x. layout_step x) (Ty-F.Array count part)

layout-struct : (parts : List Ty) → layout (ty.Struct parts) ≡ layout_step (Ty-F.Struct (map layout parts))
layout-struct parts = ap layout (sym (rolls-Struct parts)) ∙ fold-roll-Ty Layout (λ x. layout_step x) (Ty-F.Struct parts)

-- what is within the limits of a measure is within those of a layout
laid_within : (count size align : ℕ) (m : Measure) → Within count size align m → layouts.within size align true ≡ laid m
laid_within count size align m limits =
    let small : nat_le size (2 ^ 27) ≡ true = let less = limits.size_most in grind arith in
    ap (λ b. record { size = size; align = align; is_laid = b }) small ∙ ap laid limits.is

-- parts end where their measure tells
record Ended (before after : Measure) (parts : List Layout) : Type 0 where
  size : end_of before.size parts ≡ after.size
  align : greatest_align before.align parts ≡ after.align
  are_laid : list_all (λ part. part.is_laid) parts ≡ true

ended_more : (before after one : Measure) (part : Layout) (parts : List Layout) → part ≡ laid one
    → Ended (measure_of (before.count + one.count) (next_multiple_of before.size one.align + one.size) (max before.align one.align)) after parts
    → Ended before after (part ∷ parts)
ended_more before after one part parts is rest =
    subst (λ l. Ended before after (l ∷ parts)) (sym is) (record { size = rest.size; align = rest.align; are_laid = rest.are_laid })

layout_scalar : (known : Ty) (layer : Ty-F Ty) → out-Ty known ≡ layer → layout known ≡ layout_step (map-Ty Ty Layout layout layer)
layout_scalar known layer is = fold_out-Ty Layout layout_step known ∙ ap (λ l. layout_step (map-Ty Ty Layout layout l)) is

-- how many types are in a known one
pub record Bounded (m : Measure) : Type 0 where
  pub least : 1 ≤ m.count
  pub most : m.count ≤ 4096

bounded_one : (m : Measure) (size align : ℕ) → single size align ≡ Some m → Bounded m
bounded_one m size align is = let one : m.count ≡ 1 = grind arith in record { least = omega (arith, one); most = omega (arith, one) }

bounded_within : (count size align : ℕ) (m : Measure) → Within count size align m → 1 ≤ count → Bounded m
bounded_within count size align m limits some =
    let same : count ≡ m.count = ap (λ m. m.count) limits.is in
    let most = limits.count_most in
    record { least = omega (arith, same, some); most = omega (arith, same, most) }

module _ (output : Bool) where
  -- a function lays out each type of so many types at most
  abbrev Lays : Units → (Ty → Ty) → ℕ → Type 0
  Lays us f n = (ty : Ty) (m : Measure) → Takes output us m ty → is_void_head (head us ty) ≡ false → m.count ≤ n → layout (f ty) ≡ laid m

  -- a part whose own flaws and place are none
  record Part (us : Units) (part : Ty) : Type 0 where
    clean : (written output us false part).flaw ≡ None
    unvoid : is_void_head (head us part) ≡ false

  part_of : (us : Units) (part : Ty) → part_flaw false (written output us false part) ≡ None → Part us part
  part_of us part none =
      let own = written output us false part in
      record {
        clean = none_first own.flaw (when own.void E06) none;
        unvoid = void_is output us part ∙ unbroken own.void E06 (none_second own.flaw (when own.void E06) none);
      }

  laid_part : (us : Units) (f : Ty → Ty) (n : ℕ) → Lays us f n → (part : Ty) (m : Measure) → part_flaw false (written output us false part) ≡ None
      → has_pair part ≡ false → measure us part ≡ Some m → m.count ≤ n → layout (f part) ≡ laid m
  laid_part us f n lays part m none plain takes few =
      let own = part_of us part none in
      lays part m (record { plain = record { clean = own.clean; plain = plain }; takes = takes }) own.unvoid few

  laid_array : (us : Units) (f : Ty → Ty) (n : ℕ) → Lays us f n → (count : ℕ) (part : Ty) (m : Measure) → Layer output us m (Ty-F.Array count part)
      → m.count ≤ suc n → layout (ty.Array count (f part)) ≡ laid m
  laid_array us f n lays count part m layer few =
      let array = array_of count (measure us part) m layer.takes in
      let counted : array.one.count + 1 ≡ m.count = ap (λ m. m.count) array.limits.is in
      let own = laid_part us f n lays part array.one layer.clean layer.plain array.is (omega (arith, counted, few)) in
      layout-array count (f part) ∙ ap (λ l. layout_step (Ty-F.Array count l)) own
      ∙ laid_within (array.one.count + 1) (count * array.one.size) array.one.align m array.limits

  laid_parts : (us : Units) (f : Ty → Ty) (n : ℕ) → Lays us f n → (parts : List Ty) (before after : Measure)
      → each (part_flaw false) (map (written output us false) parts) ≡ None → list_any (λ p. p) (map has_pair parts) ≡ false
      → parts_measure (Some before) (map (measure us) parts) ≡ Some after → 1 ≤ before.count → after.count ≤ suc n
      → Ended before after (map layout (map f parts))
  laid_parts us f n lays [] before after none plain takes least most =
      let same = ended before after takes in
      record { size = ap (λ m. m.size) same; align = ap (λ m. m.align) same; are_laid = refl }
  laid_parts us f n lays (part ∷ parts) before after none plain takes least most =
      let start = started before (measure us part) (map (measure us) parts) after takes in
      let behind : Measure =
      measure_of (before.count + start.one.count) (next_multiple_of before.size start.one.align + start.one.size) (max before.align start.one.align) in
      let more = grows (map (measure us) parts) behind after start.behind in
      let first_flaw = part_flaw false (written output us false part) in
      let rest_flaw = each (part_flaw false) (map (written output us false) parts) in
      let rest_plain = list_any (λ p. p) (map has_pair parts) in
      let own = laid_part us f n lays part start.one (none_first first_flaw rest_flaw none) (neither_first (has_pair part) rest_plain plain) start.is
      (omega (arith, more, least, most)) in
      let rest = laid_parts us f n lays parts behind after (none_second first_flaw rest_flaw none) (neither_second (has_pair part) rest_plain plain) start.behind
      (omega (arith, least)) most in
      ended_more before after start.one (layout (f part)) (map layout (map f parts)) own rest

  laid_struct : (us : Units) (f : Ty → Ty) (n : ℕ) → Lays us f n → (parts : List Ty) (m : Measure) → Layer output us m (Ty-F.Struct parts)
      → m.count ≤ suc n → layout (ty.Struct (map f parts)) ≡ laid m
  laid_struct us f n lays parts m layer few =
      let struct = struct_of (parts_measure (single 0 1) (map (measure us) parts)) m layer.takes in
      let counted : struct.all.count ≡ m.count = ap (λ m. m.count) struct.limits.is in
      let all = laid_parts us f n lays parts (measure_of 1 0 1) struct.all layer.clean layer.plain struct.is (omega arith) (omega (arith, counted, few)) in
      let size = next_multiple_of struct.all.size struct.all.align in
      let own = map layout (map f parts) in
      layout-struct (map f parts)
      ∙ ap (layouts.within (next_multiple_of (end_of 0 own) (greatest_align 1 own)) (greatest_align 1 own)) all.are_laid
      ∙ ap (λ a. layouts.within (next_multiple_of (end_of 0 own) a) a true) all.align
      ∙ ap (λ e. layouts.within (next_multiple_of e struct.all.align) struct.all.align true) all.size
      ∙ laid_within struct.all.count size struct.all.align m struct.limits

  -- a known type that isn't `void`, with its parts replaced
  laid_layer : (us : Units) (f : Ty → Ty) (n : ℕ) → Lays us f n → (known : Ty) (m : Measure) (layer : Ty-F Ty) → out-Ty known ≡ layer → Layer output us m layer
      → is_void layer ≡ false → is_known layer ≡ true → m.count ≤ suc n → layout (layer_replaced f known layer) ≡ laid m
  laid_layer us f n lays known m Ty-F.Void is layer unvoid seen few = clash true refl unvoid
  laid_layer us f n lays known m (Ty-F.Int width) is layer unvoid seen few =
      let same : measure_of 1 (width_bytes width) (width_bytes width) ≡ m = let takes = layer.takes in grind arith in
      layout_scalar known (Ty-F.Int width) is ∙ ap laid same
  laid_layer us f n lays known m Ty-F.Ptr is layer unvoid seen few =
      let same : measure_of 1 8 8 ≡ m = let takes = layer.takes in grind arith in
      layout_scalar known Ty-F.Ptr is ∙ ap laid same
  laid_layer us f n lays known m Ty-F.Pair is layer unvoid seen few = clash true refl layer.plain
  laid_layer us f n lays known m (Ty-F.Array count part) is layer unvoid seen few = laid_array us f n lays count part m layer few
  laid_layer us f n lays known m (Ty-F.Struct parts) is layer unvoid seen few = laid_struct us f n lays parts m layer few
  laid_layer us f n lays known m (Ty-F.Named name) is layer unvoid seen few = clash false seen refl
  laid_layer us f n lays known m (Ty-F.Left text) is layer unvoid seen few = clash false seen refl

  laid_head : (us : Units) (f : Ty → Ty) (n : ℕ) → Lays us f n → (own : Ty) (m : Measure) (known : Option Ty) → HasHead output us m known
      → is_void_head known ≡ false → m.count ≤ suc n → layout (head_replaced f own known) ≡ laid m
  laid_head us f n lays own m None has unvoid few = absurd has
  laid_head us f n lays own m (Some known) has unvoid few =
      laid_layer us f n lays known m (out-Ty known) refl (opened output us m known (out-Ty known) refl has.takes) unvoid has.known few

  bounded_layer : (us : Units) (m : Measure) (layer : Ty-F Ty) → is_known layer ≡ true → Layer output us m layer → Bounded m
  bounded_layer us m Ty-F.Void seen layer = bounded_one m 0 1 layer.takes
  bounded_layer us m (Ty-F.Int width) seen layer = bounded_one m (width_bytes width) (width_bytes width) layer.takes
  bounded_layer us m Ty-F.Ptr seen layer = bounded_one m 8 8 layer.takes
  bounded_layer us m Ty-F.Pair seen layer = bounded_one m 0 1 layer.takes
  bounded_layer us m (Ty-F.Array count part) seen layer =
      let array = array_of count (measure us part) m layer.takes in
      bounded_within (array.one.count + 1) (count * array.one.size) array.one.align m array.limits (omega arith)
  bounded_layer us m (Ty-F.Struct parts) seen layer =
      let struct = struct_of (parts_measure (single 0 1) (map (measure us) parts)) m layer.takes in
      let more = grows (map (measure us) parts) (measure_of 1 0 1) struct.all struct.is in
      bounded_within struct.all.count (next_multiple_of struct.all.size struct.all.align) struct.all.align m struct.limits (omega (arith, more))
  bounded_layer us m (Ty-F.Named name) seen layer = clash false seen refl
  bounded_layer us m (Ty-F.Left text) seen layer = clash false seen refl

  bounded_head : (us : Units) (m : Measure) (known : Option Ty) → HasHead output us m known → Bounded m
  bounded_head us m None has = absurd has
  bounded_head us m (Some known) has = bounded_layer us m (out-Ty known) has.known (opened output us m known (out-Ty known) refl has.takes)

  pub bounded : (us : Units) (m : Measure) → ArePlain output us → (own : Ty) → Takes output us m own → Bounded m
  bounded us m plain own takes = bounded_head us m (head us own) (has_head output us m plain own takes)

  -- so many levels are enough for a type of no more types
  pub lays_within : (us : Units) → ArePlain output us → (n : ℕ) → Lays us (replaced_within us n) n
  unfolding replaced_within
  lays_within us plain zero own m takes unvoid few =
      let least = (bounded us m plain own takes).least in absurd (omega (arith, least, few))
  lays_within us plain (suc n) own m takes unvoid few =
      laid_head us (replaced_within us n) n (lays_within us plain n) own m (head us own) (has_head output us m plain own takes) unvoid few
