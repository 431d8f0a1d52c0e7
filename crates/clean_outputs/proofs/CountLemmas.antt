-- How many types are written in the parts of a sound type.
use Rattle.std.proofs.Common.{◌≡◌, refl, ◌∙◌, ap, sym, subst, ℕ, zero, suc, ◌+◌, ◌≤◌, max, true, false, List, [], ◌∷◌, map, Option, Some, None, arith}
use Rattle.std.specs.Prelude.{is_none}
use Rattle.std.specs.List.{AllByRecursion}
use Rattle.std.specs.Int.{next_multiple_of}
use Rattle.ir_values.specs.declared.types.Ty.{Ty, out-Ty, map-Ty}
use Rattle.ir_values.specs.declared.types.Ty.TheOpen.{Ty-F}
use Rattle.check_types.specs.Heads.{head}
use Rattle.check_types.specs.Measures.{Measure, measure_of, single, parts_measure, measure_step, named_measure, measure}
use Rattle.sized_modules.proofs.HeadLemmas.{HasHead, has_head}
use Rattle.sized_modules.proofs.LayoutLemmas.{bounded}
use Rattle.sized_modules.proofs.LimitLemmas.{array_of, struct_of, started, grows}
use Rattle.sized_modules.proofs.UnitLemmas.{Units}
use Rattle.printed_modules.proofs.TypeKept.{measure_opened}
use Rattle.clean_outputs.proofs.FileLemmas.{IsFile}
use Rattle.clean_outputs.proofs.TypeLemmas.{IsSound}

-- a type in which so many types are written at most
pub record Counted (us : Units) (n : ℕ) (type : Ty) : Type 0 where
  pub m : Measure
  pub takes : measure us type ≡ Some m
  pub few : m.count ≤ n

-- the parts of a layer
abbrev pub CountedParts : Units → ℕ → Ty-F Ty → Type 0
CountedParts us n (Ty-F.Array count part) = Counted us n part
CountedParts us n (Ty-F.Struct parts) = AllByRecursion (Counted us n) parts
CountedParts us n _ = Unit {0}

-- what a layer takes
abbrev pub layer_measure : Units → Ty-F Ty → Option Measure
layer_measure us layer = measure_step (named_measure us) (map-Ty Ty (Option Measure) (measure us) layer)

-- the head of a sound type takes what the type does
pub head_takes : (us : Units) → IsFile us → (m : Measure) (type : Ty) → IsSound us type → measure us type ≡ Some m
    → (known : Ty) → head us type ≡ Some known → measure us known ≡ Some m
head_takes us of m type sound takes known is =
    (subst (HasHead true us m) is (has_head true us m of.plain type (record { plain = sound.plain; takes = takes }))).takes.takes

counted_each : (us : Units) (n : ℕ) (parts : List Ty) (before after : Measure) → parts_measure (Some before) (map (measure us) parts) ≡ Some after
    → 1 ≤ before.count → after.count ≤ suc n → AllByRecursion (Counted us n) parts
counted_each us n [] before after takes least most = tt
counted_each us n (part ∷ parts) before after takes least most =
    let start = started before (measure us part) (map (measure us) parts) after takes in
    let behind : Measure =
    measure_of (before.count + start.one.count) (next_multiple_of before.size start.one.align + start.one.size) (max before.align start.one.align) in
    let more = grows (map (measure us) parts) behind after start.behind in (
      record { m = start.one; takes = start.is; few = omega (arith, more, least, most) },
      counted_each us n parts behind after start.behind (omega (arith, least)) most,
    )

counted_layer : (us : Units) (n : ℕ) (m : Measure) (layer : Ty-F Ty) → layer_measure us layer ≡ Some m → m.count ≤ suc n → CountedParts us n layer
counted_layer us n m (Ty-F.Array count part) takes few =
    let array = array_of count (measure us part) m takes in
    let counted : array.one.count + 1 ≡ m.count = ap (λ m. m.count) array.limits.is in
    record { m = array.one; takes = array.is; few = omega (arith, counted, few) }
counted_layer us n m (Ty-F.Struct parts) takes few =
    let struct = struct_of (parts_measure (single 0 1) (map (measure us) parts)) m takes in
    let counted : struct.all.count ≡ m.count = ap (λ m. m.count) struct.limits.is in
    counted_each us n parts (measure_of 1 0 1) struct.all struct.is (omega arith) (omega (arith, counted, few))
counted_layer us n m _ takes few = tt

-- each part of a sound type has less types than the type
pub counted_parts : (us : Units) → IsFile us → (n : ℕ) (type : Ty) → IsSound us type → Counted us (suc n) type
    → (known : Ty) → head us type ≡ Some known → CountedParts us n (out-Ty known)
counted_parts us of n type sound own known is =
    counted_layer us n own.m (out-Ty known) (sym (measure_opened us known) ∙ head_takes us of own.m type sound own.takes known is) own.few

-- no sound type has none
pub counted_none : {P : Type 0} (us : Units) → IsFile us → (type : Ty) → IsSound us type → Counted us zero type → P
counted_none us of type sound own =
    let least = (bounded true us own.m of.plain type (record { plain = sound.plain; takes = own.takes })).least in
    let most = own.few in
    absurd (omega (arith, least, most))

counted_measure : (us : Units) → IsFile us → (type : Ty) → IsSound us type → (taken : Option Measure) → measure us type ≡ taken
    → is_none taken ≡ false
    → Counted us 4096 type
counted_measure us of type sound None is small = absurd (grind arith)
counted_measure us of type sound (Some m) is small =
    record { m = m; takes = is; few = (bounded true us m of.plain type (record { plain = sound.plain; takes = is })).most }

-- none has more than the limit
pub counted_most : (us : Units) → IsFile us → (type : Ty) → IsSound us type → Counted us 4096 type
counted_most us of type sound = counted_measure us of type sound (measure us type) refl sound.small
