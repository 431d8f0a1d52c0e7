-- A type within the limits that is written without a flaw is its head with the parts replaced.
use Rattle.std.proofs.Common.{◌≡◌, refl, ◌∙◌, ap, sym, subst, ℕ, zero, suc, ◌+◌, ◌≤◌, max, Bool, true, false, cond, List, [], ◌∷◌, length, map}
use Rattle.std.specs.Prelude.{IfSome}
use Rattle.std.proofs.Common.{Option, Some, None, arith}
use Rattle.std.specs.Prelude.{is_none}
use Rattle.std.specs.Int.{next_multiple_of}
use Rattle.std.specs.List.{list_any, AllByRecursion}
use Rattle.ltt_base.specs.declared.refusal.Code.TheVariants.{E06}
use Rattle.ir_values.specs.declared.types.Ty.{Ty, out-Ty}
use Rattle.ir_values.specs.declared.types.Ty.TheVariants as ty
use Rattle.ir_values.specs.declared.types.Ty.TheOpen.{Ty-F}
use Rattle.check_names.specs.Flaws.{each, when}
use Rattle.check_types.specs.Named.{named_type, is_endless}
use Rattle.check_types.specs.Heads.{type_head, option_head, followed, named_head, head}
use Rattle.check_types.specs.Measures.{Measure, measure_of, single, parts_measure, measure}
use Rattle.check_types.specs.Replaced.{layer_replaced, head_replaced, replaced_within, replaced}
use Rattle.check_types.specs.Written.{written, part_flaw, is_void_head}
use Rattle.type_grammar.specs.Levels.{levels}
use Rattle.printed_units.proofs.ListLemmas.{map_same}
use Rattle.sized_modules.specs.Written.{has_pair}
use Rattle.sized_modules.proofs.FlawLemmas.{none_first, none_second, unbroken, neither_first, neither_second}
use Rattle.sized_modules.proofs.HeadLemmas.{ArePlain, Takes, Layer, HasHead, opened, has_head, void_is}
use Rattle.sized_modules.proofs.LayoutLemmas.{bounded}
use Rattle.sized_modules.proofs.LimitLemmas.{array_of, struct_of, started, grows}
use Rattle.sized_modules.proofs.UnitLemmas.{Units}
use Rattle.said_units.specs.Sayable.{IsSaidTyWithin}
use Rattle.clean_outputs.proofs.FileLemmas.{IsFile, named_said}

-- heads are said

-- a type of some number of levels
abbrev pub IsSaidSome : Ty → Type 0
IsSaidSome type = (n : ℕ) × IsSaidTyWithin n type

type_head_said : (follow : List ℕ → Option Ty) → ((name : List ℕ) → IfSome (follow name) IsSaidSome) → (type : Ty) → IsSaidSome type
    → (layer : Ty-F Ty) → IfSome (type_head follow type layer) IsSaidSome
type_head_said follow named type said (Ty-F.Named name) = named name
type_head_said follow named type said (Ty-F.Left text) = tt
type_head_said follow named type said _ = said

option_head_said : (us : Units) → IsFile us → (follow : List ℕ → Option Ty) → ((name : List ℕ) → IfSome (follow name) IsSaidSome)
    → (name : List ℕ) (type : Option Ty) → named_type us name ≡ type → IfSome (option_head follow type) IsSaidSome
option_head_said us of follow named name None is = tt
option_head_said us of follow named name (Some type) is =
    type_head_said follow named type (levels, named_said us of name type is) (out-Ty type)

followed_said : (us : Units) → IsFile us → (n : ℕ) (name : List ℕ) → IfSome (followed us n name) IsSaidSome
unfolding followed
followed_said us of zero name = tt
followed_said us of (suc n) name = option_head_said us of (followed us n) (followed_said us of n) name (named_type us name) refl

either_said : (endless : Bool) (type : Option Ty) → IfSome type IsSaidSome → IfSome (cond endless None type) IsSaidSome
either_said true type said = tt
either_said false type said = said

named_head_said : (us : Units) → IsFile us → (name : List ℕ) → IfSome (named_head us name) IsSaidSome
unfolding named_head
named_head_said us of name =
    either_said (is_endless us name) (followed us (length us) name) (followed_said us of (length us) name)

pub head_said : (us : Units) → IsFile us → (type : Ty) → IsSaidSome type → IfSome (head us type) IsSaidSome
head_said us of type said = type_head_said (named_head us) (named_head_said us of) type said (out-Ty type)

-- parts

-- a part without a flaw, which isn't `void` and takes this much
pub record IsPart (us : Units) (m : Measure) (part : Ty) : Type 0 where
  pub takes : Takes true us m part
  pub unvoid : is_void_head (head us part) ≡ false

pub part_is : (us : Units) (part : Ty) (m : Measure) → part_flaw false (written true us false part) ≡ None → has_pair part ≡ false
    → measure us part ≡ Some m → IsPart us m part
part_is us part m none plain takes =
    let own = written true us false part in
    record {
      takes = record { plain = record { clean = none_first own.flaw (when own.void E06) none; plain = plain }; takes = takes };
      unvoid = void_is true us part ∙ unbroken own.void E06 (none_second own.flaw (when own.void E06) none);
    }

-- the part of an array, which takes less
pub record ArrayPart (us : Units) (m : Measure) (part : Ty) : Type 0 where
  pub one : Measure
  pub is : IsPart us one part
  pub less : suc one.count ≤ m.count

pub array_part : (us : Units) (m : Measure) (count : ℕ) (part : Ty) → Layer true us m (Ty-F.Array count part) → ArrayPart us m part
array_part us m count part layer =
    let array = array_of count (measure us part) m layer.takes in
    let counted : array.one.count + 1 ≡ m.count = ap (λ m. m.count) array.limits.is in
    record { one = array.one; is = part_is us part array.one layer.clean layer.plain array.is; less = omega (arith, counted) }

-- the parts of a struct, each of which takes less than it
pub record StructPart (us : Units) (most : ℕ) (part : Ty) : Type 0 where
  pub one : Measure
  pub is : IsPart us one part
  pub less : suc one.count ≤ most

abbrev pub StructParts : Units → ℕ → List Ty → Type 0
StructParts us most parts = AllByRecursion (StructPart us most) parts

struct_parts_from : (us : Units) (parts : List Ty) (before after : Measure)
    → each (part_flaw false) (map (written true us false) parts) ≡ None → list_any (λ p. p) (map has_pair parts) ≡ false
    → parts_measure (Some before) (map (measure us) parts) ≡ Some after → 1 ≤ before.count → StructParts us after.count parts
struct_parts_from us [] before after none plain takes least = tt
struct_parts_from us (part ∷ parts) before after none plain takes least =
    let start = started before (measure us part) (map (measure us) parts) after takes in
    let behind : Measure =
    measure_of (before.count + start.one.count) (next_multiple_of before.size start.one.align + start.one.size) (max before.align start.one.align) in
    let more = grows (map (measure us) parts) behind after start.behind in
    let first_flaw = part_flaw false (written true us false part) in
    let rest_flaw = each (part_flaw false) (map (written true us false) parts) in
    let rest_plain = list_any (λ p. p) (map has_pair parts) in
    let own = part_is us part start.one (none_first first_flaw rest_flaw none) (neither_first (has_pair part) rest_plain plain) start.is in (
      record { one = start.one; is = own; less = omega (arith, more, least) },
      struct_parts_from us parts behind after (none_second first_flaw rest_flaw none) (neither_second (has_pair part) rest_plain plain) start.behind
          (omega (arith, least)),
    )

pub struct_parts : (us : Units) (m : Measure) (parts : List Ty) → Layer true us m (Ty-F.Struct parts) → StructParts us m.count parts
struct_parts us m parts layer =
    let struct = struct_of (parts_measure (single 0 1) (map (measure us) parts)) m layer.takes in
    let counted : struct.all.count ≡ m.count = ap (λ m. m.count) struct.limits.is in
    let all = struct_parts_from us parts (measure_of 1 0 1) struct.all layer.clean layer.plain struct.is (omega arith) in
    subst (λ most. StructParts us most parts) counted all

-- two functions give the same for each type of so many types at most
abbrev Agree : Units → (Ty → Ty) → (Ty → Ty) → ℕ → Type 0
Agree us f g n = (type : Ty) (m : Measure) → Takes true us m type → m.count ≤ n → f type ≡ g type

parts_agree : (us : Units) (f g : Ty → Ty) (n most : ℕ) → Agree us f g n → most ≤ suc n → (parts : List Ty) → StructParts us most parts
    → map f parts ≡ map g parts
parts_agree us f g n most same few parts are =
    map_same f g (StructPart us most)
    (λ part is. let own : StructPart us most part = is in let less = own.less in same part own.one own.is.takes (omega (arith, less, few))) parts are

layer_agrees : (us : Units) (f g : Ty → Ty) (n : ℕ) → Agree us f g n → (known : Ty) (m : Measure) (layer : Ty-F Ty) → Layer true us m layer
    → m.count ≤ suc n → layer_replaced f known layer ≡ layer_replaced g known layer
layer_agrees us f g n same known m (Ty-F.Array count part) layer few =
    let own = array_part us m count part layer in
    let less = own.less in
    ap (ty.Array count) (same part own.one own.is.takes (omega (arith, less, few)))
layer_agrees us f g n same known m (Ty-F.Struct parts) layer few =
    ap ty.Struct (parts_agree us f g n m.count same few parts (struct_parts us m parts layer))
layer_agrees us f g n same known m _ layer few = refl

head_agrees : (us : Units) (f g : Ty → Ty) (n : ℕ) → Agree us f g n → (own : Ty) (m : Measure) (known : Option Ty) → HasHead true us m known
    → m.count ≤ suc n → head_replaced f own known ≡ head_replaced g own known
head_agrees us f g n same own m None has few = absurd has
head_agrees us f g n same own m (Some known) has few =
    layer_agrees us f g n same known m (out-Ty known) (opened true us m known (out-Ty known) refl has.takes) few

-- so many levels are enough for a type of no more types
enough : (us : Units) → ArePlain true us → (n k : ℕ) → n ≤ k → Agree us (replaced_within us n) (replaced_within us k) n
unfolding replaced_within
enough us plain zero k less own m takes few =
    let least = (bounded true us m plain own takes).least in absurd (omega (arith, least, few))
enough us plain (suc n) zero less own m takes few = absurd (omega (arith, less))
enough us plain (suc n) (suc k) less own m takes few =
    head_agrees us (replaced_within us n) (replaced_within us k) n (enough us plain n k (omega (arith, less))) own m (head us own)
    (has_head true us m plain own takes) few

-- within the limits all levels are replaced
within_replaced : (us : Units) (type : Ty) (m : Measure) → measure us type ≡ Some m → replaced us type ≡ replaced_within us 4096 type
unfolding replaced
within_replaced us type m is =
    ap (λ (m : Option Measure). cond (is_none m) type (replaced_within us 4096 type)) is

all_replaced : (us : Units) → ArePlain true us → (n most : ℕ) → most ≡ suc n
    → ((type : Ty) (m : Measure) → measure us type ≡ Some m → replaced us type ≡ replaced_within us most type)
    → Agree us (replaced_within us n) (replaced us) n
all_replaced us plain n most is within type m takes few =
    enough us plain n most (omega (arith, is)) type m takes few ∙ sym (within type m takes.takes)

replaced_levels : (us : Units) → ArePlain true us → (n most : ℕ) → most ≡ suc n
    → ((type : Ty) (m : Measure) → measure us type ≡ Some m → replaced us type ≡ replaced_within us most type)
    → (type : Ty) (m : Measure) → Takes true us m type → m.count ≤ most → replaced us type ≡ head_replaced (replaced us) type (head us type)
unfolding replaced_within
replaced_levels us plain n most is within type m takes few =
    within type m takes.takes ∙ ap (λ most. replaced_within us most type) is
    ∙ head_agrees us (replaced_within us n) (replaced us) n (all_replaced us plain n most is within) type m (head us type)
    (has_head true us m plain type takes) (omega (arith, few, is))

-- a type that takes this much is its head with the parts replaced
pub replaced_is : (us : Units) → ArePlain true us → (type : Ty) (m : Measure) → Takes true us m type
    → replaced us type ≡ head_replaced (replaced us) type (head us type)
replaced_is us plain type m takes =
    replaced_levels us plain 4095 4096 refl (within_replaced us) type m takes (bounded true us m plain type takes).most
