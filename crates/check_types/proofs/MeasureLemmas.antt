-- What names stand for takes, and the table that tells it.
use Rattle.std.proofs.Common.{◌≡◌, refl, ◌∙◌, ap, sym, subst, ℕ, zero, suc, ◌<◌, ◌≤◌, ◌≢◌, Bool, true, false, cond, not, List, [], ◌∷◌, ◌++◌, length, get_or, map, Option, Some, None, arith}
use Rattle.std.specs.Prelude.{is_none, slice_set, replicate, nat_eq, flat_map}
use Rattle.std.specs.List.{list_all}
use Rattle.std.proofs.lemmas.List.{length-set, get_or-set_same, get_or-set_other}
use Rattle.ltt_base.specs.declared.refusal.Placed.{Placed}
use Rattle.ir_values.specs.declared.types.Ty.{Ty, fold-Ty, fold-roll-Ty, ind-Ty, map-Ty}
use Rattle.ir_values.specs.declared.types.Ty.TheOpen.{Ty-F}
use Rattle.ir_values.specs.declared.units.Unit as unit
use Rattle.check_names.specs.declared.spaces.Space.TheVariants.{Types}
use Rattle.check_names.specs.Spaces.{first_definition}
use Rattle.check_types.specs.Named.{named_type, names_in, names_step, each_name, ends, is_endless}
use Rattle.check_types.specs.Measures.{Measure, single, array_measure, option_with_part, struct_measure, parts_measure, measure_step, option_measure, measured, named_measure, measure}
use Rattle.check_types.specs.Marks.{type_at, mark_at, is_marked, is_due, visited, marked_count, AreSound, TellEnds, measure_at, table_measure, measures_visited, measure_here, AreMeasured, TellMeasures}
use Rattle.check_types.proofs.EndLemmas.{left, right, ends_next, ends_more, type_here, type_nowhere, marked_ends, marked_most, due_all, blank_none}

abbrev Units : Type 0
Units = List (Placed unit.Unit)

abbrev Names : Type 0
Names = List ℕ → Option Measure

abbrev taken : Names → Ty → Option Measure
taken f = fold-Ty (Option Measure) (measure_step f)

all_before : (p : List ℕ → Bool) (xs ys : List (List ℕ)) → list_all p (xs ++ ys) ≡ true → list_all p xs ≡ true
all_before p [] ys is = refl
all_before p (x ∷ xs) ys is =
    let rest = all_before p xs ys (right (p x) (list_all p (xs ++ ys)) is) in
    let first = left (p x) (list_all p (xs ++ ys)) is in
    grind arith

all_behind : (p : List ℕ → Bool) (xs ys : List (List ℕ)) → list_all p (xs ++ ys) ≡ true → list_all p ys ≡ true
all_behind p [] ys is = is
all_behind p (x ∷ xs) ys is = all_behind p xs ys (right (p x) (list_all p (xs ++ ys)) is)

-- types take alike where their names do
abbrev AreSame : (List ℕ → Bool) → Names → Names → Ty → Type 0
AreSame p f g ty = list_all p (names_in ty) ≡ true → taken f ty ≡ taken g ty

abbrev types_of : (p : List ℕ → Bool) (f g : Names) → List ((ty : Ty) × AreSame p f g ty) → List Ty
types_of p f g parts = map (λ e. e.0) parts

parts_same : (p : List ℕ → Bool) (f g : Names) (parts : List ((ty : Ty) × AreSame p f g ty))
    → list_all p (flat_map (λ names. names) (map names_in (types_of p f g parts))) ≡ true
    → map (taken f) (types_of p f g parts) ≡ map (taken g) (types_of p f g parts)
parts_same p f g [] is = refl
parts_same p f g (e ∷ parts) is =
    let rest = parts_same p f g parts (all_behind p (names_in e.0) (flat_map (λ names. names) (map names_in (types_of p f g parts))) is) in
    let first = e.1 (all_before p (names_in e.0) (flat_map (λ names. names) (map names_in (types_of p f g parts))) is) in
    ap (λ x. x ∷ map (taken f) (types_of p f g parts)) first ∙ ap (λ xs. taken g e.0 ∷ xs) rest

layer_same : (p : List ℕ → Bool) (f g : Names) → ((name : List ℕ) → p name ≡ true → f name ≡ g name) → (y : Ty-F ((ty : Ty) × AreSame p f g ty))
    → list_all p (names_step (map-Ty Ty (List (List ℕ)) names_in (map-Ty ((ty : Ty) × AreSame p f g ty) Ty (λ e. e.0) y))) ≡ true
    → measure_step f (map-Ty Ty (Option Measure) (taken f) (map-Ty ((ty : Ty) × AreSame p f g ty) Ty (λ e. e.0) y))
    ≡ measure_step g (map-Ty Ty (Option Measure) (taken g) (map-Ty ((ty : Ty) × AreSame p f g ty) Ty (λ e. e.0) y))
layer_same p f g same Ty-F.Void is = refl
layer_same p f g same (Ty-F.Int width) is = refl
layer_same p f g same Ty-F.Ptr is = refl
layer_same p f g same Ty-F.Pair is = refl
layer_same p f g same (Ty-F.Array count e) is = ap (array_measure count) (e.1 is)
layer_same p f g same (Ty-F.Struct parts) is = ap (λ ms. struct_measure (parts_measure (single 0 1) ms)) (parts_same p f g parts is)
layer_same p f g same (Ty-F.Named name) is = same name (left (p name) true is)
layer_same p f g same (Ty-F.Left text) is = refl

ty_same : (p : List ℕ → Bool) (f g : Names) → ((name : List ℕ) → p name ≡ true → f name ≡ g name) → (ty : Ty) → AreSame p f g ty
ty_same p f g same = ind-Ty (AreSame p f g) (λ x y is. λ all.
    let layer = subst (λ z. list_all p (names_step (map-Ty Ty (List (List ℕ)) names_in z)) ≡ true
    → measure_step f (map-Ty Ty (Option Measure) (taken f) z) ≡ measure_step g (map-Ty Ty (Option Measure) (taken g) z)) is (layer_same p f g same y) in
    let names = ap (list_all p) (sym (fold-roll-Ty (List (List ℕ)) (λ z. names_step z) x)) in
    fold-roll-Ty (Option Measure) (λ z. measure_step f z) x ∙ layer (names ∙ all) ∙ sym (fold-roll-Ty (Option Measure) (λ z. measure_step g z) x))

option_same : (p : List ℕ → Bool) (f g : Names) → ((name : List ℕ) → p name ≡ true → f name ≡ g name)
    → (ty : Option Ty) → each_name p ty ≡ true → option_measure f ty ≡ option_measure g ty
option_same p f g same None is = refl
option_same p f g same (Some ty) is = ty_same p f g same ty is

none_measure : (f : Names) (ty : Option Ty) → is_none ty ≡ true → option_measure f ty ≡ single 0 1
none_measure f None is = refl
none_measure f (Some ty) is = grind arith

-- a name that ends takes no more behind more rounds
settled : (us : Units) (n : ℕ) (name : List ℕ) → ends us n name ≡ true → measured us n name ≡ measured us (suc n) name
unfolding ends measured
settled us zero name is = sym (none_measure (measured us zero) (named_type us name) is)
settled us (suc n) name is = option_same (ends us n) (measured us n) (measured us (suc n)) (settled us n) (named_type us name) is

next_round : (us : Units) (n : ℕ) (name : List ℕ) → measured us (suc n) name ≡ option_measure (measured us n) (named_type us name)
unfolding measured
next_round us n name = refl

next_end : (us : Units) (n : ℕ) (name : List ℕ) → ends us n name ≡ true → each_name (ends us n) (named_type us name) ≡ true
unfolding ends
next_end us n name is = ends_next us n name is

ended : (us : Units) (name : List ℕ) → ends us (length us) name ≡ true → named_measure us name ≡ measured us (length us) name
unfolding named_measure is_endless
ended us name is = ap (λ e. cond (not e) (single 0 1) (measured us (length us) name)) is

unended : (us : Units) (name : List ℕ) → ends us (length us) name ≡ false → named_measure us name ≡ single 0 1
unfolding named_measure is_endless
unended us name is = ap (λ e. cond (not e) (single 0 1) (measured us (length us) name)) is

-- a name that ends takes what its type takes
named_measure_is : (us : Units) (name : List ℕ) → ends us (length us) name ≡ true
    → named_measure us name ≡ option_measure (named_measure us) (named_type us name)
named_measure_is us name is =
    ended us name is ∙ settled us (length us) name is ∙ next_round us (length us) name
    ∙ option_same (ends us (length us)) (measured us (length us)) (named_measure us) (λ q e. sym (ended us q e)) (named_type us name)
    (next_end us (length us) name is)

-- the table has the measure of a marked name
marked_measure : (us : Units) (marks : List Bool) (measures : List (Option Measure)) (name : List ℕ) → AreMeasured us marks measures
    → ends us (length us) name ≡ true → is_marked us marks name ≡ true → table_measure us measures name ≡ named_measure us name
unfolding is_marked table_measure
marked_measure us marks measures name table is marked =
    let choice : (place : Option ℕ) → first_definition Types name us ≡ place → mark_at marks place ≡ true → measure_at measures place ≡ named_measure us name =
    λ place. elim place as (λ p. first_definition Types name us ≡ p → mark_at marks p ≡ true → measure_at measures p ≡ named_measure us name) [
      | None ↦ λ nowhere _. sym (named_measure_is us name is ∙ ap (option_measure (named_measure us)) (type_nowhere us name nowhere))
      | Some at ↦ λ here mark.
          table.each at ∙ ap (λ m. cond m (option_measure (named_measure us) (type_at us at)) (single 0 1)) mark
          ∙ sym (named_measure_is us name is ∙ ap (option_measure (named_measure us)) (type_here us name at here))
    ] in
    choice (first_definition Types name us) refl marked

unmarked_measure : (us : Units) (marks : List Bool) (measures : List (Option Measure)) (name : List ℕ) → AreMeasured us marks measures
    → is_marked us marks name ≡ false → table_measure us measures name ≡ single 0 1
unfolding is_marked table_measure
unmarked_measure us marks measures name table unmarked =
    let choice : (place : Option ℕ) → mark_at marks place ≡ false → measure_at measures place ≡ single 0 1 =
    λ place. elim place as (λ p. mark_at marks p ≡ false → measure_at measures p ≡ single 0 1) [
      | None ↦ λ mark. refl
      | Some at ↦ λ mark. table.each at ∙ ap (λ m. cond m (option_measure (named_measure us) (type_at us at)) (single 0 1)) mark
    ] in
    choice (first_definition Types name us) unmarked

-- one more mark on a unit that is due
measured_marked : (us : Units) (marks : List Bool) (measures : List (Option Measure)) (at : ℕ) → at < length us → length marks ≡ length us
    → AreSound us marks → AreMeasured us marks measures → is_due us marks at ≡ true
    → AreMeasured us (slice_set marks at true) (slice_set measures at (option_measure (table_measure us measures) (type_at us at)))
unfolding is_due
measured_marked us marks measures at below size sound table due =
    let all = due_all (get_or marks at false) (each_name (is_marked us marks) (type_at us at)) due in
    let few = marked_most marks in
    let most : marked_count marks ≤ length us = omega arith in
    let same = option_same (is_marked us marks) (table_measure us measures) (named_measure us)
    (λ q m. marked_measure us marks measures q table (ends_more us (marked_count marks) (length us) q most (marked_ends us marks q sound m)) m)
    (type_at us at) all in
    let own = option_measure (table_measure us measures) (type_at us at) in
    record {
      size = length-set measures at own ∙ table.size;
      each = λ k. elim (nat_eq k at) as (λ b. nat_eq k at ≡ b → get_or (slice_set measures at own) k (single 0 1) ≡ measure_here us (slice_set marks at true) k) [
        | true ↦ λ is. let here : at ≡ k = grind arith in
            let wide : at < length measures = let table_size = table.size in omega arith in
            let mark : get_or (slice_set marks at true) at false ≡ true = get_or-set_same marks at true false (omega arith) in
            subst (λ j. get_or (slice_set measures at own) j (single 0 1) ≡ measure_here us (slice_set marks at true) j) here
            (get_or-set_same measures at own (single 0 1) wide ∙ same
            ∙ ap (λ m. cond m (option_measure (named_measure us) (type_at us at)) (single 0 1)) (sym mark))
        | false ↦ λ is. let other : k ≢ at = grind arith in
            get_or-set_other measures at k own (single 0 1) other ∙ table.each k
            ∙ ap (λ m. cond m (option_measure (named_measure us) (type_at us k)) (single 0 1)) (sym (get_or-set_other marks at k true false other))
      ] refl;
    }

pub measured_next : (us : Units) (marks : List Bool) (measures : List (Option Measure)) (at : ℕ) → at < length us → length marks ≡ length us
    → AreSound us marks → AreMeasured us marks measures → AreMeasured us (visited us marks at) (measures_visited us marks measures at)
unfolding visited measures_visited
measured_next us marks measures at below size sound table =
    let own = option_measure (table_measure us measures) (type_at us at) in
    let choice : (due : Bool) → is_due us marks at ≡ due → AreMeasured us (cond due (slice_set marks at true) marks) (cond due (slice_set measures at own) measures) =
    λ due. elim due as (λ d. is_due us marks at ≡ d → AreMeasured us (cond d (slice_set marks at true) marks) (cond d (slice_set measures at own) measures))
    [ true ↦ λ is. measured_marked us marks measures at below size sound table is | false ↦ λ is. table ] in
    choice (is_due us marks at) refl

blank_measure : (n at : ℕ) → get_or (replicate n (single 0 1)) at (single 0 1) ≡ single 0 1
blank_measure zero at = refl
blank_measure (suc n) zero = refl
blank_measure (suc n) (suc at) = blank_measure n at

blank_size : (n : ℕ) → length (replicate n (single 0 1)) ≡ n
blank_size zero = refl
blank_size (suc n) = ap suc (blank_size n)

pub blank_measured : (us : Units) → AreMeasured us (replicate (length us) false) (replicate (length us) (single 0 1))
blank_measured us = record {
  size = blank_size (length us);
  each = λ at. blank_measure (length us) at
      ∙ ap (λ m. cond m (option_measure (named_measure us) (type_at us at)) (single 0 1)) (sym (blank_none (length us) at));
}

pub measures_tell : (us : Units) (marks : List Bool) (measures : List (Option Measure)) → TellEnds us marks → AreMeasured us marks measures
    → TellMeasures us measures
measures_tell us marks measures tell table name =
    let choice : (marked : Bool) → is_marked us marks name ≡ marked → table_measure us measures name ≡ named_measure us name =
    λ marked. elim marked as (λ m. is_marked us marks name ≡ m → table_measure us measures name ≡ named_measure us name) [
      | true ↦ λ is. marked_measure us marks measures name table (sym (tell name) ∙ is) is
      | false ↦ λ is. unmarked_measure us marks measures name table is ∙ sym (unended us name (sym (tell name) ∙ is))
    ] in
    choice (is_marked us marks name) refl

all_true : (names : List (List ℕ)) → list_all (λ _. true) names ≡ true
all_true [] = refl
all_true (name ∷ names) = all_true names

-- what the table tells of a type
pub told : (us : Units) (measures : List (Option Measure)) (ty : Ty) → TellMeasures us measures
    → fold-Ty (Option Measure) (measure_step (table_measure us measures)) ty ≡ measure us ty
unfolding measure
told us measures ty tell = ty_same (λ _. true) (table_measure us measures) (named_measure us) (λ q _. tell q) ty (all_true (names_in ty))

-- one part more
pub parts_next : (before part : Option Measure) (parts : List (Option Measure))
    → parts_measure before (part ∷ parts) ≡ parts_measure (option_with_part before part) parts
unfolding parts_measure
parts_next before part parts = refl

pub parts_end : (before : Option Measure) → parts_measure before [] ≡ before
unfolding parts_measure
parts_end before = refl

pub measured_step : (us : Units) (marks new : List Bool) (measures more : List (Option Measure)) (at : ℕ) → at < length us
    → length marks ≡ length us → AreSound us marks → AreMeasured us marks measures → new ≡ visited us marks at
    → more ≡ measures_visited us marks measures at → AreMeasured us new more
measured_step us marks new measures more at below size sound table is same =
    rw (is, same) (measured_next us marks measures at below size sound table)
