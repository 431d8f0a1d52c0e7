-- A name that ends takes what its type takes.
use Rattle.std.proofs.Common.{◌≡◌, refl, ◌∙◌, ap, sym, subst, ℕ, zero, suc, Bool, true, cond, not, ◌&&◌, List, [], ◌∷◌, length, map, Option, Some, None, arith}
use Rattle.std.specs.Prelude.{is_none, flat_map}
use Rattle.std.specs.List.{list_all}
use Rattle.std.proofs.lemmas.List.Folds.{list_all-append}
use Rattle.ltt_base.specs.declared.refusal.Placed.{Placed}
use Rattle.ir_values.specs.declared.types.Ty.{Ty, fold-Ty, fold-roll-Ty, ind-Ty, map-Ty}
use Rattle.ir_values.specs.declared.types.Ty.TheOpen.{Ty-F}
use Rattle.ir_values.specs.declared.units.Unit as unit
use Rattle.check_types.specs.Named.{named_type, names_in, names_step, each_name, ends, is_endless}
use Rattle.check_types.specs.Measures.{Measure, single, array_measure, struct_measure, parts_measure, measure_step, option_measure, measured, named_measure}
use Rattle.check_types.proofs.EndLemmas.{left, right, ends_next}

abbrev Units : Type 0
Units = List (Placed unit.Unit)

abbrev Names : Type 0
Names = List ℕ → Option Measure

abbrev taken : Names → Ty → Option Measure
taken f = fold-Ty (Option Measure) (measure_step f)

-- two tellings of what names take agree on the names that pass
abbrev Agree : (List ℕ → Bool) → Names → Names → Type 0
Agree p f g = (name : List ℕ) → p name ≡ true → f name ≡ g name

abbrev AreSame : (List ℕ → Bool) → Names → Names → Ty → Type 0
AreSame p f g ty = list_all p (names_in ty) ≡ true → taken f ty ≡ taken g ty

abbrev types_of : (p : List ℕ → Bool) (f g : Names) → List ((ty : Ty) × AreSame p f g ty) → List Ty
types_of p f g parts = map (λ e. e.0) parts

parts_same : (p : List ℕ → Bool) (f g : Names) (parts : List ((ty : Ty) × AreSame p f g ty))
    → list_all p (flat_map (λ names. names) (map names_in (types_of p f g parts))) ≡ true
    → map (taken f) (types_of p f g parts) ≡ map (taken g) (types_of p f g parts)
parts_same p f g [] is = refl
parts_same p f g (e ∷ parts) is =
    let names = flat_map (λ names. names) (map names_in (types_of p f g parts)) in
    let split : list_all p (names_in e.0) && list_all p names ≡ true = sym (list_all-append p (names_in e.0) names) ∙ is in
    let first = e.1 (left (list_all p (names_in e.0)) (list_all p names) split) in
    let rest = parts_same p f g parts (right (list_all p (names_in e.0)) (list_all p names) split) in
    ap (λ x. x ∷ map (taken f) (types_of p f g parts)) first ∙ ap (λ xs. taken g e.0 ∷ xs) rest

layer_same : (p : List ℕ → Bool) (f g : Names) → Agree p f g → (y : Ty-F ((ty : Ty) × AreSame p f g ty))
    → list_all p (names_step (map-Ty Ty (List (List ℕ)) names_in (map-Ty ((ty : Ty) × AreSame p f g ty) Ty (λ e. e.0) y))) ≡ true
    → measure_step f (map-Ty Ty (Option Measure) (taken f) (map-Ty ((ty : Ty) × AreSame p f g ty) Ty (λ e. e.0) y))
    ≡ measure_step g (map-Ty Ty (Option Measure) (taken g) (map-Ty ((ty : Ty) × AreSame p f g ty) Ty (λ e. e.0) y))
layer_same p f g same (Ty-F.Array count e) is = ap (array_measure count) (e.1 is)
layer_same p f g same (Ty-F.Struct parts) is = ap (λ ms. struct_measure (parts_measure (single 0 1) ms)) (parts_same p f g parts is)
layer_same p f g same (Ty-F.Named name) is = same name (left (p name) true is)
layer_same p f g same _ is = refl

ty_same : (p : List ℕ → Bool) (f g : Names) → Agree p f g → (ty : Ty) → AreSame p f g ty
ty_same p f g same = ind-Ty (AreSame p f g) (λ x y is. λ all.
    let layer = subst (λ z. list_all p (names_step (map-Ty Ty (List (List ℕ)) names_in z)) ≡ true
    → measure_step f (map-Ty Ty (Option Measure) (taken f) z) ≡ measure_step g (map-Ty Ty (Option Measure) (taken g) z)) is (layer_same p f g same y) in
    let names = ap (list_all p) (sym (fold-roll-Ty (List (List ℕ)) (λ z. names_step z) x)) in
    fold-roll-Ty (Option Measure) (λ z. measure_step f z) x ∙ layer (names ∙ all) ∙ sym (fold-roll-Ty (Option Measure) (λ z. measure_step g z) x))

option_same : (p : List ℕ → Bool) (f g : Names) → Agree p f g → (ty : Option Ty) → each_name p ty ≡ true → option_measure f ty ≡ option_measure g ty
option_same p f g same None is = refl
option_same p f g same (Some ty) is = ty_same p f g same ty is

none_measure : (f : Names) (ty : Option Ty) → is_none ty ≡ true → option_measure f ty ≡ single 0 1
none_measure f None is = refl
none_measure f (Some ty) is = grind arith

-- a name that ends takes no more behind more rounds
settled : (us : Units) (n : ℕ) (name : List ℕ) → ends us n name ≡ true → measured us n name ≡ measured us (suc n) name
unfolding ends measured
settled us zero name is = sym (none_measure (measured us zero) (named_type us name) is)
settled us (suc n) name is = option_same (ends us n) (measured us n) (measured us (suc n)) (settled us n) (named_type us name) is

next_round : (us : Units) (n : ℕ) (name : List ℕ) → measured us (suc n) name ≡ option_measure (measured us n) (named_type us name)
unfolding measured
next_round us n name = refl

next_end : (us : Units) (n : ℕ) (name : List ℕ) → ends us n name ≡ true → each_name (ends us n) (named_type us name) ≡ true
unfolding ends
next_end us n name is = ends_next us n name is

ended : (us : Units) (name : List ℕ) → ends us (length us) name ≡ true → named_measure us name ≡ measured us (length us) name
unfolding named_measure is_endless
ended us name is = ap (λ e. cond (not e) (single 0 1) (measured us (length us) name)) is

-- as many rounds as units are enough
pub named_measure_is : (us : Units) (name : List ℕ) → ends us (length us) name ≡ true
    → named_measure us name ≡ option_measure (named_measure us) (named_type us name)
named_measure_is us name is =
    ended us name is ∙ settled us (length us) name is ∙ next_round us (length us) name
    ∙ option_same (ends us (length us)) (measured us (length us)) (named_measure us) (λ q e. sym (ended us q e)) (named_type us name)
    (next_end us (length us) name is)
