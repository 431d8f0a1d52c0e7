-- The example of a thin file has a placement.
use Rattle.std.proofs.Common.{◌≡◌, ◌+◌, ◌%◌, ◌^◌, ◌<◌, ◌≤◌, inl, List, [], ◌∷◌, refl, sym, ap, subst, ◌∙◌, arith, max, All, AllPairs, codes, ◌++◌, bytes_eq, if◌then◌else◌, lit<}
use Rattle.std.proofs.lemmas.Fmt.{decimal_digit}
use Rattle.std.proofs.lemmas.List.Elements.{All-nil, All-cons}
use Rattle.std.proofs.lemmas.List.Kept.{AllPairs-cons}
use Rattle.ir_values.specs.declared.types.Ty as ty
use Rattle.ir_values.specs.declared.modules.Var.{Var}
use Rattle.thin_files.specs.declared.thin.Variable.{Variable}
use Rattle.thin_files.specs.Thin.{module_of, variable_of, words_type}
use Rattle.ir_numbers.specs.Layout.{Layout}
use Rattle.type_metadata.specs.Sizes.{size_of}
use Rattle.test_lowering.specs.Rewriting.{rewritten, group_name, gap_of, gap_types, doubled_to}
use Rattle.ir_memories.specs.Placement.{Placeable, AreApart, placeables, of_variable}
use Rattle.test_lowering.specs.Exact.{PlacementIsPossible, example_placement}
use Rattle.thin_files.specs.Laws.{example, first_place}
use Rattle.test_lowering.proofs.SizeLaws.{layout-alone}
use Rattle.test_lowering.proofs.RewritingLaws.{gap-variable, combined-variable}

abbrev pub variable : Variable
variable = record { place = first_place; name = codes "v"; count = 4; node = codes "0"; offset = 16; id = codes "T" }

pub no_gap : gap_of (variable_of variable) ≡ 0
unfolding doubled_to
no_gap = gap-variable variable

pub slot_size : size_of (ty.Struct (words_type 4 ∷ [])) ≡ 32
slot_size = ap (λ (l : Layout). l.size) (layout-alone 4)

abbrev pub functions : List Placeable
functions = record { name = codes "t"; size = 1; align = 1 } ∷ record { name = codes "m"; size = 1; align = 1 } ∷ []

abbrev pub objects : List Placeable
objects = record { name = group_name 0; size = 32; align = 8 } ∷ functions

pub objects_are : placeables (rewritten (module_of example)) ≡ objects
objects_are =
    ap (λ (v : Var). of_variable v ∷ functions) (combined-variable 0 variable)
    ∙ ap (λ gap. record { name = group_name 0; size = max 1 (size_of (ty.Struct (words_type 4 ∷ gap_types gap))); align = 8 } ∷ functions) no_gap
    ∙ ap (λ size. record { name = group_name 0; size = max 1 size; align = 8 } ∷ functions) slot_size

all_three : (P : Placeable → Type 0) (a b c : Placeable) → P a → P b → P c → All P (a ∷ b ∷ c ∷ [])
all_three P a b c of_a of_b of_c = All-cons P a (b ∷ c ∷ []) of_a (All-cons P b (c ∷ []) of_b (All-cons P c [] of_c (All-nil P)))

pairs_none : (R : Placeable → Placeable → Type 0) → AllPairs R []
pairs_none R i j d before within = absurd (omega (arith, before, within))

pub pairs_three : (R : Placeable → Placeable → Type 0) (a b c : Placeable) → R a b → R a c → R b c → AllPairs R (a ∷ b ∷ c ∷ [])
pairs_three R a b c ab ac bc =
    AllPairs-cons R a (b ∷ c ∷ []) (All-cons (R a) b (c ∷ []) ab (All-cons (R a) c [] ac (All-nil (R a))))
    (AllPairs-cons R b (c ∷ []) (All-cons (R b) c [] bc (All-nil (R b))) (AllPairs-cons R c [] (All-nil (R c)) (pairs_none R)))

at_group : example_placement (group_name 0) ≡ 4096
at_group = ap (λ digits. if bytes_eq (codes ".ltt.gv." ++ digits) (codes ".ltt.gv." ++ digits) then 4096
    else if bytes_eq (codes ".ltt.gv." ++ digits) (codes "t") then 8192 else 8193) (decimal_digit 0 (lit< tt))

at_first : example_placement (codes "t") ≡ 8192
at_first = refl

at_second : example_placement (codes "m") ≡ 8193
at_second = refl

pub possible : PlacementIsPossible
possible = record {
  aligned = subst (λ (os : List Placeable). All (λ object. example_placement object.name % object.align ≡ 0) os) (sym objects_are)
      (all_three (λ object. example_placement object.name % object.align ≡ 0) _ _ _ (ap (λ place. place % 8) at_group) refl refl);
  not_null = subst (λ (os : List Placeable). All (λ object. 0 < example_placement object.name) os) (sym objects_are)
      (all_three (λ object. 0 < example_placement object.name) _ _ _ (omega (arith, at_group)) (omega (arith, at_first)) (omega (arith, at_second)));
  within = subst (λ (os : List Placeable). All (λ object. example_placement object.name + object.size ≤ 2 ^ 64) os) (sym objects_are)
      (all_three (λ object. example_placement object.name + object.size ≤ 2 ^ 64) _ _ _ (omega (arith, at_group)) (omega (arith, at_first))
      (omega (arith, at_second)));
  apart = subst (λ (os : List Placeable). AllPairs (AreApart example_placement) os) (sym objects_are)
      (pairs_three (AreApart example_placement) _ _ _ (inl (omega (arith, at_group, at_first))) (inl (omega (arith, at_group, at_second)))
      (inl (omega (arith, at_first, at_second))));
}
