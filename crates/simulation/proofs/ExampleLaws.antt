-- The output of the example of a thin file has addresses.
use Rattle.std.proofs.Common.{◌≡◌, ◌≢◌, ℕ, ◌+◌, ◌^◌, ◌<◌, ◌≤◌, List, [], ◌∷◌, ◌++◌, zero, suc, map, max, refl, sym, ap, subst, ◌∙◌, arith, All, AllPairs, codes, get_or, true, IsTrue}
use Rattle.std.proofs.lemmas.List.Elements.{All-nil, All-cons}
use Rattle.ir_values.specs.declared.types.Ty as ty
use Rattle.ir_values.specs.declared.types.Ty.{Ty}
use Rattle.ir_values.specs.declared.modules.Var.{Var}
use Rattle.ir_values.specs.declared.modules.Jump.{Jump}
use Rattle.ir_numbers.specs.Layout.{Layout, layout, IsLaidOut}
use Rattle.ir_memories.specs.declared.stated.Room.{Room}
use Rattle.ir_memories.specs.Placement.{Placeable, placeables, of_variable}
use Rattle.ir_memories.specs.Stated.{room_of, rooms, end_from, IsPlaceable, HaveNames}
use Rattle.ir_memories.proofs.StatedLaws.{stated_law}
use Rattle.thin_files.specs.Thin.{words_type, variable_of}
use Rattle.test_lowering.specs.Rewriting.{combined, group_name, gap_types}
use Rattle.test_lowering.proofs.RewritingLaws.{combined-variable}
use Rattle.test_lowering.proofs.SizeLaws.{layout-alone}
use Rattle.test_lowering.proofs.PlacementLaws.{variable, no_gap, slot_size, objects, objects_are, pairs_three}
use Rattle.simulation.specs.Laws.{example_output, AddressesArePossible}

abbrev group : Var
group = combined 0 (variable_of variable)

type_is : group.ty ≡ ty.Struct (words_type 4 ∷ [])
type_is = ap (λ (v : Var). v.ty) (combined-variable 0 variable) ∙ ap (λ gap. ty.Struct (words_type 4 ∷ gap_types gap)) no_gap

align_is : group.align ≡ 8
align_is = ap (λ (v : Var). v.align) (combined-variable 0 variable)

room_is : room_of (of_variable group) ≡ record { size = 32; align = 8 }
room_is =
    ap (λ (v : Var). room_of (of_variable v)) (combined-variable 0 variable)
    ∙ ap (λ gap. room_of (record { name = group_name 0; size = max 1 (layout (ty.Struct (words_type 4 ∷ gap_types gap))).size; align = 8 })) no_gap
    ∙ ap (λ size. room_of (record { name = group_name 0; size = max 1 size; align = 8 })) slot_size

abbrev small : Room
small = record { size = 1; align = 1 }

end_is : end_from 4096 (rooms example_output) ≡ 4130
end_is = ap (λ (room : Room). end_from 4096 (room ∷ small ∷ small ∷ [])) room_is

placeable : IsPlaceable example_output 4096
placeable = record {
  laid = All-cons (λ (v : Var). IsLaidOut v.ty) group [] (subst (λ (y : Ty). IsTrue (layout y).is_laid) (sym type_is) (ap (λ (l : Layout). l.is_laid) (layout-alone 4)))
      (All-nil (λ (v : Var). IsLaidOut v.ty));
  aligned = All-cons (λ (v : Var). 1 ≤ v.align) group [] (omega (arith, align_is)) (All-nil (λ (v : Var). 1 ≤ v.align));
  tables = All-nil (λ (t : Jump). _);
  fits = omega (arith, end_is);
}

first_differs : (one other : List ℕ) → get_or one 0 0 ≢ get_or other 0 0 → one ≢ other
first_differs one other differ same = differ (ap (λ (text : List ℕ). get_or text 0 0) same)

different : (a b : ℕ) → a < b → b ≢ a
different a b below same = omega arith

names : HaveNames example_output
names = subst (λ (os : List Placeable). AllPairs (λ one other. one.name ≢ other.name) os) (sym objects_are)
    (pairs_three (λ one other. one.name ≢ other.name) _ _ _
    (first_differs (group_name 0) (codes "t") (λ same. different 46 116 (omega arith) (sym same)))
    (first_differs (group_name 0) (codes "m") (λ same. different 46 109 (omega arith) (sym same)))
    (first_differs (codes "t") (codes "m") (different 109 116 (omega arith))))

pub possible : AddressesArePossible
possible = stated_law example_output 4096 placeable names (omega arith)
