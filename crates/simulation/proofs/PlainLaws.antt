-- The functions of a thin file hold tests of carried identifiers and returns alone.
use Rattle.std.proofs.Common.{◌≡◌, ℕ, ◌+◌, Bool, true, false, zero, suc, inl, inr, List, [], ◌∷◌, map, Option, Some, None, option_map, refl, sym, ap, subst, ◌∙◌, slice_get, Contains, nat_eq, zero-add}
use Rattle.std.proofs.lemmas.Option.{slice_get-map}
use Rattle.std.specs.Prelude.{IfSome, if◌then◌else◌}
use Rattle.std.specs.Cmp.Lexicographic.{pointwise}
use Rattle.ir_values.specs.declared.types.Width.TheVariants.{W1}
use Rattle.ir_values.specs.declared.types.Ty as ty
use Rattle.ir_values.specs.declared.constants.Operand as operand
use Rattle.ir_values.specs.declared.constants.Operand.{Operand}
use Rattle.ir_values.specs.declared.modules.TypeId.TheVariants.{Name}
use Rattle.ir_values.specs.declared.modules.Func.{Func}
use Rattle.ir_values.specs.declared.modules.Block.{Block}
use Rattle.ir_values.specs.declared.instructions.Inst.{Inst}
use Rattle.ir_values.specs.declared.instructions.Inst.TheVariants.{Test, Ret}
use Rattle.thin_files.specs.declared.thin.Thin.{Thin}
use Rattle.thin_files.specs.declared.thin.Second.{Second}
use Rattle.thin_files.specs.declared.thin.Variable.{Variable}
use Rattle.thin_files.specs.Thin.{IsAllowed, IsSecondAllowed, module_of, variable_of, function_of, block_of, second_functions, second_function, second_block, tested_block, address_of}
use Rattle.test_lowering.specs.Rewriting.{Home, object_from, object_of}
use Rattle.test_lowering.specs.TestAt.{HasInst}
use Rattle.test_lowering.proofs.PlaceLaws.{text_cases, place_of, only}
use Rattle.test_lowering.proofs.ExactLaws.{Carrier, carrier_of, member_of}
use Rattle.simulation.proofs.ValueLaws.{IsKnown}
use Rattle.simulation.proofs.StepLaws.{IsPlain, AreAllPlain}

-- a name that a variable has is found
found_from : (group : ℕ) (vs : List Variable) (k : ℕ) (name : List ℕ) → slice_get (map (λ (v : Variable). v.name) vs) k ≡ Some name
    → (object : ℕ) × (object_from group (map variable_of vs) name ≡ Some object)
found_from group [] k name at = cc
found_from group (v ∷ vs) zero name at =
    elim (text_cases v.name name) [
      | inl same ↦ (group, rw same.0 refl)
      | inr other ↦ absurd (other.1 (cc))
    ]
found_from group (v ∷ vs) (suc k) name at =
    elim (text_cases v.name name) [
      | inl same ↦ (group, rw same.0 refl)
      | inr other ↦ let rest = found_from (group + 1) vs k name at in (rest.0, rw other.0 rest.1)
    ]

known_address : (t : Thin) (name : List ℕ) → Contains (map (λ (v : Variable). v.name) t.variables) name
    → (object : ℕ) × (object_of (module_of t) name ≡ Some object)
known_address t name held =
    let at = place_of (map (λ (v : Variable). v.name) t.variables) name held in
    found_from 0 t.variables at.0 name at.1

plain_block : (t : Thin) → IsAllowed t → (register : List ℕ) (pointer : Operand) (tested : List ℕ) → IsKnown (module_of t) pointer
    → Contains (map (λ (v : Variable). v.id) t.variables) tested
    → (k : ℕ) (i : Inst) → slice_get (tested_block register pointer tested).insts k ≡ Some i → IsPlain (module_of t) i
plain_block t allowed register pointer tested known carried zero i at =
    let c = carrier_of t tested carried in
    let home : Home = record { group = c.number; offset = c.variable.offset } in
    let same : Test register pointer (Name tested) ≡ i = cc in
    subst (IsPlain (module_of t)) same (known, (home, ([], member_of t tested allowed c)))
plain_block t allowed register pointer tested known carried (suc zero) i at =
    let same : Ret (ty.Int W1) (Some (operand.Reg register)) ≡ i = cc in
    subst (IsPlain (module_of t)) same tt
plain_block t allowed register pointer tested known carried (suc (suc k)) i at = cc

plain_function : (t : Thin) (allowed : IsAllowed t) (register : List ℕ) (pointer : Operand) (tested : List ℕ) → IsKnown (module_of t) pointer
    → Contains (map (λ (v : Variable). v.id) t.variables) tested
    → (f : Func) → tested_block register pointer tested ∷ [] ≡ f.blocks → (block : Block) → Contains f.blocks block
    → (i : Inst) → Contains block.insts i → IsPlain (module_of t) i
plain_function t allowed register pointer tested known carried f is block held i has =
    let same = only (tested_block register pointer tested) block (subst (λ (bs : List Block). Contains bs block) (sym is) held) in
    let at = place_of (tested_block register pointer tested).insts i (subst (λ (b : Block). Contains b.insts i) (sym same) has) in
    plain_block t allowed register pointer tested known carried at.0 i at.1

plain_second : (t : Thin) → IsAllowed t → (second : Option Second) → IfSome second (IsSecondAllowed t) → (k : ℕ) (f : Func)
    → slice_get (second_functions second) k ≡ Some f → (block : Block) → Contains f.blocks block → (i : Inst) → Contains block.insts i → IsPlain (module_of t) i
plain_second t allowed None rules k f at block held i has = absurd (cc)
plain_second t allowed (Some s) rules zero f at block held i has =
    let same : second_function s ≡ f = cc in
    plain_function t allowed s.register (address_of s) s.tested (known_address t s.object rules.object) rules.carried
    f (ap (λ (g : Func). g.blocks) same) block held i has
plain_second t allowed (Some s) rules (suc k) f at block held i has = absurd (cc)

pub all_plain : (t : Thin) → IsAllowed t → AreAllPlain (module_of t)
all_plain t allowed i has =
    let at = place_of (module_of t).funcs has.0 has.1.1 in
    at_place at.0 at.1 where
      at_place : (k : ℕ) → slice_get (module_of t).funcs k ≡ Some has.0 → IsPlain (module_of t) i
      at_place zero at =
          let same : function_of t ≡ has.0 = cc in
          plain_function t allowed t.register (operand.Reg t.pointer) t.tested tt allowed.carried has.0 (ap (λ (g : Func). g.blocks) same) has.1.0 has.1.2 i has.1.3
      at_place (suc k) at = plain_second t allowed t.second allowed.second k has.0 at has.1.0 has.1.2 i has.1.3
