-- The names that instructions without flaws give to their results.
use Rattle.std.proofs.Common.{◌≡◌, sym, ap, ◌∙◌, ℕ, true, cond, List, [], ◌∷◌, ◌++◌, Option, None, codes}
use Rattle.ir_values.specs.declared.units.Form.{Form}
use Rattle.ir_values.specs.declared.units.Form.TheVariants as form
use Rattle.check_names.specs.declared.flaws.Flaw.{Flaw}
use Rattle.check_names.specs.Flaws.{each}
use Rattle.check_names.specs.Reserved.{reserved_flaw}
use Rattle.check_bodies.specs.declared.names.Defined.{Defined}
use Rattle.check_bodies.specs.declared.names.Local.TheVariants.{Result}
use Rattle.check_bodies.specs.declared.sorts.Sort.{Sort}
use Rattle.check_bodies.specs.declared.sorts.Sort.TheVariants.{Phi, Plain, Terminator}
use Rattle.check_bodies.specs.declared.standing.Spot.{Spot}
use Rattle.check_bodies.specs.Names.{implied_label, result_at, own_names}
use Rattle.check_bodies.specs.Numbers.{name_or}
use Rattle.check_bodies.specs.Sorts.{sort_of, is_instruction, written_name}
use Rattle.check_bodies.specs.Standing.{is_named, opened}
use Rattle.check_instructions.specs.Instructions.{defined_flaw, own_flaw}
use Rattle.printed_units.specs.Written.{IsName}
use Rattle.sized_modules.proofs.FlawLemmas.{none_first, none_second}
use Rattle.said_units.specs.Sayable.{IsSaidName, IsSaid}
use Rattle.clean_outputs.proofs.NameLemmas.{name_or_free}

-- the names that are written for results are bytes
written_said : (says : Form) → IsSaid says → IsSaidName (written_name says)
written_said (form.LabelForm name) said = said
written_said (form.BinaryForm dst op type a b) said = said.0
written_said (form.CompareForm dst pred type a b) said = said.0
written_said (form.SelectForm dst test_type test type a other_type b) said = said.0
written_said (form.CastForm dst op from a to) said = said.0
written_said (form.AddressForm dst type base index) said = said.0
written_said (form.LoadForm dst type addr) said = said.0
written_said (form.CallForm dst result whole dots callee args bundle) said = said.0
written_said (form.ExtractForm dst value part) said = said.0
written_said (form.PhiForm dst type arms) said = said.0
written_said (form.NumberForm dst value) said = said.0
written_said _ said = tt

-- where none of two lists has a flaw, none of the second has
each_back : {A : Type 0} (flaw : A → Option Flaw) (xs ys : List A) → each flaw (xs ++ ys) ≡ None → each flaw ys ≡ None
each_back flaw [] ys none = none
each_back flaw (x ∷ xs) ys none = each_back flaw xs ys (none_second (flaw x) (each flaw (xs ++ ys)) none)

result_free : (at : ℕ) (spot : Spot) (says : Form) → each (defined_flaw true) (result_at at spot says) ≡ None → is_named says ≡ true
    → reserved_flaw true (codes "%") (name_or spot.next (written_name says)) ≡ None
result_free at spot says none named =
    let own : Defined = record { name = name_or spot.next (written_name says); local = Result at } in
    none_first (defined_flaw true own) None (ap (λ is. each (defined_flaw true) (cond is (own ∷ []) [])) (sym named) ∙ none)

sorted_free : (at : ℕ) (spot : Spot) (sort : Sort) (says : Form) → is_instruction sort ≡ true → each (defined_flaw true)
    (own_names at spot sort says) ≡ None
    → each (defined_flaw true) (result_at at (opened at spot) says) ≡ None
sorted_free at spot Phi says is none = each_back (defined_flaw true) (implied_label at spot) (result_at at (opened at spot) says) none
sorted_free at spot Plain says is none = each_back (defined_flaw true) (implied_label at spot) (result_at at (opened at spot) says) none
sorted_free at spot Terminator says is none = each_back (defined_flaw true) (implied_label at spot) (result_at at (opened at spot) says) none
sorted_free at spot _ says is none = absurd (cc is)

-- the register of a result, written or numbered
pub result_named : (at : ℕ) (spot : Spot) (says : Form) → IsSaid says → own_flaw true at spot says ≡ None → is_instruction (sort_of says) ≡ true
    → is_named says ≡ true → IsName (name_or (opened at spot).next (written_name says))
result_named at spot says said none is named =
    name_or_free (opened at spot).next (written_name says) (written_said says said)
    (result_free at (opened at spot) says (sorted_free at spot (sort_of says) says is none) named)
