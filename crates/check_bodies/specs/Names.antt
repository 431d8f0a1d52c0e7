-- The names that a body defines, in the order of its text: parameters, labels and results, which share one set of names.
-- Source: LLVM Language Reference, "Identifiers" and "Functions". Differs: units that are left out define nothing.
use Rattle.std.specs.Prelude.{ℕ, ◌+◌, Bool, true, false, ◌&&◌, not, cond, List, [], ◌∷◌, ◌++◌, Option, Some, None}
use Rattle.std.specs.Str.{bytes_eq}
use Rattle.ltt_base.specs.declared.refusal.Placed.{Placed}
use Rattle.ir_values.specs.declared.units.Unit.{Unit}
use Rattle.ir_values.specs.declared.units.Param.{Param}
use Rattle.ir_values.specs.declared.units.Form.{Form}
use Rattle.ir_values.specs.declared.units.Form.TheVariants as form
use Rattle.check_bodies.specs.declared.sorts.Sort.{Sort}
use Rattle.check_bodies.specs.declared.sorts.Sort.TheVariants.{Label, Phi, Plain, Terminator}
use Rattle.check_bodies.specs.declared.standing.Spot.{Spot}
use Rattle.check_bodies.specs.declared.names.Local.{Local}
use Rattle.check_bodies.specs.declared.names.Local.TheVariants.{Parameter, Block, Result}
use Rattle.check_bodies.specs.declared.names.Defined.{Defined}
use Rattle.check_bodies.specs.declared.names.Asked.{Asked}
use Rattle.check_bodies.specs.declared.names.Asked.TheVariants.{Either, Labels, Values}
use Rattle.check_bodies.specs.Sorts.{sort_of, written_name}
use Rattle.check_bodies.specs.Numbers.{behind_name, name_or}
use Rattle.check_bodies.specs.Standing.{is_begun, is_named, opened}
use Rattle.check_bodies.specs.Gathered.{of_function}

-- the parameters of a head, the first of them at a place in its list
abbrev pub parameters : ℕ → ℕ → List Param → List Defined
parameters at next [] = []
parameters at next (param ∷ params) =
    record { name = name_or next param.name; local = Parameter at } ∷ parameters (at + 1) (behind_name next param.name) params

-- the label of the block that a unit begins at a spot
abbrev pub label_at : ℕ → Spot → Form → List Defined
label_at at spot form = record { name = name_or spot.next (written_name form); local = Block at } ∷ []

-- the label of the block that an instruction begins, where it stands in none
abbrev pub implied_label : ℕ → Spot → List Defined
implied_label at spot = cond (is_begun spot.stage) [] (record { name = name_or spot.next None; local = Block at } ∷ [])

-- the result of an instruction at a spot of its block
abbrev pub result_at : ℕ → Spot → Form → List Defined
result_at at spot form = cond (is_named form) (record { name = name_or spot.next (written_name form); local = Result at } ∷ []) []

-- what a unit at a spot defines
abbrev pub own_names : ℕ → Spot → Sort → Form → List Defined
own_names at spot Label form = label_at at spot form
own_names at spot Phi form = implied_label at spot ++ result_at at (opened at spot) form
own_names at spot Plain form = implied_label at spot ++ result_at at (opened at spot) form
own_names at spot Terminator form = implied_label at spot ++ result_at at (opened at spot) form
own_names at spot _ form = []

abbrev pub names_at : ℕ → Spot → Form → List Defined
names_at at spot form = own_names at spot (sort_of form) form

-- the parameters of a function that is declared or defined
abbrev pub head_names : Form → List Defined
head_names (form.DeclareForm head) = parameters 0 0 head.params
head_names (form.DefineForm head) = parameters 0 0 head.params
head_names _ = []

-- the names of the function whose head stands at a place
abbrev pub names_of : List (Placed Unit) → ℕ → List Defined
names_of us head = of_function head_names names_at us head

abbrev pub is_label : Local → Bool
is_label (Block at) = true
is_label _ = false

-- what is asked for: a label, a value (a parameter or a result), or either
abbrev pub admits : Asked → Local → Bool
admits Either local = true
admits Labels local = is_label local
admits Values local = not (is_label local)

-- the first that has a name
unfoldable pub first_local : Asked → List ℕ → List Defined → Option Local
first_local asked name [] = None
first_local asked name (d ∷ ds) = cond (admits asked d.local && bytes_eq d.name name) (Some d.local) (first_local asked name ds)

-- the label of the first block
unfoldable pub entry_label : List Defined → Option (List ℕ)
entry_label [] = None
entry_label (d ∷ ds) = cond (is_label d.local) (Some d.name) (entry_label ds)
