-- Maps from names to what they stand for in a body.
use Rattle.std.specs.Prelude.{◌≡◌, ℕ, List, Option}
use Rattle.std.specs.Ordering.{nat_cmp}
use Rattle.std.specs.Cmp.Lexicographic.{slice_cmp}
use Rattle.std.specs.BTreeMap.{BTreeMap, get}
use Rattle.ltt_base.specs.declared.refusal.Placed.{Placed}
use Rattle.ir_values.specs.declared.units.Unit.{Unit}
use Rattle.check_bodies.specs.declared.names.Local.{Local}
use Rattle.check_bodies.specs.declared.names.Defined.{Defined}
use Rattle.check_bodies.specs.declared.names.Asked.{Asked}
use Rattle.check_bodies.specs.Names.{first_local}

abbrev pub find : {X : Type 0} → List ℕ → BTreeMap (List ℕ) X → Option X
find name map = get (slice_cmp nat_cmp) map name

-- the map finds the first of each name
abbrev pub FindsFirst : Asked → List Defined → BTreeMap (List ℕ) Local → Type 0
FindsFirst asked ds map = (name : List ℕ) → find name map ≡ first_local asked name ds
