-- A loop that reads variables.
use Rattle.std.proofs.Common.{◌≡◌, ℕ, ◌<◌, ◌+◌, List, [], ◌∷◌, ◌++◌, length, get_or, take, arith}
use Rattle.std.specs.List.{Contains}
use Rattle.std.proofs.lemmas.Grind.{common_steps}
use Rattle.std.proofs.lemmas.List.Elements.{All-push, All-same}
use Rattle.ltt_base.specs.declared.refusal.Placed.{Placed}
use Rattle.ir_values.specs.declared.units.Unit as unit
use Rattle.thin_files.specs.declared.thin.Variable.{Variable}
use Rattle.thin_files.specs.declared.thin.Node.{Node}
use Rattle.thin_files.specs.Thin.{variable_form, node_of}
use Rattle.thin_files.specs.Shape.{AreVariables}

pub AreVariables-more : (units : List (Placed unit.Unit)) (nodes : List Node) (i : ℕ) (u : Placed unit.Unit)
    (before after : List Variable) (v : Variable) → i < length units → u ≡ get_or units i u → AreVariables (take i units) nodes before →
    u.value.form ≡ variable_form v → u.place ≡ v.place → Contains nodes (node_of v) → after ≡ before ++ v ∷ [] →
    AreVariables (take (i + 1) units) nodes after
AreVariables-more units nodes i u before after v within at so_far said place named is = record {
  said = grind (arith, common_steps, so_far.said);
  places = grind (arith, common_steps, so_far.places);
  named = All-same (λ w. Contains nodes (node_of w)) _ _ is (All-push (λ w. Contains nodes (node_of w)) before v so_far.named named);
}
