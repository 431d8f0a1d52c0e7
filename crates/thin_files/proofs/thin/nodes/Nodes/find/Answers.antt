use Rattle.std.proofs.Common.{◌≡◌, get_or, subst, sym, ◌∙◌}
use Rattle.std.specs.List.{Contains}
use Rattle.thin_files.specs.declared.thin.Node.{Node}
use Rattle.thin_files.proofs.Places.{one_found, within_found, none_found}
use Rattle.thin_files.proofs.thin.nodes.Nodes.find.Goals as goal

pub bounds-self-inside-place : goal.bounds-self-inside-place
bounds-self-inside-place c = within_found (λ n. n.number) _ c.self.inside.places c.args.number.now c.in-Some.place c.self.invariant
    (sym c.in-Some.is ∙ c.place_of.ensures)

pub returns-in-Some : goal.returns-in-Some
returns-in-Some c =
    let nodes = c.self.inside.list.now in
    let found = one_found (λ n. n.number) nodes c.self.inside.places c.args.number.now c.in-Some.place c.index-self-place.result
    c.self.invariant (sym c.in-Some.is ∙ c.place_of.ensures) c.index-self-place.is in
    let here = subst (λ (n : Node). Contains nodes n × (n.number ≡ c.args.number.now)) c.index-self-place.is found in
    let node = get_or nodes c.in-Some.place c.index-self-place.result in
    subst (λ ns. Contains ns node × (node.number ≡ c.args.number.now)) c.self.view_is here

pub returns-in-None : goal.returns-in-None
returns-in-None c = subst (λ nodes. (node : Node) → Contains nodes node → node.number ≡ c.args.number.now → ⊥) c.self.view_is
    (none_found (λ n. n.number) c.self.inside.list.now c.self.inside.places c.args.number.now c.self.invariant
    (sym c.in-None.is ∙ c.place_of.ensures))
