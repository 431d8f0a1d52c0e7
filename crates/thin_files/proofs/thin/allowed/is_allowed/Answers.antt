use Rattle.std.proofs.Common.{◌≡◌, true, subst, sym, rules}
use Rattle.std.specs.List.{All}
use Rattle.thin_files.specs.Rules.{IsSound, AreNodesSound}
use Rattle.thin_files.proofs.Allowed.{from_parts, names_of, nodes_of, sound_of}
use Rattle.thin_files.proofs.thin.allowed.is_allowed.Goals as goal

pub returns-then-not-branch : goal.returns-then-not-branch
returns-then-not-branch c = (
  λ no. cc,
  λ is.
      let sound : c.in_ok-are_names_sound.field-0 ≡ true = c.in_ok-are_names_sound.ensures.1 (names_of c.args.thin.now is) in cc,
)

pub returns-then-not-branch-2 : goal.returns-then-not-branch-2
returns-then-not-branch-2 c = (
  λ no. cc,
  λ is.
      let nodes = subst (λ nodes. AreNodesSound nodes c.args.thin.now.variables) (sym c.items.ensures) (nodes_of c.args.thin.now is) in
      let sound : c.in_ok-are_nodes_sound.field-0 ≡ true = c.in_ok-are_nodes_sound.ensures.1
      (subst (λ variables. AreNodesSound c.items.result.now variables) (sym c.items-2.ensures) nodes) in cc,
)

pub returns-then-not-branch-4 : goal.returns-then-not-branch-4
returns-then-not-branch-4 c = (
  λ no. cc,
  λ is.
      let fine : c.in_ok-is_second_fine.field-0 ≡ true = c.in_ok-is_second_fine.ensures.1 is.second in cc,
)

pub returns : goal.returns
returns c = (
  λ sound.
      let nodes = subst (λ variables. AreNodesSound c.items.result.now variables) c.items-2.ensures
      (c.in_ok-are_nodes_sound.ensures.0 (search rules)) in
      from_parts c.args.thin.now c.requires (c.in_ok-are_names_sound.ensures.0 (search rules))
      (subst (λ nodes. AreNodesSound nodes c.args.thin.now.variables) c.items.ensures nodes)
      (c.in_ok-are_identifiers_sound.ensures.0 (search rules))
      (c.in_ok-is_second_fine.ensures.0 (search rules))
      (subst (All IsSound) c.items-3.ensures (c.are_sound.ensures.0 sound)),
  λ is. c.are_sound.ensures.1 (subst (All IsSound) (sym c.items-3.ensures) (sound_of c.args.thin.now is)),
)
