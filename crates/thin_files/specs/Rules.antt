-- The rules of a thin file, by its variables and nodes.
use Rattle.std.specs.Prelude.{ℕ, List, ◌≢◌, ◌*◌, ◌≤◌, ◌∷◌, IsTrue, map, All, IfSome, Contains}
use Rattle.thin_files.specs.declared.thin.Variable.{Variable}
use Rattle.thin_files.specs.declared.thin.Node.{Node}
use Rattle.thin_files.specs.declared.thin.Second.{Second}
use Rattle.thin_files.specs.declared.thin.Thin.{Thin}
use Rattle.thin_files.specs.Thin.{is_free, AreDistinct, IsNodeNumber, distance_of, IsSecondAllowed}

-- the rules of a variable that speak of no other
pub record IsSound (v : Variable) : Type 0 where
  pub free : IsTrue (is_free v.name)
  pub least : 1 ≤ v.count
  pub most : v.count ≤ 1000
  pub inside : v.offset ≤ 8 * v.count

-- the rules of the names of registers
pub record AreRegistersSound (pointer register : List ℕ) : Type 0 where
  pub first : IsTrue (is_free pointer)
  pub second : IsTrue (is_free register)
  pub apart : pointer ≢ register

-- the rules of names, but for that of a variable's which `IsSound` has
pub record AreNamesSound (t : Thin) : Type 0 where
  pub name : IsTrue (is_free t.name)
  pub registers : AreRegistersSound t.pointer t.register
  pub globals : AreDistinct (t.name ∷ map (λ v. v.name) t.variables)

-- the rules of the second function that speak of nothing else
pub record IsSecondSound (s : Second) : Type 0 where
  pub name : IsTrue (is_free s.name)
  pub register : IsTrue (is_free s.register)
  pub near : distance_of s.offset ≤ 1000000

-- the rules of the second function, where there is one
abbrev pub IsSecondFine : Thin → Type 0
IsSecondFine t = IfSome t.second (IsSecondAllowed t)

-- the rules of nodes
pub record AreNodesSound (nodes : List Node) (variables : List Variable) : Type 0 where
  pub numbers : All (λ n. IsNodeNumber n.number) nodes
  pub once : AreDistinct (map (λ n. n.number) nodes)
  pub needed : All (λ n. Contains (map (λ v. v.node) variables) n.number) nodes

-- the rules of type identifiers
pub record AreIdentifiersSound (t : Thin) : Type 0 where
  pub apart : AreDistinct (map (λ v. v.id) t.variables)
  pub carried : Contains (map (λ v. v.id) t.variables) t.tested
