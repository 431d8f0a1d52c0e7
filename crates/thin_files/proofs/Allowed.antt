-- The rules of a thin file, from its parts and into them.
use Rattle.std.proofs.Common.{◌≡◌, ℕ, ◌≤◌, ◌*◌, List, [], ◌∷◌, map, get_or, zero, suc, ap, subst, refl, IsTrue, arith}
use Rattle.std.specs.List.{All, Contains}
use Rattle.std.proofs.Math.ListN.{get_or-map}
use Rattle.std.proofs.lemmas.List.{length-map}
use Rattle.std.proofs.lemmas.List.Elements.{All-cons, All-head, All-tail, All-map, All-weaker, All-contains, Contains-get_or}
use Rattle.thin_files.specs.declared.thin.Variable.{Variable}
use Rattle.thin_files.specs.declared.thin.Thin.{Thin}
use Rattle.thin_files.specs.Thin.{node_of, is_free, IsAllowed}
use Rattle.thin_files.specs.Rules.{IsSound, AreNamesSound, AreNodesSound, AreIdentifiersSound, IsSecondFine}
use Rattle.thin_files.proofs.Lists.{contains_map}
use Rattle.thin_files.proofs.Determined.{one_item}

abbrev IsFree : List ℕ → Type 0
IsFree name = IsTrue (is_free name)

from_map : {A B : Type 0} (f : A → B) (xs : List A) (y : B) → Contains (map f xs) y → (x : A) × Contains xs x × (f x ≡ y)
from_map f [] y (k, within, at) = absurd (omega (arith, within))
from_map f (x ∷ xs) y (zero, within, at) = (x, (0, omega arith, refl), at)
from_map f (x ∷ xs) y (suc k, within, at) =
    let more = from_map f xs y (k, omega (arith, within), at) in
    let inside = more.1 in
    (more.0, (suc inside.0, omega (arith, inside.1), inside.2), more.2)

all_from_map : {A B : Type 0} (f : A → B) (P : B → Type 0) (xs : List A) → All P (map f xs) → All (λ x. P (f x)) xs
all_from_map f P xs all k d within = subst P (get_or-map f xs k d) (all k (f d) (rw length-map within))

-- the numbers that variables name are those of the nodes that they name
numbers_of : (vs : List Variable) → map (λ n. n.number) (map node_of vs) ≡ map (λ v. v.node) vs
numbers_of [] = refl
numbers_of (v ∷ vs) = ap (λ numbers. v.node ∷ numbers) (numbers_of vs)

needed : (t : Thin) → All (λ v. Contains t.nodes (node_of v)) t.variables → AreNodesSound t.nodes t.variables →
    All (λ n. Contains (map node_of t.variables) n) t.nodes
needed t named sound k d within =
    let n = get_or t.nodes k d in
    let found = from_map (λ v. v.node) t.variables n.number (sound.needed k d within) in
    let v = found.0 in
    let same : node_of v ≡ n = one_item (λ m. m.number) t.nodes sound.once (node_of v) n
    (All-contains (λ w. Contains t.nodes (node_of w)) t.variables v named found.1) (Contains-get_or t.nodes k d within) found.2 in
    subst (Contains (map node_of t.variables)) same (contains_map node_of t.variables v found.1)

numbers_needed : (t : Thin) → All (λ n. Contains (map node_of t.variables) n) t.nodes →
    All (λ n. Contains (map (λ v. v.node) t.variables) n.number) t.nodes
numbers_needed t all = All-weaker (λ n. Contains (map node_of t.variables) n) (λ n. Contains (map (λ v. v.node) t.variables) n.number)
    (λ n inside. subst (λ ns. Contains ns n.number) (numbers_of t.variables) (contains_map (λ m. m.number) (map node_of t.variables) n inside))
    t.nodes all

abbrev names_in : Thin → List (List ℕ)
names_in t = map (λ v. v.name) t.variables

pub from_parts : (t : Thin) → All (λ v. Contains t.nodes (node_of v)) t.variables → AreNamesSound t → AreNodesSound t.nodes t.variables →
    AreIdentifiersSound t → IsSecondFine t → All IsSound t.variables → IsAllowed t
from_parts t named names nodes ids second sound = record {
  some = let carried = ids.carried in omega (arith, carried.1, length-map t.variables (λ v. v.id));
  free = All-cons IsFree t.name (t.pointer ∷ t.register ∷ names_in t) names.name
      (All-cons IsFree t.pointer (t.register ∷ names_in t) names.registers.first
      (All-cons IsFree t.register (names_in t) names.registers.second
      (All-map IsFree (λ v. v.name) t.variables (All-weaker IsSound (λ v. IsFree v.name) (λ v is. is.free) t.variables sound))));
  globals = names.globals;
  locals = names.registers.apart;
  counts = All-weaker IsSound (λ v. (1 ≤ v.count) × (v.count ≤ 1000)) (λ v is. (is.least, is.most)) t.variables sound;
  numbers = nodes.numbers;
  once = nodes.once;
  named = named;
  needed = needed t named nodes;
  inside = All-weaker IsSound (λ v. v.offset ≤ 8 * v.count) (λ v is. is.inside) t.variables sound;
  apart = ids.apart;
  carried = ids.carried;
  second = second;
}

pub names_of : (t : Thin) → IsAllowed t → AreNamesSound t
names_of t is =
    let rest = All-tail IsFree t.name (t.pointer ∷ t.register ∷ names_in t) is.free in
    let last = All-tail IsFree t.pointer (t.register ∷ names_in t) rest in
    record {
      name = All-head IsFree t.name (t.pointer ∷ t.register ∷ names_in t) is.free;
      registers = record {
        first = All-head IsFree t.pointer (t.register ∷ names_in t) rest;
        second = All-head IsFree t.register (names_in t) last;
        apart = is.locals;
      };
      globals = is.globals;
    }

pub nodes_of : (t : Thin) → IsAllowed t → AreNodesSound t.nodes t.variables
nodes_of t is = record { numbers = is.numbers; once = is.once; needed = numbers_needed t is.needed }

pub identifiers_of : (t : Thin) → IsAllowed t → AreIdentifiersSound t
identifiers_of t is = record { apart = is.apart; carried = is.carried }

pub sound_of : (t : Thin) → IsAllowed t → All IsSound t.variables
sound_of t is k d within =
    let rest = All-tail IsFree t.name (t.pointer ∷ t.register ∷ names_in t) is.free in
    let names = All-tail IsFree t.register (names_in t) (All-tail IsFree t.pointer (t.register ∷ names_in t) rest) in
    let count = is.counts k d within in
    record {
      free = all_from_map (λ v. v.name) IsFree t.variables names k d within;
      least = count.0;
      most = count.1;
      inside = is.inside k d within;
    }
