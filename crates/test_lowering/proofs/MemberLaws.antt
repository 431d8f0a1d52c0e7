-- The members of an identifier of a thin file.
use Rattle.std.proofs.Common.{◌≡◌, ◌≢◌, ℕ, ◌+◌, inl, inr, List, [], ◌∷◌, refl, sym, ap, ◌∙◌, arith, Some, slice_get, zero, suc, map, option_map, add-zero}
use Rattle.std.proofs.lemmas.Option.{slice_get-map}
use Rattle.ir_values.specs.declared.modules.TypeId.TheVariants.{Name}
use Rattle.thin_files.specs.declared.thin.Variable.{Variable}
use Rattle.thin_files.specs.Thin.{variable_of, AreDistinct}
use Rattle.test_lowering.specs.Rewriting.{members_from}
use Rattle.test_lowering.proofs.PlaceLaws.{text_cases, pairs_at}

-- no variable carries the identifier
abbrev pub Lacks : List ℕ → List Variable → Type 0
Lacks id vars = (k : ℕ) (v : Variable) → slice_get vars k ≡ Some v → v.id ≢ id

-- the others of a list of distinct identifiers differ from the first
others_differ : (id : List ℕ) (v : Variable) (vars : List Variable) → AreDistinct (map (λ w. w.id) (v ∷ vars)) → v.id ≡ id → Lacks id vars
others_differ id v vars distinct is k w at same =
    pairs_at (λ one other. one ≢ other) (map (λ u. u.id) (v ∷ vars)) 0 (suc k) v.id w.id distinct (omega arith) refl
    (slice_get-map (λ u. u.id) vars k ∙ ap (option_map (λ u. u.id)) at) (is ∙ sym same)

tail_distinct : (v : Variable) (vars : List Variable) → AreDistinct (map (λ w. w.id) (v ∷ vars)) → AreDistinct (map (λ w. w.id) vars)
tail_distinct v vars distinct i j d before within = distinct (suc i) (suc j) d (omega arith) (omega arith)

one_more : (group k : ℕ) → group + 1 + k ≡ group + suc k
one_more group k = omega arith

pub members-none : (id : List ℕ) (group : ℕ) (vars : List Variable) → Lacks id vars
    → members_from (Name id) group (map variable_of vars) ≡ []
members-none id group [] lacks = refl
members-none id group (v ∷ vars) lacks =
    elim (text_cases v.id id) [
      | inl same ↦ absurd (lacks zero v refl same.1)
      | inr other ↦ rw other.0 (members-none id (group + 1) vars (λ k w at. lacks (suc k) w at))
    ]

-- the one variable that carries the identifier is its one member
pub members-one : (id : List ℕ) (group : ℕ) (vars : List Variable) (k : ℕ) (v : Variable)
    → AreDistinct (map (λ w. w.id) vars) → slice_get vars k ≡ Some v → v.id ≡ id
    → members_from (Name id) group (map variable_of vars) ≡ record { group = group + k; offset = v.offset } ∷ []
members-one id group [] k v distinct at is = cc
members-one id group (w ∷ vars) zero v distinct at is =
    let same : w ≡ v = cc in
    elim (text_cases w.id id) [
      | inl equal ↦ rw (equal.0, members-none id (group + 1) vars (others_differ id w vars distinct (ap (λ u. u.id) same ∙ is)), same, add-zero) refl
      | inr other ↦ absurd (other.1 (ap (λ u. u.id) same ∙ is))
    ]
members-one id group (w ∷ vars) (suc k) v distinct at is =
    elim (text_cases w.id id) [
      | inl equal ↦ absurd (others_differ id w vars distinct equal.1 k v at is)
      | inr other ↦ rw (other.0, members-one id (group + 1) vars k v (tail_distinct w vars distinct) at is, one_more group k) refl
    ]
