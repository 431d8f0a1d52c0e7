-- A small thin file keeps the rules.
use Rattle.std.proofs.Common.{◌≡◌, ◌≢◌, ℕ, ◌<◌, ◌≤◌, ◌*◌, List, [], ◌∷◌, map, codes, refl, sym, zero, suc, IsTrue, lit<, lit≤, arith}
use Rattle.std.specs.List.{All, AllPairs, Contains}
use Rattle.std.proofs.lemmas.List.Elements.{All-nil, All-cons}
use Rattle.std.proofs.lemmas.List.Kept.{AllPairs-cons}
use Rattle.thin_files.specs.declared.thin.Variable.{Variable}
use Rattle.thin_files.specs.declared.thin.Node.{Node}
use Rattle.thin_files.specs.Thin.{is_free, node_of, IsAllowed, IsNodeNumber}
use Rattle.thin_files.specs.Laws.{example}

all-lone : {X : Type 0} (P : X → Type 0) (x : X) → P x → All P (x ∷ [])
all-lone P x holds = All-cons P x [] holds (All-nil P)

pairs-none : {X : Type 0} (R : X → X → Type 0) → AllPairs R []
pairs-none R i j d before within = absurd (omega (arith, before, within))

pairs-lone : {X : Type 0} (R : X → X → Type 0) (x : X) → AllPairs R (x ∷ [])
pairs-lone R x = AllPairs-cons R x [] (All-nil (R x)) (pairs-none R)

abbrev IsFree : List ℕ → Type 0
IsFree name = IsTrue (is_free name)

apart : (a b : ℕ) → a < b → a ∷ [] ≢ b ∷ []
apart a b less same = let one : a ≡ b = cc in absurd (omega arith)

not_among : Contains (codes "t" ∷ codes "v" ∷ []) (codes "m") → ⊥
not_among (zero, within, at) = apart 109 116 (lit< tt) (sym at)
not_among (suc zero, within, at) = apart 109 118 (lit< tt) (sym at)
not_among (suc (suc k), within, at) = absurd (omega (arith, within))

pub example-allowed : IsAllowed example
example-allowed = record {
  some = lit< tt;
  free = All-cons IsFree (codes "t") (codes "p" ∷ codes "r" ∷ codes "v" ∷ []) refl
      (All-cons IsFree (codes "p") (codes "r" ∷ codes "v" ∷ []) refl
      (All-cons IsFree (codes "r") (codes "v" ∷ []) refl (all-lone IsFree (codes "v") refl)));
  globals = AllPairs-cons (λ one other. one ≢ other) (codes "t") (codes "v" ∷ [])
      (all-lone (λ other. codes "t" ≢ other) (codes "v") (apart 116 118 (lit< tt)))
      (pairs-lone (λ one other. one ≢ other) (codes "v"));
  locals = apart 112 114 (lit< tt);
  counts = all-lone (λ (v : Variable). (1 ≤ v.count) × (v.count ≤ 1000)) _ (lit≤ tt, lit≤ tt);
  numbers = all-lone (λ (n : Node). IsNodeNumber n.number) _ (refl, lit< tt);
  once = pairs-lone (λ one other. one ≢ other) (codes "0");
  named = all-lone (λ v. Contains example.nodes (node_of v)) _ (0, lit< tt, refl);
  needed = all-lone (λ n. Contains (map node_of example.variables) n) _ (0, lit< tt, refl);
  inside = all-lone (λ (v : Variable). v.offset ≤ 8 * v.count) _ (lit≤ tt);
  apart = pairs-lone (λ one other. one ≢ other) (codes "T");
  carried = (0, lit< tt, refl);
  second = record {
    name = refl;
    register = refl;
    new = λ found. not_among found;
    object = (0, lit< tt, refl);
    near = lit≤ tt;
    carried = (0, lit< tt, refl);
  };
}
