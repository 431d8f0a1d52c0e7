-- Where one step is defined, another is too, and what they give is related.
use Rattle.std.proofs.Common.{◌≡◌, ℕ, zero, suc, List, [], ◌∷◌, Option, Some, None, refl, sym, ap, subst, ◌∙◌}
use Rattle.ir_meaning.specs.Sequence.{◌>>=◌}

abbrev pub Followed : {A B : Type 0} → (A → B → Type 0) → Option A → Option B → Type 0
Followed R None _ = Unit {0}
Followed R (Some a) (Some b) = R a b
Followed R (Some a) None = ⊥

-- one part after another
pub in_turn : {A B C D : Type 0} (R : A → B → Type 0) (S : C → D → Type 0) (o : Option A) (p : Option B) (k : A → Option C) (l : B → Option D)
    → Followed R o p → ((a : A) (b : B) → R a b → Followed S (k a) (l b)) → Followed S (o >>= k) (p >>= l)
in_turn R S None p k l follows next = tt
in_turn R S (Some a) (Some b) k l follows next = next a b follows
in_turn R S (Some a) None k l follows next = absurd follows

-- what follows, where the first is defined
pub given_some : {A B : Type 0} (R : A → B → Type 0) (o : Option A) (p : Option B) (a : A) → o ≡ Some a → Followed R o p → (b : B) × (p ≡ Some b) × R a b
given_some R None p a is follows = cc
given_some R (Some x) None a is follows = absurd follows
given_some R (Some x) (Some b) a is follows = let same : x ≡ a = cc in (b, refl, subst (λ y. R y b) same follows)
