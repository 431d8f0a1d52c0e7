-- Lists with signs between their items, as the code reads them.
use Rattle.std.proofs.Common.{◌≡◌, ℕ, zero, suc, List, [], ◌∷◌, ◌++◌, length, refl, sym, ◌∙◌, ap, append_assoc, append-nil}
use Rattle.unit_grammar.specs.Pieces.{Piece}
use Rattle.unit_grammar.specs.Signs.{Sign}
use Rattle.unit_grammar.specs.Grammar.{Part, Text, listed, list_with}
use Rattle.unit_grammar.specs.Readers.{Read, found, absent, deep, Reader, read, then_read, sign_read, maybe_read, many_on, many_read, first_on, list_read}
use Rattle.unit_grammar.proofs.ManyLaws.{many_never}

abbrev behind : {A : Type 0} → List A → Read (List A) → Read (List A)
behind given r = then_read r (λ xs rest. found (given ++ xs) rest)

behind_both : {A : Type 0} (given others : List A) (r : Read (List A)) → behind (given ++ others) r ≡ behind given (behind others r)
behind_both given others (found xs rest) = ap (λ ys. found ys rest) (append_assoc given others xs)
behind_both given others absent = refl
behind_both given others deep = refl

-- what stands behind those that are given is read alike, whatever is given
pub many_given : {A : Type 0} (n : ℕ) (p : Reader A) (given : List A) (ts : List Piece) → many_read n p given ts ≡ behind given (many_read n p [] ts)
many_given zero p given ts = ap (λ ys. found ys ts) (sym (append-nil given))
many_given {A} (suc n) p given ts = go (p ts) (λ a rest. many_given n p (given ++ a ∷ []) rest) (λ a rest. many_given n p (a ∷ []) rest)
  where
    go : (x : Read A) → ((a : A) (rest : List Piece) → many_read n p (given ++ a ∷ []) rest ≡ behind (given ++ a ∷ []) (many_read n p [] rest)) →
        ((a : A) (rest : List Piece) → many_read n p (a ∷ []) rest ≡ behind (a ∷ []) (many_read n p [] rest)) →
        many_on x given ts (many_read n p) ≡ behind given (many_on x [] ts (many_read n p))
    go (found a rest) with_given with_none =
        with_given a rest ∙ behind_both given (a ∷ []) (many_read n p [] rest) ∙ ap (λ r. behind given r) (sym (with_none a rest))
    go absent with_given with_none = ap (λ ys. found ys ts) (sym (append-nil given))
    go deep with_given with_none = refl

pub list_is : {N : Type 0} {V : N → Type 0} (r : (x : N) → Reader (V x)) {A : Type 0} (s : Sign) (p : Part N V A) (ts : List Piece) →
    read r (list_with s p) ts ≡ list_read s (read r p) ts
list_is {N} {V} r {A} s p ts = go (read r p ts)
  where
    others : (a : A) (x : Read (List A)) → (x ≡ absent → ⊥) →
        then_read {B = List A} (maybe_read (then_read {B = List A} (then_read {B = A × List A} x (λ xs last. found (a, xs) last)) (λ y rest. found (y.0 ∷ y.1) rest)) ts) (λ o rest. found (listed o) rest) ≡ behind (a ∷ []) x
    others a (found xs last) never = refl
    others a absent never = absurd (never refl)
    others a deep never = refl

    go : (x : Read A) →
        then_read {B = List A} (maybe_read (then_read {B = List A} (then_read {B = A × List A} x (λ a rest. then_read (many_read (length rest) (sign_read s (read r p)) [] rest) (λ xs last. found (a, xs) last))) (λ y rest. found (y.0 ∷ y.1) rest)) ts) (λ o rest. found (listed o) rest)
        ≡ first_on x ts (λ a rest. many_read (length rest) (sign_read s (read r p)) (a ∷ []) rest)
    go (found a rest) =
        others a (many_read (length rest) (sign_read s (read r p)) [] rest) (many_never (length rest) (sign_read s (read r p)) [] rest)
        ∙ sym (many_given (length rest) (sign_read s (read r p)) (a ∷ []) rest)
    go absent = refl
    go deep = refl
