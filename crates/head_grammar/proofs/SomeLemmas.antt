-- One or more with signs between them, as the code reads them.
use Rattle.std.proofs.Common.{◌≡◌, List, [], ◌∷◌, ◌++◌, length, refl, sym, ◌∙◌}
use Rattle.unit_grammar.specs.Pieces.{Piece}
use Rattle.unit_grammar.specs.Signs.{Sign}
use Rattle.unit_grammar.specs.Grammar.{Part, some_with}
use Rattle.unit_grammar.specs.Readers.{Read, found, absent, deep, Reader, read, then_read, sign_read, many_read}
use Rattle.unit_grammar.proofs.ListLemmas.{many_given}
use Rattle.head_grammar.specs.Computing.{some_read}

pub some_is : {N : Type 0} {V : N → Type 0} (r : (x : N) → Reader (V x)) {A : Type 0} (s : Sign) (p : Part N V A) (ts : List Piece) →
    read r (some_with s p) ts ≡ some_read s (read r p) ts
some_is {N} {V} r {A} s p ts = go (read r p ts)
  where
    others : (a : A) (x : Read (List A)) →
        then_read {B = List A} (then_read {B = A × List A} x (λ xs last. found (a, xs) last)) (λ y rest. found (y.0 ∷ y.1) rest)
        ≡ then_read {B = List A} x (λ xs rest. found ((a ∷ []) ++ xs) rest)
    others a (found xs last) = refl
    others a absent = refl
    others a deep = refl

    go : (x : Read A) →
        then_read {B = List A} (then_read {B = A × List A} x (λ a rest. then_read {B = A × List A} (many_read (length rest) (sign_read s (read r p)) [] rest) (λ xs last. found (a, xs) last))) (λ y rest. found (y.0 ∷ y.1) rest)
        ≡ then_read x (λ a rest. many_read (length rest) (sign_read s (read r p)) (a ∷ []) rest)
    go (found a rest) =
        others a (many_read (length rest) (sign_read s (read r p)) [] rest)
        ∙ sym (many_given (length rest) (sign_read s (read r p)) (a ∷ []) rest)
    go absent = refl
    go deep = refl
