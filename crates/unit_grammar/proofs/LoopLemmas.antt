-- The steps of a loop that reads any number of texts.
use Rattle.std.proofs.Common.{◌≡◌, ℕ, zero, suc, ◌+◌, ◌-◌, ◌<◌, List, [], ◌∷◌, ◌++◌, refl, sym, ap, ◌∙◌, arith}
use Rattle.unit_grammar.specs.Pieces.{Piece}
use Rattle.unit_grammar.specs.Readers.{Read, found, absent, deep, Reader, many_read}

pub one_more : {A : Type 0} (n k : ℕ) (p : Reader A) (given : List A) (ts rest : List Piece) (a : A) → n ≡ suc k → p ts ≡ found a rest →
    many_read n p given ts ≡ many_read k p (given ++ a ∷ []) rest
one_more n k p given ts rest a e f = rw e (rw f refl)

pub no_more : {A : Type 0} (n : ℕ) (p : Reader A) (given : List A) (ts : List Piece) → p ts ≡ absent → many_read n p given ts ≡ found given ts
no_more zero p given ts e = refl
no_more (suc n) p given ts e = rw e refl

pub too_deep : {A : Type 0} (n k : ℕ) (p : Reader A) (given : List A) (ts : List Piece) → n ≡ suc k → p ts ≡ deep → many_read n p given ts ≡ deep
too_deep n k p given ts e f = rw e (rw f refl)

-- a turn of the loop that read one more
pub turn_more : {A : Type 0} (p : Reader A) (start : Read (List A)) (n turn : ℕ) (list new : List A) (ts rest : List Piece) (a : A) →
    start ≡ many_read (n - turn) p list ts → turn < n → p ts ≡ found a rest → new ≡ list ++ a ∷ [] → start ≡ many_read (n - (turn + 1)) p new rest
turn_more p start n turn list new ts rest a so less is added =
    let count : n - turn ≡ suc (n - (turn + 1)) = omega arith in
    so ∙ one_more _ _ p list ts rest a count is ∙ ap (λ xs. many_read (n - (turn + 1)) p xs rest) (sym added)
