-- Taking tokens apart by how they look.
use Rattle.std.proofs.Common.{◌≡◌, refl, ap, ℕ, zero, suc, Bool, true, false, ◌&&◌, cond, List, [], ◌∷◌, ◌++◌, nat_eq, arith}
use Rattle.std.proofs.lemmas.Bool.Decides.{nat_tests}
use Rattle.ir_lex.specs.declared.token.Kind.{Kind}
use Rattle.ir_lex.specs.Kinds.{row}
use Rattle.unit_grammar.specs.Pieces.{Piece}
use Rattle.unit_grammar.specs.Signs.{Sign, fits, passes}
use Rattle.unit_grammar.specs.Grammar.{◌or◌, Closes}
use Rattle.printed_tokens.specs.Looks.{Seen, seen}

-- a token that looks so, before others that look so
pub record StartsWith (ts : List Piece) (x : Seen) (xs : List Seen) : Type 0 where
  pub t : Piece
  pub back : List Piece
  pub kind : t.kind ≡ x.kind
  pub bytes : t.bytes ≡ x.bytes
  pub rest : seen back ≡ xs
  pub splits : ts ≡ t ∷ back

pub starts_with : (ts : List Piece) (x : Seen) (xs : List Seen) → seen ts ≡ x ∷ xs → StartsWith ts x xs
starts_with [] x xs e = absurd cc
starts_with (t ∷ ts) x xs e =
    let first : record { kind = t.kind; bytes = t.bytes } ≡ x = cc in
    record { t = t; back = ts; kind = ap (λ s. s.kind) first; bytes = ap (λ s. s.bytes) first; rest = cc; splits = refl }

pub none_seen : (ts : List Piece) → seen ts ≡ [] → ts ≡ []
none_seen [] e = refl
none_seen (t ∷ ts) e = absurd cc

-- tokens that look so, before others that look so
pub record Splits (ts : List Piece) (xs ys : List Seen) : Type 0 where
  pub front : List Piece
  pub back : List Piece
  pub before : seen front ≡ xs
  pub behind : seen back ≡ ys
  pub splits : ts ≡ front ++ back

pub seen_split : (ts : List Piece) (xs ys : List Seen) → seen ts ≡ xs ++ ys → Splits ts xs ys
seen_split ts [] ys e = record { front = []; back = ts; before = refl; behind = e; splits = refl }
seen_split [] (x ∷ xs) ys e = absurd cc
seen_split (t ∷ ts) (x ∷ xs) ys e =
    let first : record { kind = t.kind; bytes = t.bytes } ≡ x = cc in
    let others = seen_split ts xs ys cc in
    record {
      front = t ∷ others.front;
      back = others.back;
      before = rw (first, others.before) refl;
      behind = others.behind;
      splits = ap (λ zs. t ∷ zs) others.splits;
    }

-- a token of this kind with these bytes passes
abbrev pub lets : Sign → Kind → List ℕ → Bool
lets s kind bytes = nat_eq (row kind) (row s.kind) && fits s.which bytes

pub let_by : (s : Sign) (t : Piece) (kind : Kind) (bytes : List ℕ) → lets s kind bytes ≡ true → t.kind ≡ kind → t.bytes ≡ bytes →
    passes s t ≡ true
let_by s t kind bytes e k b = rw (k, b) e

-- what looks so closes all that is open, and not before its end
abbrev pub closes : Sign → Sign → List Seen → ℕ → Bool
closes o c [] count = nat_eq count 0
closes o c (x ∷ xs) zero = false
closes o c (x ∷ xs) (suc others) =
    closes o c xs (cond (lets o x.kind x.bytes) (suc (suc others)) (cond (lets c x.kind x.bytes) others (suc others)))

pub closes_by : (o c : Sign) (ts : List Piece) (count : ℕ) → closes o c (seen ts) count ≡ true → Closes o c ts count
closes_by o c [] count e = grind (arith, nat_tests)
closes_by o c (t ∷ ts) zero e = absurd cc
closes_by o c (t ∷ ts) (suc others) e = closes_by o c ts _ e
