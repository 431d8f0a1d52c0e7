-- The token at a place, and the text from one to another.
use Rattle.std.proofs.Common.{◌≡◌, ℕ, zero, suc, ◌+◌, ◌-◌, ◌<◌, ◌≤◌, List, [], ◌∷◌, length, take, drop, slice_range, slice_index_or, refl, ap, ◌∙◌, add-one, arith, drop_of_length-le}
use Rattle.std.proofs.lemmas.List.{length-drop}
use Rattle.ir_lex.specs.declared.token.Token.{Token}
use Rattle.unit_grammar.specs.Pieces.{Piece, piece, pieces, last_end, spelling}
use Rattle.unit_grammar.specs.Readers.{before}

pub piece_at : (text : List ℕ) (tokens : List Token) (at : ℕ) (other : Token) → at < length tokens →
    drop at (pieces text tokens) ≡ piece text (slice_index_or tokens at other) ∷ drop (at + 1) (pieces text tokens)
piece_at text [] at other h = absurd (omega arith)
piece_at text (t ∷ ts) zero other h = refl
piece_at text (t ∷ ts) (suc at) other h =
    let next = piece_at text ts at other (omega arith) in
    rw add-one (rw add-one at next)

pub pieces_length : (text : List ℕ) (tokens : List Token) → length (pieces text tokens) ≡ length tokens
pieces_length text [] = refl
pieces_length text (t ∷ ts) = ap suc (pieces_length text ts)

-- the end of the last of some tokens
ends_at : (text : List ℕ) (t : Token) (ts : List Token) (k : ℕ) (other : Token) → k ≤ length ts →
    last_end (piece text t) (take k (pieces text ts)) ≡ (slice_index_or (t ∷ ts) k other).end
ends_at text t ts zero other h = refl
ends_at text t [] (suc k) other h = absurd (omega arith)
ends_at text t (s ∷ ts) (suc k) other h = ends_at text s ts k other (omega arith)

-- the text of the first tokens
spelled_first : (text : List ℕ) (tokens : List Token) (n : ℕ) (other : Token) → n < length tokens →
    spelling (take (suc n) (pieces text tokens)) ≡ slice_range text (slice_index_or tokens 0 other).start (slice_index_or tokens n other).end
spelled_first text [] n other h = absurd (omega arith)
spelled_first text (t ∷ ts) n other h = ap (λ e. slice_range text t.start e) (ends_at text t ts n other (omega arith))

drop_pieces : (text : List ℕ) (tokens : List Token) (at : ℕ) → drop at (pieces text tokens) ≡ pieces text (drop at tokens)
drop_pieces text [] zero = refl
drop_pieces text [] (suc at) = refl
drop_pieces text (t ∷ ts) zero = refl
drop_pieces text (t ∷ ts) (suc at) = drop_pieces text ts at

index_drop : (tokens : List Token) (at n : ℕ) (other : Token) → slice_index_or (drop at tokens) n other ≡ slice_index_or tokens (at + n) other
index_drop tokens zero n other = let e : n ≡ 0 + n = omega arith in ap (λ k. slice_index_or tokens k other) e
index_drop [] (suc at) n other = refl
index_drop (t ∷ ts) (suc at) n other = let e : suc (at + n) ≡ suc at + n = omega arith in index_drop ts at n other ∙ ap (λ k. slice_index_or (t ∷ ts) k other) e

behind_length : (text : List ℕ) (tokens : List Token) (at behind : ℕ) →
    length (drop at (pieces text tokens)) - length (drop behind (pieces text tokens)) ≡ (length tokens - at) - (length tokens - behind)
behind_length text tokens at behind = simp (length-drop, pieces_length) refl

-- the text from one token up to another, of which `most` is the least of its place and the number of tokens
pub spelled_at : (text : List ℕ) (tokens : List Token) (at behind most : ℕ) (other : Token) → at < most →
    (length tokens - at) - (length tokens - behind) ≡ most - at → most ≤ length tokens →
    spelling (before (drop at (pieces text tokens)) (drop behind (pieces text tokens))) ≡
    slice_range text (slice_index_or tokens at other).start (slice_index_or tokens (most - 1) other).end
spelled_at text tokens at behind most other less e within =
    let n : ℕ = most - at - 1 in
    let count : length (drop at (pieces text tokens)) - length (drop behind (pieces text tokens)) ≡ suc n =
    behind_length text tokens at behind ∙ e ∙ omega arith in
    let small : n < length (drop at tokens) = rw length-drop (omega arith) in
    let first = index_drop tokens at 0 other in
    let last = index_drop tokens at n other in
    let from : at + 0 ≡ at = omega arith in
    let to : at + n ≡ most - 1 = omega arith in
    ap (λ k. spelling (take k (drop at (pieces text tokens)))) count
    ∙ ap (λ ps. spelling (take (suc n) ps)) (drop_pieces text tokens at)
    ∙ spelled_first text (drop at tokens) n other small
    ∙ ap (λ (t : Token). slice_range text t.start (slice_index_or (drop at tokens) n other).end) (first ∙ ap (λ k. slice_index_or tokens k other) from)
    ∙ ap (λ (t : Token). slice_range text (slice_index_or tokens at other).start t.end) (last ∙ ap (λ k. slice_index_or tokens k other) to)

pub spelled_none : (ps : List Piece) (at behind : ℕ) → behind ≤ at → spelling (before (drop at ps) (drop behind ps)) ≡ []
spelled_none ps at behind h =
    let none : length (drop at ps) - length (drop behind ps) ≡ 0 = simp length-drop (omega arith) in
    ap (λ k. spelling (take k (drop at ps))) none

nothing_left : (ps : List Piece) (at k : ℕ) → length ps ≤ at → spelling (take k (drop at ps)) ≡ []
nothing_left ps at k h = rw (drop_of_length-le ps h) (no_piece k)
  where
    no_piece : (k : ℕ) → spelling (take k []) ≡ []
    no_piece zero = refl
    no_piece (suc k) = refl

pub spelled_past : (text : List ℕ) (tokens : List Token) (at behind : ℕ) → length tokens ≤ at →
    spelling (before (drop at (pieces text tokens)) (drop behind (pieces text tokens))) ≡ []
spelled_past text tokens at behind h = nothing_left (pieces text tokens) at _ (rw pieces_length h)
