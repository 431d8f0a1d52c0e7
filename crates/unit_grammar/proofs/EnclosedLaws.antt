-- What stands from a sign to the one that closes it.
use Rattle.std.proofs.Common.{◌≡◌, ℕ, zero, suc, Bool, true, false, cond, inr, List, [], ◌∷◌, ◌++◌, ◌+◌, ◌≤◌, arith, refl, ap, ◌∙◌}
use Rattle.unit_grammar.specs.Pieces.{Piece}
use Rattle.unit_grammar.specs.Signs.{Sign, passes, begins_any}
use Rattle.unit_grammar.specs.Grammar.{Text, open_behind, Closes}
use Rattle.unit_grammar.specs.Readers.{found, absent, deep, then_read, closing_read, enclosed_read}
use Rattle.unit_grammar.specs.Beginnings.{one_sign}
use Rattle.unit_grammar.specs.Exact.{IsFront, Exact}
use Rattle.unit_grammar.proofs.SignLaws.{begins_one, begins_not}
use Rattle.unit_grammar.proofs.ExactLaws.{found_rest}

abbrev IsEnclosed : Sign → Sign → Text (Unit {0})
IsEnclosed o c ts a = (t : Piece) × (back : List Piece) × (passes o t ≡ true) × Closes o c back 1 × (ts ≡ t ∷ back)

-- what closes stands in front
closed : (o c : Sign) (ts : List Piece) (count : ℕ) (a : Unit {0}) (rest : List Piece) → closing_read o c ts count ≡ found a rest →
    (front : List Piece) × Closes o c front count × (ts ≡ front ++ rest)
closed o c [] zero a rest e = ([], refl, found_rest e)
closed o c [] (suc others) a rest e = absurd cc
closed o c (t ∷ ts) zero a rest e = ([], refl, found_rest e)
closed o c (t ∷ ts) (suc others) a rest e =
    let (front, closes, splits) = closed o c ts (open_behind o c others t) a rest e in
    (t ∷ front, closes, ap (λ z. t ∷ z) splits)

never_deep : (o c : Sign) (ts : List Piece) (count : ℕ) → closing_read o c ts count ≡ deep → ⊥
never_deep o c [] zero e = cc
never_deep o c [] (suc others) e = cc
never_deep o c (t ∷ ts) zero e = cc
never_deep o c (t ∷ ts) (suc others) e = never_deep o c ts (open_behind o c others t) e

stops : (o c : Sign) (rest : List Piece) → closing_read o c rest 0 ≡ found tt rest
stops o c [] = refl
stops o c (t ∷ ts) = refl

closes_at : (o c : Sign) (front rest : List Piece) (count : ℕ) → Closes o c front count → closing_read o c (front ++ rest) count ≡ found tt rest
closes_at o c [] rest count closes = rw closes (stops o c rest)
closes_at o c (t ∷ front) rest zero closes = absurd closes
closes_at o c (t ∷ front) rest (suc others) closes = closes_at o c front rest (open_behind o c others t) closes

enclosed_found : (o c : Sign) (ts rest : List Piece) (a : Unit {0}) → enclosed_read o c ts ≡ found a rest → IsFront (IsEnclosed o c) ts a rest
enclosed_found o c [] rest a e = absurd cc
enclosed_found o c (t ∷ ts) rest a e = go (passes o t) refl e
  where
    go : (b : Bool) → passes o t ≡ b → then_read {A = Unit {0}} (cond b (found tt ts) absent) (λ _ last. closing_read o c last 1) ≡ found a rest →
        IsFront (IsEnclosed o c) (t ∷ ts) a rest
    go true passed e =
        let (front, closes, splits) = closed o c ts 1 a rest e in
        record { front = t ∷ front; is = (t, front, passed, closes, refl); splits = ap (λ z. t ∷ z) splits }
    go false passed e = absurd cc

enclosed_deep : (o c : Sign) (ts : List Piece) → enclosed_read o c ts ≡ deep → ⊥
enclosed_deep o c [] e = cc
enclosed_deep o c (t ∷ ts) e = go (passes o t) e
  where
    go : (b : Bool) → then_read {A = Unit {0}} (cond b (found tt ts) absent) (λ _ last. closing_read o c last 1) ≡ deep → ⊥
    go true e = never_deep o c ts 1 e
    go false e = cc

enclosed_absent : (o c : Sign) (ts : List Piece) → begins_any (one_sign o ∷ []) ts ≡ false → enclosed_read o c ts ≡ absent
enclosed_absent o c [] none = refl
enclosed_absent o c (t ∷ ts) none = rw (begins_not o t ts none) refl

pub enclosed_exact : (D : Type 0) (o c : Sign) → Exact (IsEnclosed o c) (IsEnclosed o c) D (λ _. ⊥) (enclosed_read o c) (one_sign o ∷ []) [] false
enclosed_exact D o c = record {
  sound = λ ts rest a e. enclosed_found o c ts rest a e;
  opened = enclosed_deep o c;
  within = λ ts a h. h;
  starts = λ ts a (t, back, passed, closes, splits). inr (rw splits (begins_one o t back passed));
  finds = λ front rest a (t, back, passed, closes, splits) ends. rw (splits, passed, closes_at o c back rest 1 closes) (refl, refl);
  reaches = λ front rest a (t, back, passed, closes, splits). rw (splits, passed, closes_at o c back rest 1 closes) (inr (refl, refl));
  absent_at = λ ts e none. enclosed_absent o c ts none;
  never_absent = λ ts e. absurd cc;
  deep_starts = λ ts e. absurd (enclosed_deep o c ts e);
}

-- the steps of the loop
pub closing_step : (o c : Sign) (ts tail : List Piece) (t : Piece) (others count : ℕ) → ts ≡ t ∷ tail → count ≡ open_behind o c others t →
    closing_read o c ts (suc others) ≡ closing_read o c tail count
closing_step o c ts tail t others count is e = rw (is, e) refl

pub closing_ends : (o c : Sign) (ts tail : List Piece) (t : Piece) (others count : ℕ) → ts ≡ t ∷ tail → count ≡ open_behind o c others t → count ≡ 0 →
    closing_read o c ts (suc others) ≡ found tt tail
closing_ends o c ts tail t others count is e none =
    closing_step o c ts tail t others count is e ∙ ap (λ n. closing_read o c tail n) none ∙ stops o c tail

pub open_most : (o c : Sign) (others : ℕ) (t : Piece) → open_behind o c others t ≤ others + 2
open_most o c others t = go (passes o t) (passes c t)
  where
    go : (b d : Bool) → cond b (suc (suc others)) (cond d others (suc others)) ≤ others + 2
    go true d = omega arith
    go false true = omega arith
    go false false = omega arith
