-- Texts that are put one behind the other.
use Rattle.std.proofs.Common.{◌≡◌, refl, sym, ◌∙◌, ap, ℕ, ◌+◌, ◌≤◌, Bool, true, false, List, [], ◌++◌, length, take, drop, arith, length-append, length-drop, append_assoc, subst}
use Rattle.std.specs.Io.KnownBytes.{append_known}
use Rattle.std.proofs.Math.Seq.{take-add}
use Rattle.std.proofs.lemmas.Grind.{common_steps}
use Rattle.std.proofs.lemmas.List.{take-append-le, drop-append-le, drop-drop, append-nil}
use Rattle.ltt_base.specs.Outside.{Rose, Took}
use Rattle.ltt_base.proofs.CallerLemmas.{Took-then, Took-none}
use Rattle.ir_names.specs.Puts.{State, Moves, Puts}

-- the bytes of a text that are taken behind those that had waited
pub take-on : (k j : ℕ) (u y : List ℕ) → k ≤ length u → take k u ++ take j (drop k u ++ y) ≡ take (k + j) (u ++ y)
take-on k j u y h = sym (take-add k j (u ++ y)
    ∙ (ap (λ s. s ++ take j (drop k (u ++ y))) (take-append-le k u y h)
    ∙ ap (λ s. take k u ++ take j s) (drop-append-le k u y h)))

pub drop-on : (k j : ℕ) (u y : List ℕ) → k ≤ length u → drop j (drop k u ++ y) ≡ drop (k + j) (u ++ y)
drop-on k j u y h = ap (drop j) (sym (drop-append-le k u y h)) ∙ drop-drop j k (u ++ y)

-- the sink has failed before the rest of a text
pub moves-more : (a b c : State) (u y : List ℕ) (k : ℕ) → Moves a b u k → c.taken ≡ b.taken → c.failed ≡ true → Moves a c (u ++ y) k
moves-more a b c u y k m e is = record {
  within = omega (arith, m.within, length-append u y);
  took = e ∙ (m.took ∙ ap (append_known a.taken) (sym (take-append-le k u y m.within)));
  waits = λ w. cc;
}

pub moves-on : (a b c : State) (u y : List ℕ) (k j : ℕ) → Moves a b u k → b.failed ≡ false → Moves b c (b.buffer ++ y) j → Moves a c (u ++ y) (k + j)
moves-on a b c u y k j m is n = let e = m.waits is in record {
  within = omega (arith, m.within, n.within, length-append b.buffer y, length-append u y, ap length e, length-drop k u);
  took = Took-then a.taken b.taken c.taken (take k u) (take j (b.buffer ++ y)) m.took n.took
      ∙ ap (append_known a.taken) (ap (λ s. take k u ++ take j (s ++ y)) e ∙ take-on k j u y m.within);
  waits = λ w. n.waits w ∙ (ap (λ s. drop j (s ++ y)) e ∙ drop-on k j u y m.within);
}

pub moves-then : (a b c : State) (x y : List ℕ) (f : Bool) → b.failed ≡ f → a.failed ≡ false → Puts a b x → Puts b c y
    → (count : ℕ) × Moves a c ((a.buffer ++ x) ++ y) count
moves-then a b c x y true is ok p q = let m = p.moves ok in let s = q.stays is in
    (m.0, moves-more a b c (a.buffer ++ x) y m.0 m.1 s.1 s.0)
moves-then a b c x y false is ok p q = let m = p.moves ok in let n = q.moves is in
    (m.0 + n.0, moves-on a b c (a.buffer ++ x) y m.0 n.0 m.1 is n.1)

pub rose-then : (a b c : State) (x y : List ℕ) (f : Bool) → b.failed ≡ f → a.failed ≡ false → c.failed ≡ true → Puts a b x → Puts b c y
    → Rose a.faults c.faults
rose-then a b c x y true is ok w p q = let r = p.rose ok is in let le = q.counts in omega arith
rose-then a b c x y false is ok w p q = let r = q.rose is w in let le = p.counts in omega arith

-- a text that is put behind another
pub puts-then : {a b c : State} {x y : List ℕ} → Puts a b x → Puts b c y → Puts a c (x ++ y)
puts-then {a} {b} {c} {x} {y} p q = record {
  moves = λ ok. subst (λ text. (count : ℕ) × Moves a c text count) (append_assoc a.buffer x y) (moves-then a b c x y b.failed refl ok p q);
  rose = λ ok w. rose-then a b c x y b.failed refl ok w p q;
  stays = λ is. let s = p.stays is in let t = q.stays s.0 in (t.0, t.1 ∙ s.1);
  counts = omega (arith, p.counts, q.counts);
  same = q.same ∙ p.same;
}

-- nothing is put
pub puts-none : (a : State) → Puts a a []
puts-none a = record {
  moves = λ ok. (0, record { within = omega arith; took = Took-none a.taken; waits = λ w. sym (append-nil a.buffer) });
  rose = λ ok w. cc;
  stays = λ is. (is, refl);
  counts = omega arith;
  same = refl;
}

-- after a failure any text is put
pub puts-failed : (a : State) (text : List ℕ) → a.failed ≡ true → Puts a a text
puts-failed a text is = record {
  moves = λ ok. absurd (cc);
  rose = λ ok w. absurd (cc);
  stays = λ same. (is, refl);
  counts = omega arith;
  same = refl;
}

-- all that waited was taken
pub puts-sent : (a b : State) → a.failed ≡ false → b.failed ≡ false → Took a.taken b.taken a.buffer → b.buffer ≡ [] → a.faults ≤ b.faults
    → b.name ≡ a.name → Puts a b []
puts-sent a b ok still took none le same =
    let all : take (length a.buffer) (a.buffer ++ []) ≡ a.buffer = grind (arith, common_steps) in
    let rest : drop (length a.buffer) (a.buffer ++ []) ≡ [] = grind (arith, common_steps) in
    record {
      moves = λ is. (
        length a.buffer,
        record {
          within = omega (arith, length-append a.buffer []);
          took = took ∙ ap (append_known a.taken) (sym all);
          waits = λ w. none ∙ sym rest;
        },
      );
      rose = λ is w. absurd (cc);
      stays = λ is. absurd (cc);
      counts = le;
      same = same;
    }

pub puts-as : {a b : State} {x y : List ℕ} → x ≡ y → Puts a b x → Puts a b y
puts-as {a} {b} e p = subst (λ text. Puts a b text) e p
