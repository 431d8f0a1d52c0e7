-- What the lengths of joined languages are.
use Rattle.std.proofs.Common.{◌≡◌, ℕ, zero, suc, ◌+◌, ◌-◌, ◌<◌, ◌≤◌, Bool, true, false, cond, ◌==◌, Option, Some, None, List, [], ◌∷◌, length, take, drop, get_or, refl, ap, sym, arith}
use Rattle.std.specs.List.{prefix_len}
use Rattle.std.proofs.lemmas.List.{take_rest, length-take}
use Rattle.std.proofs.lemmas.Bool.Decides.{nat_tests}
use Rattle.ir_lex.specs.Letters.{is_name_byte}
use Rattle.ir_lex.specs.Names.{unquoted, unescaped, is_number}
use Rattle.ir_lex.specs.Lengths.{one, many, more, joined, maybe, unless, run, quoted, quoted_name, to_quote}
use Rattle.ir_lex.proofs.CaseSplits.{test}

pub joined_none : (g : ℕ → Option ℕ) → joined None g ≡ None
unfolding joined
joined_none g = refl

pub joined_some : (n : ℕ) (g : ℕ → Option ℕ) → joined (Some n) g ≡ more n (g n)
unfolding joined
joined_some n g = refl

pub more_none : (n : ℕ) → more n None ≡ None
unfolding more
more_none n = refl

pub more_some : (n m : ℕ) → more n (Some m) ≡ Some (n + m)
unfolding more
more_some n m = refl

pub one_empty : (p : ℕ → Bool) (bytes : List ℕ) → length bytes ≡ 0 → one p bytes ≡ None
unfolding one
one_empty p [] e = refl
one_empty p (b ∷ bytes) e = absurd (omega arith)

pub one_some : (p : ℕ → Bool) (bytes : List ℕ) → 0 < length bytes → p (get_or bytes 0 0) ≡ true → one p bytes ≡ Some 1
unfolding one
one_some p [] e t = absurd (omega arith)
one_some p (b ∷ bytes) e t = rw t

pub one_none : (p : ℕ → Bool) (bytes : List ℕ) → 0 < length bytes → p (get_or bytes 0 0) ≡ false → one p bytes ≡ None
unfolding one
one_none p [] e t = absurd (omega arith)
one_none p (b ∷ bytes) e t = rw t

pub many_is : (p : ℕ → Bool) (bytes : List ℕ) → many p bytes ≡ Some (prefix_len p bytes)
unfolding many
many_is p bytes = refl

pub maybe_none : (f : List ℕ → Option ℕ) (bytes : List ℕ) → f bytes ≡ None → maybe f bytes ≡ Some 0
unfolding maybe
maybe_none f bytes e = rw e

pub maybe_some : (f : List ℕ → Option ℕ) (bytes : List ℕ) (n : ℕ) → f bytes ≡ Some n → maybe f bytes ≡ Some n
unfolding maybe
maybe_some f bytes n e = rw e

pub unless_none : (t : ℕ → Bool) → unless t None ≡ None
unfolding unless
unless_none t = refl

pub unless_some : (t : ℕ → Bool) (n : ℕ) → unless t (Some n) ≡ cond (t n) None (Some n)
unfolding unless
unless_some t n = refl

pub ruleset both_rules = (joined_none, joined_some, more_none, more_some, many_is, take_rest)

pub ruleset one_rules = (one_empty, one_some, one_none, maybe_none, maybe_some)

-- what a length says

pub record Joined (o : Option ℕ) (g : ℕ → Option ℕ) (n : ℕ) : Type 0 where
  pub front : ℕ
  pub back : ℕ
  pub first : o ≡ Some front
  pub second : g front ≡ Some back
  pub sum : n ≡ front + back

more_is : (k : ℕ) (g : ℕ → Option ℕ) (n : ℕ) (o : Option ℕ) → g k ≡ o → more k o ≡ Some n → Joined (Some k) g n
unfolding more
more_is k g n None e d = absurd cc
more_is k g n (Some m) e d = record { front = k; back = m; first = refl; second = e; sum = cc }

pub joined_is : (o : Option ℕ) (g : ℕ → Option ℕ) (n : ℕ) → joined o g ≡ Some n → Joined o g n
unfolding joined more
joined_is None g n e = absurd cc
joined_is (Some k) g n e = more_is k g n (g k) refl e

pub record One (p : ℕ → Bool) (bytes : List ℕ) (n : ℕ) : Type 0 where
  pub single : n ≡ 1
  pub some : 0 < length bytes
  pub passes : p (get_or bytes 0 0) ≡ true

pub one_is : (p : ℕ → Bool) (bytes : List ℕ) (n : ℕ) → one p bytes ≡ Some n → One p bytes n
unfolding one
one_is p [] n e = absurd cc
one_is p (b ∷ bytes) n e =
    test (p b) (λ t. let d = rw t at e in record { single = cc; some = omega arith; passes = t }) (λ t. let d = rw t at e in absurd cc)

pub record QuotedAt (bytes : List ℕ) (n : ℕ) : Type 0 where
  pub least : 2 ≤ n
  pub some : 0 < length bytes
  pub quote : get_or bytes 0 0 ≡ 34

pub quoted_at : (bytes : List ℕ) (n : ℕ) → quoted bytes ≡ Some n → QuotedAt bytes n
unfolding quoted to_quote many
quoted_at bytes n e =
    let j = joined_is _ _ n e in
    let o = one_is _ bytes j.front j.first in
    let k = joined_is _ _ j.back j.second in
    let q = one_is _ _ k.back k.second in
    record { least = omega arith; some = o.some; quote = grind (arith, nat_tests, o.passes) }

take_shorter : (m : ℕ) (bytes : List ℕ) → take m (take (suc m) bytes) ≡ take m bytes
take_shorter zero bytes = refl
take_shorter (suc m) [] = refl
take_shorter (suc m) (b ∷ bytes) = ap (λ rest. b ∷ rest) (take_shorter m bytes)

inside_cons : (m b : ℕ) (bytes : List ℕ) → b ≡ 34 → suc m ≤ length bytes →
    unquoted (take (suc (suc m)) (b ∷ bytes)) ≡ unescaped (take m bytes)
inside_cons m b bytes e within =
    let h : (b == 34) ≡ true = grind (arith, nat_tests) in
    let k : length (b ∷ take (suc m) bytes) - 2 ≡ m = omega (arith, length-take (suc m) bytes) in
    rw (h, k) (ap unescaped (take_shorter m bytes))

pub quoted_inside : (bytes : List ℕ) (n : ℕ) → QuotedAt bytes n → n ≤ length bytes →
    unquoted (take n bytes) ≡ unescaped (take (n - 1 - 1) (drop 1 bytes))
quoted_inside [] n q within = absurd (omega arith)
quoted_inside (b ∷ bytes) zero q within = absurd (omega arith)
quoted_inside (b ∷ bytes) (suc zero) q within = absurd (omega arith)
quoted_inside (b ∷ bytes) (suc (suc m)) q within =
    let e : suc (suc m) - 1 - 1 ≡ m = omega arith in
    rw e (inside_cons m b bytes q.quote (omega arith))

pub named : (bytes : List ℕ) (n : ℕ) (v : Bool) → quoted bytes ≡ Some n → n ≤ length bytes →
    v ≡ is_number (unescaped (take (n - 1 - 1) (drop 1 bytes))) → quoted_name bytes ≡ cond v None (Some n)
unfolding quoted_name unless
named bytes n v e within t =
    let inside = quoted_inside bytes n (quoted_at bytes n e) within in
    rw (e, inside, ← t) refl

pub names_run : (p : ℕ → Bool) (bytes : List ℕ) (n : ℕ) → n ≡ prefix_len p bytes → 0 < n → run p p bytes ≡ Some n
unfolding run joined more one many
names_run p [] n e some = absurd (omega arith)
names_run p (b ∷ bytes) n e some =
    test (p b) (λ t. let d = rw t at e in rw t (sym (ap Some d))) (λ t. let d = rw t at e in absurd (omega arith))

pub no_run : (p : ℕ → Bool) (bytes : List ℕ) (n : ℕ) → n ≡ prefix_len p bytes → n ≡ 0 → run p p bytes ≡ None
unfolding run joined one
no_run p [] n e none = refl
no_run p (b ∷ bytes) n e none =
    test (p b) (λ t. let d = rw t at e in absurd (omega arith)) (λ t. rw t)

pub no_quoted : (bytes : List ℕ) → 0 < prefix_len is_name_byte bytes → quoted_name bytes ≡ None
unfolding quoted_name quoted joined one unless
no_quoted [] some = absurd (omega arith)
no_quoted (b ∷ bytes) some =
    test (b == 34) (λ t. absurd (grind (arith, nat_tests))) (λ t. rw t)
