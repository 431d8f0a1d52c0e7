-- A length finds a language: it is that of the longest text at the front.
use Rattle.std.proofs.Common.{◌≡◌, ℕ, suc, ◌+◌, ◌≤◌, Bool, true, false, nat_lt, ◌⊎◌, inl, inr, Option, Some, None, List, [], ◌∷◌, ◌++◌, length, take, drop, refl, ap, ◌∙◌, subst, append_assoc, append-nil, length-append, arith}
use Rattle.std.specs.Prelude.{⊤}
use Rattle.std.specs.List.{list_all, prefix_len}
use Rattle.std.proofs.lemmas.List.Sums.{prefix_len-le-length}
use Rattle.std.proofs.lemmas.List.{length-drop}
use Rattle.std.proofs.Math.Seq.{take-add, drop-append_seam}
use Rattle.std.proofs.lemmas.Bool.Decides.{nat_tests}
use Rattle.ir_lex.specs.Languages.{IsOne, IsMany, IsThen, IsEither, IsMaybe}
use Rattle.ir_lex.specs.Lengths.{one, many, both, joined, more, longer, either, maybe}
use Rattle.ir_lex.proofs.CaseSplits.{test}
use Rattle.ir_lex.proofs.LengthLemmas.{joined_is, one_is}

-- a length of at least n
pub record Reaches (n : ℕ) (o : Option ℕ) : Type 0 where
  pub m : ℕ
  pub is : o ≡ Some m
  pub least : n ≤ m

pub record Finds (P : List ℕ → Type 0) (f : List ℕ → Option ℕ) : Type 0 where
  pub within : (bytes : List ℕ) (n : ℕ) → f bytes ≡ Some n → n ≤ length bytes
  pub is : (bytes : List ℕ) (n : ℕ) → f bytes ≡ Some n → P (take n bytes)
  pub longest : (front rest : List ℕ) → P front → Reaches (length front) (f (front ++ rest))

-- each text of P is found exactly, where F holds of what follows
abbrev pub Exact : (List ℕ → Type 0) → (List ℕ → Option ℕ) → (List ℕ → Type 0) → Type 0
Exact P f F = (front rest : List ℕ) → P front → F rest → f (front ++ rest) ≡ Some (length front)

-- each text of P is found exactly, where one of Q follows
abbrev pub Fits : (List ℕ → Type 0) → (List ℕ → Type 0) → (List ℕ → Option ℕ) → Type 0
Fits P Q f = (front back rest : List ℕ) → P front → Q back → f (front ++ (back ++ rest)) ≡ Some (length front)

abbrev pub Anything : List ℕ → Type 0
Anything rest = ⊤

-- the first byte passes; no byte that passes is first
abbrev pub First : (ℕ → Bool) → List ℕ → Type 0
First p [] = ⊥
First p (b ∷ bytes) = p b ≡ true

abbrev pub NotFirst : (ℕ → Bool) → List ℕ → Type 0
NotFirst p [] = ⊤
NotFirst p (b ∷ bytes) = p b ≡ false

abbrev pub Starts : (List ℕ → Type 0) → (ℕ → Bool) → Type 0
Starts P p = (bytes : List ℕ) → P bytes → First p bytes

abbrev pub Apart : (ℕ → Bool) → (ℕ → Bool) → Type 0
Apart p q = (b : ℕ) → p b ≡ true → q b ≡ false

-- one byte

one_take : (p : ℕ → Bool) (bytes : List ℕ) (n : ℕ) → one p bytes ≡ Some n → IsOne p (take n bytes)
one_take p [] n e = let o = one_is p [] n e in absurd (let h = o.some in omega arith)
one_take p (b ∷ bytes) n e = let o = one_is p (b ∷ bytes) n e in rw o.single o.passes

pub one_exact : (p : ℕ → Bool) → Exact (IsOne p) (one p) Anything
unfolding one
one_exact p [] rest is other = absurd is
one_exact p (b ∷ []) rest is other = rw is
one_exact p (b ∷ c ∷ bytes) rest is other = absurd is

pub exact_reaches : (n : ℕ) (o : Option ℕ) → o ≡ Some n → Reaches n o
exact_reaches n o e = record { m = n; is = e; least = omega arith }

pub one_finds : (p : ℕ → Bool) → Finds (IsOne p) (one p)
one_finds p = record {
  within = λ bytes n e. let o = one_is p bytes n e in let h = o.single in let k = o.some in omega arith;
  is = one_take p;
  longest = λ front rest is. exact_reaches (length front) _ (one_exact p front rest is tt);
}

pub fits_one : (p : ℕ → Bool) (Q : List ℕ → Type 0) → Fits (IsOne p) Q (one p)
fits_one p Q front back rest is other = one_exact p front (back ++ rest) is tt

-- any number of bytes

many_take : (p : ℕ → Bool) (bytes : List ℕ) → list_all p (take (prefix_len p bytes) bytes) ≡ true
many_take p [] = refl
many_take p (b ∷ bytes) =
    test (p b)
    (λ t. let e : 1 + prefix_len p bytes ≡ suc (prefix_len p bytes) = omega arith in rw (t, e, t) (many_take p bytes))
    (λ t. rw t refl)

prefix_over : (p : ℕ → Bool) (front rest : List ℕ) → list_all p front ≡ true →
    prefix_len p (front ++ rest) ≡ length front + prefix_len p rest
prefix_over p [] rest all = omega arith
prefix_over p (b ∷ front) rest all =
    test (p b)
    (λ t. let d = rw t at all in let e = prefix_over p front rest d in rw t (omega arith))
    (λ t. let d = rw t at all in absurd cc)

no_prefix : (p : ℕ → Bool) (rest : List ℕ) → NotFirst p rest → prefix_len p rest ≡ 0
no_prefix p [] other = refl
no_prefix p (b ∷ rest) other = rw other refl

pub many_exact : (p : ℕ → Bool) → Exact (IsMany p) (many p) (NotFirst p)
unfolding many
many_exact p front rest is other =
    let e = prefix_over p front rest is in let d = no_prefix p rest other in ap Some (omega arith)

pub many_finds : (p : ℕ → Bool) → Finds (IsMany p) (many p)
unfolding many
many_finds p = record {
  within = λ bytes n e. let d : prefix_len p bytes ≡ n = cc in let h = prefix_len-le-length p bytes in omega arith;
  is = λ bytes n e. let d : prefix_len p bytes ≡ n = cc in let P : ℕ → Type 0 = λ k. list_all p (take k bytes) ≡ true in subst P d (many_take p bytes);
  longest = λ front rest is. record { m = prefix_len p (front ++ rest); is = refl; least = let e = prefix_over p front rest is in omega arith };
}

-- one text, then another

joined_at : (o : Option ℕ) (g : ℕ → Option ℕ) (n m : ℕ) → o ≡ Some n → g n ≡ Some m → joined o g ≡ Some (n + m)
unfolding joined more
joined_at o g n m e d = rw (e, d) refl

then_take : (P Q : List ℕ → Type 0) (f g : List ℕ → Option ℕ) → Finds P f → Finds Q g →
    (bytes : List ℕ) (n : ℕ) → both f g bytes ≡ Some n → IsThen P Q (take n bytes)
then_take P Q f g F G bytes n e =
    let j = joined_is (f bytes) (λ k. g (drop k bytes)) n e in
    record {
      front = take j.front bytes;
      back = take j.back (drop j.front bytes);
      first = F.is bytes j.front j.first;
      second = G.is (drop j.front bytes) j.back j.second;
      joined = ap (λ k. take k bytes) j.sum ∙ take-add j.front j.back bytes;
    }

then_within : (P Q : List ℕ → Type 0) (f g : List ℕ → Option ℕ) → Finds P f → Finds Q g →
    (bytes : List ℕ) (n : ℕ) → both f g bytes ≡ Some n → n ≤ length bytes
then_within P Q f g F G bytes n e =
    let j = joined_is (f bytes) (λ k. g (drop k bytes)) n e in
    let a = F.within bytes j.front j.first in
    let b = G.within (drop j.front bytes) j.back j.second in
    let h = j.sum in
    omega (arith, length-drop j.front bytes)

-- what the second length is asked, where the first is exact
after_front : (g : List ℕ → Option ℕ) (front more : List ℕ) (o : Option ℕ) → g more ≡ o → g (drop (length front) (front ++ more)) ≡ o
after_front g front more o e = rw (drop-append_seam front more) e

then_reaches : (P Q : List ℕ → Type 0) (f g : List ℕ → Option ℕ) → Finds Q g → Fits P Q f →
    (front rest : List ℕ) → IsThen P Q front → Reaches (length front) (both f g (front ++ rest))
then_reaches P Q f g G fits front rest is =
    let e = fits is.front is.back rest is.first is.second in
    let r = G.longest is.back rest is.second in
    let d = after_front g is.front (is.back ++ rest) (Some r.m) r.is in
    let split : front ++ rest ≡ is.front ++ (is.back ++ rest) = rw is.joined (append_assoc is.front is.back rest) in
    let size : length front ≡ length is.front + length is.back = rw is.joined (length-append is.front is.back) in
    let least = r.least in
    record {
      m = length is.front + r.m;
      is = rw split (joined_at _ (λ k. g (drop k (is.front ++ (is.back ++ rest)))) (length is.front) r.m e d);
      least = omega arith;
    }

pub then_finds : (P Q : List ℕ → Type 0) (f g : List ℕ → Option ℕ) → Finds P f → Finds Q g → Fits P Q f →
    Finds (IsThen P Q) (both f g)
then_finds P Q f g F G fits = record {
  within = then_within P Q f g F G;
  is = then_take P Q f g F G;
  longest = then_reaches P Q f g G fits;
}

pub then_exact : (P Q : List ℕ → Type 0) (f g : List ℕ → Option ℕ) (E : List ℕ → Type 0) → Fits P Q f → Exact Q g E →
    Exact (IsThen P Q) (both f g) E
then_exact P Q f g E fits exact front rest is other =
    let e = fits is.front is.back rest is.first is.second in
    let d = after_front g is.front (is.back ++ rest) (Some (length is.back)) (exact is.back rest is.second other) in
    let split : front ++ rest ≡ is.front ++ (is.back ++ rest) = rw is.joined (append_assoc is.front is.back rest) in
    let size : length front ≡ length is.front + length is.back = rw is.joined (length-append is.front is.back) in
    rw (split, size) (joined_at _ (λ k. g (drop k (is.front ++ (is.back ++ rest)))) (length is.front) (length is.back) e d)

-- one or the other

longer_is : (o u : Option ℕ) (n : ℕ) → longer o u ≡ Some n → (o ≡ Some n) ⊎ (u ≡ Some n)
longer_is None u n e = inr e
longer_is (Some m) None n e = inl e
longer_is (Some m) (Some k) n e = grind arith

reaches_longest : (n m k : ℕ) → (n ≤ m) ⊎ (n ≤ k) → Reaches n (longer (Some m) (Some k))
reaches_longest n m k either =
    test (nat_lt m k)
    (λ t. rw t (record { m = k; is = refl; least = grind (arith, nat_tests) }))
    (λ t. rw t (record { m = m; is = refl; least = grind (arith, nat_tests) }))

longer_first : (n : ℕ) (o u : Option ℕ) → Reaches n o → Reaches n (longer o u)
longer_first n None u r = absurd (let h = r.is in cc)
longer_first n (Some m) None r = r
longer_first n (Some m) (Some k) r = reaches_longest n m k (let h = r.is in let l = r.least in let d : m ≡ r.m = cc in inl (omega arith))

longer_second : (n : ℕ) (o u : Option ℕ) → Reaches n u → Reaches n (longer o u)
longer_second n None u r = r
longer_second n (Some m) None r = absurd (let h = r.is in cc)
longer_second n (Some m) (Some k) r = reaches_longest n m k (let h = r.is in let l = r.least in let d : k ≡ r.m = cc in inr (omega arith))

pub either_finds : (P Q : List ℕ → Type 0) (f g : List ℕ → Option ℕ) → Finds P f → Finds Q g →
    Finds (IsEither P Q) (either f g)
either_finds P Q f g F G = record {
  within = λ bytes n e. elim (longer_is (f bytes) (g bytes) n e) [ inl d ↦ F.within bytes n d | inr d ↦ G.within bytes n d ];
  is = λ bytes n e. elim (longer_is (f bytes) (g bytes) n e) [ inl d ↦ inl (F.is bytes n d) | inr d ↦ inr (G.is bytes n d) ];
  longest = λ front rest is. elim is [
    | inl p ↦ longer_first (length front) (f (front ++ rest)) (g (front ++ rest)) (F.longest front rest p)
    | inr q ↦ longer_second (length front) (f (front ++ rest)) (g (front ++ rest)) (G.longest front rest q)
  ];
}

-- one or nothing

maybe_is : (f : List ℕ → Option ℕ) (bytes : List ℕ) (n : ℕ) (o : Option ℕ) → f bytes ≡ o → maybe f bytes ≡ Some n →
    (f bytes ≡ Some n) ⊎ (n ≡ 0)
unfolding maybe
maybe_is f bytes n None e d = let h = rw e at d in inr cc
maybe_is f bytes n (Some m) e d = let h = rw e at d in inl cc

maybe_reaches : (f : List ℕ → Option ℕ) (bytes : List ℕ) (n : ℕ) → Reaches n (f bytes) → Reaches n (maybe f bytes)
unfolding maybe
maybe_reaches f bytes n r = record { m = r.m; is = rw r.is refl; least = r.least }

maybe_any : (f : List ℕ → Option ℕ) (bytes : List ℕ) → Reaches 0 (maybe f bytes)
unfolding maybe
maybe_any f bytes = record { m = _; is = refl; least = omega arith }

pub maybe_finds : (P : List ℕ → Type 0) (f : List ℕ → Option ℕ) → Finds P f → Finds (IsMaybe P) (maybe f)
maybe_finds P f F = record {
  within = λ bytes n e. elim (maybe_is f bytes n (f bytes) refl e) [ inl d ↦ F.within bytes n d | inr d ↦ omega arith ];
  is = λ bytes n e. elim (maybe_is f bytes n (f bytes) refl e) [ inl d ↦ inr (F.is bytes n d) | inr d ↦ inl (rw d refl) ];
  longest = λ front rest is. elim is [
    | inl d ↦ rw d (maybe_any f _)
    | inr p ↦ maybe_reaches f (front ++ rest) (length front) (F.longest front rest p)
  ];
}

-- a text, and perhaps another behind it

tail_reaches : (P Q : List ℕ → Type 0) (f g : List ℕ → Option ℕ) → Finds P f → Finds Q g → Fits P Q f →
    (front rest : List ℕ) → IsThen P (IsMaybe Q) front → Reaches (length front) (both f (maybe g) (front ++ rest))
tail_reaches P Q f g F G fits front rest is = elim is.second [
  | inl none ↦
      let same : front ≡ is.front = is.joined ∙ ap (λ back. is.front ++ back) none ∙ append-nil is.front in
      let r = F.longest is.front rest is.first in
      let u = maybe_any g (drop r.m (is.front ++ rest)) in
      let least = r.least in
      record {
        m = r.m + u.m;
        is = rw same (joined_at _ (λ k. maybe g (drop k (is.front ++ rest))) r.m u.m r.is u.is);
        least = rw same (omega arith);
      }
  | inr second ↦
      let e = fits is.front is.back rest is.first second in
      let r = maybe_reaches g (is.back ++ rest) (length is.back) (G.longest is.back rest second) in
      let d = after_front (maybe g) is.front (is.back ++ rest) (Some r.m) r.is in
      let split : front ++ rest ≡ is.front ++ (is.back ++ rest) = rw is.joined (append_assoc is.front is.back rest) in
      let size : length front ≡ length is.front + length is.back = rw is.joined (length-append is.front is.back) in
      let least = r.least in
      record {
        m = length is.front + r.m;
        is = rw split (joined_at _ (λ k. maybe g (drop k (is.front ++ (is.back ++ rest)))) (length is.front) r.m e d);
        least = omega arith;
      }
]

pub tail_finds : (P Q : List ℕ → Type 0) (f g : List ℕ → Option ℕ) → Finds P f → Finds Q g → Fits P Q f →
    Finds (IsThen P (IsMaybe Q)) (both f (maybe g))
tail_finds P Q f g F G fits = record {
  within = then_within P (IsMaybe Q) f (maybe g) F (maybe_finds Q g G);
  is = then_take P (IsMaybe Q) f (maybe g) F (maybe_finds Q g G);
  longest = tail_reaches P Q f g F G fits;
}

-- what begins a text

pub first_one : (p : ℕ → Bool) → Starts (IsOne p) p
first_one p [] is = is
first_one p (b ∷ []) is = is
first_one p (b ∷ c ∷ bytes) is = absurd is

first_front : (p : ℕ → Bool) (front back : List ℕ) → First p front → First p (front ++ back)
first_front p [] back is = absurd is
first_front p (b ∷ front) back is = is

pub first_then : (P Q : List ℕ → Type 0) (p : ℕ → Bool) → Starts P p → Starts (IsThen P Q) p
first_then P Q p starts bytes is = rw is.joined (first_front p is.front is.back (starts is.front is.first))

not_first : (p q : ℕ → Bool) (bytes rest : List ℕ) → Apart p q → First p bytes → NotFirst q (bytes ++ rest)
not_first p q [] rest apart is = absurd is
not_first p q (b ∷ bytes) rest apart is = apart b is

-- an exact text fits before a text that begins otherwise
pub fits_before : (P Q : List ℕ → Type 0) (f : List ℕ → Option ℕ) (p q : ℕ → Bool) → Exact P f (NotFirst q) → Starts Q p →
    Apart p q → Fits P Q f
fits_before P Q f p q exact starts apart front back rest is other =
    exact front (back ++ rest) is (not_first p q back rest apart (starts back other))

maybe_one_at : (s : ℕ → Bool) (bytes : List ℕ) (n : ℕ) → one s bytes ≡ Some n → maybe (one s) bytes ≡ Some n
unfolding maybe
maybe_one_at s bytes n e = rw e refl

maybe_no_one : (s p : ℕ → Bool) (bytes rest : List ℕ) → Apart p s → First p bytes → maybe (one s) (bytes ++ rest) ≡ Some 0
unfolding maybe one
maybe_no_one s p [] rest apart is = absurd is
maybe_no_one s p (b ∷ bytes) rest apart is = rw (apart b is) refl

pub fits_maybe : (s p : ℕ → Bool) (Q : List ℕ → Type 0) → Starts Q p → Apart p s → Fits (IsMaybe (IsOne s)) Q (maybe (one s))
fits_maybe s p Q starts apart front back rest (inl none) other =
    rw none (maybe_no_one s p back rest apart (starts back other))
fits_maybe s p Q starts apart front back rest (inr is) other =
    maybe_one_at s (front ++ (back ++ rest)) (length front) (one_exact s front (back ++ rest) is tt)
