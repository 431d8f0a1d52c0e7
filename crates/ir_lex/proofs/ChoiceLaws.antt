-- The cut that is chosen is the token that begins.
use Rattle.std.proofs.Common.{◌≡◌, ℕ, ◌<◌, ◌≤◌, Bool, true, false, ◌||◌, ◌&&◌, ◌==◌, nat_le, nat_lt, ◌⊎◌, inl, inr, Option, Some, None, List, [], ◌∷◌, ◌++◌, length, get_or, codes, refl, ap, sym, ◌∙◌, subst, arith}
use Rattle.std.specs.List.{list_all, list_any}
use Rattle.std.specs.Char.{is_ascii_digit}
use Rattle.std.proofs.lemmas.Bool.Decides.{nat_tests}
use Rattle.ir_lex.specs.declared.token.Kind.{Kind}
use Rattle.ir_lex.specs.declared.token.Kind.TheVariants.{Word, Label, Global, Local, Comdat, Meta, MetaText, Group, SummaryNumber, HashWord, Number, Float, Quoted, Bytes, Mark, Dots}
use Rattle.ir_lex.specs.declared.choice.Cut.{Cut}
use Rattle.ir_lex.specs.declared.choice.First as type
use Rattle.ir_lex.specs.declared.choice.First.TheVariants as what
use Rattle.ir_lex.specs.Letters.{is_of, is_word_start, is_name_byte, is_mark}
use Rattle.ir_lex.specs.Languages.{IsOne, IsByte, IsThen, IsEither, IsMaybe, IsRun}
use Rattle.ir_lex.specs.Kinds.{IsDigits, IsQuotedName, Is, row, Begins, NoneBegins}
use Rattle.ir_lex.specs.Lengths.{length_of}
use Rattle.ir_lex.specs.Choice.{first_of, candidates, better, cut_of, best, longest}
use Rattle.ir_lex.proofs.CaseSplits.{test}
use Rattle.ir_lex.proofs.LengthLaws.{Reaches, First, Starts, first_one, first_then}
use Rattle.ir_lex.proofs.KindLaws.{of_each, kind_finds, first_run, first_quoted, first_unsigned, IsFraction, IsHexDigits}

-- rows tell kinds apart

kind_at : ℕ → Kind
kind_at n = get_or (Word ∷ Label ∷ Global ∷ Local ∷ Comdat ∷ Meta ∷ MetaText ∷ Group ∷ SummaryNumber ∷ HashWord ∷ Number ∷ Float ∷ Quoted ∷ Bytes ∷ Mark ∷ Dots ∷ []) n Word

row_at : (k : Kind) → kind_at (row k) ≡ k
unfolding kind_at
row_at Word = refl
row_at Label = refl
row_at Global = refl
row_at Local = refl
row_at Comdat = refl
row_at Meta = refl
row_at MetaText = refl
row_at Group = refl
row_at SummaryNumber = refl
row_at HashWord = refl
row_at Number = refl
row_at Float = refl
row_at Quoted = refl
row_at Bytes = refl
row_at Mark = refl
row_at Dots = refl

pub row_same : (j k : Kind) → (row j == row k) ≡ true → j ≡ k
row_same j k t = let e : row j ≡ row k = grind (arith, nat_tests) in sym (row_at j) ∙ ap kind_at e ∙ row_at k

le_cases : (n m : ℕ) → n ≤ m → (n < m) ⊎ (n ≡ m)
le_cases n m within = test (nat_lt n m) (λ t. inl (grind (arith, nat_tests))) (λ t. inr (grind (arith, nat_tests)))

both_true : (a b : Bool) → (a && b) ≡ true → (a ≡ true) × (b ≡ true)
both_true true b e = (refl, e)
both_true false b e = absurd cc

-- membership

abbrev pub member : Kind → List Kind → Bool
member k ks = list_any (λ j. row j == row k) ks

member_all : (p : ℕ → Bool) (k : Kind) (ks : List Kind) → list_all (λ j. p (row j)) ks ≡ true → member k ks ≡ true → p (row k) ≡ true
member_all p k [] all is = absurd cc
member_all p k (j ∷ ks) all is =
    test (p (row j))
    (λ u. test (row j == row k)
    (λ t. let e : row k ≡ row j = grind (arith, nat_tests) in rw e u)
    (λ t. let rest = rw t at is in let more = rw u at all in member_all p k ks more rest))
    (λ u. let h = rw u at all in absurd cc)

abbrev ascending : List Kind → Bool
ascending [] = true
ascending (k ∷ ks) = list_all (λ j. nat_le (row k) (row j)) ks && ascending ks

-- the best of some kinds

better_none : (a b : Option Cut) → better a b ≡ None → (a ≡ None) × (b ≡ None)
better_none None b e = (refl, e)
better_none (Some a) None e = absurd cc
better_none (Some a) (Some b) e = test (nat_lt a.len b.len) (λ t. let d = rw t at e in absurd cc) (λ t. let d = rw t at e in absurd cc)

cut_none : (k : Kind) (o : Option ℕ) → cut_of k o ≡ None → o ≡ None
cut_none k None e = refl
cut_none k (Some n) e = absurd cc

record IsCut (k : Kind) (o : Option ℕ) (cut : Cut) : Type 0 where
  kind : cut.kind ≡ k
  is : o ≡ Some cut.len

cut_some : (k : Kind) (o : Option ℕ) (cut : Cut) → cut_of k o ≡ Some cut → IsCut k o cut
cut_some k None cut e = absurd cc
cut_some k (Some n) cut e =
    let d : record { kind = k; len = n } ≡ cut = cc in
    record { kind = ap (λ c. c.kind) (sym d); is = ap (λ c. Some c.len) d }

best_none : (ks : List Kind) (bytes : List ℕ) → best ks bytes ≡ None → (j : Kind) → member j ks ≡ true → length_of j bytes ≡ None
best_none [] bytes e j is = absurd cc
best_none (k ∷ []) bytes e j is =
    test (row k == row j)
    (λ t. let same = row_same k j t in rw (← same) (cut_none k (length_of k bytes) e))
    (λ t. let h = rw t at is in absurd cc)
best_none (k ∷ i ∷ ks) bytes e j is =
    let both = better_none (cut_of k (length_of k bytes)) (best (i ∷ ks) bytes) e in
    test (row k == row j)
    (λ t. let same = row_same k j t in rw (← same) (cut_none k (length_of k bytes) both.0))
    (λ t. let rest = rw t at is in best_none (i ∷ ks) bytes both.1 j rest)

record IsBest (ks : List Kind) (bytes : List ℕ) (cut : Cut) : Type 0 where
  is : length_of cut.kind bytes ≡ Some cut.len
  longest : (j : Kind) (m : ℕ) → member j ks ≡ true → length_of j bytes ≡ Some m →
      (m < cut.len) ⊎ ((m ≡ cut.len) × (row cut.kind ≤ row j))

-- a cut of two: the first, with the second none or not longer; or the second, with the first none or shorter
data Better (a b : Option Cut) (cut : Cut) : Type 0 where
  lone_first : a ≡ Some cut → b ≡ None → Better a b cut
  first_wins : (other : Cut) → a ≡ Some cut → b ≡ Some other → other.len ≤ cut.len → Better a b cut
  lone_second : b ≡ Some cut → a ≡ None → Better a b cut
  second_wins : (other : Cut) → b ≡ Some cut → a ≡ Some other → other.len < cut.len → Better a b cut

better_some : (a b : Option Cut) (cut : Cut) → better a b ≡ Some cut → Better a b cut
better_some None b cut e = lone_second e refl
better_some (Some a) None cut e = lone_first e refl
better_some (Some a) (Some b) cut e =
    test (nat_lt a.len b.len)
    (λ t. let d = rw t at e in let same : b ≡ cut = cc in second_wins a d refl (rw (← same) (grind (arith, nat_tests))))
    (λ t. let d = rw t at e in let same : a ≡ cut = cc in first_wins b d refl (rw (← same) (grind (arith, nat_tests))))

one_best : (k : Kind) (bytes : List ℕ) (cut : Cut) → IsCut k (length_of k bytes) cut → IsBest (k ∷ []) bytes cut
one_best k bytes cut is = record {
  is = rw is.kind is.is;
  longest = λ j m in_list e.
      test (row k == row j)
      (λ t. let same = row_same k j t in
      let d : length_of k bytes ≡ Some m = rw same e in
      let f = is.is in
      inr (cc, rw (is.kind, ← same) (omega arith)))
      (λ t. let h = rw t at in_list in absurd cc);
}

-- the rest of the kinds are of later rows
later : (k j : Kind) (ks : List Kind) → list_all (λ i. nat_le (row k) (row i)) ks ≡ true → member j ks ≡ true → row k ≤ row j
later k j ks all is = let h = member_all (λ n. nat_le (row k) n) j ks all is in grind (arith, nat_tests)

more_best : (k : Kind) (ks : List Kind) (bytes : List ℕ) (cut : Cut) → list_all (λ j. nat_le (row k) (row j)) ks ≡ true →
    ((other : Cut) → best ks bytes ≡ Some other → IsBest ks bytes other) →
    Better (cut_of k (length_of k bytes)) (best ks bytes) cut → IsBest (k ∷ ks) bytes cut
more_best k ks bytes cut sorted rest (lone_first e none) =
    let is = cut_some k (length_of k bytes) cut e in
    let alone = one_best k bytes cut is in
    record {
      is = alone.is;
      longest = λ j m in_list d.
          test (row k == row j)
          (λ t. alone.longest j m (rw t refl) d)
          (λ t. let h = rw t at in_list in let nothing = best_none ks bytes none j h in absurd cc);
    }
more_best k ks bytes cut sorted rest (first_wins other e some shorter) =
    let is = cut_some k (length_of k bytes) cut e in
    let alone = one_best k bytes cut is in
    let behind = rest other some in
    record {
      is = alone.is;
      longest = λ j m in_list d.
          test (row k == row j)
          (λ t. alone.longest j m (rw t refl) d)
          (λ t. let h = rw t at in_list in
          let r : row cut.kind ≤ row j = rw is.kind (later k j ks sorted h) in
          elim (behind.longest j m h d) [
            | inl less ↦ inl (omega arith)
            | inr same ↦ let s = same.0 in elim (le_cases other.len cut.len shorter) [
              | inl less ↦ inl (omega arith)
              | inr equal ↦ inr (omega arith, r)
            ]
          ]);
    }
more_best k ks bytes cut sorted rest (lone_second e none) =
    let behind = rest cut e in
    record {
      is = behind.is;
      longest = λ j m in_list d.
          test (row k == row j)
          (λ t. let same = row_same k j t in let h = cut_none k (length_of k bytes) none in let g : length_of k bytes ≡ Some m = rw same d in absurd cc)
          (λ t. let h = rw t at in_list in behind.longest j m h d);
    }
more_best k ks bytes cut sorted rest (second_wins other e some shorter) =
    let behind = rest cut e in
    record {
      is = behind.is;
      longest = λ j m in_list d.
          test (row k == row j)
          (λ t. let same = row_same k j t in
          let h = cut_some k (length_of k bytes) other some in
          let g : length_of k bytes ≡ Some m = rw same d in
          let f = h.is in
          let n : m ≡ other.len = cc in
          inl (omega arith))
          (λ t. let h = rw t at in_list in behind.longest j m h d);
    }

best_some : (ks : List Kind) (bytes : List ℕ) → ascending ks ≡ true → (cut : Cut) → best ks bytes ≡ Some cut → IsBest ks bytes cut
best_some [] bytes sorted cut e = absurd cc
best_some (k ∷ []) bytes sorted cut e = one_best k bytes cut (cut_some k (length_of k bytes) cut e)
best_some (k ∷ j ∷ ks) bytes sorted cut e =
    let parts = both_true (list_all (λ i. nat_le (row k) (row i)) (j ∷ ks)) (ascending (j ∷ ks)) sorted in
    more_best k (j ∷ ks) bytes cut parts.0 (λ other d. best_some (j ∷ ks) bytes parts.1 other d)
    (better_some (cut_of k (length_of k bytes)) (best (j ∷ ks) bytes) cut e)

ascends : (f : type.First) → ascending (candidates f) ≡ true
ascends what.Letter = refl
ascends what.Digit = refl
ascends what.Minus = refl
ascends what.Dollar = refl
ascends what.Dot = refl
ascends what.Quote = refl
ascends what.At = refl
ascends what.Percent = refl
ascends what.Bang = refl
ascends what.Hash = refl
ascends what.Caret = refl
ascends what.Plus = refl
ascends what.Mark = refl
ascends what.Other = refl

-- what begins each kind

abbrev pub begins : Kind → ℕ → Bool
begins Word = is_word_start
begins Label = λ b. is_name_byte b || b == 34
begins Global = λ b. b == 64
begins Local = λ b. b == 37
begins Comdat = λ b. b == 36
begins Meta = λ b. b == 33
begins MetaText = λ b. b == 33
begins Group = λ b. b == 35
begins SummaryNumber = λ b. b == 94
begins HashWord = λ b. b == 35
begins Number = λ b. b == 45 || is_ascii_digit b
begins Float = λ b. is_of (codes "-+") b || is_ascii_digit b
begins Quoted = λ b. b == 34
begins Bytes = λ b. b == 99
begins Mark = is_mark
begins Dots = λ b. b == 46

first_or : (p q : ℕ → Bool) (bytes : List ℕ) → First p bytes ⊎ First q bytes → First (λ b. p b || q b) bytes
first_or p q [] (inl is) = absurd is
first_or p q [] (inr is) = absurd is
first_or p q (b ∷ bytes) (inl is) = rw is refl
first_or p q (b ∷ bytes) (inr is) = test (p b) (λ t. rw t refl) (λ t. rw (t, is) refl)

first_maybe : (s p : ℕ → Bool) (Q : List ℕ → Type 0) → Starts Q p → Starts (IsThen (IsMaybe (IsOne s)) Q) (λ b. s b || p b)
first_maybe s p Q starts bytes is = elim is.first [
  | inl none ↦
      let same : bytes ≡ is.back = is.joined ∙ ap (λ front. front ++ is.back) none in
      first_or s p bytes (inr (rw same (starts is.back is.second)))
  | inr one ↦
      first_or s p bytes (inl (first_then (IsOne s) Q s (first_one s) bytes (record { front = is.front; back = is.back; first = one; second = is.second; joined = is.joined })))
]

first_less : (p q : ℕ → Bool) (bytes : List ℕ) → ((b : ℕ) → p b ≡ true → q b ≡ true) → First p bytes → First q bytes
first_less p q [] less is = absurd is
first_less p q (b ∷ bytes) less is = less b is

behind_first : (c : ℕ) (Q : List ℕ → Type 0) → Starts (IsThen (IsByte c) Q) (λ b. b == c)
behind_first c Q = first_then (IsByte c) Q (λ b. b == c) (first_one (λ b. b == c))

starts_label : Starts (IsEither (IsRun is_name_byte is_name_byte) IsQuotedName) (λ b. is_name_byte b || b == 34)
starts_label bytes (inl is) = first_or is_name_byte (λ b. b == 34) bytes (inl (first_run is_name_byte is_name_byte bytes is))
starts_label bytes (inr is) = first_or is_name_byte (λ b. b == 34) bytes (inr (first_quoted bytes is.0))

starts_float : Starts (Is Float) (begins Float)
starts_float bytes (inl is) = first_maybe (is_of (codes "-+")) is_ascii_digit (IsThen IsDigits IsFraction) first_unsigned bytes is
starts_float bytes (inr is) =
    first_less (λ b. b == 48) (begins Float) bytes (λ b t. let e : b ≡ 48 = grind (arith, nat_tests) in rw e refl) (behind_first 48 (IsThen (IsByte 120) IsHexDigits) bytes is)

pub starts : (k : Kind) → Starts (Is k) (begins k)
starts Word = first_run _ _
starts Label = first_then (IsEither (IsRun is_name_byte is_name_byte) IsQuotedName) (IsByte 58) (λ b. is_name_byte b || b == 34) starts_label
starts Global = behind_first 64 _
starts Local = behind_first 37 _
starts Comdat = behind_first 36 _
starts Meta = behind_first 33 _
starts MetaText = behind_first 33 _
starts Group = behind_first 35 _
starts SummaryNumber = behind_first 94 _
starts HashWord = behind_first 35 _
starts Number = first_maybe (λ b. b == 45) is_ascii_digit IsDigits (first_run is_ascii_digit is_ascii_digit)
starts Float = starts_float
starts Quoted = first_quoted
starts Bytes = behind_first 99 _
starts Mark = first_one is_mark
starts Dots = behind_first 46 _

-- and so it is a candidate

byte_is : (b c : ℕ) → (b == c) ≡ true → b ≡ c
byte_is b c t = grind (arith, nat_tests)

allowed_digit : (k : Kind) (b : ℕ) → member k (candidates what.Digit) ≡ true → is_ascii_digit b ≡ true → member k (candidates (first_of b)) ≡ true
unfolding first_of
allowed_digit k b is t = test (is_word_start b) (λ u. absurd (grind (arith, nat_tests))) (λ u. rw (u, t) is)

abbrev pub allows : Kind → ℕ → Bool
allows k b = member k (candidates (first_of b))

allowed_label : (b : ℕ) → is_name_byte b ≡ true → allows Label b ≡ true
unfolding first_of
allowed_label b t =
    test (is_word_start b) (λ u. rw u refl) (λ u.
    test (is_ascii_digit b) (λ v. rw (u, v) refl) (λ v.
    test (b == 45) (λ w. rw (byte_is b 45 w) refl) (λ w.
    test (b == 36) (λ x. rw (byte_is b 36 x) refl) (λ x.
    test (b == 46) (λ y. rw (byte_is b 46 y) refl) (λ y. absurd (grind (arith, nat_tests)))))))

either_true : {P : Type 0} (a b : Bool) → (a || b) ≡ true → (a ≡ true → P) → (b ≡ true → P) → P
either_true true b e then other = then refl
either_true false b e then other = other e

pub allowed : (k : Kind) (b : ℕ) → begins k b ≡ true → allows k b ≡ true
unfolding first_of
allowed Word b t = rw t refl
allowed Label b t = either_true (is_name_byte b) (b == 34) t (allowed_label b) (λ u. rw (byte_is b 34 u) refl)
allowed Global b t = rw (byte_is b 64 t) refl
allowed Local b t = rw (byte_is b 37 t) refl
allowed Comdat b t = rw (byte_is b 36 t) refl
allowed Meta b t = rw (byte_is b 33 t) refl
allowed MetaText b t = rw (byte_is b 33 t) refl
allowed Group b t = rw (byte_is b 35 t) refl
allowed SummaryNumber b t = rw (byte_is b 94 t) refl
allowed HashWord b t = rw (byte_is b 35 t) refl
allowed Number b t = either_true (b == 45) (is_ascii_digit b) t (λ u. rw (byte_is b 45 u) refl) (allowed_digit Number b refl)
allowed Float b t = either_true (is_of (codes "-+") b) (is_ascii_digit b) t (of_each (codes "-+") (allows Float) refl b) (allowed_digit Float b refl)
allowed Quoted b t = rw (byte_is b 34 t) refl
allowed Bytes b t = rw (byte_is b 99 t) refl
allowed Mark b t = of_each (codes "=,(){}[]<>*!:") (allows Mark) refl b t
allowed Dots b t = rw (byte_is b 46 t) refl

record Found (j : Kind) (n : ℕ) (bytes : List ℕ) : Type 0 where
  member_of : member j (candidates (first_of (get_or bytes 0 0))) ≡ true
  reached : Reaches n (length_of j bytes)

first_byte : (p : ℕ → Bool) (front rest : List ℕ) → First p front → p (get_or (front ++ rest) 0 0) ≡ true
first_byte p [] rest is = absurd is
first_byte p (b ∷ front) rest is = is

found : (j : Kind) (front rest : List ℕ) → Is j front → Found j (length front) (front ++ rest)
found j front rest is = record {
  member_of = allowed j (get_or (front ++ rest) 0 0) (first_byte (begins j) front rest (starts j front is));
  reached = let finds = kind_finds j in finds.longest front rest is;
}

pub none_begins : (bytes : List ℕ) → longest bytes ≡ None → NoneBegins bytes
unfolding longest
none_begins bytes e j front rest is split =
    let f = found j front rest is in
    let P : List ℕ → Type 0 = λ xs. Found j (length front) xs in
    let g = subst P (sym split) f in
    let h = best_none (candidates (first_of (get_or bytes 0 0))) bytes e j g.member_of in
    let r = g.reached in let s = r.is in
    cc

pub begins_longest : (bytes : List ℕ) (cut : Cut) → longest bytes ≡ Some cut → Begins bytes cut.kind cut.len
unfolding longest
begins_longest bytes cut e =
    let b = best_some (candidates (first_of (get_or bytes 0 0))) bytes (ascends _) cut e in
    let finds = kind_finds cut.kind in
    record {
      within = finds.within bytes cut.len b.is;
      is = finds.is bytes cut.len b.is;
      longest = λ j front rest is split.
          let f = found j front rest is in
          let P : List ℕ → Type 0 = λ xs. Found j (length front) xs in
          let g = subst P (sym split) f in
          let r = g.reached in
          let least = r.least in
          elim (b.longest j r.m g.member_of r.is) [
            | inl less ↦ inl (omega arith)
            | inr same ↦ let s = same.0 in elim (le_cases (length front) cut.len (omega arith)) [
              | inl less ↦ inl (omega arith)
              | inr equal ↦ inr (equal, same.1)
            ]
          ];
    }
