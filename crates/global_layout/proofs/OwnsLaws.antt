-- Each object's number is that of its fragment, also behind a step.
use Rattle.std.proofs.Common.{zero, suc, set, length, ◌≡◌, ℕ, ◌+◌, ◌<◌, ◌≤◌, inl, inr, Bool, true, false, not, ◌||◌, List, [], ◌∷◌, ◌++◌, get_or, Option, Some, None, Greater, refl, sym, ap, subst, ◌∙◌, arith, cond}
use Rattle.std.specs.Prelude.{All, ◌==◌, if◌then◌else◌, is_some}
use Rattle.std.specs.List.{filter, concat}
use Rattle.std.specs.List.Sorted.{IsStrictlySortedBy}
use Rattle.std.specs.Cmp.{nat_cmp_is}
use Rattle.std.specs.Map.{values_of, keys_of}
use Rattle.std.specs.Ordering.{nat_cmp, match_ordering}
use Rattle.std.specs.BTreeMap.{insert_entry}
use Rattle.std.proofs.lemmas.List.{map-append, get_or-set_same, get_or-set_other}
use Rattle.std.proofs.lemmas.List.Folds.{list_any-append}
use Rattle.std.proofs.lemmas.List.Elements.{All-head, All-tail, All-cons, All-nil, All-push}
use Rattle.std.proofs.lemmas.Bool.{eq-eqb, ne_eqb, eqb-true, or_parts, or_cases, or_right}
use Rattle.global_layout.specs.Fragments.{is_among, is_held}
use Rattle.global_layout.specs.Owners.{owner_in, is_of, Owns, joined, rest, unowned, owner_more}

all_rest : (p : ℕ → Bool) (P : ℕ × List ℕ → Type 0) (es : List (ℕ × List ℕ)) → All (λ e. p e.0 ≡ false → P e) es → All P (rest p es)
all_rest p P [] all = All-nil P
all_rest p P (e ∷ es) all = by_test (p e.0) refl (all_rest p P es (All-tail (λ f. p f.0 ≡ false → P f) e es all)) where
  by_test : (t : Bool) → p e.0 ≡ t → All P (rest p es) → All P (cond (not t) (e ∷ rest p es) (rest p es))
  by_test true is more = more
  by_test false is more = All-cons P e (rest p es) (All-head (λ f. p f.0 ≡ false → P f) e es all is) more

-- a number that passes isn't one that doesn't
two_numbers : (p : ℕ → Bool) (w : Option ℕ) (m n : ℕ) → is_of w m ≡ true → p m ≡ true → p n ≡ false → is_of w n ≡ false
two_numbers p None m n is one other = refl
two_numbers p (Some r) m n is one other = ne_eqb r n (λ same. wrong (eqb-true r m is) same) where
  wrong : r ≡ m → r ≡ n → ⊥
  wrong first second = let h = sym one ∙ ap p (sym first ∙ second) ∙ other in cc

in_joined : (p : ℕ → Bool) (owner : ℕ → Option ℕ) (es : List (ℕ × List ℕ)) (o n : ℕ) → All (λ e. (x : ℕ) → is_among e.1 x ≡ is_of (owner x) e.0) es
    → p n ≡ false → is_among (joined p es) o ≡ true → is_of (owner o) n ≡ false
in_joined p owner [] o n of other among = absurd (let h = among in cc)
in_joined p owner (e ∷ es) o n of other among =
    by_test (p e.0) refl among (in_joined p owner es o n (All-tail (λ f. (x : ℕ) → is_among f.1 x ≡ is_of (owner x) f.0) e es of) other) where
      by_test : (t : Bool) → p e.0 ≡ t → is_among (concat (values_of (cond t (e ∷ filter (λ f. p f.0) es) (filter (λ f. p f.0) es)))) o ≡ true
          → (is_among (joined p es) o ≡ true → is_of (owner o) n ≡ false) → is_of (owner o) n ≡ false
      by_test true is inside later = elim (or_cases (is_among e.1 o) (is_among (joined p es) o) (sym (list_any-append (λ x. x == o) e.1 (joined p es)) ∙ inside)) [
        | inl here ↦ two_numbers p (owner o) e.0 n (sym (All-head (λ f. (x : ℕ) → is_among f.1 x ≡ is_of (owner x) f.0) e es of o) ∙ here) is other
        | inr there ↦ later there
      ]
      by_test false is inside later = later inside

no_number : (w : Option ℕ) (n : ℕ) → not (is_some w) ≡ true → is_of w n ≡ false
no_number None n is = refl
no_number (Some r) n is = cc

passes : (q : ℕ → Bool) (xs : List ℕ) (o : ℕ) → is_among (filter q xs) o ≡ true → q o ≡ true
passes q [] o among = absurd (let h = among in cc)
passes q (x ∷ xs) o among = by_test (q x) refl among (passes q xs o) where
  by_test : (t : Bool) → q x ≡ t → is_among (cond t (x ∷ filter q xs) (filter q xs)) o ≡ true → (is_among (filter q xs) o ≡ true → q o ≡ true) → q o ≡ true
  by_test true is inside later = elim (or_cases (x == o) (is_among (filter q xs) o) inside) [
    | inl here ↦ ap q (sym (eqb-true x o here)) ∙ is
    | inr there ↦ later there
  ]
  by_test false is inside later = later inside

held_rest : (p : ℕ → Bool) (es : List (ℕ × List ℕ)) (o : ℕ) → is_among (joined p es) o ≡ false → is_held (values_of (rest p es)) o ≡ is_held (values_of es) o
held_rest p [] o none = refl
held_rest p (e ∷ es) o none = by_test (p e.0) none (held_rest p es o) where
  by_test : (t : Bool) → is_among (concat (values_of (cond t (e ∷ filter (λ f. p f.0) es) (filter (λ f. p f.0) es)))) o ≡ false
      → (is_among (joined p es) o ≡ false → is_held (values_of (rest p es)) o ≡ is_held (values_of es) o)
      → is_held (values_of (cond (not t) (e ∷ rest p es) (rest p es))) o ≡ (is_among e.1 o || is_held (values_of es) o)
  by_test true outside later =
      let parts = or_parts (is_among e.1 o) (is_among (joined p es) o) (sym (list_any-append (λ x. x == o) e.1 (joined p es)) ∙ outside) in
      later parts.1 ∙ ap (λ (t : Bool). t || is_held (values_of es) o) (sym parts.0)
  by_test false outside later = ap (λ (t : Bool). is_among e.1 o || t) (later outside)

-- A step.

module _ (p : ℕ → Bool) (owner after : ℕ → Option ℕ) (objects : List ℕ) (entries : List (ℕ × List ℕ)) (n : ℕ) (owns : Owns entries owner n)
    (is : (o : ℕ) → after o ≡ owner_more owner (joined p entries ++ unowned owner objects) n o) where
  abbrev all_of : List ℕ
  all_of = joined p entries ++ unowned owner objects

  kept : (m o : ℕ) → p m ≡ false → is_among all_of o ≡ true → is_of (owner o) m ≡ false
  kept m o other among = elim (or_cases (is_among (joined p entries) o) (is_among (unowned owner objects) o)
      (sym (list_any-append (λ x. x == o) (joined p entries) (unowned owner objects)) ∙ among)) [
        | inl here ↦ in_joined p owner entries o m owns.of other here
        | inr there ↦ no_number (owner o) m (passes (λ x. not (is_some (owner x))) objects o there)
      ]

  of_kept : (e : ℕ × List ℕ) → e.0 < n → ((o : ℕ) → is_among e.1 o ≡ is_of (owner o) e.0) → p e.0 ≡ false → (o : ℕ) → is_among e.1 o ≡ is_of (after o) e.0
  of_kept e less of other o = of o ∙ by_test (is_among all_of o) (kept e.0 o other) ∙ ap (λ (w : Option ℕ). is_of w e.0) (sym (is o)) where
    by_test : (t : Bool) → (t ≡ true → is_of (owner o) e.0 ≡ false) → is_of (owner o) e.0 ≡ is_of (if t then Some n else owner o) e.0
    by_test true none = none refl ∙ sym (ne_eqb n e.0 (λ same. omega (arith, same, less)))
    by_test false none = refl

  of_new : (o : ℕ) → is_among all_of o ≡ is_of (after o) n
  of_new o = by_test (is_among all_of o) ∙ ap (λ (w : Option ℕ). is_of w n) (sym (is o)) where
    by_test : (t : Bool) → t ≡ is_of (if t then Some n else owner o) n
    by_test true = sym (eq-eqb n n refl)
    by_test false = sym (owns.past o n (omega arith))

  held_after : (o : ℕ) → is_held (values_of (rest p entries ++ (n, all_of) ∷ [])) o ≡ is_some (after o)
  held_after o =
      ap (λ (fs : List (List ℕ)). is_held fs o) (map-append (λ e. e.1) (rest p entries) ((n, all_of) ∷ []))
      ∙ list_any-append (λ f. is_among f o) (values_of (rest p entries)) (all_of ∷ [])
      ∙ by_test (is_among all_of o) refl ∙ ap is_some (sym (is o)) where
        by_test : (t : Bool) → is_among all_of o ≡ t → (is_held (values_of (rest p entries)) o || (t || false)) ≡ is_some (if t then Some n else owner o)
        by_test true among = or_right (is_held (values_of (rest p entries)) o) true refl
        by_test false among =
            let parts = or_parts (is_among (joined p entries) o) (is_among (unowned owner objects) o)
            (sym (list_any-append (λ x. x == o) (joined p entries) (unowned owner objects)) ∙ among) in
            no_more (is_held (values_of (rest p entries)) o) ∙ held_rest p entries o parts.0 ∙ owns.held o where
              no_more : (t : Bool) → (t || false) ≡ t
              no_more true = refl
              no_more false = refl

  past_after : (o m : ℕ) → n + 1 ≤ m → is_of (after o) m ≡ false
  past_after o m past = ap (λ (w : Option ℕ). is_of w m) (is o) ∙ by_test (is_among all_of o) where
    by_test : (t : Bool) → is_of (if t then Some n else owner o) m ≡ false
    by_test true = ne_eqb n m (λ same. omega (arith, same, past))
    by_test false = owns.past o m (omega (arith, past))

  pub owns-after : IsStrictlySortedBy nat_cmp (keys_of (rest p entries ++ (n, all_of) ∷ [])) → Owns (rest p entries ++ (n, all_of) ∷ []) after (n + 1)
  owns-after rising = record {
    of = All-push (λ e. (o : ℕ) → is_among e.1 o ≡ is_of (after o) e.0) (rest p entries) (n, all_of)
        (all_rest p (λ e. (o : ℕ) → is_among e.1 o ≡ is_of (after o) e.0) entries
        (λ k d within. of_kept (get_or entries k d) (owns.low k d within) (owns.of k d within)))
        of_new;
    held = held_after;
    past = past_after;
    low = All-push (λ e. e.0 < n + 1) (rest p entries) (n, all_of)
        (all_rest p (λ e. e.0 < n + 1) entries (λ k d within other. lower (get_or entries k d).0 n (owns.low k d within)))
        (omega arith);
    rising = rising;
  } where
    lower : (a b : ℕ) → a < b → a < b + 1
    lower a b less = omega (arith, less)

-- the next number goes behind the others
insert_last : (n : ℕ) (f : List ℕ) (es : List (ℕ × List ℕ)) → All (λ e. e.0 < n) es → insert_entry nat_cmp es n f ≡ es ++ (n, f) ∷ []
insert_last n f [] low = refl
insert_last n f (e ∷ es) low =
    ap (λ r. match_ordering r ((n, f) ∷ e ∷ es) ((e.0, f) ∷ es) (e ∷ insert_entry nat_cmp es n f)) (sym (nat_cmp_is n e.0 Greater (All-head (λ g. g.0 < n) e es low)))
    ∙ ap (λ (fs : List (ℕ × List ℕ)). e ∷ fs) (insert_last n f es (All-tail (λ g. g.0 < n) e es low))

pub insert-rest : (p : ℕ → Bool) (n : ℕ) (f : List ℕ) (es : List (ℕ × List ℕ)) → All (λ e. e.0 < n) es
    → insert_entry nat_cmp (rest p es) n f ≡ rest p es ++ (n, f) ∷ []
insert-rest p n f es low = insert_last n f (rest p es) (all_rest p (λ e. e.0 < n) es (λ k d within other. low k d within))

pub whole-is : (p : ℕ → Bool) (es : List (ℕ × List ℕ)) (fragment others own whole : List ℕ) → fragment ≡ joined p es → others ≡ own → whole ≡ fragment ++ others
    → whole ≡ joined p es ++ own
whole-is p es fragment others own whole first second both =
    both ∙ ap (λ (f : List ℕ). f ++ others) first ∙ ap (λ (f : List ℕ). joined p es ++ f) second

pub inserted : (p : ℕ → Bool) (n : ℕ) (es old new : List (ℕ × List ℕ)) (given whole : List ℕ) → All (λ e. e.0 < n) es → old ≡ rest p es → given ≡ whole
    → new ≡ insert_entry nat_cmp old n given → new ≡ rest p es ++ (n, whole) ∷ []
inserted p n es old new given whole low before same is =
    is ∙ ap (λ (fs : List (ℕ × List ℕ)). insert_entry nat_cmp fs n given) before ∙ ap (λ (f : List ℕ). insert_entry nat_cmp (rest p es) n f) same
    ∙ insert-rest p n whole es low

none_rise : IsStrictlySortedBy nat_cmp []
unfolding IsStrictlySortedBy
none_rise = tt

none_own : Owns [] (λ o. None) 0
none_own = record {
  of = All-nil (λ e. (o : ℕ) → is_among e.1 o ≡ is_of None e.0);
  held = λ o. refl;
  past = λ o m past. refl;
  low = All-nil (λ e. e.0 < 0);
  rising = none_rise;
}

pub owns-none : (live : List (ℕ × List ℕ)) (owners : List (Option ℕ)) → live ≡ [] → owners ≡ [] → Owns live (owner_in owners) 0
owns-none live owners no_live no_owners =
    subst (λ (es : List (ℕ × List ℕ)). Owns es (owner_in owners) 0) (sym no_live)
    (subst (λ (os : List (Option ℕ)). Owns [] (owner_in os) 0) (sym no_owners) none_own)

-- an object more that has no number
pub longer-same : (owners : List (Option ℕ)) (o : ℕ) → owner_in (owners ++ None ∷ []) o ≡ owner_in owners o
longer-same [] zero = refl
longer-same [] (suc o) = refl
longer-same (w ∷ ws) zero = refl
longer-same (w ∷ ws) (suc o) = longer-same ws o

pub set-owner : (owners : List (Option ℕ)) (x n o : ℕ) → x < length owners → owner_in (set owners x (Some n)) o ≡ (if x == o then Some n else owner_in owners o)
set-owner owners x n o within = by_test (x == o) refl where
  by_test : (t : Bool) → (x == o) ≡ t → owner_in (set owners x (Some n)) o ≡ (if t then Some n else owner_in owners o)
  by_test true is = ap (λ m. owner_in (set owners x (Some n)) m) (sym (eqb-true x o is)) ∙ get_or-set_same owners x (Some n) None within
  by_test false is = get_or-set_other owners x o (Some n) None (λ same. let h = sym (eq-eqb x o (sym same)) ∙ is in cc)
