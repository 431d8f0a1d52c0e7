-- A step on numbered fragments is the step on fragments.
use Rattle.std.proofs.Common.{◌≡◌, ℕ, ◌<◌, inl, inr, Bool, true, false, not, ◌||◌, List, [], ◌∷◌, ◌++◌, length, get_or, Option, Some, None, Less, Equal, Greater, refl, sym, ap, subst, ◌∙◌, arith, cond}
use Rattle.std.specs.Prelude.{All, ◌==◌, is_some}
use Rattle.std.specs.List.{list_any, filter, concat, AllByRecursion}
use Rattle.std.specs.List.Sorted.{IsStrictlySortedBy}
use Rattle.std.specs.Cmp.{nat_cmp_is}
use Rattle.std.specs.Map.{values_of, keys_of, lookup, remove_entry}
use Rattle.std.specs.Ordering.{nat_cmp}
use Rattle.std.specs.BTreeMap.{is_at}
use Rattle.std.specs.Option.{unwrap_or}
use Rattle.std.proofs.lemmas.List.{map-append, append_assoc, append-nil}
use Rattle.std.proofs.lemmas.List.Folds.{list_any_none}
use Rattle.std.proofs.lemmas.List.Elements.{All-head, All-tail}
use Rattle.std.proofs.lemmas.Bool.{cases_order, lt-ltb, le-ltb, eq-eqb, ne_eqb}
use Rattle.global_layout.specs.Fragments.{is_among, holds_any, is_held, touched, untouched, unheld, with_id}
use Rattle.global_layout.specs.Owners.{is_of, Owns, is_root, joined, rest, unowned}

-- Tests of numbers.

pub turned : (x y : ℕ) → (x == y) ≡ (y == x)
turned x y = elim (cases_order x y) [
  | inl same ↦ ap (λ n. n == y) same ∙ ap (λ n. y == n) (sym same)
  | inr apart ↦ elim apart [
    | inl less ↦ ne_eqb x y (λ e. omega (arith, e, less)) ∙ sym (ne_eqb y x (λ e. omega (arith, e, less)))
    | inr more ↦ ne_eqb x y (λ e. omega (arith, e, more)) ∙ sym (ne_eqb y x (λ e. omega (arith, e, more)))
  ]
]

pub key-is : (x y : ℕ) → is_at (nat_cmp x) y ≡ (x == y)
key-is x y = elim (cases_order x y) [
  | inl same ↦ on_same same
  | inr apart ↦ elim apart [ inl less ↦ below less | inr more ↦ above more ]
] where
  on_same : x ≡ y → is_at (nat_cmp x) y ≡ (x == y)
  on_same same = let h = le-ltb x y (omega (arith, same)) in let k = eq-eqb x y same in rw (h, k) refl

  below : x < y → is_at (nat_cmp x) y ≡ (x == y)
  below less = let h = lt-ltb x y less in let k = ne_eqb x y (λ e. omega (arith, e, less)) in rw (h, k) refl

  above : y < x → is_at (nat_cmp x) y ≡ (x == y)
  above more = let h = le-ltb x y (omega arith) in let k = ne_eqb x y (λ e. omega (arith, e, more)) in rw (h, k) refl

-- Tests of lists.

any_same : (f g : ℕ → Bool) (xs : List ℕ) → ((x : ℕ) → f x ≡ g x) → list_any f xs ≡ list_any g xs
any_same f g [] same = refl
any_same f g (x ∷ xs) same = ap (λ (t : Bool). t || list_any f xs) (same x) ∙ ap (λ (t : Bool). g x || t) (any_same f g xs same)

mixed : (a b c d : Bool) → ((a || b) || (c || d)) ≡ ((a || c) || (b || d))
mixed true b c d = refl
mixed false true true d = refl
mixed false true false d = refl
mixed false false c d = refl

any_or : (f g : ℕ → Bool) (xs : List ℕ) → list_any (λ x. f x || g x) xs ≡ (list_any f xs || list_any g xs)
any_or f g [] = refl
any_or f g (x ∷ xs) = ap (λ (t : Bool). (f x || g x) || t) (any_or f g xs) ∙ mixed (f x) (g x) (list_any f xs) (list_any g xs)

any_never : (xs : List ℕ) → list_any (λ x. false) xs ≡ false
any_never [] = refl
any_never (x ∷ xs) = any_never xs

any_swap : (f : ℕ → ℕ → Bool) (xs ys : List ℕ) → list_any (λ x. list_any (λ y. f x y) ys) xs ≡ list_any (λ y. list_any (λ x. f x y) xs) ys
any_swap f [] ys = sym (any_never ys)
any_swap f (x ∷ xs) ys = ap (λ (t : Bool). list_any (λ y. f x y) ys || t) (any_swap f xs ys) ∙ sym (any_or (λ y. f x y) (λ y. list_any (λ z. f z y) xs) ys)

-- A fragment holds one of the objects exactly if its number is one of theirs.
holds_by : (owner : ℕ → Option ℕ) (objects fragment : List ℕ) (n : ℕ) → ((o : ℕ) → is_among fragment o ≡ is_of (owner o) n)
    → holds_any objects fragment ≡ is_root owner objects n
holds_by owner objects fragment n each =
    any_swap (λ x y. y == x) fragment objects
    ∙ any_same (λ y. list_any (λ x. y == x) fragment) (λ y. is_of (owner y) n) objects (λ y. any_same (λ x. y == x) (λ x. x == y) fragment (λ x. turned y x) ∙ each y)

all_hold : (p : ℕ → Bool) (owner : ℕ → Option ℕ) (objects : List ℕ) (entries : List (ℕ × List ℕ)) → ((n : ℕ) → p n ≡ is_root owner objects n)
    → All (λ e. (o : ℕ) → is_among e.1 o ≡ is_of (owner o) e.0) entries → All (λ e. holds_any objects e.1 ≡ p e.0) entries
all_hold p owner objects entries same of k d within =
    holds_by owner objects (get_or entries k d).1 (get_or entries k d).0 (of k d within) ∙ sym (same (get_or entries k d).0)

by_key : (q : List ℕ → Bool) (p : ℕ → Bool) (entries : List (ℕ × List ℕ)) → All (λ e. q e.1 ≡ p e.0) entries
    → filter q (values_of entries) ≡ values_of (filter (λ e. p e.0) entries)
by_key q p [] all = refl
by_key q p (e ∷ es) all =
    ap (λ (t : Bool). cond t (e.1 ∷ filter q (values_of es)) (filter q (values_of es))) (All-head (λ f. q f.1 ≡ p f.0) e es all)
    ∙ by_test (p e.0) (by_key q p es (All-tail (λ f. q f.1 ≡ p f.0) e es all)) where
      by_test : (t : Bool) → filter q (values_of es) ≡ values_of (filter (λ f. p f.0) es)
          → cond t (e.1 ∷ filter q (values_of es)) (filter q (values_of es)) ≡ values_of (cond t (e ∷ filter (λ f. p f.0) es) (filter (λ f. p f.0) es))
      by_test true more = ap (λ fs. e.1 ∷ fs) more
      by_test false more = more

pub filter-same : (f g : ℕ → Bool) (xs : List ℕ) → ((x : ℕ) → f x ≡ g x) → filter f xs ≡ filter g xs
filter-same f g [] same = refl
filter-same f g (x ∷ xs) same =
    ap (λ (t : Bool). cond t (x ∷ filter f xs) (filter f xs)) (same x) ∙ ap (λ ys. cond (g x) (x ∷ ys) ys) (filter-same f g xs same)

pub step-is : (p : ℕ → Bool) (owner : ℕ → Option ℕ) (objects : List ℕ) (entries : List (ℕ × List ℕ)) (n : ℕ) → Owns entries owner n
    → ((m : ℕ) → p m ≡ is_root owner objects m)
    → values_of (rest p entries ++ (n, joined p entries ++ unowned owner objects) ∷ []) ≡ with_id objects (values_of entries)
step-is p owner objects entries n owns same =
    let hold : All (λ e. holds_any objects e.1 ≡ p e.0) entries = all_hold p owner objects entries same owns.of in
    let one : touched objects (values_of entries) ≡ joined p entries = ap concat (by_key (holds_any objects) p entries hold) in
    let other : untouched objects (values_of entries) ≡ values_of (rest p entries) =
    by_key (λ f. not (holds_any objects f)) (λ m. not (p m)) entries (λ k d within. ap not (hold k d within)) in
    let new : unheld objects (values_of entries) ≡ unowned owner objects =
    filter-same (λ o. not (is_held (values_of entries) o)) (λ o. not (is_some (owner o))) objects (λ o. ap not (owns.held o)) in
    map-append (λ e. e.1) (rest p entries) ((n, joined p entries ++ unowned owner objects) ∷ [])
    ∙ ap (λ (fs : List (List ℕ)). fs ++ (joined p entries ++ unowned owner objects) ∷ []) (sym other)
    ∙ ap (λ (f : List ℕ). untouched objects (values_of entries) ++ (f ++ unowned owner objects) ∷ []) (sym one)
    ∙ ap (λ (f : List ℕ). untouched objects (values_of entries) ++ (touched objects (values_of entries) ++ f) ∷ []) (sym new)

-- Taking fragments out, the lowest number first.

not_at : (x y : ℕ) → (x ≡ y → ⊥) → is_at (nat_cmp x) y ≡ false
not_at x y apart = key-is x y ∙ ne_eqb x y apart

pub less_of : (x y : ℕ) → nat_cmp x y ≡ Less → x < y
less_of x y is = elim (cases_order x y) [
  | inl same ↦ absurd (let h = nat_cmp_is x y Equal same ∙ is in cc)
  | inr apart ↦ elim apart [ inl less ↦ less | inr more ↦ absurd (let h = nat_cmp_is x y Greater more ∙ is in cc) ]
]

abbrev pub has : List ℕ → ℕ → Bool
has ks n = list_any (is_at (nat_cmp n)) ks

has_below : (n r : ℕ) (ks : List ℕ) → n < r → All (λ k. r < k) ks → has ks n ≡ false
has_below n r ks less all = list_any_none (is_at (nat_cmp n)) ks (λ k d within. not_at n (get_or ks k d) (above (get_or ks k d) (all k d within))) where
  above : (k : ℕ) → r < k → n ≡ k → ⊥
  above k more same = omega (arith, more, same, less)

-- all numbers are past r
Above : ℕ → List (ℕ × List ℕ) → Type 0
Above r [] = Unit {0}
Above r (e ∷ es) = (r < e.0) × Above r es

above_first : (r : ℕ) (es : List (ℕ × List ℕ)) → AllByRecursion (λ y. nat_cmp r y ≡ Less) (keys_of es) → Above r es
unfolding Above
above_first r [] all = tt
above_first r (e ∷ es) all = (less_of r e.0 all.0, above_first r es all.1)

above_lower : (r s : ℕ) (es : List (ℕ × List ℕ)) → r < s → Above s es → Above r es
unfolding Above
above_lower r s [] less all = tt
above_lower r s (e ∷ es) less all = (omega (arith, less, all.0), above_lower r s es less all.1)

filter_past : (r : ℕ) (ks : List ℕ) (es : List (ℕ × List ℕ)) → Above r es → filter (λ e. has (r ∷ ks) e.0) es ≡ filter (λ e. has ks e.0) es
unfolding Above
filter_past r ks [] all = refl
filter_past r ks (e ∷ es) all =
    ap (λ (t : Bool). cond (t || has ks e.0) (e ∷ filter (λ f. has (r ∷ ks) f.0) es) (filter (λ f. has (r ∷ ks) f.0) es)) (not_at e.0 r (λ same. omega (arith, same, all.0)))
    ∙ ap (λ (fs : List (ℕ × List ℕ)). cond (has ks e.0) (e ∷ fs) fs) (filter_past r ks es all.1)

rest_past : (r : ℕ) (ks : List ℕ) (es : List (ℕ × List ℕ)) → Above r es → rest (has (r ∷ ks)) es ≡ rest (has ks) es
unfolding Above
rest_past r ks [] all = refl
rest_past r ks (e ∷ es) all =
    ap (λ (t : Bool). cond (not (t || has ks e.0)) (e ∷ rest (has (r ∷ ks)) es) (rest (has (r ∷ ks)) es)) (not_at e.0 r (λ same. omega (arith, same, all.0)))
    ∙ ap (λ (fs : List (ℕ × List ℕ)). cond (not (has ks e.0)) (e ∷ fs) fs) (rest_past r ks es all.1)

lookup_past : (r : ℕ) (es : List (ℕ × List ℕ)) → Above r es → lookup (is_at (nat_cmp r)) es ≡ None
unfolding Above
lookup_past r [] all = refl
lookup_past r (e ∷ es) all =
    ap (λ (t : Bool). cond t (Some e.1) (lookup (is_at (nat_cmp r)) es)) (not_at r e.0 (λ same. omega (arith, same, all.0))) ∙ lookup_past r es all.1

remove_past : (r : ℕ) (es : List (ℕ × List ℕ)) → Above r es → remove_entry (is_at (nat_cmp r)) es ≡ es
unfolding Above
remove_past r [] all = refl
remove_past r (e ∷ es) all =
    ap (λ (t : Bool). cond t es (e ∷ remove_entry (is_at (nat_cmp r)) es)) (not_at r e.0 (λ same. omega (arith, same, all.0)))
    ∙ ap (λ (fs : List (ℕ × List ℕ)). e ∷ fs) (remove_past r es all.1)

pub joined-step : (r : ℕ) (ks : List ℕ) (es : List (ℕ × List ℕ)) → All (λ k. r < k) ks → IsStrictlySortedBy nat_cmp (keys_of es)
    → joined (has (r ∷ ks)) es ≡ unwrap_or (lookup (is_at (nat_cmp r)) es) [] ++ joined (has ks) (remove_entry (is_at (nat_cmp r)) es)
unfolding IsStrictlySortedBy Above
joined-step r ks [] all sorted = refl
joined-step r ks (e ∷ es) all sorted = elim (cases_order e.0 r) [
  | inl same ↦ on_same same
  | inr apart ↦ elim apart [ inl less ↦ below less (joined-step r ks es all sorted.1) | inr more ↦ past more ]
] where
  past_first : Above e.0 es
  past_first = above_first e.0 es sorted.0

  on_same : e.0 ≡ r → joined (has (r ∷ ks)) (e ∷ es) ≡ unwrap_or (lookup (is_at (nat_cmp r)) (e ∷ es)) [] ++ joined (has ks) (remove_entry (is_at (nat_cmp r)) (e ∷ es))
  on_same same =
      let t = key-is e.0 r ∙ eq-eqb e.0 r same in
      let u = key-is r e.0 ∙ eq-eqb r e.0 (sym same) in
      rw (t, u) (ap (λ (fs : List (ℕ × List ℕ)). e.1 ++ concat (values_of fs)) (filter_past r ks es (subst (λ m. Above m es) same past_first)))

  below : e.0 < r → joined (has (r ∷ ks)) es ≡ unwrap_or (lookup (is_at (nat_cmp r)) es) [] ++ joined (has ks) (remove_entry (is_at (nat_cmp r)) es)
      → joined (has (r ∷ ks)) (e ∷ es) ≡ unwrap_or (lookup (is_at (nat_cmp r)) (e ∷ es)) [] ++ joined (has ks) (remove_entry (is_at (nat_cmp r)) (e ∷ es))
  below less later =
      let t = not_at e.0 r (λ same. omega (arith, same, less)) in
      let u = not_at r e.0 (λ same. omega (arith, same, less)) in
      let h = has_below e.0 r ks less all in
      rw (t, u, h) later

  past : r < e.0 → joined (has (r ∷ ks)) (e ∷ es) ≡ unwrap_or (lookup (is_at (nat_cmp r)) (e ∷ es)) [] ++ joined (has ks) (remove_entry (is_at (nat_cmp r)) (e ∷ es))
  past more =
      let above : Above r (e ∷ es) = (more, above_lower r e.0 es more past_first) in
      ap (λ (fs : List (ℕ × List ℕ)). concat (values_of fs)) (filter_past r ks (e ∷ es) above)
      ∙ ap (λ (fs : List (ℕ × List ℕ)). joined (has ks) fs) (sym (remove_past r (e ∷ es) above))
      ∙ ap (λ (f : Option (List ℕ)). unwrap_or f [] ++ joined (has ks) (remove_entry (is_at (nat_cmp r)) (e ∷ es))) (sym (lookup_past r (e ∷ es) above))

pub rest-step : (r : ℕ) (ks : List ℕ) (es : List (ℕ × List ℕ)) → All (λ k. r < k) ks → IsStrictlySortedBy nat_cmp (keys_of es)
    → rest (has (r ∷ ks)) es ≡ rest (has ks) (remove_entry (is_at (nat_cmp r)) es)
unfolding IsStrictlySortedBy Above
rest-step r ks [] all sorted = refl
rest-step r ks (e ∷ es) all sorted = elim (cases_order e.0 r) [
  | inl same ↦ on_same same
  | inr apart ↦ elim apart [ inl less ↦ below less (rest-step r ks es all sorted.1) | inr more ↦ past more ]
] where
  past_first : Above e.0 es
  past_first = above_first e.0 es sorted.0

  on_same : e.0 ≡ r → rest (has (r ∷ ks)) (e ∷ es) ≡ rest (has ks) (remove_entry (is_at (nat_cmp r)) (e ∷ es))
  on_same same =
      let t = key-is e.0 r ∙ eq-eqb e.0 r same in
      let u = key-is r e.0 ∙ eq-eqb r e.0 (sym same) in
      rw (t, u) (rest_past r ks es (subst (λ m. Above m es) same past_first))

  below : e.0 < r → rest (has (r ∷ ks)) es ≡ rest (has ks) (remove_entry (is_at (nat_cmp r)) es)
      → rest (has (r ∷ ks)) (e ∷ es) ≡ rest (has ks) (remove_entry (is_at (nat_cmp r)) (e ∷ es))
  below less later =
      let t = not_at e.0 r (λ same. omega (arith, same, less)) in
      let u = not_at r e.0 (λ same. omega (arith, same, less)) in
      let h = has_below e.0 r ks less all in
      rw (t, u, h) (ap (λ (fs : List (ℕ × List ℕ)). e ∷ fs) later)

  past : r < e.0 → rest (has (r ∷ ks)) (e ∷ es) ≡ rest (has ks) (remove_entry (is_at (nat_cmp r)) (e ∷ es))
  past more =
      let above : Above r (e ∷ es) = (more, above_lower r e.0 es more past_first) in
      rest_past r ks (e ∷ es) above ∙ ap (λ (fs : List (ℕ × List ℕ)). rest (has ks) fs) (sym (remove_past r (e ∷ es) above))

every_less : (r : ℕ) (ks : List ℕ) → All (λ k. nat_cmp r k ≡ Less) ks → All (λ k. r < k) ks
every_less r ks all k d within = less_of r (get_or ks k d) (all k d within)

pub joined-more : (r : ℕ) (old_keys new_keys : List ℕ) (old new : List (ℕ × List ℕ)) (got : Option (List ℕ)) (before behind whole : List ℕ)
    → old_keys ≡ r ∷ new_keys → All (λ k. nat_cmp r k ≡ Less) new_keys → IsStrictlySortedBy nat_cmp (keys_of old)
    → got ≡ lookup (is_at (nat_cmp r)) old → new ≡ remove_entry (is_at (nat_cmp r)) old → behind ≡ before ++ unwrap_or got []
    → before ++ joined (has old_keys) old ≡ whole → behind ++ joined (has new_keys) new ≡ whole
joined-more r old_keys new_keys old new got before behind whole first above sorted found removed longer so_far =
    ap (λ (f : List ℕ). f ++ joined (has new_keys) new) (longer ∙ ap (λ (f : Option (List ℕ)). before ++ unwrap_or f []) found)
    ∙ ap (λ (es : List (ℕ × List ℕ)). (before ++ unwrap_or (lookup (is_at (nat_cmp r)) old) []) ++ joined (has new_keys) es) removed
    ∙ append_assoc before (unwrap_or (lookup (is_at (nat_cmp r)) old) []) (joined (has new_keys) (remove_entry (is_at (nat_cmp r)) old))
    ∙ ap (λ (f : List ℕ). before ++ f) (sym (joined-step r new_keys old (every_less r new_keys above) sorted))
    ∙ ap (λ (ks : List ℕ). before ++ joined (has ks) old) (sym first) ∙ so_far

pub rest-more : (r : ℕ) (old_keys new_keys : List ℕ) (old new whole : List (ℕ × List ℕ))
    → old_keys ≡ r ∷ new_keys → All (λ k. nat_cmp r k ≡ Less) new_keys → IsStrictlySortedBy nat_cmp (keys_of old)
    → new ≡ remove_entry (is_at (nat_cmp r)) old → rest (has old_keys) old ≡ whole → rest (has new_keys) new ≡ whole
rest-more r old_keys new_keys old new whole first above sorted removed so_far =
    ap (λ (es : List (ℕ × List ℕ)). rest (has new_keys) es) removed ∙ sym (rest-step r new_keys old (every_less r new_keys above) sorted)
    ∙ ap (λ (ks : List ℕ). rest (has ks) old) (sym first) ∙ so_far

joined_none : (es : List (ℕ × List ℕ)) → joined (has []) es ≡ []
joined_none [] = refl
joined_none (e ∷ es) = joined_none es

rest_none : (es : List (ℕ × List ℕ)) → rest (has []) es ≡ es
rest_none [] = refl
rest_none (e ∷ es) = ap (λ (fs : List (ℕ × List ℕ)). e ∷ fs) (rest_none es)

pub joined-all : (keys : List ℕ) (es : List (ℕ × List ℕ)) (fragment whole : List ℕ) → keys ≡ [] → fragment ++ joined (has keys) es ≡ whole → fragment ≡ whole
joined-all keys es fragment whole none so_far =
    sym (append-nil fragment) ∙ ap (λ (f : List ℕ). fragment ++ f) (sym (joined_none es)) ∙ ap (λ (ks : List ℕ). fragment ++ joined (has ks) es) (sym none) ∙ so_far

pub rest-all : (keys : List ℕ) (es whole : List (ℕ × List ℕ)) → keys ≡ [] → rest (has keys) es ≡ whole → es ≡ whole
rest-all keys es whole none so_far = sym (rest_none es) ∙ ap (λ (ks : List ℕ). rest (has ks) es) (sym none) ∙ so_far

pub no-key : (keys : List ℕ) → (0 < length keys → ⊥) → keys ≡ []
no-key [] none = refl
no-key (k ∷ ks) none = absurd (none (omega arith))
