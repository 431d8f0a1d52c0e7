-- Labels: what they tell of numbers, also behind a step.
use Rattle.std.proofs.Common.{set, length, ◌≡◌, ℕ, ◌+◌, ◌<◌, ◌≤◌, ◌⊎◌, inl, inr, Bool, true, false, not, ◌||◌, List, [], ◌∷◌, ◌++◌, get_or, Option, Some, None, Result, Ok, Err, refl, sym, ap, subst, ◌∙◌, arith, cond}
use Rattle.std.specs.Prelude.{All, IfOk, ◌==◌, if◌then◌else◌, is_some}
use Rattle.std.specs.List.{filter, concat}
use Rattle.std.specs.Map.{values_of, lookup, remove_entry}
use Rattle.std.specs.Option.{unwrap_or}
use Rattle.std.specs.Ordering.{nat_cmp}
use Rattle.std.specs.BTreeMap.{is_at}
use Rattle.std.proofs.lemmas.List.{get_or-set_same, get_or-set_other, get_or_append_left, length-append, length-set}
use Rattle.std.proofs.Math.Seq.{get_or-append_seam}
use Rattle.std.proofs.lemmas.List.Folds.{list_any-append}
use Rattle.std.proofs.lemmas.List.Elements.{All-head, All-tail, All-cons}
use Rattle.std.proofs.lemmas.Bool.{eq-eqb, eqb-true, or_parts, or_cases, or_right, cases_lt}
use Rattle.global_layout.specs.Fragments.{is_among, is_held}
use Rattle.global_layout.specs.Owners.{owner_in, is_of, Owns, is_root, joined, unowned, owner_more, number_at, number_by, IsLabelled, AreLabelled, AreNamed, IsLabel, AreMerged}
use Rattle.global_layout.proofs.OwnerLaws.{key-is, has, filter-same}

-- two facts of an answer give a third
pub ok-both : {A E : Type 0} {P Q R : A → Type 0} (r : Result A E) → IfOk r P → IfOk r Q → ((x : A) → P x → Q x → R x) → IfOk r R
ok-both (Ok x) first second all = all x first second
ok-both (Err e) first second all = first

-- Objects put under a label.

pub both-labelled : (before between after : ℕ → Option ℕ) (front back whole : List ℕ) (label : ℕ) → AreLabelled before front label between
    → AreLabelled between back label after → front ++ back ≡ whole → AreLabelled before whole label after
both-labelled before between after front back whole label first second is o =
    second o ∙ ap (λ (w : Option ℕ). if is_among back o then Some label else w) (first o)
    ∙ by_tests (is_among front o) (is_among back o)
    ∙ ap (λ (t : Bool). if t then Some label else before o) (sym (list_any-append (λ x. x == o) front back) ∙ ap (λ (xs : List ℕ). is_among xs o) is) where
      by_tests : (t u : Bool) → cond u (Some label) (cond t (Some label) (before o)) ≡ cond (t || u) (Some label) (before o)
      by_tests true true = refl
      by_tests true false = refl
      by_tests false true = refl
      by_tests false false = refl

-- one more fragment joined, whose objects have their label
pub labelled-more : (before old new : ℕ → Option ℕ) (first more : List ℕ) (own other label : ℕ) → ((o : ℕ) → is_among more o ≡ true → before o ≡ Some other)
    → AreLabelled before first own old → AreMerged first own more other label old new → AreLabelled before (first ++ more) label new
labelled-more before old new first more own other label named so_far merged o = elim merged [
  | inl keeps ↦ keeps.1 o ∙ ap (λ (w : Option ℕ). cond (is_among more o) (Some own) w) (so_far o)
      ∙ first_keeps (is_among first o) (is_among more o)
      ∙ ap (λ (l : ℕ). cond (is_among first o || is_among more o) (Some l) (before o)) (sym keeps.0)
      ∙ ap (λ (t : Bool). cond t (Some label) (before o)) (sym (list_any-append (λ x. x == o) first more))
  | inr takes ↦ takes.1 o ∙ ap (λ (w : Option ℕ). cond (is_among first o) (Some other) w) (so_far o)
      ∙ other_keeps (is_among first o) (is_among more o) (named o)
      ∙ ap (λ (l : ℕ). cond (is_among first o || is_among more o) (Some l) (before o)) (sym takes.0)
      ∙ ap (λ (t : Bool). cond t (Some label) (before o)) (sym (list_any-append (λ x. x == o) first more))
] where
  first_keeps : (t u : Bool) → cond u (Some own) (cond t (Some own) (before o)) ≡ cond (t || u) (Some own) (before o)
  first_keeps true true = refl
  first_keeps true false = refl
  first_keeps false true = refl
  first_keeps false false = refl

  other_keeps : (t u : Bool) → (u ≡ true → before o ≡ Some other) → cond t (Some other) (cond t (Some own) (before o)) ≡ cond (t || u) (Some other) (before o)
  other_keeps true true is = refl
  other_keeps true false is = refl
  other_keeps false true is = is refl
  other_keeps false false is = refl

pub named-taken : (test : ℕ → Bool) (entries : List (ℕ × List ℕ)) (label : ℕ → Option ℕ) (names : List ℕ) → AreNamed entries label names
    → AreNamed (remove_entry test entries) label names
named-taken test [] label names all = all
named-taken test (e ∷ es) label names all = by_test (test e.0) (named-taken test es label names (All-tail P e es all)) where
  P : ℕ × List ℕ → Type 0
  P f = (o : ℕ) → is_among f.1 o ≡ true → label o ≡ Some (get_or names f.0 0)

  by_test : (t : Bool) → All P (remove_entry test es) → All P (cond t es (e ∷ remove_entry test es))
  by_test true more = All-tail P e es all
  by_test false more = All-cons P e (remove_entry test es) (All-head P e es all) more

pub are-named : (labels : List (Option ℕ)) (numbers names : List ℕ) (next : ℕ) (entries : List (ℕ × List ℕ)) → Owns entries (number_by labels numbers) next
    → IsLabelled labels numbers names next → AreNamed entries (owner_in labels) names
are-named labels numbers names next entries owns labelled k d within o among =
    by_label (get_or entries k d).0 (owner_in labels o) refl (sym (owns.of k d within o) ∙ among) where
      by_label : (n : ℕ) (w : Option ℕ) → owner_in labels o ≡ w → is_of (number_at numbers w) n ≡ true → w ≡ Some (get_or names n 0)
      by_label n None is of = absurd (let h = of in cc)
      by_label n (Some l) is of = ap Some (sym (labelled.named o l is) ∙ ap (λ (m : ℕ). get_or names m 0) (eqb-true (get_or numbers l 0) n of))

pub named-found : (r : ℕ) (entries : List (ℕ × List ℕ)) (label : ℕ → Option ℕ) (names found : List ℕ) → AreNamed entries label names
    → Some found ≡ lookup (is_at (nat_cmp r)) entries → (o : ℕ) → is_among found o ≡ true → label o ≡ Some (get_or names r 0)
named-found r [] label names found all is o among = absurd (let h = is in cc)
named-found r (e ∷ es) label names found all is o among =
    by_test (is_at (nat_cmp r) e.0) refl is (λ same. named-found r es label names found (All-tail P e es all) same o among) where
      P : ℕ × List ℕ → Type 0
      P f = (x : ℕ) → is_among f.1 x ≡ true → label x ≡ Some (get_or names f.0 0)

      by_test : (t : Bool) → is_at (nat_cmp r) e.0 ≡ t → Some found ≡ cond t (Some e.1) (lookup (is_at (nat_cmp r)) es)
          → (Some found ≡ lookup (is_at (nat_cmp r)) es → label o ≡ Some (get_or names r 0)) → label o ≡ Some (get_or names r 0)
      by_test true here same later =
          All-head P e es all o (ap (λ (f : Option (List ℕ)). is_among (unwrap_or f []) o) (sym same) ∙ among)
          ∙ ap (λ (n : ℕ). Some (get_or names n 0)) (sym (eqb-true r e.0 (sym (key-is r e.0) ∙ here)))
      by_test false there same later = later same

-- The joined fragments take the label of one of them.

pub label-more : (p : ℕ → Bool) (names : List ℕ) (fresh r label more : ℕ) → p r ≡ true → IsLabel p names fresh label
    → (more ≡ label) ⊎ (more ≡ get_or names r 0) → IsLabel p names fresh more
label-more p names fresh r label more passes so_far is = elim is [
  | inl same ↦ subst (λ (l : ℕ). IsLabel p names fresh l) (sym same) so_far
  | inr other ↦ inr (r, passes, other)
]

pub has-first : (r : ℕ) (keys more : List ℕ) → keys ≡ r ∷ more → has keys r ≡ true
has-first r keys more is = ap (λ (ks : List ℕ). has ks r) is ∙ ap (λ (t : Bool). t || has more r) (key-is r r ∙ eq-eqb r r refl)

pub has-later : (r n : ℕ) (keys more : List ℕ) → keys ≡ r ∷ more → has more n ≡ true → has keys n ≡ true
has-later r n keys more is later = ap (λ (ks : List ℕ). has ks n) is ∙ or_right (is_at (nat_cmp n) r) (has more n) later

-- A fragment whose number is that of one of the objects has one of the labels.

root_label : (labels : List (Option ℕ)) (numbers objects : List ℕ) (r : ℕ) → is_root (number_by labels numbers) objects r ≡ true
    → (o : ℕ) × (l : ℕ) × (owner_in labels o ≡ Some l) × (get_or numbers l 0 ≡ r)
root_label labels numbers [] r is = absurd (let h = is in cc)
root_label labels numbers (x ∷ xs) r is = elim (or_cases (is_of (number_by labels numbers x) r) (is_root (number_by labels numbers) xs r) is) [
  | inl here ↦ by_label (owner_in labels x) refl here
  | inr there ↦ root_label labels numbers xs r there
] where
  by_label : (w : Option ℕ) → owner_in labels x ≡ w → is_of (number_at numbers w) r ≡ true → (o : ℕ) × (l : ℕ) × (owner_in labels o ≡ Some l) × (get_or numbers l 0 ≡ r)
  by_label None has of = absurd (let h = of in cc)
  by_label (Some l) has of = (x, l, has, eqb-true (get_or numbers l 0) r of)

-- an object of a fragment whose number passes is among those that are joined
in_roots : (p : ℕ → Bool) (owner : ℕ → Option ℕ) (es : List (ℕ × List ℕ)) (o r : ℕ) → All (λ e. (x : ℕ) → is_among e.1 x ≡ is_of (owner x) e.0) es
    → owner o ≡ Some r → p r ≡ true → is_held (values_of es) o ≡ true → is_among (joined p es) o ≡ true
in_roots p owner [] o r of is one held = absurd (let h = held in cc)
in_roots p owner (e ∷ es) o r of is one held = elim (or_cases (is_among e.1 o) (is_held (values_of es) o) held) [
  | inl here ↦ by_test (p e.0) (ap p (sym (number here)) ∙ one) here
  | inr there ↦ later (p e.0) (in_roots p owner es o r (All-tail (λ f. (x : ℕ) → is_among f.1 x ≡ is_of (owner x) f.0) e es of) is one there)
] where
  number : is_among e.1 o ≡ true → r ≡ e.0
  number here = eqb-true r e.0
      (ap (λ (w : Option ℕ). is_of w e.0) (sym is) ∙ sym (All-head (λ f. (x : ℕ) → is_among f.1 x ≡ is_of (owner x) f.0) e es of o) ∙ here)

  whole : Bool → List ℕ
  whole t = concat (values_of (cond t (e ∷ filter (λ f. p f.0) es) (filter (λ f. p f.0) es)))

  by_test : (t : Bool) → t ≡ true → is_among e.1 o ≡ true → is_among (whole t) o ≡ true
  by_test true passes here = list_any-append (λ x. x == o) e.1 (joined p es) ∙ ap (λ (u : Bool). u || is_among (joined p es) o) here
  by_test false passes here = absurd (let h = passes in cc)

  later : (t : Bool) → is_among (joined p es) o ≡ true → is_among (whole t) o ≡ true
  later true there = list_any-append (λ x. x == o) e.1 (joined p es) ∙ or_right (is_among e.1 o) (is_among (joined p es) o) there
  later false there = there

-- A step.

pub unowned-by : (labels : List (Option ℕ)) (numbers objects : List ℕ) → unowned (owner_in labels) objects ≡ unowned (number_by labels numbers) objects
unowned-by labels numbers objects =
    filter-same (λ o. not (is_some (owner_in labels o))) (λ o. not (is_some (number_by labels numbers o))) objects (λ o. by_label (owner_in labels o)) where
      by_label : (w : Option ℕ) → not (is_some w) ≡ not (is_some (number_at numbers w))
      by_label None = refl
      by_label (Some l) = refl

pub next-numbered : (numbers after : List ℕ) (next label : ℕ) → length numbers ≡ next → after ≡ set (numbers ++ length numbers ∷ []) label (length numbers)
    → after ≡ set (numbers ++ next ∷ []) label next
next-numbered numbers after next label count is = is ∙ ap (λ (n : ℕ). set (numbers ++ n ∷ []) label n) count

pub put-whole : (labels between own after : List (Option ℕ)) (front back whole : List ℕ) (label : ℕ) → AreLabelled (owner_in labels) front label (owner_in between)
    → AreLabelled (owner_in between) back label (owner_in own) → front ++ back ≡ whole → after ≡ own → AreLabelled (owner_in labels) whole label (owner_in after)
put-whole labels between own after front back whole label first second is same o =
    ap (λ (ls : List (Option ℕ)). owner_in ls o) same
    ∙ both-labelled (owner_in labels) (owner_in between) (owner_in own) front back whole label first second is o

module _ (labels : List (Option ℕ)) (numbers names : List ℕ) (next : ℕ) (entries : List (ℕ × List ℕ)) (objects : List ℕ) (p : ℕ → Bool)
    (owns : Owns entries (number_by labels numbers) next) (labelled : IsLabelled labels numbers names next)
    (root : (r : ℕ) → p r ≡ is_root (number_by labels numbers) objects r) (label : ℕ) (one : IsLabel p names next label) where
  -- the label of a fragment whose number passes has that number
  label_number : (r : ℕ) → p r ≡ true → (get_or names r 0 < next) × (get_or numbers (get_or names r 0) 0 ≡ r)
  label_number r passes =
      let found = root_label labels numbers objects r (sym (root r) ∙ passes) in
      let name : get_or names r 0 ≡ found.1 =
      ap (λ (m : ℕ). get_or names m 0) (sym found.3) ∙ labelled.named found.0 found.1 found.2 in
      (subst (λ (m : ℕ). m < next) (sym name) (labelled.low found.0 found.1 found.2), ap (λ (m : ℕ). get_or numbers m 0) name ∙ found.3)

  pub label-fits : label ≤ length numbers
  label-fits = elim one [
    | inl fresh ↦ let h = labelled.numbers_count in omega (arith, h, fresh)
    | inr old ↦ let h = labelled.numbers_count in let low = (label_number old.0 old.1).0 in let is = old.2 in omega (arith, h, low, is)
  ]

  abbrev all_of : List ℕ
  all_of = joined p entries ++ unowned (number_by labels numbers) objects

  -- the label is that of no object outside
  outside : (o l : ℕ) → is_among all_of o ≡ false → owner_in labels o ≡ Some l → label ≡ l → ⊥
  outside o l none is same = elim one [
    | inl fresh ↦ let low = labelled.low o l is in omega (arith, low, same, fresh)
    | inr old ↦ of_old old.0 old.1 old.2
  ] where
    of_old : (r : ℕ) → p r ≡ true → label ≡ get_or names r 0 → ⊥
    of_old r passes name =
        let number : number_by labels numbers o ≡ Some r =
        ap (number_at numbers) is ∙ ap Some (ap (λ (m : ℕ). get_or numbers m 0) (sym same ∙ name) ∙ (label_number r passes).1) in
        let among : is_among (joined p entries) o ≡ true =
        in_roots p (number_by labels numbers) entries o r owns.of number passes (owns.held o ∙ ap is_some number) in
        let parts = or_parts (is_among (joined p entries) o) (is_among (unowned (number_by labels numbers) objects) o)
        (sym (list_any-append (λ x. x == o) (joined p entries) (unowned (number_by labels numbers) objects)) ∙ none) in
        let h = sym among ∙ parts.0 in cc

  module _ (after : List (Option ℕ)) (after_numbers after_names : List ℕ) (put : AreLabelled (owner_in labels) all_of label (owner_in after))
      (numbered : after_numbers ≡ set (numbers ++ next ∷ []) label next) (given : after_names ≡ names ++ label ∷ []) where
    fits : label < length (numbers ++ next ∷ [])
    fits = let h = label-fits in let k = length-append numbers (next ∷ []) in omega (arith, h, k)

    next_number : get_or after_numbers label 0 ≡ next
    next_number = ap (λ (ns : List ℕ). get_or ns label 0) numbered ∙ get_or-set_same (numbers ++ next ∷ []) label next 0 fits

    old_number : (l : ℕ) → l < next → (label ≡ l → ⊥) → get_or after_numbers l 0 ≡ get_or numbers l 0
    old_number l low apart =
        ap (λ (ns : List ℕ). get_or ns l 0) numbered ∙ get_or-set_other (numbers ++ next ∷ []) label l next 0 (λ same. apart (sym same))
        ∙ get_or_append_left numbers (next ∷ []) 0 l (let h = labelled.numbers_count in omega (arith, h, low))

    pub number-after : (o : ℕ) → number_by after after_numbers o ≡ owner_more (number_by labels numbers) all_of next o
    number-after o = ap (number_at after_numbers) (put o) ∙ by_test (is_among all_of o) refl where
      by_label : (w : Option ℕ) → is_among all_of o ≡ false → owner_in labels o ≡ w → number_at after_numbers w ≡ number_at numbers w
      by_label None none is = refl
      by_label (Some l) none is = ap Some (old_number l (labelled.low o l is) (outside o l none is))

      by_test : (t : Bool) → is_among all_of o ≡ t → number_at after_numbers (cond t (Some label) (owner_in labels o)) ≡ cond t (Some next) (number_by labels numbers o)
      by_test true among = ap Some next_number
      by_test false none = by_label (owner_in labels o) none refl

    -- an object's label is the new one, or its old one
    cases : (o l : ℕ) → owner_in after o ≡ Some l → (label ≡ l) ⊎ ((owner_in labels o ≡ Some l) × (label ≡ l → ⊥))
    cases o l is = by_test (is_among all_of o) refl (sym (put o) ∙ is) where
      by_test : (t : Bool) → is_among all_of o ≡ t → cond t (Some label) (owner_in labels o) ≡ Some l → (label ≡ l) ⊎ ((owner_in labels o ≡ Some l) × (label ≡ l → ⊥))
      by_test true among same = inl (cc)
      by_test false none same = inr (same, outside o l none same)

    low_number : (o l : ℕ) → owner_in labels o ≡ Some l → get_or numbers l 0 < next
    low_number o l is = by_order (owns.past o (get_or numbers l 0)) where
      by_order : (next ≤ get_or numbers l 0 → is_of (number_by labels numbers o) (get_or numbers l 0) ≡ false) → get_or numbers l 0 < next
      by_order past = elim (cases_lt (get_or numbers l 0) next) [
        | inr high ↦ absurd (let h = sym (past high) ∙ ap (λ (w : Option ℕ). is_of (number_at numbers w) (get_or numbers l 0)) is ∙ eq-eqb (get_or numbers l 0) (get_or numbers l 0) refl in cc)
        | inl low ↦ low
      ]

    pub labelled-after : IsLabelled after after_numbers after_names (next + 1)
    labelled-after = record {
      numbers_count = ap length numbered ∙ counted;
      names_count = ap length given ∙ length-append names (label ∷ []) ∙ ap (λ (n : ℕ). n + 1) labelled.names_count;
      low = λ o l is. elim (cases o l is) [
        | inl same ↦ let h = label-fits in let k = labelled.numbers_count in omega (arith, h, k, same)
        | inr old ↦ let h = labelled.low o l old.0 in omega (arith, h)
      ];
      named = λ o l is. elim (cases o l is) [
        | inl same ↦ new_name l same
        | inr old ↦ ap (λ (m : ℕ). get_or after_names m 0) (old_number l (labelled.low o l old.0) old.1)
            ∙ ap (λ (ns : List ℕ). get_or ns (get_or numbers l 0) 0) given
            ∙ get_or_append_left names (label ∷ []) 0 (get_or numbers l 0) (let h = labelled.names_count in let k = low_number o l old.0 in omega (arith, h, k))
            ∙ labelled.named o l old.0
      ];
    } where
      counted : length (set (numbers ++ next ∷ []) label next) ≡ next + 1
      counted = length-set (numbers ++ next ∷ []) label next ∙ length-append numbers (next ∷ []) ∙ ap (λ (n : ℕ). n + 1) labelled.numbers_count

      new_name : (l : ℕ) → label ≡ l → get_or after_names (get_or after_numbers l 0) 0 ≡ l
      new_name l same =
          ap (λ (m : ℕ). get_or after_names (get_or after_numbers m 0) 0) (sym same) ∙ ap (λ (m : ℕ). get_or after_names m 0) next_number
          ∙ ap (λ (ns : List ℕ). get_or ns next 0) given ∙ ap (λ (m : ℕ). get_or (names ++ label ∷ []) m 0) (sym labelled.names_count)
          ∙ get_or-append_seam names label [] 0 ∙ same
