-- Names whose replacing ends, and the marks that tell them.
use Rattle.std.proofs.Common.{◌≡◌, refl, ◌∙◌, ap, sym, subst, ℕ, zero, suc, ◌+◌, ◌-◌, ◌*◌, ◌<◌, ◌≤◌, ◌≢◌, Bool, true, false, cond, not, ◌&&◌, List, [], ◌∷◌, length, get_or, Option, Some, None, arith}
use Rattle.std.specs.Prelude.{is_none, slice_set, replicate, nat_eq, ◌||◌}
use Rattle.std.specs.List.{list_all, position_from}
use Rattle.std.proofs.lemmas.List.{length-set, get_or-set_other}
use Rattle.ltt_base.specs.declared.refusal.Placed.{Placed}
use Rattle.ir_values.specs.declared.types.Ty.{Ty}
use Rattle.ir_values.specs.declared.units.Unit as unit
use Rattle.check_names.specs.declared.spaces.Space.TheVariants.{Types}
use Rattle.check_names.specs.Spaces.{first_definition, is_definition}
use Rattle.check_names.proofs.SearchLemmas.{first_gets, first_none}
use Rattle.check_types.specs.Named.{type_of, named_type, names_in, each_name, ends}
use Rattle.check_types.specs.Marks.{type_at, mark_at, is_marked, is_due, visited, marked_count, AreSound, AreDone, TellEnds, Passing}

abbrev Units : Type 0
Units = List (Placed unit.Unit)

both : (a b : Bool) → a ≡ true → b ≡ true → a && b ≡ true
both a b one other = grind arith

pub left : (a b : Bool) → a && b ≡ true → a ≡ true
left a b is = grind arith

pub right : (a b : Bool) → a && b ≡ true → b ≡ true
right a b is = grind arith

list_more : {X : Type 0} (p q : X → Bool) → ((x : X) → p x ≡ true → q x ≡ true) → (xs : List X) → list_all p xs ≡ true → list_all q xs ≡ true
list_more p q more [] is = refl
list_more p q more (x ∷ xs) is =
    both (q x) (list_all q xs) (more x (left (p x) (list_all p xs) is)) (list_more p q more xs (right (p x) (list_all p xs) is))

name_more : (p q : List ℕ → Bool) → ((name : List ℕ) → p name ≡ true → q name ≡ true)
    → (ty : Option Ty) → each_name p ty ≡ true → each_name q ty ≡ true
name_more p q more None is = refl
name_more p q more (Some ty) is = list_more p q more (names_in ty) is

none_each : (p : List ℕ → Bool) (ty : Option Ty) → is_none ty ≡ true → each_name p ty ≡ true
none_each p None is = refl
none_each p (Some ty) is = grind arith

-- one round more
pub ends_next : (us : Units) (n : ℕ) (name : List ℕ) → ends us n name ≡ true → ends us (suc n) name ≡ true
unfolding ends
ends_next us zero name is = none_each (ends us zero) (named_type us name) is
ends_next us (suc n) name is = name_more (ends us n) (ends us (suc n)) (ends_next us n) (named_type us name) is

ends_plus : (us : Units) (k n : ℕ) (name : List ℕ) → ends us n name ≡ true → ends us (k + n) name ≡ true
ends_plus us zero n name is = subst (λ m. ends us m name ≡ true) (omega arith) is
ends_plus us (suc k) n name is =
    let sum : suc (k + n) ≡ suc k + n = omega arith in
    subst (λ m. ends us m name ≡ true) sum (ends_next us (k + n) name (ends_plus us k n name is))

pub ends_more : (us : Units) (n m : ℕ) (name : List ℕ) → n ≤ m → ends us n name ≡ true → ends us m name ≡ true
ends_more us n m name less is =
    let sum : (m - n) + n ≡ m = omega arith in
    subst (λ k. ends us k name ≡ true) sum (ends_plus us (m - n) n name is)

-- a name without a type ends at once
ends_none : (us : Units) (n : ℕ) (name : List ℕ) → named_type us name ≡ None → ends us n name ≡ true
unfolding ends
ends_none us zero name is = ap is_none is
ends_none us (suc n) name is = ap (each_name (ends us n)) is

-- a name and the unit at the place that defines it first
pub type_here : (us : Units) (name : List ℕ) (at : ℕ) → first_definition Types name us ≡ Some at → named_type us name ≡ type_at us at
unfolding named_type
type_here us name at is = ap type_of (sym (first_gets (is_definition Types name) at us is))

pub type_nowhere : (us : Units) (name : List ℕ) → first_definition Types name us ≡ None → named_type us name ≡ None
unfolding named_type
type_nowhere us name is = ap type_of (first_none (is_definition Types name) 0 us is)

marked_some : (marks : List Bool) (at : ℕ) → get_or marks at false ≡ true → 1 ≤ marked_count marks
unfolding marked_count
marked_some [] at is = grind arith
marked_some (true ∷ marks) at is = omega arith
marked_some (false ∷ marks) zero is = grind arith
marked_some (false ∷ marks) (suc at) is = marked_some marks at is

-- what is marked ends
pub marked_ends : (us : Units) (marks : List Bool) (name : List ℕ) → AreSound us marks → is_marked us marks name ≡ true
    → ends us (marked_count marks) name ≡ true
unfolding is_marked ends
marked_ends us marks name sound is =
    let choice : (place : Option ℕ) → first_definition Types name us ≡ place → mark_at marks place ≡ true → ends us (marked_count marks) name ≡ true =
    λ place. elim place as (λ p. first_definition Types name us ≡ p → mark_at marks p ≡ true → ends us (marked_count marks) name ≡ true) [
      | None ↦ λ nowhere _. ends_none us (marked_count marks) name (type_nowhere us name nowhere)
      | Some at ↦ λ here mark.
          let some = marked_some marks at mark in
          let rest : each_name (ends us (marked_count marks - 1)) (named_type us name) ≡ true =
          ap (each_name (ends us (marked_count marks - 1))) (type_here us name at here) ∙ sound at mark in
          let count : suc (marked_count marks - 1) ≡ marked_count marks = omega arith in
          subst (λ k. ends us k name ≡ true) count rest
    ] in
    choice (first_definition Types name us) refl is

due_each : (mark all : Bool) → not mark && all ≡ false → all ≡ true → mark ≡ true
due_each mark all due is = grind arith

place_within : {X : Type 0} (test : X → Bool) (i p : ℕ) (xs : List X) → position_from test i xs ≡ Some p → p < i + length xs
place_within test i p [] is = grind arith
place_within test i p (x ∷ xs) is = let behind = place_within test (i + 1) p xs in
    let choice : (b : Bool) → cond b (Some i) (position_from test (i + 1) xs) ≡ Some p → p < i + suc (length xs) =
    λ b. elim b as (λ c. cond c (Some i) (position_from test (i + 1) xs) ≡ Some p → p < i + suc (length xs))
    [ true ↦ λ same. grind arith | false ↦ λ later. let below : p < i + 1 + length xs = behind later in omega arith ] in
    choice (test x) is

first_inside : (us : Units) (name : List ℕ) (at : ℕ) → first_definition Types name us ≡ Some at → at < length us
first_inside us name at is = let below : at < 0 + length us = place_within (is_definition Types name) 0 at us is in omega arith

-- where no unit is due, a name whose unit's names are marked is marked
due_marked : (us : Units) (marks : List Bool) (name : List ℕ) → length marks ≡ length us → AreDone us marks (length us)
    → each_name (is_marked us marks) (named_type us name) ≡ true → is_marked us marks name ≡ true
unfolding is_marked is_due
due_marked us marks name size done is =
    let choice : (place : Option ℕ) → first_definition Types name us ≡ place → mark_at marks place ≡ true =
    λ place. elim place as (λ p. first_definition Types name us ≡ p → mark_at marks p ≡ true) [
      | None ↦ λ nowhere. refl
      | Some at ↦ λ here.
          let all : each_name (is_marked us marks) (type_at us at) ≡ true = ap (each_name (is_marked us marks)) (sym (type_here us name at here)) ∙ is in
          due_each (get_or marks at false) (each_name (is_marked us marks) (type_at us at)) (done at (first_inside us name at here)) all
    ] in
    choice (first_definition Types name us) refl

-- where no unit is due, a name that ends is marked
ends_marked : (us : Units) (marks : List Bool) → length marks ≡ length us → AreDone us marks (length us)
    → (n : ℕ) (name : List ℕ) → ends us n name ≡ true → is_marked us marks name ≡ true
unfolding ends
ends_marked us marks size done zero name is =
    due_marked us marks name size done (none_each (is_marked us marks) (named_type us name) is)
ends_marked us marks size done (suc n) name is =
    due_marked us marks name size done
    (name_more (ends us n) (is_marked us marks) (ends_marked us marks size done n) (named_type us name) is)

pub marked_most : (marks : List Bool) → marked_count marks ≤ length marks
unfolding marked_count
marked_most [] = omega arith
marked_most (true ∷ marks) = let rest = marked_most marks in omega arith
marked_most (false ∷ marks) = let rest = marked_most marks in omega arith

same_truth : (a b : Bool) → (a ≡ true → b ≡ true) → (b ≡ true → a ≡ true) → a ≡ b
same_truth true b to from = sym (to refl)
same_truth false true to from = from refl
same_truth false false to from = refl

-- sound marks tell which names end, where no unit is due
pub marks_tell : (us : Units) (marks : List Bool) → length marks ≡ length us → AreSound us marks → AreDone us marks (length us) → TellEnds us marks
marks_tell us marks size sound done name =
    let most : marked_count marks ≤ length us = let few = marked_most marks in omega arith in
    same_truth (is_marked us marks name) (ends us (length us) name)
    (λ marked. ends_more us (marked_count marks) (length us) name most (marked_ends us marks name sound marked))
    (ends_marked us marks size done (length us) name)

pub set_size : (marks : List Bool) (at : ℕ) → length (slice_set marks at true) ≡ length marks
set_size marks at = length-set marks at true

set_count : (marks : List Bool) (at : ℕ) → at < length marks → get_or marks at false ≡ false
    → marked_count (slice_set marks at true) ≡ suc (marked_count marks)
unfolding marked_count
set_count [] at inside is = grind arith
set_count (true ∷ marks) zero inside is = grind arith
set_count (false ∷ marks) zero inside is = refl
set_count (true ∷ marks) (suc at) inside is = ap suc (set_count marks at (omega arith) is)
set_count (false ∷ marks) (suc at) inside is = set_count marks at (omega arith) is

due_free : (mark all : Bool) → not mark && all ≡ true → mark ≡ false
due_free mark all is = grind arith

pub due_all : (mark all : Bool) → not mark && all ≡ true → all ≡ true
due_all mark all is = grind arith

-- one more mark on a unit that is due
mark_sound : (us : Units) (marks : List Bool) (at : ℕ) → at < length marks → is_due us marks at ≡ true → AreSound us marks
    → AreSound us (slice_set marks at true)
unfolding is_due
mark_sound us marks at inside due sound k mark =
    let free : get_or marks at false ≡ false = due_free (get_or marks at false) (each_name (is_marked us marks) (type_at us at)) due in
    let all : each_name (is_marked us marks) (type_at us at) ≡ true = due_all (get_or marks at false) (each_name (is_marked us marks) (type_at us at)) due in
    let count : marked_count (slice_set marks at true) ≡ suc (marked_count marks) = set_count marks at inside free in
    let less : marked_count marks ≡ marked_count (slice_set marks at true) - 1 = omega arith in
    let old : each_name (ends us (marked_count marks)) (type_at us k) ≡ true =
    elim (nat_eq k at) as (λ same. nat_eq k at ≡ same → each_name (ends us (marked_count marks)) (type_at us k) ≡ true) [
      | true ↦ λ is. let same : at ≡ k = grind arith in
          subst (λ j. each_name (ends us (marked_count marks)) (type_at us j) ≡ true) same
          (name_more (is_marked us marks) (ends us (marked_count marks)) (λ name. marked_ends us marks name sound) (type_at us at) all)
      | false ↦ λ is. let other : k ≢ at = grind arith in
          name_more (ends us (marked_count marks - 1)) (ends us (marked_count marks))
          (λ name. ends_more us (marked_count marks - 1) (marked_count marks) name (omega arith)) (type_at us k)
          (sound k (sym (get_or-set_other marks at k true false other) ∙ mark))
    ] refl in
    subst (λ n. each_name (ends us n) (type_at us k) ≡ true) less old

done_next : (us : Units) (marks : List Bool) (at : ℕ) → AreDone us marks at → is_due us marks at ≡ false → AreDone us marks (suc at)
done_next us marks at done due k below =
    elim (nat_eq k at) as (λ same. nat_eq k at ≡ same → is_due us marks k ≡ false) [
      | true ↦ λ is. let same : at ≡ k = grind arith in subst (λ j. is_due us marks j ≡ false) same due
      | false ↦ λ is. done k (grind arith)
    ] refl

passing_marked : (us : Units) (old marks : List Bool) (changed : Bool) (at : ℕ) → at < length us → Passing us old marks changed at
    → is_due us marks at ≡ true → Passing us old (slice_set marks at true) true (suc at)
unfolding is_due
passing_marked us old marks changed at below pass due =
    let inside : at < length marks = let size = pass.size in omega arith in
    let free : get_or marks at false ≡ false = due_free (get_or marks at false) (each_name (is_marked us marks) (type_at us at)) due in
    let count : marked_count (slice_set marks at true) ≡ suc (marked_count marks) = set_count marks at inside free in
    let more : marked_count old ≤ marked_count marks = pass.more in
    record {
      size = set_size marks at ∙ pass.size;
      sound = mark_sound us marks at inside due pass.sound;
      more = omega arith;
      grows = λ changed. omega arith;
      done = λ same. grind arith;
    }

passing_left : (us : Units) (old marks : List Bool) (changed : Bool) (at : ℕ) → Passing us old marks changed at
    → is_due us marks at ≡ false → Passing us old marks changed (suc at)
passing_left us old marks changed at pass due = record {
  size = pass.size;
  sound = pass.sound;
  more = pass.more;
  grows = pass.grows;
  done = λ same. done_next us marks at (pass.done same) due;
}

pub passing_next : (us : Units) (old marks : List Bool) (changed : Bool) (at : ℕ) → at < length us → Passing us old marks changed at
    → Passing us old (visited us marks at) (is_due us marks at || changed) (suc at)
unfolding visited
passing_next us old marks changed at below pass =
    let choice : (due : Bool) → is_due us marks at ≡ due → Passing us old (cond due (slice_set marks at true) marks) (due || changed) (suc at) =
    λ due. elim due as (λ d. is_due us marks at ≡ d → Passing us old (cond d (slice_set marks at true) marks) (d || changed) (suc at))
    [ true ↦ λ is. passing_marked us old marks changed at below pass is | false ↦ λ is. passing_left us old marks changed at pass is ] in
    choice (is_due us marks at) refl

pub blank_none : (n at : ℕ) → get_or (replicate n false) at false ≡ false
blank_none zero at = refl
blank_none (suc n) zero = refl
blank_none (suc n) (suc at) = blank_none n at

pub blank_sound : (us : Units) (n : ℕ) → AreSound us (replicate n false)
blank_sound us n at is = let none = blank_none n at in grind arith

pub passing_step : (us : Units) (old marks : List Bool) (changed : Bool) (at : ℕ) (due : Bool) (more : List Bool) → at < length us
    → Passing us old marks changed at → due ≡ is_due us marks at → more ≡ visited us marks at → Passing us old more (changed || due) (at + 1)
passing_step us old marks changed at due more below pass is same =
    let next : at + 1 ≡ suc at = omega arith in
    let turned : changed || is_due us marks at ≡ is_due us marks at || changed = grind arith in
    rw (is, same, next, turned) (passing_next us old marks changed at below pass)

-- a pass that changes nothing, or else adds marks, of which there are no more than units
pub pass_smaller : (us : Units) (old new : List Bool) (before after : Bool) → before ≡ true → Passing us old new after (length us)
    → 2 * (length us - marked_count new) + cond after 1 0 < 2 * (length us - marked_count old) + cond before 1 0
pass_smaller us old new true true is pass =
    let grows : marked_count old < marked_count new = pass.grows refl in
    let few : marked_count new ≤ length new = marked_most new in
    let size : length new ≡ length us = pass.size in
    let step : 2 * (length us - marked_count new) + 1 < 2 * (length us - marked_count old) + 1 = omega arith in
    step
pass_smaller us old new true false is pass =
    let more : marked_count old ≤ marked_count new = pass.more in
    let step : 2 * (length us - marked_count new) + 0 < 2 * (length us - marked_count old) + 1 = omega arith in
    step
pass_smaller us old new false after is pass = grind arith

pub visited_size : (us : Units) (marks : List Bool) (at : ℕ) → length (visited us marks at) ≡ length marks
unfolding visited
visited_size us marks at =
    elim (is_due us marks at) as (λ due. length (cond due (slice_set marks at true) marks) ≡ length marks)
    [ true ↦ set_size marks at | false ↦ refl ]

pub visited_sound : (us : Units) (marks : List Bool) (at : ℕ) → at < length marks → AreSound us marks → AreSound us (visited us marks at)
unfolding visited
visited_sound us marks at inside sound =
    let choice : (due : Bool) → is_due us marks at ≡ due → AreSound us (cond due (slice_set marks at true) marks) =
    λ due. elim due as (λ d. is_due us marks at ≡ d → AreSound us (cond d (slice_set marks at true) marks))
    [ true ↦ λ is. mark_sound us marks at inside is sound | false ↦ λ is. sound ] in
    choice (is_due us marks at) refl
