-- One object more.
use Rattle.std.proofs.Common.{◌≡◌, ℕ, ◌+◌, ◌<◌, Bool, true, false, not, ◌||◌, List, [], ◌∷◌, ◌++◌, length, get_or, take, Option, Some, None, refl, sym, ap, ◌∙◌, cond}
use Rattle.std.specs.Prelude.{◌==◌, if◌then◌else◌, is_some}
use Rattle.std.specs.Ordering.{nat_cmp}
use Rattle.std.specs.BTreeMap.{is_at}
use Rattle.std.proofs.lemmas.List.{take_more, append-nil}
use Rattle.std.proofs.lemmas.List.Folds.{list_any_more}
use Rattle.std.proofs.lemmas.List.Elements.{filter-append}
use Rattle.global_layout.specs.Fragments.{is_among}
use Rattle.global_layout.specs.Owners.{is_of, is_root, unowned, owner_more}
use Rattle.global_layout.proofs.OwnerLaws.{key-is}

pub root-some : (owner : ℕ → Option ℕ) (objects : List ℕ) (at r n : ℕ) (before after : Bool) → at < length objects → Some r ≡ owner (get_or objects at 0)
    → after ≡ cond (is_at (nat_cmp r) n) true before → before ≡ is_root owner (take at objects) n → after ≡ is_root owner (take (at + 1) objects) n
root-some owner objects at r n before after within found is so_far =
    is ∙ ap (λ (t : Bool). cond t true before) (key-is r n) ∙ either (r == n) before ∙ ap (λ (t : Bool). t || (r == n)) so_far
    ∙ ap (λ (w : Option ℕ). is_root owner (take at objects) n || is_of w n) found
    ∙ sym (list_any_more (λ o. is_of (owner o) n) objects at 0 within) where
      either : (t b : Bool) → cond t true b ≡ (b || t)
      either true true = refl
      either true false = refl
      either false true = refl
      either false false = refl

pub root-none : (owner : ℕ → Option ℕ) (objects : List ℕ) (at n : ℕ) (before : Bool) → at < length objects → None ≡ owner (get_or objects at 0)
    → before ≡ is_root owner (take at objects) n → before ≡ is_root owner (take (at + 1) objects) n
root-none owner objects at n before within found so_far =
    so_far ∙ neither (is_root owner (take at objects) n)
    ∙ ap (λ (w : Option ℕ). is_root owner (take at objects) n || is_of w n) found
    ∙ sym (list_any_more (λ o. is_of (owner o) n) objects at 0 within) where
      neither : (b : Bool) → b ≡ (b || false)
      neither true = refl
      neither false = refl

pub own-more : (owner : ℕ → Option ℕ) (objects : List ℕ) (at n o : ℕ) (before after : Option ℕ) → at < length objects
    → after ≡ (if get_or objects at 0 == o then Some n else before) → before ≡ owner_more owner (take at objects) n o
    → after ≡ owner_more owner (take (at + 1) objects) n o
own-more owner objects at n o before after within is so_far =
    is ∙ ap (λ (b : Option ℕ). cond (get_or objects at 0 == o) (Some n) b) so_far
    ∙ by_tests (get_or objects at 0 == o) (is_among (take at objects) o)
    ∙ ap (λ (t : Bool). if t then Some n else owner o) (sym (list_any_more (λ y. y == o) objects at 0 within)) where
      by_tests : (t u : Bool) → cond t (Some n) (if u then Some n else owner o) ≡ (if u || t then Some n else owner o)
      by_tests true true = refl
      by_tests true false = refl
      by_tests false true = refl
      by_tests false false = refl

unowned_take : (owner : ℕ → Option ℕ) (objects : List ℕ) (at : ℕ) → at < length objects
    → unowned owner (take (at + 1) objects) ≡ unowned owner (take at objects) ++ cond (not (is_some (owner (get_or objects at 0)))) (get_or objects at 0 ∷ []) []
unowned_take owner objects at within =
    ap (unowned owner) (take_more objects at 0 within) ∙ filter-append (λ o. not (is_some (owner o))) (take at objects) (get_or objects at 0 ∷ [])

pub unowned-new : (owner : ℕ → Option ℕ) (objects : List ℕ) (at : ℕ) (before after : List ℕ) → at < length objects
    → is_some (owner (get_or objects at 0)) ≡ false → after ≡ before ++ get_or objects at 0 ∷ [] → before ≡ unowned owner (take at objects)
    → after ≡ unowned owner (take (at + 1) objects)
unowned-new owner objects at before after within none is so_far =
    is ∙ ap (λ (f : List ℕ). f ++ get_or objects at 0 ∷ []) so_far
    ∙ ap (λ (t : Bool). unowned owner (take at objects) ++ cond (not t) (get_or objects at 0 ∷ []) []) (sym none) ∙ sym (unowned_take owner objects at within)

pub unowned-old : (owner : ℕ → Option ℕ) (objects : List ℕ) (at : ℕ) (before : List ℕ) → at < length objects
    → is_some (owner (get_or objects at 0)) ≡ true → before ≡ unowned owner (take at objects) → before ≡ unowned owner (take (at + 1) objects)
unowned-old owner objects at before within some so_far =
    so_far ∙ sym (append-nil (unowned owner (take at objects)))
    ∙ ap (λ (t : Bool). unowned owner (take at objects) ++ cond (not t) (get_or objects at 0 ∷ []) []) (sym some) ∙ sym (unowned_take owner objects at within)
