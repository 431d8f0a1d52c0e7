-- One more text among those whose places a map has.
use Rattle.std.proofs.Common.{◌≡◌, ℕ, ◌<◌, ◌+◌, List, [], ◌∷◌, ◌++◌, ◌≤◌, map, length, IsTrue, IsSome, ◌↔◌, get_or, take, Bool, true, false, cond, Option, Some, None, Decides, inl, inr, sym, ap, ◌∙◌, subst, refl, arith}
use Rattle.std.specs.List.{Contains}
use Rattle.std.specs.Str.{bytes_eq}
use Rattle.std.specs.BTreeMap.{BTreeMap, UpdatesBy}
use Rattle.std.specs.Cmp.Lexicographic.{slice_cmp}
use Rattle.std.specs.Ordering.{nat_cmp}
use Rattle.std.proofs.lemmas.Slice.Eq.{bytes_eq-Decides}
use Rattle.std.proofs.Math.Nat.{eq-or-lt_of_le}
use Rattle.std.proofs.lemmas.List.{get_or_default, get_or-map, length-map, take_more, length_push, get_or_push, get_or_append_left, length-take-le}
use Rattle.std.proofs.lemmas.List.Elements.{Contains-push_cases}
use Rattle.std.proofs.lemmas.Map.Text.{btree_map_updates_str}
use Rattle.thin_files.specs.Thin.{AreDistinct}
use Rattle.thin_files.proofs.Lists.{contains_map}
use Rattle.thin_files.specs.Places.{place_at, IsPlace, ArePlaces}
use denote.Ref.{Bor}

abbrev Places : Type 0
Places = BTreeMap (Bor (List ℕ)) ℕ

pushed : (texts : List (List ℕ)) (x text : List ℕ) (n : ℕ) (same : Bool) (before : Option ℕ) → length texts ≡ n → Decides same (x ≡ text) →
    IsPlace texts text before → IsPlace (texts ++ x ∷ []) text (cond same (Some n) before)
pushed texts x text n true before long decides place =
    (omega (arith, long, length_push texts x), get_or_push texts x text n long ∙ decides.0 refl)
pushed texts x text n false None long decides place = λ inside.
    elim (Contains-push_cases texts x text inside) [ inl h ↦ place h | inr h ↦ absurd (let wrong : false ≡ true = decides.1 h in cc) ]
pushed texts x text n false (Some at) long decides place =
    (omega (arith, place.0, length_push texts x), get_or_append_left texts (x ∷ []) text at place.0 ∙ place.1)

pub places_more : (texts : List (List ℕ)) (i : ℕ) (x : List ℕ) (old new : Places) → i < length texts → x ≡ get_or texts i x →
    ArePlaces (take i texts) old →
    UpdatesBy (λ a b. slice_cmp nat_cmp a.now b.now) (λ k. slice_cmp nat_cmp x k.now) old new (Some i) →
    ArePlaces (take (i + 1) texts) new
places_more texts i x old new within at before updates = record {
  at = λ text.
      let long : length (take i texts) ≡ i = length-take-le i texts (omega (arith, within)) in
      let one = pushed (take i texts) x text i (bytes_eq x text) (place_at old text) long (bytes_eq-Decides x text) (before.at text) in
      let longer : take i texts ++ x ∷ [] ≡ take (i + 1) texts = sym (take_more texts i x within ∙ ap (λ last. take i texts ++ last ∷ []) (sym at)) in
      subst (λ ts. IsPlace ts text (place_at new text)) longer
      (subst (IsPlace (take i texts ++ x ∷ []) text) (sym (btree_map_updates_str x old new (Some i) updates text)) one);
}

-- the first n texts are found where they stand

pub record AreFound (texts : List (List ℕ)) (places : Places) (n : ℕ) : Type 0 where
  pub at : (k : ℕ) (text : List ℕ) → k < n → k < length texts → place_at places (get_or texts k text) ≡ Some k

pub found_none : (texts : List (List ℕ)) (places : Places) → AreFound texts places 0
found_none texts places = record { at = λ k text before within. absurd (omega (arith, before)) }

pub found_more : (texts : List (List ℕ)) (places : Places) (i : ℕ) (x : List ℕ) → i < length texts → x ≡ get_or texts i x →
    place_at places x ≡ Some i → AreFound texts places i → AreFound texts places (i + 1)
found_more texts places i x within at here before = record {
  at = λ k text less inside.
      elim (eq-or-lt_of_le {n = k} {m = i} (omega (arith, less))) [
        | inl same ↦ ap (place_at places) (ap (λ n. get_or texts n text) same ∙ get_or_default texts i text x within ∙ sym at) ∙ here ∙ ap Some (sym same)
        | inr lower ↦ before.at k text lower inside
      ];
}

-- texts that are all found where they stand are distinct
pub found_all : (texts : List (List ℕ)) (places : Places) (n : ℕ) → length texts ≤ n → AreFound texts places n → IsTrue true ↔ AreDistinct texts
found_all texts places n past found = (
  λ holds i j text before within same.
      let first = found.at i text (omega (arith, before, within)) (omega (arith, before, within)) in
      let second = found.at j text (omega (arith, within)) within in
      let one : i ≡ j = cc (first, second, same) in
      absurd (omega (arith, before, one)),
  λ distinct. refl,
)

place_when_distinct : (texts : List (List ℕ)) (i : ℕ) (x : List ℕ) (place : Option ℕ) → AreDistinct texts → i < length texts →
    x ≡ get_or texts i x → IsPlace texts x place → place ≡ Some i
place_when_distinct texts i x None distinct within at none = absurd (none (i, within, sym at))
place_when_distinct texts i x (Some place) distinct within at (inside, there) =
    let before : place < i → ⊥ = λ less. distinct place i x less within (there ∙ at) in
    let after : i < place → ⊥ = λ less. distinct i place x less inside (sym at ∙ sym there) in
    let same : place ≡ i = omega arith in
    ap Some same

-- a text that is found elsewhere stands twice
pub not_found : (texts : List (List ℕ)) (places : Places) (i : ℕ) (x : List ℕ) → i < length texts → x ≡ get_or texts i x →
    ArePlaces texts places → (place_at places x ≡ Some i → ⊥) → IsTrue false ↔ AreDistinct texts
not_found texts places i x within at are elsewhere =
    (λ no. cc, λ distinct. absurd (elsewhere (place_when_distinct texts i x (place_at places x) distinct within at (are.at x))))

-- a text that has a place is among the texts

placed : (texts : List (List ℕ)) (text : List ℕ) (place : Option ℕ) → IsPlace texts text place → IsSome place ↔ Contains texts text
placed texts text None none = (λ some. cc, λ inside. absurd (none inside))
placed texts text (Some place) is = (λ some. (place, is.0, is.1), λ inside. refl)

pub among : (texts : List (List ℕ)) (places : Places) (text : List ℕ) → ArePlaces texts places →
    IsSome (place_at places text) ↔ Contains texts text
among texts places text are = placed texts text (place_at places text) (are.at text)

-- an item is found by the place of its text
pub one_found : {A : Type 0} (f : A → List ℕ) (xs : List A) (places : Places) (text : List ℕ) (place : ℕ) (x : A) → ArePlaces (map f xs) places →
    Some place ≡ place_at places text → x ≡ get_or xs place x → Contains xs x × (f x ≡ text)
one_found f xs places text place x are at is =
    let found : IsPlace (map f xs) text (Some place) = subst (IsPlace (map f xs) text) (sym at) (are.at text) in
    let within : place < length xs = omega (arith, found.0, length-map xs f) in
    ((place, within, sym is), ap f is ∙ sym (get_or-map f xs place x text within) ∙ found.1)

pub within_found : {A : Type 0} (f : A → List ℕ) (xs : List A) (places : Places) (text : List ℕ) (place : ℕ) → ArePlaces (map f xs) places →
    Some place ≡ place_at places text → place < length xs
within_found f xs places text place are at =
    let found : IsPlace (map f xs) text (Some place) = subst (IsPlace (map f xs) text) (sym at) (are.at text) in
    omega (arith, found.0, length-map xs f)

pub none_found : {A : Type 0} (f : A → List ℕ) (xs : List A) (places : Places) (text : List ℕ) → ArePlaces (map f xs) places →
    None ≡ place_at places text → (x : A) → Contains xs x → f x ≡ text → ⊥
none_found f xs places text are at x inside same =
    let none : IsPlace (map f xs) text None = subst (IsPlace (map f xs) text) (sym at) (are.at text) in
    none (subst (Contains (map f xs)) same (contains_map f xs x inside))
