-- Words in the order of their bytes.
use Rattle.std.proofs.Common.{◌≡◌, ℕ, zero, suc, ◌+◌, ◌<◌, ◌≤◌, Bool, true, false, ◌&&◌, nat_lt, ◌⊎◌, inl, inr, List, [], ◌∷◌, length, get_or, map, Option, Some, None, refl, ap, sym, ◌∙◌, subst, arith}
use Rattle.std.specs.Prelude.{◌↔◌, Contains, slice_get, bytes_eq}
use Rattle.std.specs.List.{list_all, list_any}
use Rattle.std.specs.Ordering.{is_lt, nat_cmp}
use Rattle.std.specs.declared.cmp.Ordering.{Ordering}
use Rattle.std.specs.declared.cmp.Ordering.TheVariants.{Less, Equal, Greater}
use Rattle.std.specs.Cmp.Lexicographic.{slice_cmp}
use Rattle.std.proofs.lemmas.Cmp.{nat_list_cmp_total}
use Rattle.std.proofs.lemmas.Map.Lookups.{exact_bytes}
use Rattle.std.proofs.lemmas.Map.Views.{Contains-from_any}
use Rattle.std.proofs.lemmas.List.Sums.{AllPass-from_list_all}
use Rattle.std.proofs.lemmas.Slice.Eq.{bytes_eq-Decides}
use Rattle.std.proofs.lemmas.Bool.Decides.{nat_tests}
use Rattle.ir_lex.specs.Tables.{is_ascending, IsAscending}
use Rattle.ir_lex.specs.Laws.{WordsStandOnce}
use Rattle.ir_lex.proofs.CaseSplits.{test}

-- order

less_is : (o : Ordering) → is_lt o ≡ true → o ≡ Less
less_is Less t = refl
less_is Equal t = absurd cc
less_is Greater t = absurd cc

both_true : (a b : Bool) → (a && b) ≡ true → (a ≡ true) × (b ≡ true)
both_true true b e = (refl, e)
both_true false b e = absurd cc

total : (x y z : List ℕ) → slice_cmp nat_cmp x y ≡ Less → slice_cmp nat_cmp y z ≡ Less → slice_cmp nat_cmp x z ≡ Less
total x y z e d = let t = nat_list_cmp_total in t.trans x y z e d

head_before : (word : List ℕ) (words : List (List ℕ)) (k : ℕ) → is_ascending (word ∷ words) ≡ true → k < length words →
    slice_cmp nat_cmp word (get_or words k []) ≡ Less
head_before word [] k t within = absurd (omega arith)
head_before word (other ∷ words) zero t within =
    let parts = both_true (is_lt (slice_cmp nat_cmp word other)) (is_ascending (other ∷ words)) t in less_is _ parts.0
head_before word (other ∷ words) (suc k) t within =
    let parts = both_true (is_lt (slice_cmp nat_cmp word other)) (is_ascending (other ∷ words)) t in
    total word other (get_or words k []) (less_is _ parts.0) (head_before other words k parts.1 (omega arith))

tail_ascends : (word : List ℕ) (words : List (List ℕ)) → is_ascending (word ∷ words) ≡ true → is_ascending words ≡ true
tail_ascends word [] t = refl
tail_ascends word (other ∷ words) t =
    let parts = both_true (is_lt (slice_cmp nat_cmp word other)) (is_ascending (other ∷ words)) t in parts.1

pub before_at : (words : List (List ℕ)) (i j : ℕ) → is_ascending words ≡ true → i < j → j < length words →
    slice_cmp nat_cmp (get_or words i []) (get_or words j []) ≡ Less
before_at [] i j t less within = absurd (omega arith)
before_at (word ∷ words) i zero t less within = absurd (omega arith)
before_at (word ∷ words) zero (suc j) t less within = head_before word words j t (omega arith)
before_at (word ∷ words) (suc i) (suc j) t less within = before_at words i j (tail_ascends word words t) (omega arith) (omega arith)

turned : (x y : List ℕ) → slice_cmp nat_cmp x y ≡ Greater → slice_cmp nat_cmp y x ≡ Less
turned x y e = let t = nat_list_cmp_total in let d = t.antisymm y x in let f = rw e at d in f

never_less : (x : List ℕ) → slice_cmp nat_cmp x x ≡ Less → ⊥
never_less x e = let t = nat_list_cmp_total in let d = t.antisymm x x in let f = rw e at d in cc

le_cases : (n m : ℕ) → n ≤ m → (n < m) ⊎ (n ≡ m)
le_cases n m within = test (nat_lt n m) (λ t. inl (grind (arith, nat_tests))) (λ t. inr (grind (arith, nat_tests)))

lt_cases : (n m : ℕ) → (n < m) ⊎ (m ≤ n)
lt_cases n m = test (nat_lt n m) (λ t. inl (grind (arith, nat_tests))) (λ t. inr (grind (arith, nat_tests)))

-- the words below an index stand before a word, and those from another on behind it
pub record Narrows (words : List (List ℕ)) (word : List ℕ) (low high : ℕ) : Type 0 where
  pub order : low ≤ high
  pub within : high ≤ length words
  pub below : (k : ℕ) → k < low → slice_cmp nat_cmp (get_or words k []) word ≡ Less
  pub above : (k : ℕ) → high ≤ k → k < length words → slice_cmp nat_cmp word (get_or words k []) ≡ Less

pub narrows_up : (words : List (List ℕ)) (word : List ℕ) (low middle high : ℕ) → is_ascending words ≡ true → Narrows words word low high →
    low ≤ middle → middle < high → slice_cmp nat_cmp word (get_or words middle []) ≡ Greater → Narrows words word (middle + 1) high
narrows_up words word low middle high t n least less e =
    let inside = n.within in
    record {
      order = omega arith;
      within = n.within;
      below = λ k under. elim (le_cases k middle (omega arith)) [
        | inl lower ↦ total (get_or words k []) (get_or words middle []) word (before_at words k middle t lower (omega arith)) (turned word (get_or words middle []) e)
        | inr same ↦ rw same (turned word (get_or words middle []) e)
      ];
      above = n.above;
    }

pub narrows_down : (words : List (List ℕ)) (word : List ℕ) (low middle high : ℕ) → is_ascending words ≡ true → Narrows words word low high →
    low ≤ middle → middle < high → slice_cmp nat_cmp word (get_or words middle []) ≡ Less → Narrows words word low middle
narrows_down words word low middle high t n least less e =
    let inside = n.within in
    record {
      order = least;
      within = omega arith;
      below = n.below;
      above = λ k from within. elim (le_cases middle k from) [
        | inl upper ↦ total word (get_or words middle []) (get_or words k []) e (before_at words middle k t upper within)
        | inr same ↦ rw (← same) e
      ];
    }

any_default : (words : List (List ℕ)) (k : ℕ) (d e : List ℕ) → k < length words → get_or words k d ≡ get_or words k e
any_default [] k d e within = absurd (omega arith)
any_default (word ∷ words) zero d e within = refl
any_default (word ∷ words) (suc k) d e within = any_default words k d e (omega arith)

pub narrows_none : (words : List (List ℕ)) (word : List ℕ) (low high : ℕ) → Narrows words word low high → high ≤ low → Contains words word → ⊥
narrows_none words word low high n met is =
    let same : get_or words is.0 [] ≡ word = any_default words is.0 [] word is.1 ∙ is.2 in
    let within = is.1 in
    elim (lt_cases is.0 low) [
      | inl under ↦ let e = n.below is.0 under in never_less word (let d = rw same at e in d)
      | inr from ↦ let e = n.above is.0 (omega arith) is.1 in never_less word (let d = rw same at e in d)
    ]

pub get_is : (words : List (List ℕ)) (k : ℕ) (word : List ℕ) → k < length words → slice_cmp nat_cmp word (get_or words k []) ≡ Equal →
    slice_get words k ≡ Some word
get_is [] k word within e = absurd (omega arith)
get_is (other ∷ words) zero word within e = ap Some (sym (exact_bytes word other e))
get_is (other ∷ words) (suc k) word within e = get_is words k word (omega arith) e

got : (words : List (List ℕ)) (k : ℕ) (word : List ℕ) → slice_get words k ≡ Some word → (k < length words) × (get_or words k [] ≡ word)
got [] k word e = absurd cc
got (other ∷ words) zero word e = (omega arith, cc)
got (other ∷ words) (suc k) word e = let g = got words k word e in let h = g.0 in (omega arith, g.1)

not_twice : (words : List (List ℕ)) (word : List ℕ) (code other : ℕ) → IsAscending words → slice_get words code ≡ Some word →
    slice_get words other ≡ Some word → code < other → ⊥
not_twice words word code other t e d less =
    let a = got words code word e in
    let b = got words other word d in
    let o = before_at words code other t less b.0 in
    never_less word (let p = rw (a.1, b.1) at o in p)

pub words_stand_once : WordsStandOnce
words_stand_once words word code other t e d =
    test (nat_lt code other)
    (λ u. absurd (not_twice words word code other t e d (grind (arith, nat_tests))))
    (λ u. test (nat_lt other code)
    (λ v. absurd (not_twice words word other code t d e (grind (arith, nat_tests))))
    (λ v. grind (arith, nat_tests)))
