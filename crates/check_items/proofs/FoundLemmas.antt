-- Names in a set, and how many different ones it has.
use Rattle.std.proofs.Common.{◌≡◌, ◌≤◌, ◌∙◌, refl, sym, ap, subst, ℕ, Bool, true, false, cond, ◌||◌, List, [], ◌∷◌, ◌+◌, nat_le, length, drop, take, min, get_or, ◌<◌, btree_set_len, BTreeSet, arith, add-one, drop-cons, take_all, Result, Ok, Err, OnOk}
use Rattle.std.specs.Ordering.{nat_cmp, eq_by_cmp}
use Rattle.std.specs.Cmp.Lexicographic.{slice_cmp}
use Rattle.std.specs.Set.{is_member, unique_keys, distinct_count}
use Rattle.std.specs.Str.{bytes_eq}
use Rattle.std.specs.List.{IsDistinct}
use Rattle.std.specs.BTreeSet.{Updates, IsOrdered}
use Rattle.std.proofs.Math.Path.{fun_ext}
use Rattle.std.proofs.lemmas.Cmp.{nat_list_eq_equiv}
use Rattle.std.proofs.lemmas.Slice.Eq.{bytes_eq-Decides}
use Rattle.std.proofs.lemmas.Map.Keys.{IsDistinct-from_sorted}
use Rattle.std.proofs.lemmas.Map.Made.{length-from_keys, length-le_from_is_member}
use Rattle.std.proofs.lemmas.Map.Text.{is_eq-slice_cmp}
use Rattle.check_items.specs.Found.{has, is_in, Holds}

pub on_ok : {A E P : Type 0} (r : Result A E) → P → OnOk r P
on_ok (Ok a) p = p
on_ok (Err e) p = tt

pub on_err : {A E : Type 0} (P : Type 0) (r : Result A E) (e : E) → r ≡ Err e → OnOk r P
on_err P (Ok a) e is = cc
on_err P (Err f) e is = tt

turned : (b h : Bool) → cond b true h ≡ (h || b)
turned true true = refl
turned true false = refl
turned false true = refl
turned false false = refl

-- one more name in a set
pub has_put : (name q : List ℕ) (old new : BTreeSet (List ℕ)) → Updates (slice_cmp nat_cmp) old new name true
    → has q new ≡ (has q old || bytes_eq q name)
has_put name q old new updates =
    updates.0 q ∙ ap (λ b. cond b true (has q old)) (is_eq-slice_cmp name q ∙ nat_list_eq_equiv.symm name q) ∙ turned (bytes_eq q name) (has q old)

or_assoc : (a b c : Bool) → ((a || b) || c) ≡ (a || (b || c))
or_assoc true b c = refl
or_assoc false b c = refl

-- one turn of a loop that puts names to a set
pub has_more : (names : List (List ℕ)) (i : ℕ) (d q : List ℕ) (before now whole : Bool) → i < length names → now ≡ (before || bytes_eq q (get_or names i d))
    → (before || is_in q (drop i names)) ≡ whole → (now || is_in q (drop (i + 1) names)) ≡ whole
has_more names i d q before now whole inside put is =
    let first : drop i names ≡ get_or names i d ∷ drop (i + 1) names = rw add-one (drop-cons names i d inside) in
    ap (λ b. b || is_in q (drop (i + 1) names)) put
    ∙ or_assoc before (bytes_eq q (get_or names i d)) (is_in q (drop (i + 1) names))
    ∙ ap (λ ns. before || is_in q ns) (sym first) ∙ is

pub take_min : {X : Type 0} (n : ℕ) (xs : List X) → take (min (length xs) n) xs ≡ take n xs
take_min n xs = elim (nat_le n (length xs)) as (λ b. nat_le n (length xs) ≡ b → take (min (length xs) n) xs ≡ take n xs) [
  | true ↦ λ within. let least : min (length xs) n ≡ n = grind arith in ap (λ m. take m xs) least
  | false ↦ λ past. let all : length xs ≤ min (length xs) n = grind arith in take_all (min (length xs) n) xs all ∙ sym (take_all n xs (grind arith))
] refl

ties : eq_by_cmp (slice_cmp nat_cmp) ≡ bytes_eq
ties = fun_ext (λ xs. fun_ext (λ ys. is_eq-slice_cmp xs ys))

distinct : (found : BTreeSet (List ℕ)) → IsOrdered (slice_cmp nat_cmp) found → IsDistinct bytes_eq found.keys
distinct found ordered = subst (λ eq. IsDistinct eq found.keys) ties (IsDistinct-from_sorted (slice_cmp nat_cmp) found.keys ordered)

held : (found : BTreeSet (List ℕ)) (q : List ℕ) → is_member bytes_eq found.keys q ≡ has q found
held found q = sym (ap (λ eq. is_member eq found.keys q) ties)

-- a set has as many names as are different in a list of the same names
pub len-different : (names : List (List ℕ)) (found : BTreeSet (List ℕ)) → IsOrdered (slice_cmp nat_cmp) found → Holds names found
    → btree_set_len found ≡ distinct_count bytes_eq names
len-different names found ordered holds =
    length-from_keys nat_list_eq_equiv found.keys names (distinct found ordered) (λ q. held found q ∙ holds q)

kept_member : (x q : List ℕ) (xs : List (List ℕ)) (again : Bool) → is_in x xs ≡ again → is_in q (unique_keys bytes_eq xs) ≡ is_in q xs
    → is_in q (cond again (unique_keys bytes_eq xs) (x ∷ unique_keys bytes_eq xs)) ≡ (bytes_eq q x || is_in q xs)
kept_member x q xs false is rest = ap (λ b. bytes_eq q x || b) rest
kept_member x q xs true is rest =
    let same : bytes_eq q x ≡ true → is_in q xs ≡ true = λ equal. ap (λ name. is_in name xs) ((bytes_eq-Decides q x).0 equal) ∙ is in
    elim (bytes_eq q x) as (λ b. bytes_eq q x ≡ b → is_in q (unique_keys bytes_eq xs) ≡ (b || is_in q xs)) [
      | true ↦ λ equal. rest ∙ same equal
      | false ↦ λ other. rest
    ] refl

unique_member : (q : List ℕ) (xs : List (List ℕ)) → is_in q (unique_keys bytes_eq xs) ≡ is_in q xs
unique_member q [] = refl
unique_member q (x ∷ xs) = kept_member x q xs (is_in x xs) refl (unique_member q xs)

-- a list with all names of a set has as many different ones, or more
pub len-least : (found : BTreeSet (List ℕ)) (names : List (List ℕ)) → IsOrdered (slice_cmp nat_cmp) found
    → ((q : List ℕ) → has q found ≡ true → is_in q names ≡ true) → btree_set_len found ≤ distinct_count bytes_eq names
len-least found names ordered among = length-le_from_is_member nat_list_eq_equiv found.keys (unique_keys bytes_eq names) (distinct found ordered)
    (λ q member. unique_member q names ∙ among q (sym (held found q) ∙ member))
