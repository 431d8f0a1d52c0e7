-- What a map has at each key after a change at one.
use Rattle.std.proofs.Common.{◌≡◌, ◌∙◌, ℕ, Bool, true, false, cond, ◌&&◌, List, Some, None, refl, sym, ap, subst, ⊎_elim}
use Rattle.std.specs.Prelude.{nat_eq, Option}
use Rattle.std.specs.Str.{bytes_eq}
use Rattle.std.specs.Ordering.{is_eq, nat_cmp, bool_cmp, ordering_then}
use Rattle.std.specs.Cmp.{eq_by_cmp_equiv, tied_then, unsigned_ties}
use Rattle.std.specs.Cmp.Lexicographic.{slice_cmp, bytes_decides, nat_list_cmp_total, nat_list_eq_equiv}
use Rattle.std.specs.declared.vec.Vec.{Vec}
use Rattle.std.specs.Map.{lookup, IsKeyTest, AreApart, KeepsOthers}
use Rattle.std.specs.BTreeMap.{BTreeMap, UpdatesBy, get}
use Rattle.std.proofs.lemmas.Bool.{cases_Bool, cond-true, cond-false, eqb-true}
use Rattle.std.proofs.lemmas.Map.Text.{is_eq-slice_cmp}
use Rattle.type_metadata.specs.declared.objects.Object.{Object}
use Rattle.type_metadata.specs.Same.{same_flag, same_object}
use Rattle.type_metadata.specs.Listed.{at_name, at_name_or_none, at_name_in, at_object}

-- Names, as bytes.

other_entries : {K X : Type 0} (eq : K → K → Bool) (test : K → Bool) (old new : List (K × X)) → KeepsOthers eq test old new →
    (other : K → Bool) → IsKeyTest eq other → AreApart test other → lookup other new ≡ lookup other old
unfolding KeepsOthers
other_entries eq test old new keeps = keeps

apart : (one other key : List ℕ) → bytes_eq one other ≡ false → bytes_eq one key ≡ true → bytes_eq other key ≡ false
apart one other key differ is = nat_list_eq_equiv.symm other key ∙ sym (nat_list_eq_equiv.congr one key other is) ∙ differ

apart_in_order : (one other key : List ℕ) → bytes_eq one other ≡ false → is_eq (slice_cmp nat_cmp one key) ≡ true →
    is_eq (slice_cmp nat_cmp other key) ≡ false
apart_in_order one other key differ is = is_eq-slice_cmp other key ∙ apart one other key differ (sym (is_eq-slice_cmp one key) ∙ is)

by_bytes : {X : Type 0} (old new : List ℕ → X) (name : List ℕ) (x : X) → new name ≡ x →
    ((other : List ℕ) → bytes_eq name other ≡ false → new other ≡ old other) →
    (other : List ℕ) → new other ≡ cond (bytes_eq name other) x (old other)
by_bytes old new name x here rest other = ⊎_elim
    (λ is. subst (λ one. new one ≡ x) ((bytes_decides name other).0 is) here ∙ sym (cond-true (bytes_eq name other) x (old other) is))
    (λ differ. rest other differ ∙ sym (cond-false (bytes_eq name other) x (old other) differ))
    (cases_Bool (bytes_eq name other))

pub name_put : {X Y : Type 0} (name : List ℕ) (old new : BTreeMap (Vec ℕ Y) X) (x : Option X) →
    UpdatesBy (λ one other. slice_cmp nat_cmp one.items other.items) (λ key. slice_cmp nat_cmp name key.items) old new x →
    (other : List ℕ) → at_name other new ≡ cond (bytes_eq name other) x (at_name other old)
name_put name old new x updates = by_bytes (λ other. at_name other old) (λ other. at_name other new) name x updates.1
    (λ other differ. other_entries _ _ _ _ updates.3 _ (λ one two. (eq_by_cmp_equiv nat_list_cmp_total).congr other one.items two.items)
    (λ key. apart_in_order name other key.items differ))

-- Files.

pub file_put : {X : Type 0} (file : ℕ) (old new : BTreeMap ℕ X) (x : Option X) → UpdatesBy nat_cmp (nat_cmp file) old new x →
    (other : ℕ) → get nat_cmp new other ≡ cond (nat_eq file other) x (get nat_cmp old other)
file_put file old new x updates other =
    updates.0 other ∙ ap (λ b. cond b x (get nat_cmp old other)) (sym (unsigned_ties file other))

-- a file's names are taken out, one is put, and they are put back
own_case : {X Y : Type 0} (file other : ℕ) (name q : List ℕ) (x : Option X) (old : ℕ → Option (BTreeMap (Vec ℕ Y) X))
    (taken map : BTreeMap (Vec ℕ Y) X) (b : Bool) → nat_eq file other ≡ b → at_name q taken ≡ at_name_or_none q (old file) →
    at_name q map ≡ cond (bytes_eq name q) x (at_name q taken) →
    at_name_or_none q (cond b (Some map) (cond b None (old other))) ≡ cond (b && bytes_eq name q) x (at_name_or_none q (old other))
own_case file other name q x old taken map true is from put =
    put ∙ ap (cond (bytes_eq name q) x) (from ∙ ap (λ at. at_name_or_none q (old at)) (eqb-true file other is))
own_case file other name q x old taken map false is from put = refl

pub own_put : {X Y : Type 0} (file : ℕ) (name : List ℕ) (x : Option X) (old rest new : BTreeMap ℕ (BTreeMap (Vec ℕ Y) X))
    (taken map : BTreeMap (Vec ℕ Y) X) → ((q : List ℕ) → at_name q taken ≡ at_name_in file q old) →
    ((other : ℕ) → get nat_cmp rest other ≡ cond (nat_eq file other) None (get nat_cmp old other)) →
    ((q : List ℕ) → at_name q map ≡ cond (bytes_eq name q) x (at_name q taken)) →
    ((other : ℕ) → get nat_cmp new other ≡ cond (nat_eq file other) (Some map) (get nat_cmp rest other)) →
    (other : ℕ) (q : List ℕ) → at_name_in other q new ≡ cond (nat_eq file other && bytes_eq name q) x (at_name_in other q old)
own_put file name x old rest new taken map from out put back other q =
    ap (at_name_or_none q) (back other ∙ ap (cond (nat_eq file other) (Some map)) (out other))
    ∙ own_case file other name q x (get nat_cmp old) taken map (nat_eq file other) refl (from q) (put q)

-- Objects.

same_flags : (one other : Bool) → is_eq (bool_cmp one other) ≡ same_flag one other
same_flags true true = refl
same_flags true false = refl
same_flags false true = refl
same_flags false false = refl

same_parts : (one other : Object) →
    is_eq (ordering_then (ordering_then (nat_cmp one.file other.file) (bool_cmp one.function other.function)) (nat_cmp one.index other.index))
    ≡ same_object one other
same_parts one other =
    sym (tied_then (ordering_then (nat_cmp one.file other.file) (bool_cmp one.function other.function)) (nat_cmp one.index other.index))
    ∙ ap (λ b. b && is_eq (nat_cmp one.index other.index)) (sym (tied_then (nat_cmp one.file other.file) (bool_cmp one.function other.function)))
    ∙ ap (λ b. (b && is_eq (bool_cmp one.function other.function)) && is_eq (nat_cmp one.index other.index)) (sym (unsigned_ties one.file other.file))
    ∙ ap (λ b. (nat_eq one.file other.file && b) && is_eq (nat_cmp one.index other.index)) (same_flags one.function other.function)
    ∙ ap (λ b. (nat_eq one.file other.file && same_flag one.function other.function) && b) (sym (unsigned_ties one.index other.index))

pub object_put : {X : Type 0} (object : Object) (old new : BTreeMap ((ℕ × Bool) × ℕ) X) (x : Option X) →
    UpdatesBy (λ one two. ordering_then (ordering_then (nat_cmp one.0.0 two.0.0) (bool_cmp one.0.1 two.0.1)) (nat_cmp one.1 two.1))
    (λ key. ordering_then (ordering_then (nat_cmp object.file key.0.0) (bool_cmp object.function key.0.1)) (nat_cmp object.index key.1)) old new x →
    (other : Object) → at_object other new ≡ cond (same_object object other) x (at_object other old)
object_put object old new x updates other =
    updates.0 ((other.file, other.function), other.index) ∙ ap (λ b. cond b x (at_object other old)) (same_parts object other)
