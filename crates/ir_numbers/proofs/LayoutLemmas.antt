-- The loops over a struct's parts.
use Rattle.std.proofs.Common.{◌≡◌, ℕ, ◌+◌, ◌^◌, ◌<◌, ◌≤◌, Bool, true, false, List, [], ◌∷◌, length, drop, map, refl, arith, ap, sym, subst, suc, drop-cons, get_or, slice_get, ◌∙◌, ◌&&◌, nat_le, ◌-◌, ◌≢◌, zero, add-one}
use Rattle.std.specs.List.{list_all}
use Rattle.std.specs.Int.{next_multiple_of}
use Rattle.ir_values.specs.declared.types.Ty.{Ty}
use Rattle.ir_numbers.specs.Layout.{Layout, layout, struct_layout, end_of, greatest_align, offsets, field_offsets}
use Rattle.ir_numbers.specs.Spaces.{Takes}

abbrev are_laid : List Layout → Bool
are_laid parts = list_all (λ part. part.is_laid) parts

-- the parts before `index` end at `end`
pub record Placing (ty : Ty) (parts : List Ty) (index end : ℕ) : Type 0 where
  pub whole : layout ty ≡ struct_layout (map layout parts)
  pub ends : end_of end (map layout (drop index parts)) ≡ end_of 0 (map layout parts)
  pub laid : list_all (λ part. part.is_laid) (map layout (drop index parts)) ≡ list_all (λ part. part.is_laid) (map layout parts)
  pub most : end ≤ 2 ^ 27

-- `align` is the greatest alignment of those
pub record Aligning (parts : List Ty) (index align : ℕ) : Type 0 where
  pub aligns : greatest_align align (map layout (drop index parts)) ≡ greatest_align 1 (map layout parts)
  pub least : 1 ≤ align
  pub most : align ≤ 8

-- of the parts from `index` on, the one with `left` before it is the wanted one
pub record Seeking (ty : Ty) (parts : List Ty) (index end left wanted : ℕ) : Type 0 where
  pub found : slice_get (offsets end (map layout (drop index parts))) left ≡ slice_get (field_offsets ty) wanted

end_of-grows : (at : ℕ) (parts : List Layout) → at ≤ end_of at parts
end_of-grows at [] = omega arith
end_of-grows at (part ∷ parts) = let more = end_of-grows (next_multiple_of at part.align + part.size) parts in omega arith

first : (a b : Bool) → a && b ≡ true → a ≡ true
first a b both = grind arith

within-most : (test : Bool) (end n : ℕ) → end ≤ n → test && nat_le n (2 ^ 27) ≡ true → end ≤ 2 ^ 27
within-most test end n less both = grind arith

next : (parts : List Ty) (index : ℕ) (part : Ty) → index < length parts → part ≡ get_or parts index part
    → drop index parts ≡ part ∷ drop (suc index) parts
next parts index part inside is = drop-cons parts index part inside ∙ ap (λ x. x ∷ drop (suc index) parts) (sym is)

-- a part of a type that has a size has one
pub part_laid : (ty : Ty) (parts : List Ty) (index end : ℕ) (part : Ty) → Placing ty parts index end
    → index < length parts → part ≡ get_or parts index part → (layout ty).is_laid ≡ true → (layout part).is_laid ≡ true
part_laid ty parts index end part placing inside is laid =
    let whole : (struct_layout (map layout parts)).is_laid ≡ true = subst (λ (l : Layout). l.is_laid ≡ true) placing.whole laid in
    let rest : are_laid (map layout (part ∷ drop (suc index) parts)) ≡ are_laid (map layout parts) =
    subst (λ xs. are_laid (map layout xs) ≡ are_laid (map layout parts)) (next parts index part inside is) placing.laid in
    first (layout part).is_laid (are_laid (map layout (drop (suc index) parts))) (rest ∙ first _ _ whole)

-- and ends within its limit
pub part_fits : (ty : Ty) (parts : List Ty) (index end : ℕ) (part : Ty) → Placing ty parts index end
    → index < length parts → part ≡ get_or parts index part → (layout ty).is_laid ≡ true
    → next_multiple_of end (layout part).align + (layout part).size ≤ 2 ^ 27
part_fits ty parts index end part placing inside is laid =
    let whole : (struct_layout (map layout parts)).is_laid ≡ true = subst (λ (l : Layout). l.is_laid ≡ true) placing.whole laid in
    let last = end_of 0 (map layout parts) in
    let size = next_multiple_of last (greatest_align 1 (map layout parts)) in
    let less : last ≤ size = omega arith in
    let most = within-most (are_laid (map layout parts)) last size less whole in
    let ends : end_of end (map layout (part ∷ drop (suc index) parts)) ≡ last =
    subst (λ xs. end_of end (map layout xs) ≡ end_of 0 (map layout parts)) (next parts index part inside is) placing.ends in
    let grows = end_of-grows (next_multiple_of end (layout part).align + (layout part).size) (map layout (drop (suc index) parts)) in
    omega arith

pub fits_at : (ty : Ty) (parts : List Ty) (index end : ℕ) (part : Ty) (size align : ℕ) → Placing ty parts index end
    → index < length parts → part ≡ get_or parts index part → (layout ty).is_laid ≡ true → Takes (layout part) size align
    → next_multiple_of end align + size ≤ 2 ^ 27
fits_at ty parts index end part size align placing inside is laid takes =
    subst (λ n. next_multiple_of end align + n ≤ 2 ^ 27) takes.size_is
    (subst (λ n. next_multiple_of end n + (layout part).size ≤ 2 ^ 27) takes.align_is (part_fits ty parts index end part placing inside is laid))

-- the part behind which `more` is the end
pub record Passing (ty : Ty) (parts : List Ty) (index end : ℕ) (part : Ty) (more : ℕ) : Type 0 where
  pub placing : Placing ty parts index end
  pub inside : index < length parts
  pub is : part ≡ get_or parts index part
  pub is_laid : (layout part).is_laid ≡ true
  pub ends : next_multiple_of end (layout part).align + (layout part).size ≡ more
  pub most : more ≤ 2 ^ 27

pub passing : (ty : Ty) (parts : List Ty) (index end : ℕ) (part : Ty) (size align more : ℕ) → Placing ty parts index end
    → index < length parts → part ≡ get_or parts index part → (layout ty).is_laid ≡ true → Takes (layout part) size align
    → more ≡ next_multiple_of end align + size → Passing ty parts index end part more
passing ty parts index end part size align more placing inside is laid takes behind = record {
  placing = placing;
  inside = inside;
  is = is;
  is_laid = takes.is_laid;
  ends = ap (λ n. next_multiple_of end n + (layout part).size) takes.align_is
      ∙ ap (λ n. next_multiple_of end align + n) takes.size_is ∙ sym behind;
  most = subst (λ n. n ≤ 2 ^ 27) (sym behind) (fits_at ty parts index end part size align placing inside is laid takes);
}

pub placing_next : (ty : Ty) (parts : List Ty) (index end : ℕ) (part : Ty) (more : ℕ) → Passing ty parts index end part more
    → Placing ty parts (index + 1) more
placing_next ty parts index end part more passes =
    let rest = next parts index part passes.inside passes.is in
    let ends : end_of end (map layout (part ∷ drop (suc index) parts)) ≡ end_of 0 (map layout parts) =
    subst (λ xs. end_of end (map layout xs) ≡ end_of 0 (map layout parts)) rest passes.placing.ends in
    let laid : are_laid (map layout (part ∷ drop (suc index) parts)) ≡ are_laid (map layout parts) =
    subst (λ xs. are_laid (map layout xs) ≡ are_laid (map layout parts)) rest passes.placing.laid in
    rw add-one (record {
      whole = passes.placing.whole;
      ends = ap (λ n. end_of n (map layout (drop (suc index) parts))) (sym passes.ends) ∙ ends;
      laid = ap (λ t. t && are_laid (map layout (drop (suc index) parts))) (sym passes.is_laid) ∙ laid;
      most = passes.most;
    })

later : {A : Type 0} (x : A) (xs : List A) (n : ℕ) → n ≢ 0 → slice_get xs (n - 1) ≡ slice_get (x ∷ xs) n
later x xs zero more = absurd (more refl)
later x xs (suc n) more = ap (slice_get xs) (omega arith)

pub seeking_next : (ty : Ty) (parts : List Ty) (index end left wanted : ℕ) (part : Ty) (more : ℕ) → Passing ty parts index end part more
    → Seeking ty parts index end left wanted → left ≢ 0 → Seeking ty parts (index + 1) more (left - 1) wanted
seeking_next ty parts index end left wanted part more passes seeking before =
    let rest = next parts index part passes.inside passes.is in
    let found : slice_get (offsets end (map layout (part ∷ drop (suc index) parts))) left ≡ slice_get (field_offsets ty) wanted =
    subst (λ xs. slice_get (offsets end (map layout xs)) left ≡ slice_get (field_offsets ty) wanted) rest seeking.found in
    rw add-one (record {
      found = ap (λ n. slice_get (offsets n (map layout (drop (suc index) parts))) (left - 1)) (sym passes.ends)
          ∙ later _ _ left before ∙ found;
    })

false_if : (test : Bool) → (test ≡ true → ⊥) → test ≡ false
false_if false h = refl
false_if true h = absurd (h refl)

-- a struct has no size if a part has none
pub unlaid_by_part : (ty : Ty) (parts : List Ty) (index end : ℕ) (part : Ty) → Placing ty parts index end
    → index < length parts → part ≡ get_or parts index part → (layout part).is_laid ≡ false → (layout ty).is_laid ≡ false
unlaid_by_part ty parts index end part placing inside is unlaid =
    false_if (layout ty).is_laid (λ (laid : (layout ty).is_laid ≡ true). let has = part_laid ty parts index end part placing inside is laid in cc)

-- or if a part ends behind the limit
pub unlaid_by_end : (ty : Ty) (parts : List Ty) (index end : ℕ) (part : Ty) (size align : ℕ) → Placing ty parts index end
    → index < length parts → part ≡ get_or parts index part → Takes (layout part) size align → 2 ^ 27 < next_multiple_of end align + size
    → (layout ty).is_laid ≡ false
unlaid_by_end ty parts index end part size align placing inside is takes above =
    false_if (layout ty).is_laid (λ (laid : (layout ty).is_laid ≡ true).
    let fits = fits_at ty parts index end part size align placing inside is laid takes in
    omega arith)
