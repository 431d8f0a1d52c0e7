-- The worked example meets what is asked.
use Rattle.std.proofs.Common.{◌≡◌, ℕ, ◌+◌, ◌<◌, zero, suc, Bool, List, [], ◌∷◌, ◌++◌, length, get_or, replicate, refl, sym, ap, ◌∙◌, arith, add-zero}
use Rattle.std.specs.Prelude.{All}
use Rattle.std.specs.List.{range_with_len}
use Rattle.std.specs.List.Sorted.{IsStrictlyIncreasing}
use Rattle.std.proofs.lemmas.List.{length-replicate}
use Rattle.std.proofs.lemmas.List.FromFn.{length-range_with_len, get_or-range_with_len}
use Rattle.std.proofs.lemmas.List.Elements.{All-nil, All-cons, All-replicate}
use Rattle.global_layout.specs.declared.ids.Shape.{Shape}
use Rattle.global_layout.specs.Layout.{IsId, IsShape, shape_at, no_shape}
use Rattle.global_layout.specs.Examples.{example_ids}
use Rattle.global_layout.specs.Laws.{ExampleIsMet}

rising_two : (a b : ℕ) → a < b → IsStrictlyIncreasing (a ∷ b ∷ [])
rising_two a b less zero within = less
rising_two a b less (suc k) within = absurd (omega arith)

is_two : (shapes : List Shape) (sort : Bool) (a b : ℕ) → a < b → b < length shapes → All (λ (s : Shape). s.function ≡ sort) shapes → IsId shapes (record { members = a ∷ b ∷ [] })
is_two shapes sort a b less within one = record {
  some = omega arith;
  within = All-cons (λ o. o < length shapes) a (b ∷ []) (omega arith) (All-cons (λ o. o < length shapes) b [] within (All-nil (λ o. o < length shapes)));
  rising = rising_two a b less;
  one_sort = (
    sort,
    All-cons (λ o. (shape_at shapes o).function ≡ sort) a (b ∷ []) (one a no_shape (omega arith))
        (All-cons (λ o. (shape_at shapes o).function ≡ sort) b [] (one b no_shape within) (All-nil (λ o. (shape_at shapes o).function ≡ sort))),
  );
}

is_one : (shapes : List Shape) (sort : Bool) (a : ℕ) → a < length shapes → All (λ (s : Shape). s.function ≡ sort) shapes → IsId shapes (record { members = a ∷ [] })
is_one shapes sort a within one = record {
  some = omega arith;
  within = All-cons (λ o. o < length shapes) a [] within (All-nil (λ o. o < length shapes));
  rising = λ k inside. absurd (omega arith);
  one_sort = (sort, All-cons (λ o. (shape_at shapes o).function ≡ sort) a [] (one a no_shape within) (All-nil (λ o. (shape_at shapes o).function ≡ sort)));
}

pub example-is : (shapes : List Shape) (sort : Bool) → length shapes ≡ 4 → All (λ (s : Shape). s.function ≡ sort) shapes → All (IsId shapes) example_ids
example-is shapes sort four one =
    All-cons (IsId shapes) (record { members = 0 ∷ 1 ∷ [] }) (record { members = 1 ∷ 2 ∷ [] } ∷ record { members = 3 ∷ [] } ∷ [])
    (is_two shapes sort 0 1 (omega arith) (omega (arith, four)) one)
    (All-cons (IsId shapes) (record { members = 1 ∷ 2 ∷ [] }) (record { members = 3 ∷ [] } ∷ []) (is_two shapes sort 1 2 (omega arith) (omega (arith, four)) one)
    (All-cons (IsId shapes) (record { members = 3 ∷ [] }) [] (is_one shapes sort 3 (omega (arith, four)) one) (All-nil (IsId shapes))))

pub four-alike : (shape : Shape) → All (λ (s : Shape). s.function ≡ shape.function) (shape ∷ shape ∷ shape ∷ shape ∷ [])
four-alike shape zero d within = refl
four-alike shape (suc zero) d within = refl
four-alike shape (suc (suc zero)) d within = refl
four-alike shape (suc (suc (suc zero))) d within = refl
four-alike shape (suc (suc (suc (suc k)))) d within = absurd (omega arith)

no_shape_is : IsShape no_shape
no_shape_is = record { extent = omega arith; align = (0, omega arith, refl) }

pub example-met : ExampleIsMet
example-met = (
  no_shape ∷ no_shape ∷ no_shape ∷ no_shape ∷ [],
  All-replicate IsShape 4 no_shape no_shape_is,
  example-is (no_shape ∷ no_shape ∷ no_shape ∷ no_shape ∷ []) no_shape.function refl (four-alike no_shape),
)

-- One identifier that lists the first objects, all of one shape.

range_more : (a n : ℕ) → range_with_len a (suc n) ≡ range_with_len a n ++ (a + n) ∷ []
range_more a zero = ap (λ m. m ∷ []) (sym (add-zero a))
range_more a (suc n) =
    let next : a + 1 + n ≡ a + suc n = omega arith in
    ap (λ ns. a ∷ ns) (range_more (a + 1) n) ∙ ap (λ m. a ∷ (range_with_len (a + 1) n ++ m ∷ [])) next

pub first-more : (n : ℕ) → range_with_len 0 n ++ n ∷ [] ≡ range_with_len 0 (n + 1)
first-more n =
    let here : 0 + n ≡ n = omega arith in
    let next : suc n ≡ n + 1 = omega arith in
    ap (λ m. range_with_len 0 n ++ m ∷ []) (sym here) ∙ sym (range_more 0 n) ∙ ap (range_with_len 0) next

first_is : (shape : Shape) (n : ℕ) → 0 < n → IsId (replicate n shape) (record { members = range_with_len 0 n })
first_is shape n some =
    let shapes : List Shape = replicate n shape in
    let long : length (range_with_len 0 n) ≡ n = length-range_with_len 0 n in
    let many : length shapes ≡ n = length-replicate n shape in
    record {
      some = omega (arith, long, some);
      within = λ k d below. inside k d (omega (arith, long, below));
      rising = λ k below.
          let one = get_or-range_with_len 0 n k 0 (omega (arith, long, below)) in
          let two = get_or-range_with_len 0 n (k + 1) 0 (omega (arith, long, below)) in
          omega (arith, one, two);
      one_sort = (
        shape.function,
        λ k d below. All-replicate (λ (s : Shape). s.function ≡ shape.function) n shape refl (get_or (range_with_len 0 n) k d) no_shape
            (inside k d (omega (arith, long, below))),
      );
    } where
      inside : (k d : ℕ) → k < n → get_or (range_with_len 0 n) k d < length (replicate n shape)
      inside k d below =
          let value = get_or-range_with_len 0 n k d below in
          let many = length-replicate n shape in
          omega (arith, value, many, below)

pub first-each : (shape : Shape) (n : ℕ) → 0 < n → All (IsId (replicate n shape)) (record { members = range_with_len 0 n } ∷ [])
first-each shape n some =
    All-cons (IsId (replicate n shape)) (record { members = range_with_len 0 n }) [] (first_is shape n some) (All-nil (IsId (replicate n shape)))
