-- Rising objects of words make an identifier.
use Rattle.std.proofs.Common.{◌≡◌, ℕ, ◌<◌, List, length, get_or, replicate, refl, arith}
use Rattle.std.specs.Prelude.{All}
use Rattle.std.specs.List.Sorted.{IsStrictlyIncreasing}
use Rattle.std.proofs.lemmas.List.{length-replicate}
use Rattle.std.proofs.lemmas.List.Elements.{All-replicate}
use Rattle.global_layout.specs.declared.ids.Shape.{Shape}
use Rattle.global_layout.specs.Layout.{IsId, IsShape, no_shape}
use Rattle.bench_layout.specs.Ids.{word}

pub rising_is_id : (count : ℕ) (objects : List ℕ) → 0 < length objects → All (λ o. o < count) objects → IsStrictlyIncreasing objects
    → IsId (replicate count word) (record { members = objects })
rising_is_id count objects some below rising = record {
  some = some;
  within = inside;
  rising = rising;
  one_sort = (
    word.function,
    λ k d within. All-replicate (λ (s : Shape). s.function ≡ word.function) count word refl (get_or objects k d) no_shape (inside k d within),
  );
} where
  inside : All (λ o. o < length (replicate count word)) objects
  inside k d within = let h = below k d within in let long = length-replicate count word in omega (arith, h, long)

word_is : IsShape word
word_is = record { extent = omega arith; align = (3, omega arith, refl) }

pub words_fit : (count : ℕ) → All IsShape (replicate count word)
words_fit count = All-replicate IsShape count word word_is
