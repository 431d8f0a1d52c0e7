-- What the code finds of a type's layout.
use Rattle.std.specs.Prelude.{◌≡◌, ℕ, ◌^◌, ◌≤◌, true}
use Rattle.ir_numbers.specs.Layout.{Layout}

-- a type that has a size takes this size and this alignment
pub record Takes (of : Layout) (size align : ℕ) : Type 0 where
  pub is_laid : of.is_laid ≡ true
  pub size_is : of.size ≡ size
  pub align_is : of.align ≡ align
  pub size_most : size ≤ 2 ^ 27
  pub align_least : 1 ≤ align
  pub align_most : align ≤ 8
