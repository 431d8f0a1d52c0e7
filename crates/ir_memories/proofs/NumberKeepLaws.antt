-- Cells of an output outside the stored range stay.
use Rattle.std.proofs.Common.{◌≡◌, ◌≢◌, ◌∙◌, inl, inr, ℕ, ◌+◌, ◌-◌, ◌≤◌, Bool, true, false, ◌&&◌, List, [], ◌∷◌, length, refl, sym, ap, subst, arith, Option, Some, None}
use Rattle.std.specs.Prelude.{nat_eq, nat_le, nat_lt, if◌then◌else◌, slice_get, slice_set}
use Rattle.ir_memories.specs.declared.values.Value.{Value}
use Rattle.ir_memories.specs.declared.symbolic.SPtr.{SPtr}
use Rattle.ir_memories.specs.declared.numeric.Row.{Row}
use Rattle.ir_memories.specs.declared.numeric.Numeric.{Numeric}
use Rattle.ir_memories.specs.declared.cells.Cell.{Cell}
use Rattle.ir_memories.specs.Cells.{cells_in, written}
use Rattle.ir_memories.specs.Numeric.{store_at, store_in, may_store, covering, base_at, row_is_constant, in_memory}
use Rattle.ir_memories.specs.Laws.{NumericKeeps, Outside, cell_at_number, cell_of_number}
use Rattle.ir_memories.proofs.StoreLaws.{get_set, some_one}
use Rattle.ir_memories.proofs.KeepLaws.{written_outside, get_set_other}

above_cases : (a j : ℕ) (rows : List Row) (n : ℕ) (more : List (List Cell)) (at : ℕ) (b : Bool) →
    (nat_le (base_at rows j) a && nat_lt (a - base_at rows j) n) ≡ b → (if b then Some j else covering a (j + 1) rows more) ≡ Some at →
    (covering a (j + 1) rows more ≡ Some at → base_at rows at ≤ a) → base_at rows at ≤ a
above_cases a j rows n more at true is here rest =
    let below : base_at rows j ≤ a = grind arith in subst (λ k. base_at rows k ≤ a) (some_one j at here) below
above_cases a j rows n more at false is here rest = rest here

covering_above : (a j : ℕ) (rows : List Row) (all : List (List Cell)) (at : ℕ) → covering a j rows all ≡ Some at → base_at rows at ≤ a
covering_above a j rows [] at is = cc
covering_above a j rows (cells ∷ all) at is =
    above_cases a j rows (length cells) all at (nat_le (base_at rows j) a && nat_lt (a - base_at rows j) (length cells)) refl is
    (covering_above a (j + 1) rows all at)

nearer : (a base n i : ℕ) → base ≤ a → Outside a n (base + i) → Outside (a - base) n (0 + i)
nearer a base n i below (inl before) = inl (omega (arith, before))
nearer a base n i below (inr after) = inr (omega (arith, after))

kept_at : (rows : List Row) (all : List (List Cell)) (v : Value SPtr) (a at j i : ℕ) (cells : List Cell) (b : Bool) → nat_eq j at ≡ b →
    slice_get all at ≡ Some cells → base_at rows at ≤ a → Outside a (cells_in v) (base_at rows j + i) →
    cell_at_number (slice_get (slice_set all at (written (a - base_at rows at) (cells_in v) v 0 cells)) j) i ≡ cell_at_number (slice_get all j) i
kept_at rows all v a at j i cells true is found below out =
    let same : j ≡ at = grind arith in
    let new : List Cell = written (a - base_at rows at) (cells_in v) v 0 cells in
    ap (λ k. cell_at_number (slice_get (slice_set all at new) k) i) same
    ∙ ap (λ s. cell_at_number s i) (get_set all at cells new found)
    ∙ written_outside (a - base_at rows at) (cells_in v) v 0 i cells
    (nearer a (base_at rows at) (cells_in v) i below (subst (λ k. Outside a (cells_in v) (base_at rows k + i)) same out))
    ∙ ap (λ s. cell_at_number s i) (sym found) ∙ ap (λ k. cell_at_number (slice_get all k) i) (sym same)
kept_at rows all v a at j i cells false is found below out =
    let apart : j ≢ at = grind arith in
    ap (λ s. cell_at_number s i) (get_set_other all at j (written (a - base_at rows at) (cells_in v) v 0 cells) apart)

keep_test : (w after : Numeric) (v : Value SPtr) (a at j i : ℕ) (cells : List Cell) (b : Bool) → base_at w.rows at ≤ a →
    slice_get w.cells at ≡ Some cells →
    (if b then Some (record w { cells = slice_set w.cells at (written (a - base_at w.rows at) (cells_in v) v 0 cells) }) else None) ≡ Some after →
    Outside a (cells_in v) (base_at w.rows j + i) → cell_of_number after j i ≡ cell_of_number w j i
keep_test w after v a at j i cells false below found stored out = cc
keep_test w after v a at j i cells true below found stored out =
    subst (λ (u : Numeric). cell_of_number u j i ≡ cell_of_number w j i) (some_one _ _ stored)
    (kept_at w.rows w.cells v a at j i cells (nat_eq j at) refl found below out)

keep_cells : (w after : Numeric) (v : Value SPtr) (a at j i : ℕ) (cells : Option (List Cell)) → base_at w.rows at ≤ a →
    slice_get w.cells at ≡ cells → store_in w v a at cells ≡ Some after →
    Outside a (cells_in v) (base_at w.rows j + i) → cell_of_number after j i ≡ cell_of_number w j i
keep_cells w after v a at j i None below found stored out = cc
keep_cells w after v a at j i (Some cells) below found stored out =
    keep_test w after v a at j i cells (may_store (row_is_constant (slice_get w.rows at)) v (a - base_at w.rows at) cells) below found stored out

keep_place : (w after : Numeric) (v : Value SPtr) (a j i : ℕ) (place : Option ℕ) → covering a 0 w.rows w.cells ≡ place →
    store_at w v a place ≡ Some after → Outside a (cells_in v) (base_at w.rows j + i) → cell_of_number after j i ≡ cell_of_number w j i
keep_place w after v a j i None here stored out = cc
keep_place w after v a j i (Some at) here stored out =
    keep_cells w after v a at j i (slice_get w.cells at) (covering_above a 0 w.rows w.cells at here) refl stored out

pub numeric_keeps : NumericKeeps
numeric_keeps w after v a stored j i out = keep_place w after (in_memory v) a j i (covering a 0 w.rows w.cells) refl stored out
