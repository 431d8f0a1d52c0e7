-- A value stored at a number is what a load of its type gives there.
use Rattle.std.proofs.Common.{◌≡◌, ◌∙◌, ℕ, zero, suc, ◌+◌, ◌-◌, ◌*◌, ◌%◌, ◌^◌, ◌<◌, ◌≤◌, Bool, true, false, ◌&&◌, List, [], ◌∷◌, length, refl, sym, ap, subst, Option, Some, None, div-one}
use Rattle.std.specs.Prelude.{nat_le, nat_lt, if◌then◌else◌, slice_get, slice_set, option_map}
use Rattle.ir_values.specs.declared.types.Width.{Width}
use Rattle.ir_values.specs.declared.types.Width.TheVariants.{W64}
use Rattle.ir_values.specs.declared.types.Ty.{out-Ty}
use Rattle.ir_values.specs.declared.types.Ty.TheVariants.{outs-Int, outs-Ptr}
use Rattle.ir_numbers.specs.Layout.{width_bytes}
use Rattle.ir_numbers.specs.Numbers.{bits}
use Rattle.ir_memories.specs.declared.values.Value.{Value}
use Rattle.ir_memories.specs.declared.values.Value.TheVariants as value
use Rattle.ir_memories.specs.declared.numeric.Row.{Row}
use Rattle.ir_memories.specs.declared.numeric.Numeric.{Numeric}
use Rattle.ir_memories.specs.declared.cells.Cell.{Cell}
use Rattle.ir_memories.specs.Cells.{low_part, is_stored, cells_in, cells_from, written}
use Rattle.ir_memories.specs.Numeric.{load, store_at, store_in, may_store, covering, base_at, row_is_constant, read_in, load_at, typed, low_of, in_memory}
use Rattle.ir_memories.specs.Laws.{NumericStores, type_of, Fits}
use Rattle.ir_memories.proofs.CellLemmas.{length-written}
use Rattle.ir_memories.proofs.StoreLaws.{seen, bytes_number, back, get_set, some_one, test_parts, within}

number_back : (w : Width) (n : ℕ) → n < 2 ^ bits w → low_of w (Some (cells_from (value.Int w n) 0 (width_bytes w))) ≡ Some n
number_back w n fits =
    ap (option_map (low_part w)) (bytes_number w n 0 (width_bytes w))
    ∙ ap (λ k. Some (low_part w (k % 2 ^ (8 * width_bytes w)))) (div-one n)
    ∙ ap Some (back w n fits)

read_back : (v : Value ℕ) (at : ℕ) (cells : List Cell) → Fits (λ a. a < 2 ^ 64) v → is_stored (in_memory v) ≡ true →
    at + cells_in (in_memory v) ≤ length cells →
    typed (out-Ty (type_of v)) (written at (cells_in (in_memory v)) (in_memory v) 0 cells) at ≡ Some v
read_back (value.Int w n) at cells fits stored inside =
    ap (λ t. typed t (written at (width_bytes w) (value.Int w n) 0 cells) at) (outs-Int w)
    ∙ ap (λ part. option_map (value.Int w) (low_of w part)) (seen at (width_bytes w) (value.Int w n) cells inside)
    ∙ ap (option_map (value.Int w)) (number_back w n fits)
read_back (value.Ptr a) at cells fits stored inside =
    ap (λ t. typed t (written at 8 (value.Int W64 a) 0 cells) at) outs-Ptr
    ∙ ap (λ part. option_map value.Ptr (low_of W64 part)) (seen at 8 (value.Int W64 a) cells inside)
    ∙ ap (option_map value.Ptr) (number_back W64 a fits)
read_back (value.Pair a flag) at cells fits stored inside = cc

-- the cells of a variable change, and not their number
covering_set : (a j : ℕ) (rows : List Row) (all : List (List Cell)) (i : ℕ) (old new : List Cell) → slice_get all i ≡ Some old →
    length new ≡ length old → covering a j rows (slice_set all i new) ≡ covering a j rows all
covering_set a j rows [] i old new is same = refl
covering_set a j rows (cells ∷ all) zero old new is same =
    let long : length new ≡ length cells = same ∙ ap length (some_one old cells (sym is)) in
    ap (λ n. if nat_le (base_at rows j) a && nat_lt (a - base_at rows j) n then Some j else covering a (j + 1) rows all) long
covering_set a j rows (cells ∷ all) (suc i) old new is same =
    ap (λ rest. if nat_le (base_at rows j) a && nat_lt (a - base_at rows j) (length cells) then Some j else rest)
    (covering_set a (j + 1) rows all i old new is same)

by_test : (w after : Numeric) (v : Value ℕ) (a at : ℕ) (cells : List Cell) (b : Bool) → Fits (λ p. p < 2 ^ 64) v →
    covering a 0 w.rows w.cells ≡ Some at → slice_get w.cells at ≡ Some cells →
    may_store (row_is_constant (slice_get w.rows at)) (in_memory v) (a - base_at w.rows at) cells ≡ b →
    (if b then Some (record w { cells = slice_set w.cells at (written (a - base_at w.rows at) (cells_in (in_memory v)) (in_memory v) 0 cells) }) else None)
    ≡ Some after → load after (type_of v) a ≡ Some v
by_test w after v a at cells false fits place found is stored = cc
by_test w after v a at cells true fits place found is stored =
    let fine = test_parts _ _ _ is in
    let new : List Cell = written (a - base_at w.rows at) (cells_in (in_memory v)) (in_memory v) 0 cells in
    subst (λ (u : Numeric). load u (type_of v) a ≡ Some v) (some_one _ _ stored)
    (ap (load_at (record w { cells = slice_set w.cells at new }) (type_of v) a)
    (covering_set a 0 w.rows w.cells at cells new found (length-written (a - base_at w.rows at) (cells_in (in_memory v)) (in_memory v) 0 cells) ∙ place)
    ∙ ap (read_in (type_of v) (a - base_at w.rows at)) (get_set w.cells at cells new found)
    ∙ read_back v (a - base_at w.rows at) cells fits fine.0 (within _ _ fine.1))

by_cells : (w after : Numeric) (v : Value ℕ) (a at : ℕ) (cells : Option (List Cell)) → Fits (λ p. p < 2 ^ 64) v →
    covering a 0 w.rows w.cells ≡ Some at → slice_get w.cells at ≡ cells → store_in w (in_memory v) a at cells ≡ Some after →
    load after (type_of v) a ≡ Some v
by_cells w after v a at None fits place found stored = cc
by_cells w after v a at (Some cells) fits place found stored =
    by_test w after v a at cells (may_store (row_is_constant (slice_get w.rows at)) (in_memory v) (a - base_at w.rows at) cells) fits place found refl stored

by_place : (w after : Numeric) (v : Value ℕ) (a : ℕ) (place : Option ℕ) → Fits (λ p. p < 2 ^ 64) v →
    covering a 0 w.rows w.cells ≡ place → store_at w (in_memory v) a place ≡ Some after → load after (type_of v) a ≡ Some v
by_place w after v a None fits place stored = cc
by_place w after v a (Some at) fits place stored = by_cells w after v a at (slice_get w.cells at) fits place refl stored

pub numeric_stores : NumericStores
numeric_stores w after v a fits stored = by_place w after v a (covering a 0 w.rows w.cells) fits refl stored
