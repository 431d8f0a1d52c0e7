-- Cells as they are written one by one, and the bounds of the numbers that bytes write.
use Rattle.std.proofs.Common.{◌≡◌, ◌∙◌, ℕ, zero, suc, ◌+◌, ◌-◌, ◌^◌, ◌<◌, ◌≤◌, true, false, ◌&&◌, List, [], ◌∷◌, ◌++◌, append_assoc, length, take, drop, length-take, length-drop, set, refl, sym, ap, arith}
use Rattle.std.specs.Prelude.{nat_le, nat_lt, if◌then◌else◌}
use Rattle.ir_memories.specs.declared.values.Value.{Value}
use Rattle.ir_memories.specs.declared.symbolic.SPtr.{SPtr}
use Rattle.ir_memories.specs.declared.cells.Cell.{Cell}
use Rattle.ir_memories.specs.Cells.{cell_at, cells_from, written}

-- seven bytes write a number of 56 bits
pub high_fits : (k n : ℕ) → k ≤ 7 → n < 256 ^ k → n < 2 ^ 56
high_fits zero n few below = omega arith
high_fits (suc zero) n few below = omega arith
high_fits (suc (suc zero)) n few below = omega arith
high_fits (suc (suc (suc zero))) n few below = omega arith
high_fits (suc (suc (suc (suc zero)))) n few below = omega arith
high_fits (suc (suc (suc (suc (suc zero))))) n few below = omega arith
high_fits (suc (suc (suc (suc (suc (suc zero)))))) n few below = omega arith
high_fits (suc (suc (suc (suc (suc (suc (suc zero))))))) n few below = omega arith
high_fits (suc (suc (suc (suc (suc (suc (suc (suc k)))))))) n few below = absurd (omega (arith, few))

pub rest_short : (cells : List Cell) → length cells ≤ 8 → length (take (length cells - 1) (drop 1 cells)) ≤ 7
rest_short cells few = simp (length-take, length-drop) (omega arith)

pub length-written : (at n : ℕ) (v : Value SPtr) (i : ℕ) (cells : List Cell) → length (written at n v i cells) ≡ length cells
length-written at n v i [] = refl
length-written at n v i (cell ∷ cells) = ap suc (length-written at n v (i + 1) cells)

pub written_none : (at : ℕ) (v : Value SPtr) (i : ℕ) (cells : List Cell) → written at 0 v i cells ≡ cells
written_none at v i [] = refl
written_none at v i (cell ∷ cells) =
    let out : (nat_le at i && nat_lt i (at + 0)) ≡ false = grind arith in
    ap (λ t. (if t then cell_at v (i - at) else cell) ∷ written at 0 v (i + 1) cells) out
    ∙ ap (λ rest. cell ∷ rest) (written_none at v (i + 1) cells)

-- one more cell of the value, seen from behind its place
written_past : (at j : ℕ) (v : Value SPtr) (i : ℕ) (cells : List Cell) → at + j < i → written at j v i cells ≡ written at (j + 1) v i cells
written_past at j v i [] past = refl
written_past at j v i (cell ∷ cells) past =
    let out : (nat_le at i && nat_lt i (at + j)) ≡ (nat_le at i && nat_lt i (at + (j + 1))) = grind arith in
    ap (λ t. (if t then cell_at v (i - at) else cell) ∷ written at j v (i + 1) cells) out
    ∙ ap (λ rest. (if nat_le at i && nat_lt i (at + (j + 1)) then cell_at v (i - at) else cell) ∷ rest)
    (written_past at j v (i + 1) cells (omega (arith, past)))

written_at : (at j : ℕ) (v : Value SPtr) (i d : ℕ) (cells : List Cell) → i + d ≡ at + j →
    set (written at j v i cells) d (cell_at v j) ≡ written at (j + 1) v i cells
written_at at j v i zero [] here = refl
written_at at j v i (suc d) [] here = refl
written_at at j v i zero (cell ∷ cells) here =
    let same : j ≡ i - at = omega arith in
    let in_it : true ≡ (nat_le at i && nat_lt i (at + (j + 1))) = grind arith in
    ap (λ k. cell_at v k ∷ written at j v (i + 1) cells) same
    ∙ ap (λ t. (if t then cell_at v (i - at) else cell) ∷ written at j v (i + 1) cells) in_it
    ∙ ap (λ rest. (if nat_le at i && nat_lt i (at + (j + 1)) then cell_at v (i - at) else cell) ∷ rest)
    (written_past at j v (i + 1) cells (omega arith))
written_at at j v i (suc d) (cell ∷ cells) here =
    let out : (nat_le at i && nat_lt i (at + j)) ≡ (nat_le at i && nat_lt i (at + (j + 1))) = grind arith in
    ap (λ t. (if t then cell_at v (i - at) else cell) ∷ set (written at j v (i + 1) cells) d (cell_at v j)) out
    ∙ ap (λ rest. (if nat_le at i && nat_lt i (at + (j + 1)) then cell_at v (i - at) else cell) ∷ rest)
    (written_at at j v (i + 1) d cells (let next : i + 1 + d ≡ at + j = omega arith in next))

pub written_more : (at j : ℕ) (v : Value SPtr) (before cells : List Cell) → before ≡ written at j v 0 cells →
    set before (at + j) (cell_at v j) ≡ written at (j + 1) v 0 cells
written_more at j v before cells is = ap (λ cs. set cs (at + j) (cell_at v j)) is ∙ written_at at j v 0 (at + j) cells (omega arith)

cells_next : (v : Value SPtr) (k n : ℕ) → k < n → cells_from v k (n - k) ≡ cell_at v k ∷ cells_from v (k + 1) (n - (k + 1))
cells_next v k n below =
    let one : n - k ≡ suc (n - (k + 1)) = omega arith in
    ap (cells_from v k) one

-- one more cell of a value behind those before
pub value_more : (v : Value SPtr) (cells more whole : List Cell) (cell : Cell) (k n : ℕ) → k < n → more ≡ cells ++ cell ∷ [] → cell ≡ cell_at v k →
    cells ++ cells_from v k (n - k) ≡ whole → more ++ cells_from v (k + 1) (n - (k + 1)) ≡ whole
value_more v cells more whole cell k n below added is so_far =
    ap (λ cs. cs ++ cells_from v (k + 1) (n - (k + 1))) (added ∙ ap (λ c. cells ++ c ∷ []) is)
    ∙ append_assoc cells (cell_at v k ∷ []) (cells_from v (k + 1) (n - (k + 1)))
    ∙ ap (λ cs. cells ++ cs) (sym (cells_next v k n below)) ∙ so_far
