-- A stored value is what a load of its type gives at the same place.
use Rattle.std.proofs.Common.{◌≡◌, ◌∙◌, ℕ, zero, suc, ◌+◌, ◌-◌, ◌*◌, ◌/◌, ◌%◌, ◌^◌, ◌<◌, ◌≤◌, Bool, true, false, ◌&&◌, List, [], ◌∷◌, length, take, drop, refl, sym, ap, subst, arith, Option, Some, None, div-one}
use Rattle.std.specs.Prelude.{not, ⊤, nat_eq, nat_le, nat_lt, if◌then◌else◌, slice_get, slice_set, option_map}
use Rattle.std.proofs.lemmas.Nat.{shr-shr, mod-pow-add}
use Rattle.ir_values.specs.declared.types.Width.{Width}
use Rattle.ir_values.specs.declared.types.Width.TheVariants.{W1, W8, W16, W32, W64}
use Rattle.ir_values.specs.declared.types.Ty.TheVariants.{outs-Int, outs-Ptr}
use Rattle.ir_numbers.specs.Layout.{width_bytes}
use Rattle.ir_numbers.specs.Numbers.{bits}
use Rattle.type_metadata.specs.declared.objects.Object.{Object}
use Rattle.type_metadata.proofs.SameLaws.{object_same, and_both}
use Rattle.ir_memories.specs.declared.values.Value.{Value}
use Rattle.ir_memories.specs.declared.values.Value.TheVariants as value
use Rattle.ir_memories.specs.declared.symbolic.SPtr.{SPtr}
use Rattle.ir_memories.specs.declared.symbolic.SPtr.TheVariants.{Null, At}
use Rattle.ir_memories.specs.declared.symbolic.Space.{Space}
use Rattle.ir_memories.specs.declared.symbolic.Symbolic.{Symbolic}
use Rattle.ir_memories.specs.declared.cells.Cell.{Cell}
use Rattle.ir_memories.specs.declared.cells.Cell.TheVariants.{Part}
use Rattle.ir_memories.specs.Cells.{number, is_part, are_parts, pointer, window, low_part, typed, read, is_stored, integer_in, pointer_in, cells_in, cell_at, cells_from, written}
use Rattle.ir_memories.specs.Symbolic.{load, store_at, store_in, may_store, with_value, place_of, at_place, read_in}
use Rattle.ir_memories.specs.Laws.{SymbolicStores, type_of, Fits}
use Rattle.ir_memories.proofs.CellLemmas.{length-written}

-- The cells that were written are those of the value.

shift : (n : ℕ) (v : Value SPtr) (at k m : ℕ) (cells : List Cell) →
    take m (written at n v (at + (k + 1)) cells) ≡ take m (written at n v (at + k + 1) cells)
shift n v at k m cells = let same : at + (k + 1) ≡ at + k + 1 = omega arith in ap (λ i. take m (written at n v i cells)) same

front : (at n : ℕ) (v : Value SPtr) (k m : ℕ) (cells : List Cell) → k + m ≡ n → m ≤ length cells →
    take m (written at n v (at + k) cells) ≡ cells_from v k m
front at n v k zero [] all few = refl
front at n v k zero (cell ∷ cells) all few = refl
front at n v k (suc m) [] all few = absurd (omega (arith, few))
front at n v k (suc m) (cell ∷ cells) all few =
    let in_it : (nat_le at (at + k) && nat_lt (at + k) (at + n)) ≡ true = grind arith in
    let which : at + k - at ≡ k = omega arith in
    ap (λ t. (if t then cell_at v (at + k - at) else cell) ∷ take m (written at n v (at + k + 1) cells)) in_it
    ∙ ap (λ j. cell_at v j ∷ take m (written at n v (at + k + 1) cells)) which
    ∙ ap (λ rest. cell_at v k ∷ rest) (sym (shift n v at k m cells) ∙ front at n v (k + 1) m cells (omega arith) (omega (arith, few)))

behind : (at n : ℕ) (v : Value SPtr) (i d : ℕ) (cells : List Cell) → i + d ≡ at → drop d (written at n v i cells) ≡ written at n v at (drop d cells)
behind at n v i zero [] here = refl
behind at n v i zero (cell ∷ cells) here =
    let same : i ≡ at = omega arith in ap (λ j. written at n v j (cell ∷ cells)) same
behind at n v i (suc d) [] here = refl
behind at n v i (suc d) (cell ∷ cells) here = behind at n v (i + 1) d cells (let next : i + 1 + d ≡ at = omega arith in next)

drop_long : (d m : ℕ) (cells : List Cell) → d + m ≤ length cells → m ≤ length (drop d cells)
drop_long zero m [] long = omega (arith, long)
drop_long zero m (cell ∷ cells) long = omega (arith, long)
drop_long (suc d) m [] long = omega (arith, long)
drop_long (suc d) m (cell ∷ cells) long = drop_long d m cells (omega (arith, long))

pub seen : (at n : ℕ) (v : Value SPtr) (cells : List Cell) → at + n ≤ length cells →
    window (written at n v 0 cells) at n ≡ Some (cells_from v 0 n)
seen at n v cells fits =
    let long = length-written at n v 0 cells in
    let inside : nat_le (at + n) (length (written at n v 0 cells)) ≡ true = grind arith in
    let none : at + 0 ≡ at = omega arith in
    ap (λ t. if t then Some (take n (drop at (written at n v 0 cells))) else None) inside
    ∙ ap (λ cs. Some (take n cs)) (behind at n v 0 at cells (omega arith))
    ∙ ap (λ i. Some (take n (written at n v i (drop at cells)))) (sym none)
    ∙ ap Some (front at n v 0 n (drop at cells) (omega arith) (drop_long at n cells fits))

-- Bytes write the number they were made of.

sum : (n k m : ℕ) → n / 2 ^ (8 * k) % 256 + 256 * (n / 2 ^ (8 * (k + 1)) % 2 ^ (8 * m)) ≡ n / 2 ^ (8 * k) % 2 ^ (8 * suc m)
sum n k m =
    let high : n / 2 ^ (8 * k) / 2 ^ 8 ≡ n / 2 ^ (8 * k + 8) = shr-shr n (8 * k) 8 in
    let next : 8 * k + 8 ≡ 8 * (k + 1) = omega arith in
    let whole = mod-pow-add (n / 2 ^ (8 * k)) (8 * m) 8 in
    let size : 8 * m + 8 ≡ 8 * suc m = omega arith in
    let same : n / 2 ^ (8 * k) / 2 ^ 8 ≡ n / 2 ^ (8 * (k + 1)) = high ∙ ap (λ e. n / 2 ^ e) next in
    let parts : n / 2 ^ (8 * k) % 2 ^ (8 * m + 8) ≡ (n / 2 ^ (8 * (k + 1)) % 2 ^ (8 * m)) * 256 + n / 2 ^ (8 * k) % 256 =
    whole ∙ ap (λ h. (h % 2 ^ (8 * m)) * 256 + n / 2 ^ (8 * k) % 256) same in
    let told : n / 2 ^ (8 * k) % 2 ^ (8 * suc m) ≡ (n / 2 ^ (8 * (k + 1)) % 2 ^ (8 * m)) * 256 + n / 2 ^ (8 * k) % 256 =
    ap (λ e. n / 2 ^ (8 * k) % 2 ^ e) (sym size) ∙ parts in
    omega arith

one_mod : (x : ℕ) → 0 ≡ x % 1
one_mod x = omega arith

pub bytes_number : (w : Width) (n k m : ℕ) → number (cells_from (value.Int w n) k m) ≡ Some (n / 2 ^ (8 * k) % 2 ^ (8 * m))
bytes_number w n k zero = ap Some (one_mod (n / 2 ^ (8 * k)))
bytes_number w n k (suc m) =
    ap (option_map (λ high. n / 2 ^ (8 * k) % 256 + 256 * high)) (bytes_number w n (k + 1) m) ∙ ap Some (sum n k m)

pub back : (w : Width) (n : ℕ) → n < 2 ^ bits w → low_part w (n % 2 ^ (8 * width_bytes w)) ≡ n
back W1 n fits = omega (arith, fits)
back W8 n fits = omega (arith, fits)
back W16 n fits = omega (arith, fits)
back W32 n fits = omega (arith, fits)
back W64 n fits = omega (arith, fits)

abbrev of_int : Width → ℕ → Value SPtr
of_int w n = value.Int w n

integer_back : (w : Width) (n : ℕ) → n < 2 ^ bits w →
    option_map (λ k. of_int w (low_part w k)) (number (cells_from (value.Int w n) 0 (width_bytes w))) ≡ Some (value.Int w n)
integer_back w n fits =
    ap (option_map (λ k. of_int w (low_part w k))) (bytes_number w n 0 (width_bytes w))
    ∙ ap (λ k. Some (of_int w (low_part w (k % 2 ^ (8 * width_bytes w))))) (div-one n)
    ∙ ap (λ k. Some (of_int w k)) (back w n fits)

-- The parts of a pointer are those of no other.

part_itself : (object : Object) (offset k : ℕ) → is_part (At object offset) k (Part (At object offset) k) ≡ true
part_itself object offset k =
    let same : nat_eq offset offset ≡ true = grind arith in
    let here : nat_eq k k ≡ true = grind arith in
    and_both _ _ (and_both _ _ (object_same object object refl) same) here

all_parts : (object : Object) (offset k n : ℕ) → are_parts (At object offset) k (cells_from (value.Ptr (At object offset)) k n) ≡ true
all_parts object offset k zero = refl
all_parts object offset k (suc n) = and_both _ _ (part_itself object offset k) (all_parts object offset (k + 1) n)

pointer_back : (p : SPtr) → pointer (cells_from (value.Ptr p) 0 8) ≡ Some p
pointer_back Null = refl
pointer_back (At object offset) = ap (λ t. if t then Some (At object offset) else None) (all_parts object offset 0 8)

-- The load.

read_back : (v : Value SPtr) (at : ℕ) (cells : List Cell) → Fits (λ p. ⊤) v → is_stored v ≡ true → at + cells_in v ≤ length cells →
    read (type_of v) (written at (cells_in v) v 0 cells) at ≡ Some v
read_back (value.Int w n) at cells fits stored inside =
    ap (λ t. typed t (written at (width_bytes w) (value.Int w n) 0 cells) at) (outs-Int w)
    ∙ ap (integer_in w) (seen at (width_bytes w) (value.Int w n) cells inside) ∙ integer_back w n fits
read_back (value.Ptr p) at cells fits stored inside =
    ap (λ t. typed t (written at 8 (value.Ptr p) 0 cells) at) outs-Ptr
    ∙ ap pointer_in (seen at 8 (value.Ptr p) cells inside) ∙ ap (option_map value.Ptr) (pointer_back p)
read_back (value.Pair p flag) at cells fits stored inside = cc

pub get_set : {X : Type 0} (xs : List X) (i : ℕ) (x y : X) → slice_get xs i ≡ Some x → slice_get (slice_set xs i y) i ≡ Some y
get_set [] i x y is = cc
get_set (z ∷ xs) zero x y is = refl
get_set (z ∷ xs) (suc i) x y is = get_set xs i x y is

pub some_one : {X : Type 0} (x y : X) → Some x ≡ Some y → x ≡ y
some_one x y is = cc

pub test_parts : (c s l : Bool) → (not c && s && l) ≡ true → (s ≡ true) × (l ≡ true)
test_parts true s l is = cc
test_parts false true true is = (refl, refl)
test_parts false true false is = cc
test_parts false false l is = cc

pub within : (m n : ℕ) → nat_le m n ≡ true → m ≤ n
within m n is = grind arith

by_test : (w after : Symbolic) (v : Value SPtr) (object : Object) (offset at : ℕ) (space : Space) (b : Bool) → Fits (λ p. ⊤) v →
    place_of object 0 w.items ≡ Some at → slice_get w.spaces at ≡ Some space → may_store space v offset ≡ b →
    (if b then Some (record w { spaces = slice_set w.spaces at (with_value space v offset) }) else None) ≡ Some after →
    load after (type_of v) (At object offset) ≡ Some v
by_test w after v object offset at space false fits place found is stored = cc
by_test w after v object offset at space true fits place found is stored =
    let fine = test_parts _ _ _ is in
    subst (λ (u : Symbolic). load u (type_of v) (At object offset) ≡ Some v) (some_one _ _ stored)
    (ap (λ p. read_in (type_of v) offset (at_place (slice_set w.spaces at (with_value space v offset)) p)) place
    ∙ ap (read_in (type_of v) offset) (get_set w.spaces at space (with_value space v offset) found)
    ∙ read_back v offset space.cells fits fine.0 (within _ _ fine.1))

by_space : (w after : Symbolic) (v : Value SPtr) (object : Object) (offset at : ℕ) (space : Option Space) → Fits (λ p. ⊤) v →
    place_of object 0 w.items ≡ Some at → slice_get w.spaces at ≡ space → store_in w v offset at space ≡ Some after →
    load after (type_of v) (At object offset) ≡ Some v
by_space w after v object offset at None fits place found stored = cc
by_space w after v object offset at (Some space) fits place found stored =
    by_test w after v object offset at space (may_store space v offset) fits place found refl stored

by_place : (w after : Symbolic) (v : Value SPtr) (object : Object) (offset : ℕ) (place : Option ℕ) → Fits (λ p. ⊤) v →
    place_of object 0 w.items ≡ place → store_at w v offset place ≡ Some after → load after (type_of v) (At object offset) ≡ Some v
by_place w after v object offset None fits place stored = cc
by_place w after v object offset (Some at) fits place stored =
    by_space w after v object offset at (slice_get w.spaces at) fits place refl stored

pub symbolic_stores : SymbolicStores
symbolic_stores w after v Null fits stored = cc
symbolic_stores w after v (At object offset) fits stored = by_place w after v object offset (place_of object 0 w.items) fits refl stored
