-- Moves of pointers are sums modulo 2^64.
use Rattle.std.proofs.Common.{◌≡◌, ◌≢◌, ◌∙◌, ℕ, ◌+◌, ◌%◌, ◌^◌, ◌<◌, Bool, true, false, refl, ap, arith, Some, None, ◌&&◌}
use Rattle.std.specs.Prelude.{nat_eq, if◌then◌else◌}
use Rattle.type_metadata.specs.declared.objects.Object.{Object}
use Rattle.type_metadata.specs.Same.{same_object}
use Rattle.type_metadata.proofs.SameLaws.{object_same}
use Rattle.ir_memories.specs.declared.symbolic.SPtr.{SPtr}
use Rattle.ir_memories.specs.declared.symbolic.SPtr.TheVariants.{Null, At}
use Rattle.ir_memories.specs.declared.symbolic.Symbolic.{Symbolic}
use Rattle.ir_memories.specs.Symbolic.{nowhere, from_nowhere, is_inside, moved, is_one, equal, offset_of}
use Rattle.ir_memories.specs.Laws.{SymbolicMoves, NumericMoves}

sums : (k a b : ℕ) → k < 2 ^ 64 → a < 2 ^ 64 → b < 2 ^ 64 → ((k + a) % 2 ^ 64 + b) % 2 ^ 64 ≡ (k + (a + b) % 2 ^ 64) % 2 ^ 64
sums k a b fits small small' = omega arith

-- what is nowhere, moved again
again : (k b : ℕ) (t : Bool) → nat_eq k 0 ≡ t → k < 2 ^ 64 → b < 2 ^ 64 →
    moved (if t then Null else At nowhere k) b ≡ from_nowhere ((k + b) % 2 ^ 64)
again k b true is fits small = let none : k ≡ 0 = grind arith in
    ap from_nowhere (let same : b ≡ (k + b) % 2 ^ 64 = omega arith in same)
again k b false is fits small = refl

at_cases : (object : Object) (k a b : ℕ) (t : Bool) → same_object object nowhere ≡ t → k < 2 ^ 64 → a < 2 ^ 64 → b < 2 ^ 64 →
    moved (if t then from_nowhere ((k + a) % 2 ^ 64) else At object ((k + a) % 2 ^ 64)) b
    ≡ (if t then from_nowhere ((k + (a + b) % 2 ^ 64) % 2 ^ 64) else At object ((k + (a + b) % 2 ^ 64) % 2 ^ 64))
at_cases object k a b true is fits small small' =
    again ((k + a) % 2 ^ 64) b (nat_eq ((k + a) % 2 ^ 64) 0) refl (omega arith) small' ∙ ap from_nowhere (sums k a b fits small small')
at_cases object k a b false is fits small small' =
    ap (λ t. if t then from_nowhere (((k + a) % 2 ^ 64 + b) % 2 ^ 64) else At object (((k + a) % 2 ^ 64 + b) % 2 ^ 64)) is
    ∙ ap (At object) (sums k a b fits small small')

twice : (p : SPtr) (a b : ℕ) → offset_of p < 2 ^ 64 → a < 2 ^ 64 → b < 2 ^ 64 → moved (moved p a) b ≡ moved p ((a + b) % 2 ^ 64)
twice Null a b fits small small' = again a b (nat_eq a 0) refl small small'
twice (At object k) a b fits small small' = at_cases object k a b (same_object object nowhere) refl fits small small'

one_itself : (p : SPtr) → is_one p p ≡ true
one_itself Null = refl
one_itself (At object k) = object_same object object refl

itself : (w : Symbolic) (p : SPtr) → equal w p p ≢ Some false
itself w p differs =
    let one : equal w p p ≡ Some (nat_eq (offset_of p) (offset_of p)) =
    ap (λ t. if t then Some (nat_eq (offset_of p) (offset_of p)) else (if is_inside w p && is_inside w p then Some false else None)) (one_itself p) in
    let same : nat_eq (offset_of p) (offset_of p) ≡ true = grind arith in
    cc

pub symbolic_moves : SymbolicMoves
symbolic_moves = record { null = refl; twice = twice; itself = itself }

number_twice : (p a b : ℕ) → p < 2 ^ 64 → a < 2 ^ 64 → b < 2 ^ 64 → ((p + a) % 2 ^ 64 + b) % 2 ^ 64 ≡ (p + (a + b) % 2 ^ 64) % 2 ^ 64
number_twice = sums

number_itself : (p : ℕ) → Some (nat_eq p p) ≢ Some false
number_itself p differs = let same : nat_eq p p ≡ true = grind arith in cc

pub numeric_moves : NumericMoves
numeric_moves = record { null = refl; twice = number_twice; itself = λ w p. number_itself p }
