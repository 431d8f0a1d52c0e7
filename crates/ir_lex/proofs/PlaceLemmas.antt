-- Places, byte by byte.
use Rattle.std.proofs.Common.{◌≡◌, ℕ, ◌+◌, ◌<◌, ◌≤◌, List, [], ◌∷◌, length, length-take, take, get_or, refl, ap, sym, subst, ◌∙◌, arith}
use Rattle.std.specs.List.{fold}
use Rattle.std.proofs.lemmas.List.Sums.{fold_more}
use Rattle.ltt_base.specs.declared.refusal.Place.{Place}
use Rattle.ir_lex.specs.Letters.{is_line_end}
use Rattle.ir_lex.specs.Places.{place_at, place_behind}
use Rattle.ir_lex.proofs.CaseSplits.{test}

pub place_more : (file : ℕ) (text : List ℕ) (at : ℕ) → at < length text →
    place_at file text (at + 1) ≡ place_behind (place_at file text at) (get_or text at 0)
unfolding place_at
place_more file text at within = fold_more place_behind _ text at 0 within

file_behind : (place : Place) (b : ℕ) → (place_behind place b).file ≡ place.file
file_behind place b = test (is_line_end b) (λ t. rw t refl) (λ t. rw t refl)

file_fold : (place : Place) (bytes : List ℕ) → (fold place_behind place bytes).file ≡ place.file
file_fold place [] = refl
file_fold place (b ∷ bytes) = file_fold (place_behind place b) bytes ∙ file_behind place b

pub place_file : (place : Place) (file : ℕ) (text : List ℕ) (at : ℕ) → place ≡ place_at file text at → place.file ≡ file
unfolding place_at
place_file place file text at is = ap (λ p. p.file) is ∙ file_fold _ (take at text)

-- a place carries the number of its file
pub place_own : (place : Place) (file : ℕ) (text : List ℕ) (at : ℕ) → place ≡ place_at file text at →
    place ≡ place_at place.file text at
place_own place file text at is =
    let P : ℕ → Type 0 = λ f. place ≡ place_at f text at in
    subst P (sym (place_file place file text at is)) is

record Near (place : Place) (n : ℕ) : Type 0 where
  line : place.line ≤ n
  column : place.column ≤ n

near_behind : (place : Place) (n b : ℕ) → Near place n → Near (place_behind place b) (n + 1)
near_behind place n b near =
    test (is_line_end b)
    (λ t. rw t (record { line = let h = near.line in omega arith; column = let h = near.line in omega arith }))
    (λ t. rw t (record { line = let h = near.line in omega arith; column = let h = near.column in omega arith }))

near_fold : (place : Place) (n : ℕ) (bytes : List ℕ) → Near place n → Near (fold place_behind place bytes) (n + length bytes)
near_fold place n [] near = record { line = let h = near.line in omega arith; column = let h = near.column in omega arith }
near_fold place n (b ∷ bytes) near =
    let more = near_fold (place_behind place b) (n + 1) bytes (near_behind place n b near) in
    record { line = let h = more.line in omega arith; column = let h = more.column in omega arith }

near_at : (file : ℕ) (text : List ℕ) (at : ℕ) → Near (place_at file text at) (1 + length (take at text))
unfolding place_at
near_at file text at = near_fold _ 1 (take at text) (record { line = omega arith; column = omega arith })

pub line_near : (file : ℕ) (text : List ℕ) (at : ℕ) → (place_at file text at).line ≤ 1 + length text
line_near file text at = let near = near_at file text at in let h = near.line in let k = length-take at text in omega arith

pub column_near : (file : ℕ) (text : List ℕ) (at : ℕ) → (place_at file text at).column ≤ 1 + length text
column_near file text at = let near = near_at file text at in let h = near.column in let k = length-take at text in omega arith

pub ruleset place_rules = (place_more, line_near, column_near)
