-- Blanks and comments, byte by byte.
use Rattle.std.proofs.Common.{◌≡◌, ℕ, ◌+◌, ◌-◌, ◌<◌, ◌≤◌, Bool, true, false, not, ◌==◌, Option, Some, List, [], ◌∷◌, ◌++◌, length, length-drop, take, drop, get_or, ap, ◌∙◌, arith}
use Rattle.std.specs.Prelude.{slice_range}
use Rattle.std.proofs.lemmas.List.{get_or-drop}
use Rattle.std.proofs.lemmas.Grind.{take_at_read}
use Rattle.ir_lex.specs.Letters.{is_blank, is_line_end}
use Rattle.ir_lex.specs.Texts.{open_behind}
use Rattle.ir_lex.specs.Steps.{open_after}
use Rattle.ir_lex.proofs.CaseSplits.{test}

pub range_more : (text : List ℕ) (start at : ℕ) → start ≤ at → at < length text →
    slice_range text start (at + 1) ≡ slice_range text start at ++ get_or text at 0 ∷ []
range_more text start at order within =
    let i : at + 1 - start ≡ (at - start) + 1 = omega arith in
    let read = take_at_read (drop start text) (at - start) 0 (omega (arith, length-drop start text)) in
    let j : start + (at - start) ≡ at = omega arith in
    let e : get_or (drop start text) (at - start) 0 ≡ get_or text at 0 = get_or-drop start text (at - start) 0 ∙ ap (λ k. get_or text k 0) j in
    rw i (read.1 ∙ ap (λ b. take (at - start) (drop start text) ++ b ∷ []) e)

open_push : (inside state : Bool) (bytes : List ℕ) (b : ℕ) (o : Option Bool) → open_behind inside bytes ≡ Some state →
    open_after state b ≡ o → open_behind inside (bytes ++ b ∷ []) ≡ o
open_push true state [] b o e d = let same : true ≡ state = cc in rw (← same) at d
open_push false state [] b o e d =
    let same : false ≡ state = cc in let u = rw (← same) at d in
    test (b == 59)
    (λ t. let v = rw t at u in rw t v)
    (λ t. let v = rw t at u in rw t (test (is_blank b) (λ s. let w = rw s at v in rw s w) (λ s. let w = rw s at v in rw s w)))
open_push true state (c ∷ bytes) b o e d = open_push (not (is_line_end c)) state bytes b o e d
open_push false state (c ∷ bytes) b o e d =
    test (c == 59)
    (λ t. let u = rw t at e in rw t (open_push true state bytes b o u d))
    (λ t. let u = rw t at e in rw t (test (is_blank c) (λ s. let w = rw s at u in rw s (open_push false state bytes b o w d)) (λ s. let w = rw s at u in absurd cc)))

pub open_more : (text : List ℕ) (start at : ℕ) (state : Bool) (o : Option Bool) → start ≤ at → at < length text →
    open_behind false (slice_range text start at) ≡ Some state → open_after state (get_or text at 0) ≡ o →
    open_behind false (slice_range text start (at + 1)) ≡ o
open_more text start at state o order within e d =
    rw (range_more text start at order within) (open_push false state (slice_range text start at) (get_or text at 0) o e d)
