-- For callers: texts that are written one after the other, and counts over more than one call.
use Rattle.std.proofs.Common.{◌≡◌, ℕ, ◌+◌, ◌≤◌, min, List, [], ◌++◌, length, take, ap, sym, ◌∙◌, append_assoc, append-nil, None, Some, refl, arith}
use Rattle.std.proofs.Math.Seq.{take-append-add}
use Rattle.std.proofs.lemmas.Grind.{common_steps}
use Rattle.std.specs.Io.KnownBytes.{append_known}
use Rattle.std.specs.declared.option.Option.{Option}
use Rattle.ltt_base.specs.Outside.{Rose, Took, TookPart}

pub append_known-append : (known : Option (List ℕ)) (xs ys : List ℕ) → append_known (append_known known xs) ys ≡ append_known known (xs ++ ys)
append_known-append None xs ys = refl
append_known-append (Some bytes) xs ys = ap Some (append_assoc bytes xs ys)

-- nothing was taken
pub Took-none : (known : Option (List ℕ)) → Took known known []
Took-none None = refl
Took-none (Some bytes) = ap Some (sym (append-nil bytes))

pub Took-then : (a b c : Option (List ℕ)) (s t : List ℕ) → Took a b s → Took b c t → Took a c (s ++ t)
Took-then a b c s t first then = then ∙ ap (λ known. append_known known t) first ∙ append_known-append a s t

pub TookPart-whole : (a b : Option (List ℕ)) (t : List ℕ) → Took a b t → TookPart a b t
TookPart-whole a b t took = let all : take (length t) t ≡ t = grind (arith, common_steps) in (length t, took ∙ ap (append_known a) (sym all))

pub TookPart-none : (a : Option (List ℕ)) (t : List ℕ) → TookPart a a t
TookPart-none a t = (0, Took-none a)

pub TookPart-then : (a b c : Option (List ℕ)) (s t : List ℕ) → Took a b s → TookPart b c t → TookPart a c (s ++ t)
TookPart-then a b c s t first (count, then) =
    (length s + count, Took-then a b c s (take count t) first then ∙ ap (append_known a) (sym (take-append-add s t count)))

-- more text behind what was to be written
pub TookPart-more : (a b : Option (List ℕ)) (s t : List ℕ) → TookPart a b s → TookPart a b (s ++ t)
TookPart-more a b s t (count, took) =
    let same : take (min count (length s)) (s ++ t) ≡ take count s = grind (arith, common_steps) in
    (min count (length s), took ∙ ap (append_known a) (sym same))

-- a count that rose in a part of some calls rose in them
pub Rose-within : (a b c d : ℕ) → a ≤ b → Rose b c → c ≤ d → Rose a d
Rose-within a b c d before rose after = omega arith
