-- Runs, from a byte within them on.
use Rattle.std.proofs.Common.{◌≡◌, ℕ, zero, suc, ◌+◌, ◌-◌, ◌<◌, ◌≤◌, Bool, List, [], ◌∷◌, drop, ap, ◌∙◌, arith}
use Rattle.std.specs.List.{prefix_len}
use Rattle.std.proofs.lemmas.List.{drop-drop}
use Rattle.std.proofs.lemmas.List.Sums.{prefix_len-le-length}
use Rattle.ir_lex.proofs.CaseSplits.{test}

pub run_rest : (p : ℕ → Bool) (n : ℕ) (bytes : List ℕ) → n ≤ prefix_len p bytes →
    n + prefix_len p (drop n bytes) ≡ prefix_len p bytes
run_rest p zero bytes within = omega arith
run_rest p (suc n) [] within = absurd (omega arith)
run_rest p (suc n) (b ∷ bytes) within =
    test (p b)
    (λ t. let d = rw t at within in let e = run_rest p n bytes (omega arith) in rw t (omega arith))
    (λ t. let d = rw t at within in absurd (omega arith))

pub run_over : (p : ℕ → Bool) (text : List ℕ) (before at names : ℕ) → before ≤ at → at < names →
    (before < names → names ≡ before + prefix_len p (drop before text)) → names ≡ at + prefix_len p (drop at text)
run_over p text before at names order within known =
    let e = known (omega arith) in
    let rest = run_rest p (at - before) (drop before text) (omega arith) in
    let same : drop (at - before) (drop before text) ≡ drop at text =
    drop-drop (at - before) before text ∙ (let i : before + (at - before) ≡ at = omega arith in ap (λ k. drop k text) i) in
    let d = rw same at rest in
    omega arith

pub ruleset name_rules = (prefix_len-le-length)
