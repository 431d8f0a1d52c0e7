-- The name that a line has for a file.
use Rattle.std.proofs.Common.{◌≡◌, ◌≢◌, ℕ, zero, suc, ◌-◌, List, [], ◌++◌, map, lit<, Option, option_map, unwrap_or, slice_get, codes, refl, ap, ◌∙◌, arith}
use Rattle.std.proofs.lemmas.Option.{slice_get-map}
use Rattle.std.proofs.lemmas.Fmt.{decimal_digit}
use Rattle.ltt_base.specs.Lines.{file_name, refusal_line}
use Rattle.ltt_driver.specs.Outcome.{limit_refusal}

pub named : {A : Type 0} (f : A → List ℕ) (names : List A) (file : ℕ) (found : Option A)
    → file ≢ 0 → slice_get names (file - 1) ≡ found → file_name (map f names) file ≡ unwrap_or (option_map f found) (codes "-")
named f names zero found some is = absurd (some refl)
named f names (suc k) found some is =
    let same : k ≡ suc k - 1 = omega arith in
    ap (λ o. unwrap_or o (codes "-")) (slice_get-map f names k ∙ ap (option_map f) (ap (slice_get names) same ∙ is))

-- the line of the limit of files
pub files_text : refusal_line [] (limit_refusal 0 (codes "files")) ≡ codes "ltt: E12 -:0:0: files\n"
unfolding refusal_line
files_text = ap (λ zero. codes "ltt: E12 -:" ++ zero ++ codes ":" ++ zero ++ codes ": " ++ codes "files" ++ codes "\n") (decimal_digit 0 (lit< tt))
