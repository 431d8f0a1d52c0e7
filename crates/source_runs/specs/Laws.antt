-- That words are read exactly where numbers and answers write them.
use Rattle.std.specs.Prelude.{◌≡◌, ℕ, ◌^◌, ◌<◌, ◌≤◌, List, [], ◌∷◌, ◌++◌, length, All, codes, decimal, flat_map, Some}
use Rattle.source_runs.specs.Words.{number_of, answers_of, answer_limit}

-- the decimal of a number up to `most` is read as the number
abbrev pub DecimalsAreRead : Type 0
DecimalsAreRead = (most n : ℕ) → most < 2 ^ 64 → n ≤ most → number_of most (decimal n) ≡ Some n

-- and nothing else is
abbrev pub OnlyDecimalsAreRead : Type 0
OnlyDecimalsAreRead = (most n : ℕ) (word : List ℕ) → most < 2 ^ 64 → number_of most word ≡ Some n → (n ≤ most) × (word ≡ decimal n)

-- `-` for no answers, else their decimals with commas between them
abbrev pub answers_word : List ℕ → List ℕ
answers_word [] = codes "-"
answers_word (n ∷ ns) = decimal n ++ flat_map (λ m. codes "," ++ decimal m) ns

abbrev pub AreAnswers : List ℕ → Type 0
AreAnswers answers = (length answers ≤ answer_limit) × All (λ n. n < 2 ^ 64) answers

-- the word of answers is read as them
abbrev pub AnswersAreRead : Type 0
AnswersAreRead = (answers : List ℕ) → AreAnswers answers → answers_of (answers_word answers) ≡ Some answers

-- and nothing else is
abbrev pub OnlyAnswersAreRead : Type 0
OnlyAnswersAreRead = (answers word : List ℕ) → answers_of word ≡ Some answers → AreAnswers answers × (word ≡ answers_word answers)
