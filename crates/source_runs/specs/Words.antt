-- Numbers, and lists of numbers, as the words of a call write them.
use Rattle.std.specs.Prelude.{ℕ, suc, ◌+◌, ◌-◌, ◌^◌, ◌&&◌, nat_eq, nat_le, if◌then◌else◌, List, [], ◌∷◌, ◌++◌, length, codes, bytes_eq, Option, Some, None, Bool, false}
use Rattle.ir_names.specs.Names.{is_decimal, value_of}
use Rattle.ir_meaning.specs.Sequence.{◌>>=◌}

-- the number that a word writes in decimal, without sign and leading zeros, if it isn't more than `most`
abbrev pub number_of : (most : ℕ) → (word : List ℕ) → Option ℕ
number_of most word = if is_decimal word && nat_le (value_of word) most then Some (value_of word) else None

-- the most steps of a run
unfoldable pub step_limit : ℕ
step_limit = 10000000

-- a number of steps
abbrev pub steps_of : List ℕ → Option ℕ
steps_of word = number_of step_limit word

-- the greatest answer
unfoldable pub greatest : ℕ
greatest = 2 ^ 64 - 1

-- the most answers
unfoldable pub answer_limit : ℕ
answer_limit = 10000

-- the first of some words with a byte before it
abbrev pub with_byte : ℕ → List (List ℕ) → List (List ℕ)
with_byte byte [] = (byte ∷ []) ∷ []
with_byte byte (word ∷ words) = (byte ∷ word) ∷ words

-- The words between commas: one more than commas, of which some may be empty. 44 is `,`.
abbrev pub words_of : List ℕ → List (List ℕ)
words_of [] = [] ∷ []
words_of (byte ∷ bytes) = if nat_eq byte 44 then [] ∷ words_of bytes else with_byte byte (words_of bytes)

-- the answers so far, and those that words behind them write; None where one writes none
abbrev pub answers_behind : List ℕ → List (List ℕ) → Option (List ℕ)
answers_behind done [] = Some done
answers_behind done (word ∷ words) = number_of greatest word >>= λ n. answers_behind (done ++ n ∷ []) words

abbrev pub few : List ℕ → Option (List ℕ)
few answers = if nat_le (length answers) answer_limit then Some answers else None

-- The answers that a word writes: none where it is `-`, else numbers with commas between them.
abbrev pub answers_of : List ℕ → Option (List ℕ)
answers_of word = if bytes_eq word (codes "-") then Some [] else answers_behind [] (words_of word) >>= few

-- how many answers stand before words, and in them; None where one writes none
abbrev pub count_behind : ℕ → List (List ℕ) → Option ℕ
count_behind count [] = Some count
count_behind count (word ∷ words) = number_of greatest word >>= λ n. count_behind (count + 1) words

abbrev pub are_few : Option ℕ → Bool
are_few None = false
are_few (Some count) = nat_le count answer_limit

-- where the first word ends: at a comma, or at the end
abbrev pub first_end : List ℕ → ℕ
first_end [] = 0
first_end (byte ∷ bytes) = if nat_eq byte 44 then 0 else suc (first_end bytes)
