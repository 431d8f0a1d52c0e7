-- The words of a text, one after the other.
use Rattle.std.proofs.Common.{◌≡◌, refl, ◌∙◌, ap, sym, ℕ, suc, ◌+◌, ◌≤◌, Bool, true, false, nat_eq, nat_le, nat_lt, if◌then◌else◌, List, [], ◌∷◌, ◌++◌, length, take, drop, Option, Some, None, is_some, arith}
use Rattle.std.proofs.lemmas.Bool.Decides.{nat_tests}
use Rattle.std.proofs.lemmas.Grind.{common_steps}
use Rattle.std.proofs.lemmas.List.{drop-drop}
use Rattle.ir_meaning.specs.Sequence.{◌>>=◌}
use Rattle.source_runs.specs.Words.{number_of, greatest, words_of, with_byte, answers_behind, count_behind, are_few, few, answer_limit, first_end}

-- the words from a place on; none from behind the end
abbrev pub words_from : ℕ → List ℕ → List (List ℕ)
words_from start text = if nat_le start (length text) then words_of (drop start text) else []

-- the words behind a comma at a place
abbrev pub words_behind : ℕ → List ℕ → List (List ℕ)
words_behind end text = if nat_lt end (length text) then words_of (drop (suc end) text) else []

pub first_word-at : (is_comma : Bool) (end byte : ℕ) (bytes : List ℕ) → words_of bytes ≡ take end bytes ∷ words_behind end bytes
    → (if is_comma then [] ∷ words_of bytes else with_byte byte (words_of bytes))
    ≡ take (if is_comma then 0 else suc end) (byte ∷ bytes) ∷ words_behind (if is_comma then 0 else suc end) (byte ∷ bytes)
first_word-at true end byte bytes is =
    let some : true ≡ nat_lt 0 (suc (length bytes)) = grind (arith, nat_tests) in
    ap (λ more. [] ∷ (if more then words_of bytes else [])) some
first_word-at false end byte bytes is =
    let same : nat_lt end (length bytes) ≡ nat_lt (suc end) (suc (length bytes)) = grind (arith, nat_tests) in
    ap (with_byte byte) is ∙ ap (λ more. (byte ∷ take end bytes) ∷ (if more then words_of (drop (suc end) bytes) else [])) same

-- the first word and those behind it
pub first_word : (text : List ℕ) → words_of text ≡ take (first_end text) text ∷ words_behind (first_end text) text
first_word [] = refl
first_word (byte ∷ bytes) = first_word-at (nat_eq byte 44) (first_end bytes) byte bytes (first_word bytes)

pub words_behind-from : (start end : ℕ) (text : List ℕ) → start ≤ length text → words_behind end (drop start text) ≡ words_from (start + (end + 1)) text
words_behind-from start end text within =
    let same : nat_lt end (length (drop start text)) ≡ nat_le (start + (end + 1)) (length text) = grind (arith, nat_tests, common_steps) in
    let place : start + suc end ≡ start + (end + 1) = omega arith in
    ap (λ is. if is then words_of (drop (suc end) (drop start text)) else []) same
    ∙ ap (λ rest. if nat_le (start + (end + 1)) (length text) then words_of rest else [])
    (drop-drop (suc end) start text ∙ ap (λ at. drop at text) (place))

-- the next word and those behind it
pub next_word : (start : ℕ) (text : List ℕ) → start ≤ length text
    → words_from start text ≡ take (first_end (drop start text)) (drop start text) ∷ words_from (start + (first_end (drop start text) + 1)) text
next_word start text within =
    let here : nat_le start (length text) ≡ true = grind (arith, nat_tests) in
    ap (λ is. if is then words_of (drop start text) else []) here ∙ first_word (drop start text)
    ∙ ap (λ rest. take (first_end (drop start text)) (drop start text) ∷ rest) (words_behind-from start (first_end (drop start text)) text within)

-- a step of reading answers: the next word, which stands at the front of the rest
pub next_answer : (text answers rest word : List ℕ) (start size : ℕ) (read : Option ℕ) → start ≤ length text → rest ≡ drop start text
    → word ≡ take (first_end rest) rest → size ≡ first_end rest → read ≡ number_of greatest word
    → answers_behind answers (words_from start text) ≡ (read >>= λ n. answers_behind (answers ++ n ∷ []) (words_from (start + (size + 1)) text))
next_answer text answers rest word start size read within is first long answer =
    let here : word ≡ take (first_end (drop start text)) (drop start text) = first ∙ ap (λ r. take (first_end r) r) is in
    let end : size ≡ first_end (drop start text) = long ∙ ap first_end is in
    ap (answers_behind answers) (next_word start text within)
    ∙ ap (λ w. number_of greatest w >>= λ n. answers_behind (answers ++ n ∷ []) (words_from (start + (first_end (drop start text) + 1)) text)) (sym here)
    ∙ ap (λ o. o >>= λ n. answers_behind (answers ++ n ∷ []) (words_from (start + (first_end (drop start text) + 1)) text)) (sym answer)
    ∙ ap (λ e. read >>= λ n. answers_behind (answers ++ n ∷ []) (words_from (start + (e + 1)) text)) (sym end)

-- a step of counting answers
pub next_count : (text rest word : List ℕ) (count start size : ℕ) (read : Option ℕ) → start ≤ length text → rest ≡ drop start text
    → word ≡ take (first_end rest) rest → size ≡ first_end rest → read ≡ number_of greatest word
    → count_behind count (words_from start text) ≡ (read >>= λ n. count_behind (count + 1) (words_from (start + (size + 1)) text))
next_count text rest word count start size read within is first long answer =
    let here : word ≡ take (first_end (drop start text)) (drop start text) = first ∙ ap (λ r. take (first_end r) r) is in
    let end : size ≡ first_end (drop start text) = long ∙ ap first_end is in
    ap (count_behind count) (next_word start text within)
    ∙ ap (λ w. number_of greatest w >>= λ n. count_behind (count + 1) (words_from (start + (first_end (drop start text) + 1)) text)) (sym here)
    ∙ ap (λ o. o >>= λ n. count_behind (count + 1) (words_from (start + (first_end (drop start text) + 1)) text)) (sym answer)
    ∙ ap (λ e. read >>= λ n. count_behind (count + 1) (words_from (start + (e + 1)) text)) (sym end)

pub is_some-if : {A : Type 0} (is : Bool) (value : A) → is_some (if is then Some value else None) ≡ is
is_some-if true value = refl
is_some-if false value = refl

pub counted_step : (done : List ℕ) (words : List (List ℕ)) (count : ℕ) (read : Option ℕ)
    → ((n : ℕ) → are_few (count_behind (count + 1) words) ≡ is_some (answers_behind (done ++ n ∷ []) words >>= few))
    → are_few (read >>= λ n. count_behind (count + 1) words) ≡ is_some ((read >>= λ n. answers_behind (done ++ n ∷ []) words) >>= few)
counted_step done words count None next = refl
counted_step done words count (Some n) next = next n

-- as many answers are counted as are read
pub counted : (words : List (List ℕ)) (done : List ℕ) (count : ℕ) → count ≡ length done
    → are_few (count_behind count words) ≡ is_some (answers_behind done words >>= few)
counted [] done count is = ap (λ n. nat_le n answer_limit) is ∙ sym (is_some-if (nat_le (length done) answer_limit) done)
counted (word ∷ words) done count is = counted_step done words count (number_of greatest word)
    (λ n. let more : count + 1 ≡ length (done ++ n ∷ []) = grind (arith, common_steps, is) in counted words (done ++ n ∷ []) (count + 1) more)
