-- Words of answers and the answers that they write stand for each other.
use Rattle.std.proofs.Common.{◌≡◌, refl, sym, ◌∙◌, ap, subst, ℕ, ◌^◌, ◌<◌, ◌≤◌, Bool, true, false, ◌&&◌, nat_eq, nat_le, if◌then◌else◌, List, [], ◌∷◌, ◌++◌, length, map, decimal, Option, Some, None, arith, append_assoc, append-nil}
use Rattle.std.specs.List.{list_all, flat_map, All}
use Rattle.std.specs.Str.{bytes_eq}
use Rattle.std.proofs.lemmas.Bool.Decides.{nat_tests}
use Rattle.std.proofs.lemmas.List.Elements.{All-nil, All-cons, All-head, All-tail}
use Rattle.std.proofs.lemmas.Fmt.{digits_decimal, decimal_nonempty}
use Rattle.std.proofs.lemmas.Slice.Eq.{bytes_eq-Decides}
use Rattle.ir_meaning.specs.Sequence.{◌>>=◌}
use Rattle.ir_names.specs.Names.{is_digit}
use Rattle.source_runs.specs.Words.{number_of, greatest, answer_limit, with_byte, words_of, answers_behind, few}
use Rattle.source_runs.specs.Laws.{answers_word, AreAnswers, AnswersAreRead, OnlyAnswersAreRead}
use Rattle.source_runs.proofs.WordLemmas.{first_word}
use Rattle.source_runs.proofs.NumberLaws.{numerals, decimals_are_read, only_decimals_are_read}

abbrev IsSmall : ℕ → Type 0
IsSmall n = n < 2 ^ 64

-- a digit is neither `,` nor `-`
digit-other : (c : ℕ) (ds : List ℕ) → list_all is_digit (c ∷ ds) ≡ true → (nat_eq c 44 ≡ false) × (nat_eq c 45 ≡ false) × (list_all is_digit ds ≡ true)
unfolding is_digit
digit-other c ds all = (grind (arith, nat_tests), grind (arith, nat_tests), grind (arith, nat_tests))

words_of-first : (ds rest : List ℕ) → list_all is_digit ds ≡ true → words_of (ds ++ 44 ∷ rest) ≡ ds ∷ words_of rest
words_of-first [] rest all = refl
words_of-first (c ∷ ds) rest all =
    let is = digit-other c ds all in
    ap (λ comma. if comma then [] ∷ words_of (ds ++ 44 ∷ rest) else with_byte c (words_of (ds ++ 44 ∷ rest))) is.0
    ∙ ap (with_byte c) (words_of-first ds rest is.2)

words_of-last : (ds : List ℕ) → list_all is_digit ds ≡ true → words_of ds ≡ ds ∷ []
words_of-last [] all = refl
words_of-last (c ∷ ds) all =
    let is = digit-other c ds all in
    ap (λ comma. if comma then [] ∷ words_of ds else with_byte c (words_of ds)) is.0 ∙ ap (with_byte c) (words_of-last ds is.2)

words_of-decimals : (n : ℕ) (ns : List ℕ) → IsSmall n → All IsSmall ns
    → words_of (decimal n ++ flat_map (λ m. 44 ∷ decimal m) ns) ≡ decimal n ∷ map decimal ns
words_of-decimals n [] small all = ap words_of (append-nil (decimal n)) ∙ words_of-last (decimal n) (digits_decimal numerals n small)
words_of-decimals n (m ∷ ns) small all =
    words_of-first (decimal n) (decimal m ++ flat_map (λ k. 44 ∷ decimal k) ns) (digits_decimal numerals n small)
    ∙ ap (λ words. decimal n ∷ words) (words_of-decimals m ns (All-head IsSmall m ns all) (All-tail IsSmall m ns all))

small-within : (n : ℕ) → IsSmall n → n ≤ greatest
unfolding greatest
small-within n small = omega arith

greatest-small : greatest < 2 ^ 64
unfolding greatest
greatest-small = omega arith

answers_behind-decimals : (done ns : List ℕ) → All IsSmall ns → answers_behind done (map decimal ns) ≡ Some (done ++ ns)
answers_behind-decimals done [] all = ap Some (sym (append-nil done))
answers_behind-decimals done (n ∷ ns) all =
    let small = All-head IsSmall n ns all in
    ap (λ read. read >>= λ m. answers_behind (done ++ m ∷ []) (map decimal ns)) (decimals_are_read greatest n greatest-small (small-within n small))
    ∙ answers_behind-decimals (done ++ n ∷ []) ns (All-tail IsSmall n ns all)
    ∙ ap Some (append_assoc done (n ∷ []) ns)

-- the word of a number is no `-`
no_dash : (ds rest : List ℕ) → list_all is_digit ds ≡ true → 0 < length ds → bytes_eq (ds ++ rest) (45 ∷ []) ≡ false
no_dash [] rest all some = absurd (omega arith)
no_dash (c ∷ ds) rest all some = ap (λ is. is && bytes_eq (ds ++ rest) []) ((digit-other c ds all).1)

few-as : (answers : List ℕ) → length answers ≤ answer_limit → few answers ≡ Some answers
few-as answers within = let is : nat_le (length answers) answer_limit ≡ true = grind (arith, nat_tests) in
    ap (λ b. if b then Some answers else None) is

pub answers_are_read : AnswersAreRead
answers_are_read [] are = refl
answers_are_read (n ∷ ns) are =
    let small = All-head IsSmall n ns are.1 in
    let rest = flat_map (λ m. 44 ∷ decimal m) ns in
    let word = decimal n ++ rest in
    ap (λ is. if is then Some [] else answers_behind [] (words_of word) >>= few)
    (no_dash (decimal n) rest (digits_decimal numerals n small) (decimal_nonempty n small))
    ∙ ap (λ words. answers_behind [] words >>= few) (words_of-decimals n ns small (All-tail IsSmall n ns are.1))
    ∙ ap (λ read. read >>= few) (answers_behind-decimals [] (n ∷ ns) are.1) ∙ few-as (n ∷ ns) are.0

-- words with commas between them
abbrev pub rejoined : List (List ℕ) → List ℕ
rejoined [] = []
rejoined (word ∷ words) = word ++ flat_map (λ w. 44 ∷ w) words

rejoined-with : (c : ℕ) (words : List (List ℕ)) → rejoined (with_byte c words) ≡ c ∷ rejoined words
rejoined-with c [] = refl
rejoined-with c (word ∷ words) = refl

rejoined-at : (comma : Bool) (c : ℕ) (bytes : List ℕ) → nat_eq c 44 ≡ comma → rejoined (words_of bytes) ≡ bytes
    → rejoined (if comma then [] ∷ words_of bytes else with_byte c (words_of bytes)) ≡ c ∷ bytes
rejoined-at true c bytes is e =
    let same : c ≡ 44 = grind (arith, nat_tests) in
    let words = first_word bytes in
    ap (λ ws. flat_map (λ w. 44 ∷ w) ws) words ∙ ap (λ ws. 44 ∷ rejoined ws) (sym words) ∙ ap (λ rest. 44 ∷ rest) e ∙ ap (λ b. b ∷ bytes) (sym same)
rejoined-at false c bytes is e = rejoined-with c (words_of bytes) ∙ ap (λ rest. c ∷ rest) e

rejoined-words : (bytes : List ℕ) → rejoined (words_of bytes) ≡ bytes
rejoined-words [] = refl
rejoined-words (c ∷ bytes) = rejoined-at (nat_eq c 44) c bytes refl (rejoined-words bytes)

-- words write numbers, which stand behind those that are done
record Reads (done : List ℕ) (words : List (List ℕ)) (answers : List ℕ) : Type 0 where
  numbers : List ℕ
  all : answers ≡ done ++ numbers
  decimals : words ≡ map decimal numbers
  small : All IsSmall numbers

Some-same : {X : Type 0} (x y : X) → Some x ≡ Some y → x ≡ y
Some-same x y e = cc

reads-at : (read : Option ℕ) (done word : List ℕ) (words : List (List ℕ)) (answers : List ℕ)
    → ((before : List ℕ) → answers_behind before words ≡ Some answers → Reads before words answers)
    → number_of greatest word ≡ read → (read >>= λ n. answers_behind (done ++ n ∷ []) words) ≡ Some answers → Reads done (word ∷ words) answers
reads-at None done word words answers next is e = absurd (cc)
reads-at (Some n) done word words answers next is e =
    let r = next (done ++ n ∷ []) e in
    let written = only_decimals_are_read greatest n word greatest-small is in
    record {
      numbers = n ∷ r.numbers;
      all = r.all ∙ append_assoc done (n ∷ []) r.numbers;
      decimals = ap (λ w. w ∷ words) written.1 ∙ ap (λ ws. decimal n ∷ ws) r.decimals;
      small = All-cons IsSmall n r.numbers (omega (arith, written.0, greatest-small)) r.small;
    }

reads : (done : List ℕ) (words : List (List ℕ)) (answers : List ℕ) → answers_behind done words ≡ Some answers → Reads done words answers
reads done [] answers e = record { numbers = []; all = sym (Some-same done answers e) ∙ sym (append-nil done); decimals = refl; small = All-nil IsSmall }
reads done (word ∷ words) answers e =
    reads-at (number_of greatest word) done word words answers (λ before is. reads before words answers is) refl e

flat_map-decimals : (ns : List ℕ) → flat_map (λ w. 44 ∷ w) (map decimal ns) ≡ flat_map (λ m. 44 ∷ decimal m) ns
flat_map-decimals [] = refl
flat_map-decimals (n ∷ ns) = ap (λ rest. 44 ∷ (decimal n ++ rest)) (flat_map-decimals ns)

from_few : (answers ns : List ℕ) → few answers ≡ Some ns → (length answers ≤ answer_limit) × (answers ≡ ns)
from_few answers ns e = grind (arith, nat_tests)

no_words : (word : List ℕ) → words_of word ≡ [] → ⊥
no_words word e = cc (e, first_word word)

written : (word ns : List ℕ) → words_of word ≡ map decimal ns → word ≡ answers_word ns
written word [] e = absurd (no_words word e)
written word (n ∷ ns) e = sym (rejoined-words word) ∙ ap rejoined e ∙ ap (λ rest. decimal n ++ rest) (flat_map-decimals ns)

only_listed : (read : Option (List ℕ)) (answers word : List ℕ) → answers_behind [] (words_of word) ≡ read → (read >>= few) ≡ Some answers
    → AreAnswers answers × (word ≡ answers_word answers)
only_listed None answers word is e = absurd (cc)
only_listed (Some ns) answers word is e =
    let r = reads [] (words_of word) ns is in
    let f = from_few ns answers e in
    let same : answers ≡ r.numbers = sym f.1 ∙ r.all in
    subst (λ xs. AreAnswers xs × (word ≡ answers_word xs)) (sym same)
    ((omega (arith, f.0, ap length r.all), r.small), written word r.numbers r.decimals)

bytes_same : (xs ys : List ℕ) → bytes_eq xs ys ≡ true → xs ≡ ys
bytes_same xs ys is = grind (arith, bytes_eq-Decides)

no_answers : AreAnswers []
unfolding answer_limit
no_answers = (omega arith, All-nil IsSmall)

only_at : (dash : Bool) (answers word : List ℕ) → bytes_eq word (45 ∷ []) ≡ dash
    → (if dash then Some [] else answers_behind [] (words_of word) >>= few) ≡ Some answers → AreAnswers answers × (word ≡ answers_word answers)
only_at true answers word is e =
    let none : [] ≡ answers = Some-same [] answers e in
    subst (λ xs. AreAnswers xs × (word ≡ answers_word xs)) none (no_answers, bytes_same word (45 ∷ []) is)
only_at false answers word is e = only_listed (answers_behind [] (words_of word)) answers word refl e

pub only_answers_are_read : OnlyAnswersAreRead
only_answers_are_read answers word e = only_at (bytes_eq word (45 ∷ [])) answers word refl e
