-- Before a parting byte no token is longer than the one that stands there.
use Rattle.std.proofs.Common.{◌≡◌, ℕ, ◌+◌, ◌<◌, ◌≤◌, Bool, true, false, not, ◌==◌, nat_lt, inl, inr, Some, List, [], ◌∷◌, ◌++◌, length, length-append, refl, ap, sym, subst, ◌∙◌, append_assoc, arith}
use Rattle.std.specs.Prelude.{⊤}
use Rattle.std.specs.List.{list_all}
use Rattle.std.proofs.lemmas.Bool.Decides.{nat_tests}
use Rattle.std.proofs.lemmas.List.{append_cancel_left}
use Rattle.ir_lex.specs.declared.token.Kind.{Kind}
use Rattle.ir_lex.specs.declared.token.Kind.TheVariants.{Label, Mark}
use Rattle.ir_lex.specs.Letters.{is_of, is_mark}
use Rattle.ir_lex.specs.Languages.{IsOne, IsByte, IsMany, IsThen}
use Rattle.ir_lex.specs.Lengths.{quoted}
use Rattle.ir_lex.specs.Kinds.{IsQuoted, Is, row}
use Rattle.ir_lex.proofs.CaseSplits.{test}
use Rattle.ir_lex.proofs.LengthLaws.{NotFirst}
use Rattle.ir_lex.proofs.KindLaws.{of_apart, quoted_exact}
use Rattle.ir_lex.proofs.ChoiceLaws.{row_same}
use Rattle.printed_tokens.proofs.ShapeLemmas.{parting, inner, IsShape, shaped, shaped_label}

-- nothing, or a blank or a mark first
abbrev pub Parted : List ℕ → Type 0
Parted [] = ⊤
Parted (b ∷ bytes) = is_of parting b ≡ true

parted_not : (q : ℕ → Bool) → list_all (λ b. not (q b)) parting ≡ true → (rest : List ℕ) → Parted rest → NotFirst q rest
parted_not q all [] is = tt
parted_not q all (b ∷ rest) is = of_apart parting q all b is

-- neither a byte that goes on nor a quote
pub record Ends (rest : List ℕ) : Type 0 where
  pub inner_not : NotFirst inner rest
  pub quote_not : NotFirst (λ b. b == 34) rest

parted_ends : (rest : List ℕ) → Parted rest → Ends rest
parted_ends rest is = record {
  inner_not = parted_not inner refl rest is;
  quote_not = parted_not (λ b. b == 34) refl rest is;
}

pub colon_ends : (rest : List ℕ) → Ends (58 ∷ rest)
colon_ends rest = record { inner_not = refl; quote_not = refl }

-- the head and the tail of texts that are split in two ways

head_same : (b c : ℕ) (xs ys : List ℕ) → (b ∷ xs) ≡ (c ∷ ys) → b ≡ c
head_same b c xs ys e = cc

tail_same : (b c : ℕ) (xs ys : List ℕ) → (b ∷ xs) ≡ (c ∷ ys) → xs ≡ ys
tail_same b c xs ys e = cc

clash : (v : Bool) → v ≡ true → v ≡ false → ⊥
clash true e d = cc
clash false e d = cc

-- a test can't pass at a byte and refuse the same byte
byte_clash : (p : ℕ → Bool) (b c : ℕ) → b ≡ c → p b ≡ false → p c ≡ true → ⊥
byte_clash p b c same refused passed = let P : ℕ → Type 0 = λ d. p d ≡ false in clash (p c) passed (subst P same refused)

pub all_head : (p : ℕ → Bool) (b : ℕ) (bytes : List ℕ) → list_all p (b ∷ bytes) ≡ true → p b ≡ true
all_head p b bytes all = test (p b) (λ t. t) (λ t. absurd (let h = rw t at all in cc))

all_tail : (p : ℕ → Bool) (b : ℕ) (bytes : List ℕ) → list_all p (b ∷ bytes) ≡ true → list_all p bytes ≡ true
all_tail p b bytes all = test (p b) (λ t. let h = rw t at all in h) (λ t. absurd (let h = rw t at all in cc))

-- bytes that go on stop where others begin
bare_most : (bytes rest front back : List ℕ) → list_all inner front ≡ true → NotFirst inner rest →
    bytes ++ rest ≡ front ++ back → length front ≤ length bytes
bare_most bytes rest [] back all stop e = omega arith
bare_most [] [] (b ∷ front) back all stop e = absurd cc
bare_most [] (c ∷ rest) (b ∷ front) back all stop e =
    absurd (byte_clash inner c b (head_same c b rest (front ++ back) e) stop (all_head inner b front all))
bare_most (c ∷ bytes) rest (b ∷ front) back all stop e =
    let more = bare_most bytes rest front back (all_tail inner b front all) stop (tail_same c b (bytes ++ rest) (front ++ back) e) in
    omega arith

-- no quote stands within bytes that go on, nor behind them where they end
no_quote : (bytes rest front more : List ℕ) → list_all inner bytes ≡ true → list_all inner front ≡ true → Ends rest →
    bytes ++ rest ≡ front ++ 34 ∷ more → ⊥
no_quote [] [] [] more all others ends e = cc
no_quote [] [] (b ∷ front) more all others ends e = cc
no_quote [] (c ∷ rest) [] more all others ends e =
    byte_clash (λ b. b == 34) c 34 (head_same c 34 rest more e) ends.quote_not refl
no_quote [] (c ∷ rest) (b ∷ front) more all others ends e =
    byte_clash inner c b (head_same c b rest (front ++ 34 ∷ more) e) ends.inner_not (all_head inner b front others)
no_quote (c ∷ bytes) rest [] more all others ends e =
    byte_clash inner 34 c (sym (head_same c 34 (bytes ++ rest) more e)) refl (all_head inner c bytes all)
no_quote (c ∷ bytes) rest (b ∷ front) more all others ends e =
    no_quote bytes rest front more (all_tail inner c bytes all) (all_tail inner b front others) ends
    (tail_same c b (bytes ++ rest) (front ++ 34 ∷ more) e)

-- the first quotes of one text stand at one place
same_front : (front more other rest : List ℕ) → list_all inner front ≡ true → list_all inner other ≡ true →
    front ++ 34 ∷ more ≡ other ++ 34 ∷ rest → front ≡ other
same_front [] more [] rest all others e = refl
same_front [] more (b ∷ other) rest all others e =
    absurd (byte_clash inner 34 b (head_same 34 b more (other ++ 34 ∷ rest) e) refl (all_head inner b other others))
same_front (c ∷ front) more [] rest all others e =
    absurd (byte_clash inner 34 c (sym (head_same c 34 (front ++ 34 ∷ more) rest e)) refl (all_head inner c front all))
same_front (c ∷ front) more (b ∷ other) rest all others e =
    let head = head_same c b (front ++ 34 ∷ more) (other ++ 34 ∷ rest) e in
    let tail = same_front front more other rest (all_tail inner c front all) (all_tail inner b other others)
    (tail_same c b (front ++ 34 ∷ more) (other ++ 34 ∷ rest) e) in
    cc

pub byte_front : (c : ℕ) (bytes : List ℕ) → IsByte c bytes → bytes ≡ c ∷ []
byte_front c (b ∷ []) is = let e : b ≡ c = grind (arith, nat_tests) in rw e refl
byte_front c _ is = absurd is

pub behind_byte : (c : ℕ) (Q : List ℕ → Type 0) (bytes : List ℕ) → (is : IsThen (IsByte c) Q bytes) → bytes ≡ c ∷ is.back
behind_byte c Q bytes is = is.joined ∙ ap (λ front. front ++ is.back) (byte_front c is.front is.first)

-- a text with a quoted one at the end, with what follows
at_quote : (bytes rest : List ℕ) → (is : IsThen (IsMany inner) IsQuoted bytes) →
    bytes ++ rest ≡ is.front ++ 34 ∷ (is.second.back ++ rest)
at_quote bytes rest is =
    rw (is.joined, behind_byte 34 (IsThen (IsMany (λ b. not (b == 34))) (IsByte 34)) is.back is.second)
    (append_assoc is.front (34 ∷ is.second.back) rest)

-- two quoted texts at the front of one text are one
quoted_same : (bytes rest front back : List ℕ) → IsQuoted bytes → IsQuoted front → bytes ++ rest ≡ front ++ back →
    length front ≡ length bytes
quoted_same bytes rest front back is other e =
    let a = quoted_exact bytes rest is tt in
    let b : quoted (bytes ++ rest) ≡ Some (length front) = rw e (quoted_exact front back other tt) in
    cc

both_quoted : (bytes rest front back : List ℕ) → IsThen (IsMany inner) IsQuoted bytes → IsThen (IsMany inner) IsQuoted front →
    bytes ++ rest ≡ front ++ back → length front ≡ length bytes
both_quoted bytes rest front back is other e =
    let same = same_front is.front (is.second.back ++ rest) other.front (other.second.back ++ back) is.first other.first
    (sym (at_quote bytes rest is) ∙ e ∙ at_quote front back other) in
    let a : bytes ++ rest ≡ is.front ++ (is.back ++ rest) = rw is.joined (append_assoc is.front is.back rest) in
    let b : front ++ back ≡ is.front ++ (other.back ++ back) = rw (other.joined, same) (append_assoc other.front other.back back) in
    let tails = append_cancel_left is.front (is.back ++ rest) (other.back ++ back) (sym a ∙ e ∙ b) in
    let len = quoted_same is.back rest other.back back is.second other.second tails in
    let first = length-append is.front is.back in
    let second = length-append other.front other.back in
    rw (is.joined, other.joined) (let d : length is.front ≡ length other.front = ap length same in omega arith)

shape_most : (bytes rest front back : List ℕ) → IsShape bytes → IsShape front → Ends rest → bytes ++ rest ≡ front ++ back →
    length front ≤ length bytes
shape_most bytes rest front back (inl all) (inl others) ends e = bare_most bytes rest front back others ends.inner_not e
shape_most bytes rest front back (inl all) (inr other) ends e =
    absurd (no_quote bytes rest other.front (other.second.back ++ back) all other.first ends (e ∙ at_quote front back other))
shape_most bytes rest front back (inr is) (inl others) ends e =
    let most = bare_most is.front (34 ∷ (is.second.back ++ rest)) front back others refl (sym (at_quote bytes rest is) ∙ e) in
    let size : length bytes ≡ length is.front + length is.back = rw is.joined (length-append is.front is.back) in
    omega arith
shape_most bytes rest front back (inr is) (inr other) ends e =
    let same = both_quoted bytes rest front back is other e in omega arith

pub one_length : (p : ℕ → Bool) (bytes : List ℕ) → IsOne p bytes → length bytes ≡ 1
one_length p (b ∷ []) is = omega arith
one_length p _ is = absurd is

-- but for labels
pub other_most : (bytes rest : List ℕ) → IsShape bytes → 0 < length bytes → Ends rest → (j : Kind) → (row j == 1) ≡ false →
    (front back : List ℕ) → Is j front → bytes ++ rest ≡ front ++ back → length front ≤ length bytes
other_most bytes rest shape some ends j no_label front back is e =
    test (row j == 14)
    (λ t. let P : Kind → Type 0 = λ k. Is k front in
    let one = one_length is_mark front (subst P (row_same j Mark t) is) in omega arith)
    (λ t. shape_most bytes rest front back shape (shaped j no_label t front is) ends e)

no_colon : (bytes rest front back : List ℕ) → length front ≡ length bytes → NotFirst (λ b. b == 58) rest →
    bytes ++ rest ≡ front ++ 58 ∷ back → ⊥
no_colon [] [] [] back same stop e = cc
no_colon [] (c ∷ rest) [] back same stop e = byte_clash (λ b. b == 58) c 58 (head_same c 58 rest back e) stop refl
no_colon [] rest (b ∷ front) back same stop e = absurd (omega arith)
no_colon (c ∷ bytes) rest [] back same stop e = absurd (omega arith)
no_colon (c ∷ bytes) rest (b ∷ front) back same stop e =
    no_colon bytes rest front back (omega arith) stop (tail_same c b (bytes ++ rest) (front ++ 58 ∷ back) e)

-- a label, up to its colon

pub label_is : (bytes : List ℕ) → (is : Is Label bytes) → bytes ≡ is.front ++ 58 ∷ []
label_is bytes is = is.joined ∙ ap (λ back. is.front ++ back) (byte_front 58 is.back is.second)

pub label_with : (bytes rest : List ℕ) → (is : Is Label bytes) → bytes ++ rest ≡ is.front ++ 58 ∷ rest
label_with bytes rest is = rw (label_is bytes is) (append_assoc is.front (58 ∷ []) rest)

pub label_length : (bytes : List ℕ) → (is : Is Label bytes) → length bytes ≡ length is.front + 1
label_length bytes is = rw (label_is bytes is) (length-append is.front (58 ∷ []))

pub label_most : (bytes rest : List ℕ) → IsShape bytes → Ends rest → (front back : List ℕ) → (is : Is Label front) →
    bytes ++ rest ≡ front ++ back → length is.front ≤ length bytes
label_most bytes rest shape ends front back is e =
    shape_most bytes rest is.front (58 ∷ back) shape (shaped_label is.front is.first) ends (e ∙ label_with front back is)

-- before a parting byte
pub loose_most : (bytes rest : List ℕ) → IsShape bytes → 0 < length bytes → Parted rest →
    (j : Kind) (front back : List ℕ) → Is j front → bytes ++ rest ≡ front ++ back → length front ≤ length bytes
loose_most bytes rest shape some parted j front back is e =
    test (row j == 1)
    (λ t. let P : Kind → Type 0 = λ k. Is k front in
    let label = subst P (row_same j Label t) is in
    let most = label_most bytes rest shape (parted_ends rest parted) front back label e in
    let size = label_length front label in
    test (nat_lt (length label.front) (length bytes))
    (λ s. grind (arith, nat_tests))
    (λ s. let same : length label.front ≡ length bytes = grind (arith, nat_tests) in
    let stop = parted_not (λ b. b == 58) refl rest parted in
    absurd (no_colon bytes rest label.front back same stop (e ∙ label_with front back label))))
    (λ t. other_most bytes rest shape some (parted_ends rest parted) j t front back is e)
