-- What is apart is so of every token.
use Rattle.std.proofs.Common.{◌≡◌, ℕ, Bool, true, false, not, ◌&&◌, ◌||◌, inl, inr, List, [], ◌∷◌, ◌++◌, map, nat_eq, bytes_eq, Option, Some, None, refl, ap, ◌∙◌, sym, arith}
use Rattle.std.proofs.lemmas.Bool.Decides.{nat_tests}
use Rattle.std.proofs.lemmas.Slice.Eq.{bytes_eq-Decides}
use Rattle.std.proofs.lemmas.List.Folds.{list_any-append}
use Rattle.std.specs.List.{list_all, list_any}
use Rattle.ir_lex.specs.Kinds.{row}
use Rattle.unit_grammar.specs.Pieces.{Piece}
use Rattle.unit_grammar.specs.Signs.{Which, whatever, one_of, numbered, unnumbered, fits, is_numbered, excludes, Sign, is_kind, passes, apart, Start, goes_on, begins, begins_any, seconds_apart, starts_apart, all_apart}
use Rattle.unit_grammar.specs.Beginnings.{one_sign, two_signs}
use Rattle.unit_grammar.proofs.BoolLemmas.{and_both, and_true, and_first, and_second, or_either, or_neither, or_first, or_second, or_none, not_true, is_false, not_both}

-- what holds of all texts holds of one of them
any_all : (p : List ℕ → Bool) (bytes : List ℕ) (texts : List (List ℕ)) → list_any (bytes_eq bytes) texts ≡ true → list_all p texts ≡ true → p bytes ≡ true
any_all p bytes [] any all = absurd cc
any_all p bytes (text ∷ texts) any all =
    let (here, rest) = and_both (p text) (list_all p texts) all in
    elim (or_either (bytes_eq bytes text) (list_any (bytes_eq bytes) texts) any) [
      | inl same ↦ let e = (bytes_eq-Decides bytes text).0 same in ap p e ∙ here
      | inr later ↦ any_all p bytes texts later rest
    ]

none_fits : (p : List ℕ → Bool) (bytes : List ℕ) (texts : List (List ℕ)) → list_all p texts ≡ true → p bytes ≡ false → list_any (bytes_eq bytes) texts ≡ false
none_fits p bytes texts all none = is_false _ (λ any. not_both (p bytes) (any_all p bytes texts any all) none)

one_excludes : (v : Which) (bytes : List ℕ) (texts : List (List ℕ)) → list_all (λ text. not (fits v text)) texts ≡ true →
    list_any (bytes_eq bytes) texts ≡ true → fits v bytes ≡ false
one_excludes v bytes texts all any = not_true (fits v bytes) (any_all (λ text. not (fits v text)) bytes texts any all)

numbered_as : (first other : ℕ) (bytes : List ℕ) → nat_eq first other ≡ true → is_numbered first bytes ≡ is_numbered other bytes
numbered_as first other bytes e = let same : first ≡ other = grind (arith, nat_tests) in ap (λ b. is_numbered b bytes) same

excluded : (w v : Which) (bytes : List ℕ) → excludes w v ≡ true → fits w bytes ≡ true → fits v bytes ≡ false
excluded (one_of texts) v bytes e f = one_excludes v bytes texts e f
excluded whatever whatever bytes e f = absurd cc
excluded whatever (one_of texts) bytes e f = absurd cc
excluded whatever (numbered other) bytes e f = absurd cc
excluded whatever (unnumbered other) bytes e f = absurd cc
excluded (numbered first) whatever bytes e f = absurd cc
excluded (numbered first) (one_of texts) bytes e f = none_fits (λ text. not (is_numbered first text)) bytes texts e (rw f refl)
excluded (numbered first) (numbered other) bytes e f = absurd cc
excluded (numbered first) (unnumbered other) bytes e f = rw (← numbered_as first other bytes e, f) refl
excluded (unnumbered first) whatever bytes e f = absurd cc
excluded (unnumbered first) (one_of texts) bytes e f = none_fits (is_numbered first) bytes texts e (not_true (is_numbered first bytes) f)
excluded (unnumbered first) (numbered other) bytes e f = sym (numbered_as first other bytes e) ∙ not_true (is_numbered first bytes) f
excluded (unnumbered first) (unnumbered other) bytes e f = absurd cc

rows_apart : (n i j : ℕ) → not (nat_eq i j) ≡ true → nat_eq n i ≡ true → nat_eq n j ≡ false
rows_apart n i j e f = grind (arith, nat_tests)

pub signs_apart : (s r : Sign) (t : Piece) → apart s r ≡ true → passes s t ≡ true → passes r t ≡ false
signs_apart s r t e f =
    let (kind, fit) = and_both (is_kind s.kind t) (fits s.which t.bytes) f in
    elim (or_either (not (nat_eq (row s.kind) (row r.kind))) (excludes s.which r.which) e) [
      | inl kinds ↦ and_first _ _ (rows_apart (row t.kind) (row s.kind) (row r.kind) kinds kind)
      | inr bytes ↦ and_second _ _ (excluded s.which r.which t.bytes bytes fit)
    ]

seconds : (s r : Option Sign) (ts : List Piece) → seconds_apart s r ≡ true → goes_on s ts ≡ true → goes_on r ts ≡ false
seconds None r ts e f = absurd cc
seconds (Some s) None ts e f = absurd cc
seconds (Some s) (Some r) [] e f = refl
seconds (Some s) (Some r) (t ∷ ts) e f = signs_apart s r t e f

start_apart : (s r : Start) (ts : List Piece) → starts_apart s r ≡ true → begins s ts ≡ true → begins r ts ≡ false
start_apart s r [] e f = refl
start_apart s r (t ∷ ts) e f =
    let (first, second) = and_both (passes s.first t) (goes_on s.second ts) f in
    elim (or_either (apart s.first r.first) (seconds_apart s.second r.second) e) [
      | inl h ↦ and_first _ _ (signs_apart s.first r.first t h first)
      | inr h ↦ and_second _ _ (seconds s.second r.second ts h second)
    ]

one_apart : (s : Start) (others : List Start) (ts : List Piece) → list_all (starts_apart s) others ≡ true → begins s ts ≡ true → begins_any others ts ≡ false
one_apart s [] ts e f = refl
one_apart s (r ∷ others) ts e f =
    let (here, rest) = and_both (starts_apart s r) (list_all (starts_apart s) others) e in
    or_none _ _ (start_apart s r ts here f) (one_apart s others ts rest f)

pub never_both : (starts others : List Start) (ts : List Piece) → all_apart starts others ≡ true → begins_any starts ts ≡ true → begins_any others ts ≡ false
never_both [] others ts e f = absurd cc
never_both (s ∷ starts) others ts e f =
    let (here, rest) = and_both (list_all (starts_apart s) others) (all_apart starts others) e in
    elim (or_either (begins s ts) (begins_any starts ts) f) [
      | inl h ↦ one_apart s others ts here h
      | inr h ↦ never_both starts others ts rest h
    ]

-- the same the other way round
pub never_other : (starts others : List Start) (ts : List Piece) → all_apart starts others ≡ true → begins_any others ts ≡ true → begins_any starts ts ≡ false
never_other starts others ts e f = is_false _ (λ g. not_both _ f (never_both starts others ts e g))

-- what begins so still does where more follows
goes_longer : (s : Option Sign) (ts rest : List Piece) → goes_on s ts ≡ true → goes_on s (ts ++ rest) ≡ true
goes_longer None ts rest e = refl
goes_longer (Some s) [] rest e = absurd cc
goes_longer (Some s) (t ∷ ts) rest e = e

begins_longer : (s : Start) (ts rest : List Piece) → begins s ts ≡ true → begins s (ts ++ rest) ≡ true
begins_longer s [] rest e = absurd cc
begins_longer s (t ∷ ts) rest e =
    let (first, second) = and_both (passes s.first t) (goes_on s.second ts) e in
    and_true _ _ first (goes_longer s.second ts rest second)

pub any_longer : (starts : List Start) (ts rest : List Piece) → begins_any starts ts ≡ true → begins_any starts (ts ++ rest) ≡ true
any_longer [] ts rest e = absurd cc
any_longer (s ∷ starts) ts rest e =
    elim (or_either (begins s ts) (begins_any starts ts) e) [
      | inl h ↦ or_first _ _ (begins_longer s ts rest h)
      | inr h ↦ or_second (begins s (ts ++ rest)) _ (any_longer starts ts rest h)
    ]

-- of two lists of beginnings
pub any_first : (starts others : List Start) (ts : List Piece) → begins_any starts ts ≡ true → begins_any (starts ++ others) ts ≡ true
any_first starts others ts e = list_any-append (λ s. begins s ts) starts others ∙ or_first _ _ e

pub any_second : (starts others : List Start) (ts : List Piece) → begins_any others ts ≡ true → begins_any (starts ++ others) ts ≡ true
any_second starts others ts e = list_any-append (λ s. begins s ts) starts others ∙ or_second (begins_any starts ts) _ e

pub none_of_both : (starts others : List Start) (ts : List Piece) → begins_any (starts ++ others) ts ≡ false →
    (begins_any starts ts ≡ false) × (begins_any others ts ≡ false)
none_of_both starts others ts e = or_neither _ _ (sym (list_any-append (λ s. begins s ts) starts others) ∙ e)

-- one token alone, and one before others
pub begins_one : (s : Sign) (t : Piece) (ts : List Piece) → passes s t ≡ true → begins_any (one_sign s ∷ []) (t ∷ ts) ≡ true
begins_one s t ts e = rw e refl

pub begins_not : (s : Sign) (t : Piece) (ts : List Piece) → begins_any (one_sign s ∷ []) (t ∷ ts) ≡ false → passes s t ≡ false
begins_not s t ts e = is_false _ (λ h. not_both _ (begins_one s t ts h) e)

first_passes : (r : Start) (ts : List Piece) → begins r ts ≡ true → goes_on (Some r.first) ts ≡ true
first_passes r [] e = absurd cc
first_passes r (t ∷ ts) e = (and_both (passes r.first t) (goes_on r.second ts) e).0

pub begins_two : (s : Sign) (starts : List Start) (t : Piece) (ts : List Piece) → passes s t ≡ true → begins_any starts ts ≡ true →
    begins_any (map (two_signs s) starts) (t ∷ ts) ≡ true
begins_two s [] t ts e f = absurd cc
begins_two s (r ∷ starts) t ts e f =
    elim (or_either (begins r ts) (begins_any starts ts) f) [
      | inl h ↦ or_first _ _ (and_true _ _ e (first_passes r ts h))
      | inr h ↦ or_second (begins (two_signs s r) (t ∷ ts)) _ (begins_two s starts t ts e h)
    ]

-- beginnings of one token each
pub any_one : (signs : List Sign) (t : Piece) (ts : List Piece) → begins_any (map one_sign signs) (t ∷ ts) ≡ list_any (λ s. passes s t) signs
any_one [] t ts = refl
any_one (s ∷ signs) t ts = rw (any_one signs t ts) (one (passes s t) (list_any (λ s. passes s t) signs))
  where
    one : (b d : Bool) → ((b && true) || d) ≡ (b || d)
    one true d = refl
    one false d = refl

pub any_none : (signs : List Sign) → begins_any (map one_sign signs) [] ≡ false
any_none [] = refl
any_none (s ∷ signs) = any_none signs
