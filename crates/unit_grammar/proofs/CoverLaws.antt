-- Beginnings that are told more roughly.
use Rattle.std.proofs.Common.{◌≡◌, ℕ, Bool, true, false, ◌&&◌, inl, inr, List, [], ◌∷◌, nat_eq, bytes_eq, Option, Some, None, refl, ap, sym, subst, ◌∙◌, arith}
use Rattle.std.specs.List.{list_all, list_any}
use Rattle.std.proofs.lemmas.Bool.Decides.{nat_tests}
use Rattle.std.proofs.lemmas.Slice.Eq.{bytes_eq-Decides}
use Rattle.ir_lex.specs.Kinds.{row}
use Rattle.unit_grammar.specs.Pieces.{Piece}
use Rattle.unit_grammar.specs.Signs.{Which, whatever, one_of, numbered, unnumbered, fits, is_numbered, Sign, is_kind, passes, Start, goes_on, begins, begins_any}
use Rattle.unit_grammar.specs.Covers.{covers, sign_covers, is_alone, start_covers, all_covered}
use Rattle.unit_grammar.specs.Grammar.{Text}
use Rattle.unit_grammar.specs.Readers.{Reader}
use Rattle.unit_grammar.specs.Exact.{Exact}
use Rattle.unit_grammar.proofs.BoolLemmas.{and_both, and_true, or_either, or_first, or_second, is_false, not_both}

same_row : (i j : ℕ) → nat_eq i j ≡ true → i ≡ j
same_row i j e = grind (arith, nat_tests)

-- what holds of one of the texts, where it holds of all
found_in : (p : List ℕ → Bool) (bytes : List ℕ) (texts : List (List ℕ)) → list_all p texts ≡ true → list_any (bytes_eq bytes) texts ≡ true → p bytes ≡ true
found_in p bytes [] all any = absurd cc
found_in p bytes (text ∷ texts) all any =
    let (here, rest) = and_both (p text) (list_all p texts) all in
    elim (or_either (bytes_eq bytes text) (list_any (bytes_eq bytes) texts) any) [
      | inl same ↦ ap p ((bytes_eq-Decides bytes text).0 same) ∙ here
      | inr later ↦ found_in p bytes texts rest later
    ]

covered : (w v : Which) (bytes : List ℕ) → covers w v ≡ true → fits v bytes ≡ true → fits w bytes ≡ true
covered whatever v bytes e f = refl
covered (one_of texts) (one_of others) bytes e f = found_in (λ other. list_any (bytes_eq other) texts) bytes others e f
covered (one_of texts) whatever bytes e f = absurd cc
covered (one_of texts) (numbered other) bytes e f = absurd cc
covered (one_of texts) (unnumbered other) bytes e f = absurd cc
covered (numbered first) (numbered other) bytes e f = ap (λ b. is_numbered b bytes) (same_row first other e) ∙ f
covered (numbered first) whatever bytes e f = absurd cc
covered (numbered first) (one_of others) bytes e f = absurd cc
covered (numbered first) (unnumbered other) bytes e f = absurd cc
covered (unnumbered first) (unnumbered other) bytes e f = ap (λ b. fits (unnumbered b) bytes) (same_row first other e) ∙ f
covered (unnumbered first) whatever bytes e f = absurd cc
covered (unnumbered first) (one_of others) bytes e f = absurd cc
covered (unnumbered first) (numbered other) bytes e f = absurd cc

sign_covered : (s r : Sign) (t : Piece) → sign_covers s r ≡ true → passes r t ≡ true → passes s t ≡ true
sign_covered s r t e f =
    let (kinds, which) = and_both (nat_eq (row s.kind) (row r.kind)) (covers s.which r.which) e in
    let (kind, fit) = and_both (is_kind r.kind t) (fits r.which t.bytes) f in
    let same = same_row (row s.kind) (row r.kind) kinds in
    and_true _ _ (ap (λ n. nat_eq (row t.kind) n) same ∙ kind) (covered s.which r.which t.bytes which fit)

alone_goes : (o : Option Sign) (ts : List Piece) → is_alone o ≡ true → goes_on o ts ≡ true
alone_goes None ts e = refl
alone_goes (Some s) ts e = absurd cc

start_covered : (s r : Start) (ts : List Piece) → start_covers s r ≡ true → begins r ts ≡ true → begins s ts ≡ true
start_covered s r [] e f = absurd cc
start_covered s r (t ∷ ts) e f =
    let (alone, first) = and_both (is_alone s.second) (sign_covers s.first r.first) e in
    let (passed, later) = and_both (passes r.first t) (goes_on r.second ts) f in
    and_true _ _ (sign_covered s.first r.first t first passed) (alone_goes s.second ts alone)

any_covers : (starts : List Start) (r : Start) (ts : List Piece) → list_any (λ s. start_covers s r) starts ≡ true → begins r ts ≡ true → begins_any starts ts ≡ true
any_covers [] r ts e f = absurd cc
any_covers (s ∷ starts) r ts e f =
    elim (or_either (start_covers s r) (list_any (λ s. start_covers s r) starts) e) [
      | inl h ↦ or_first _ _ (start_covered s r ts h f)
      | inr h ↦ or_second (begins s ts) _ (any_covers starts r ts h f)
    ]

pub all_cover : (starts others : List Start) (ts : List Piece) → all_covered starts others ≡ true → begins_any others ts ≡ true → begins_any starts ts ≡ true
all_cover starts [] ts e f = absurd cc
all_cover starts (r ∷ others) ts e f =
    let (here, rest) = and_both (list_any (λ s. start_covers s r) starts) (all_covered starts others) e in
    elim (or_either (begins r ts) (begins_any others ts) f) [
      | inl h ↦ any_covers starts r ts here h
      | inr h ↦ all_cover starts others ts rest h
    ]

-- the same reader of texts with tokens, over other texts of all and with beginnings that are told more roughly
pub roughly : {A : Type 0} {P Q : Text A} {D : Type 0} {O : List Piece → Type 0} {p : Reader A} {S M : List Start} {z : Bool} (R : Text A) (T N : List Start) →
    all_covered T S ≡ true → M ≡ N → z ≡ false → ((ts : List Piece) (a : A) → P ts a → R ts a) → ((ts : List Piece) (a : A) → R ts a → Q ts a) →
    Exact P Q D O p S M z → Exact P R D O p T N false
roughly {A} {P} {Q} {D} {O} {p} {S} {M} {z} R T N covers same some within fewer h = record {
  sound = h.sound;
  opened = h.opened;
  within = within;
  starts = λ ts a is.
      elim (h.starts ts a (fewer ts a is)) [ inl e ↦ absurd (not_both z e.1 some) | inr e ↦ inr (all_cover T S ts covers e) ];
  finds = λ front rest a is ends. h.finds front rest a (fewer front a is) (subst (λ (L : List Start). begins_any L rest ≡ false) (sym same) ends);
  reaches = λ front rest a is. h.reaches front rest a (fewer front a is);
  absent_at = λ ts e none. h.absent_at ts some (is_false _ (λ f. not_both _ (all_cover T S ts covers f) none));
  never_absent = λ ts e. absurd cc;
  deep_starts = λ ts e. all_cover T S ts covers (h.deep_starts ts e);
}
