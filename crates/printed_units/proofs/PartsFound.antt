-- What the readers of parts find and don't find.
use Rattle.std.proofs.Common.{◌≡◌, ℕ, Bool, true, false, ◌&&◌, ◌||◌, inl, inr, List, [], ◌∷◌, ◌++◌, map, refl}
use Rattle.unit_grammar.specs.Pieces.{Piece}
use Rattle.unit_grammar.specs.Signs.{Sign, passes, Start, begins_any, all_apart}
use Rattle.unit_grammar.specs.Grammar.{Is, Opens}
use Rattle.unit_grammar.specs.Readers.{Read, found, absent, read}
use Rattle.unit_grammar.specs.Beginnings.{one_sign, nullable, starts, more, is_told}
use Rattle.unit_grammar.specs.Exact.{Finds, Exact}
use Rattle.unit_grammar.proofs.BoolLemmas.{not_both}
use Rattle.unit_grammar.proofs.SignLaws.{any_longer, never_both, begins_one}
use Rattle.unit_grammar.proofs.CoverLaws.{all_cover}
use Rattle.unit_grammar.specs.Covers.{sign_covers, all_covered}
use Rattle.unit_grammar.proofs.GrammarLaws.{is_exact}
use Rattle.type_grammar.specs.Types.{IsPart}
use Rattle.type_grammar.specs.Levels.{IsAt, OpensAt, levels}
use Rattle.type_grammar.specs.Beginnings.{starts_of, more_of}
use Rattle.type_grammar.specs.Reading.{reads}
use Rattle.type_grammar.proofs.LevelLaws.{here}
use Rattle.module_grammar.specs.Beginnings.{left_starts}
use Rattle.printed_units.proofs.LookLemmas.{Follows, none_follows}

-- a part whose texts have at most the levels that may be
abbrev pub IsText : {A : Type 0} → IsPart A → List Piece → A → Type 0
IsText g = Is (IsAt levels) g

abbrev pub part_read : {A : Type 0} → IsPart A → List Piece → Read A
part_read g = read (reads levels) g

abbrev pub part_starts : {A : Type 0} → IsPart A → List Start
part_starts g = starts starts_of g

abbrev pub part_more : {A : Type 0} → IsPart A → List Start
part_more g = more starts_of more_of g

-- two tokens tell at each place how the part goes on, and it isn't empty
pub record IsTold {A : Type 0} (g : IsPart A) : Type 0 where
  pub told : is_told starts_of more_of g ≡ true
  pub some : nullable g ≡ false

-- and these starts are all of its own
pub record IsToldBy {A : Type 0} (g : IsPart A) (T : List Start) : Type 0 where
  pub is : IsTold g
  pub covers : all_covered T (part_starts g) ≡ true

-- no line that begins so makes a text of the part longer, and none begins as what is left out
pub record StandsAlone {A : Type 0} (g : IsPart A) (signs : List Sign) : Type 0 where
  pub ends : all_apart (map one_sign signs) (part_more g) ≡ true
  pub left : all_apart (part_starts g) left_starts ≡ true

finds_is : {A : Type 0} (r : Read A) (a : A) (rest : List Piece) → Finds ⊥ r a rest → r ≡ found a rest
finds_is (found b after) a rest h = rw (h.0, h.1) refl
finds_is _ a rest h = absurd h

part_exact : {A : Type 0} (g : IsPart A) → is_told starts_of more_of g ≡ true →
    Exact (IsText g) (IsText g) ⊥ (Opens (IsAt levels) (OpensAt levels) g) (part_read g) (part_starts g) (part_more g) (nullable g)
part_exact g told = is_exact (IsAt levels) (IsAt levels) ⊥ (OpensAt levels) (reads levels) starts_of more_of (here levels) g told

-- a text in front is found, where what follows couldn't make it longer
pub part_found : {A : Type 0} (g : IsPart A) → is_told starts_of more_of g ≡ true → (front rest : List Piece) (a : A) → IsText g front a →
    begins_any (part_more g) rest ≡ false → part_read g (front ++ rest) ≡ found a rest
part_found g told front rest a is ends = finds_is (part_read g (front ++ rest)) a rest ((part_exact g told).finds front rest a is ends)

-- as where nothing follows, or a line that begins with one of the signs
pub part_before : {A : Type 0} (g : IsPart A) → is_told starts_of more_of g ≡ true → (signs : List Sign) →
    all_apart (map one_sign signs) (part_more g) ≡ true → (end : ℕ) (front rest : List Piece) (a : A) → IsText g front a →
    Follows signs end rest → part_read g (front ++ rest) ≡ found a rest
part_before g told signs ends end front rest a is next =
    part_found g told front rest a is (none_follows signs (part_more g) end rest ends next)

-- none is found where none begins
pub part_absent : {A : Type 0} {g : IsPart A} → IsTold g → (ts : List Piece) → begins_any (part_starts g) ts ≡ false → part_read g ts ≡ absent
part_absent {g = g} h ts none = (part_exact g h.told).absent_at ts h.some none

-- as where something begins that is apart
pub part_apart : {A : Type 0} {g : IsPart A} → IsTold g → (S : List Start) (ts : List Piece) → all_apart S (part_starts g) ≡ true →
    begins_any S ts ≡ true → part_read g ts ≡ absent
part_apart {g = g} h S ts apart begun = part_absent h ts (never_both S (part_starts g) ts apart begun)

-- and where one stands it begins
pub part_begins : {A : Type 0} {g : IsPart A} → IsTold g → (front rest : List Piece) (a : A) → IsText g front a →
    begins_any (part_starts g) (front ++ rest) ≡ true
part_begins {g = g} h front rest a is =
    elim ((part_exact g h.told).starts front a is) [
      | inl e ↦ absurd (not_both (nullable g) e.1 h.some)
      | inr e ↦ any_longer (part_starts g) front rest e
    ]

-- what passes a sign passes one that covers it
pub one_passes : (s r : Sign) (t : Piece) → sign_covers r s ≡ true → passes s t ≡ true → passes r t ≡ true
one_passes s r t covers passed =
    let begun = all_cover (one_sign r ∷ []) (one_sign s ∷ []) (t ∷ []) (rw covers refl) (begins_one s t [] passed) in
    first (passes r t) begun
  where
    first : (b : Bool) → ((b && true) || false) ≡ true → b ≡ true
    first true e = refl
    first false e = e
