-- A part that is told by two tokens at each place is read exactly.
use Rattle.std.proofs.Common.{◌≡◌, true, false, not, ◌&&◌, inl, inr, List, [], ◌∷◌, ◌++◌, length, Option, Some, None, refl, arith}
use Rattle.unit_grammar.specs.Pieces.{Piece}
use Rattle.unit_grammar.specs.Signs.{Start}
use Rattle.unit_grammar.specs.Grammar.{Part, nothing, token, enclosed, ◌▹◌, ◌⋆◌, says, ◌or◌, maybe, many, at, Text, Are, Perhaps, Is, Opens}
use Rattle.unit_grammar.specs.Readers.{Read, found, absent, deep, Reader, read, then_read}
use Rattle.unit_grammar.specs.Beginnings.{nullable, starts, more, is_told}
use Rattle.unit_grammar.specs.Exact.{Finds, Exact}
use Rattle.unit_grammar.proofs.BoolLemmas.{and_both, not_true}
use Rattle.unit_grammar.proofs.SignLaws.{never_other}
use Rattle.unit_grammar.proofs.ExactLaws.{nothing_exact, token_exact, skip_exact, then_exact, said_exact, either_exact, maybe_exact}
use Rattle.unit_grammar.proofs.EnclosedLaws.{enclosed_exact}
use Rattle.unit_grammar.proofs.ManyLaws.{many_exact, many_deepens}

perhaps_more : {A : Type 0} {P Q : Text A} → ((ts : List Piece) (a : A) → P ts a → Q ts a) → (ts : List Piece) (o : Option A) → Perhaps P ts o → Perhaps Q ts o
perhaps_more h ts None is = is
perhaps_more h ts (Some a) is = h ts a is

are_more : {A : Type 0} {P Q : Text A} → ((ts : List Piece) (a : A) → P ts a → Q ts a) → (ts : List Piece) (xs : List A) → Are P ts xs → Are Q ts xs
are_more h ts [] are = are
are_more h ts (x ∷ xs) (f, g, is, are, splits) = (f, g, h f x is, are_more h g xs are, splits)

behind_deep : {A B : Type 0} (q : Reader B) (x : Read A) (a : A) (back : List Piece) → Finds ⊥ x a back → q back ≡ deep →
    then_read {B = A × B} x (λ c rest. then_read (q rest) (λ b last. found (c, b) last)) ≡ deep
behind_deep q (found c after) a back (e, f) later = rw (f, later) refl
behind_deep q absent a back h later = absurd h
behind_deep q deep a back h later = absurd h

pub is_exact : {N : Type 0} {V : N → Type 0} (E F : (x : N) → Text (V x)) (D : Type 0) (O : (x : N) → List Piece → Type 0) (r : (x : N) → Reader (V x))
    (B M : N → List Start) → ((x : N) → Exact (E x) (F x) D (O x) (r x) (B x) (M x) false) → {A : Type 0} (g : Part N V A) → is_told B M g ≡ true →
    Exact (Is E g) (Is F g) D (Opens E O g) (read r g) (starts B g) (more B M g) (nullable g)
is_exact E F D O r B M names (nothing x) told = nothing_exact D x
is_exact E F D O r B M names (token s f) told = token_exact D s f
is_exact E F D O r B M names (enclosed o c) told = enclosed_exact D o c
is_exact E F D O r B M names (s ▹ p) told = skip_exact s (is_exact E F D O r B M names p told)
is_exact E F D O r B M names (p ⋆ q) told =
    let (others, apart) = and_both (is_told B M p && is_told B M q) _ told in
    let (first, second) = and_both (is_told B M p) _ others in
    then_exact apart (is_exact E F D O r B M names p first) (is_exact E F D O r B M names q second)
is_exact E F D O r B M names (says f p) told = said_exact f (is_exact E F D O r B M names p told)
is_exact E F D O r B M names (p or q) told =
    let (before, apart) = and_both (is_told B M p && is_told B M q && not (nullable p) && not (nullable q)) _ told in
    let (earlier, other) = and_both (is_told B M p && is_told B M q && not (nullable p)) _ before in
    let (both, some) = and_both (is_told B M p && is_told B M q) _ earlier in
    let (first, second) = and_both (is_told B M p) _ both in
    either_exact (not_true _ some) (not_true _ other) apart (is_exact E F D O r B M names p first) (is_exact E F D O r B M names q second)
is_exact E F D O r B M names (maybe p) told =
    let (first, some) = and_both (is_told B M p) _ told in
    maybe_exact (not_true _ some) (is_exact E F D O r B M names p first)
is_exact E F D O r B M names (many p) told =
    let (before, apart) = and_both (is_told B M p && not (nullable p)) _ told in
    let (first, some) = and_both (is_told B M p) _ before in
    many_exact (not_true _ some) apart (is_exact E F D O r B M names p first)
is_exact E F D O r B M names (at x) told = names x

-- the texts of a part over more texts of the named parts
pub is_more : {N : Type 0} {V : N → Type 0} (E F : (x : N) → Text (V x)) → ((x : N) (ts : List Piece) (a : V x) → E x ts a → F x ts a) →
    {A : Type 0} (g : Part N V A) (ts : List Piece) (a : A) → Is E g ts a → Is F g ts a
is_more E F h (nothing x) ts a is = is
is_more E F h (token s f) ts a is = is
is_more E F h (enclosed o c) ts a is = is
is_more E F h (s ▹ p) ts a (t, back, passed, is, splits) = (t, back, passed, is_more E F h p back a is, splits)
is_more E F h (p ⋆ q) ts c (f, g, isf, isg, splits) = (f, g, is_more E F h p f c.0 isf, is_more E F h q g c.1 isg, splits)
is_more E F h (says f p) ts b (a, is, same) = (a, is_more E F h p ts a is, same)
is_more E F h (p or q) ts a (inl is) = inl (is_more E F h p ts a is)
is_more E F h (p or q) ts a (inr is) = inr (is_more E F h q ts a is)
is_more E F h (maybe p) ts o is = perhaps_more (is_more E F h p) ts o is
is_more E F h (many p) ts xs is = are_more (is_more E F h p) ts xs is
is_more E F h (at x) ts a is = h x ts a is

-- where a text opens a named part too deep, the reader tells it
pub tells_deep : {N : Type 0} {V : N → Type 0} (E : (x : N) → Text (V x)) (O : (x : N) → List Piece → Type 0) (r : (x : N) → Reader (V x))
    (B M : N → List Start) → ((x : N) → Exact (E x) (E x) ⊥ (O x) (r x) (B x) (M x) false) →
    ((x : N) (ts : List Piece) → O x ts → r x ts ≡ deep) → {A : Type 0} (g : Part N V A) → is_told B M g ≡ true →
    (ts : List Piece) → Opens E O g ts → read r g ts ≡ deep
tells_deep E O r B M names deepens (nothing x) told ts o = absurd o
tells_deep E O r B M names deepens (token s f) told ts o = absurd o
tells_deep E O r B M names deepens (enclosed p q) told ts o = absurd o
tells_deep E O r B M names deepens (s ▹ p) told ts (t, back, passed, o, splits) =
    rw (splits, passed) (tells_deep E O r B M names deepens p told back o)
tells_deep E O r B M names deepens (p ⋆ q) told ts (inl o) =
    let (others, apart) = and_both (is_told B M p && is_told B M q) _ told in
    let (first, second) = and_both (is_told B M p) _ others in
    rw (tells_deep E O r B M names deepens p first ts o) refl
tells_deep E O r B M names deepens (p ⋆ q) told ts (inr (front, back, a, is, o, splits)) =
    let (others, apart) = and_both (is_told B M p && is_told B M q) _ told in
    let (first, second) = and_both (is_told B M p) _ others in
    let later = tells_deep E O r B M names deepens q second back o in
    let begins = (is_exact E E ⊥ O r B M names q second).deep_starts back later in
    let ends = never_other (more B M p) (starts B q) back apart begins in
    let here = (is_exact E E ⊥ O r B M names p first).finds front back a is ends in
    rw splits (behind_deep (read r q) (read r p (front ++ back)) a back here later)
tells_deep E O r B M names deepens (says f p) told ts o = rw (tells_deep E O r B M names deepens p told ts o) refl
tells_deep E O r B M names deepens (p or q) told ts (inl o) =
    let (before, apart) = and_both (is_told B M p && is_told B M q && not (nullable p) && not (nullable q)) _ told in
    let (earlier, other) = and_both (is_told B M p && is_told B M q && not (nullable p)) _ before in
    let (both, some) = and_both (is_told B M p && is_told B M q) _ earlier in
    let (first, second) = and_both (is_told B M p) _ both in
    rw (tells_deep E O r B M names deepens p first ts o) refl
tells_deep E O r B M names deepens (p or q) told ts (inr o) =
    let (before, apart) = and_both (is_told B M p && is_told B M q && not (nullable p) && not (nullable q)) _ told in
    let (earlier, other) = and_both (is_told B M p && is_told B M q && not (nullable p)) _ before in
    let (both, some) = and_both (is_told B M p && is_told B M q) _ earlier in
    let (first, second) = and_both (is_told B M p) _ both in
    let later = tells_deep E O r B M names deepens q second ts o in
    let begins = (is_exact E E ⊥ O r B M names q second).deep_starts ts later in
    let none = never_other (starts B p) (starts B q) ts apart begins in
    rw ((is_exact E E ⊥ O r B M names p first).absent_at ts (not_true _ some) none) later
tells_deep E O r B M names deepens (maybe p) told ts o =
    let (first, some) = and_both (is_told B M p) _ told in
    rw (tells_deep E O r B M names deepens p first ts o) refl
tells_deep E O r B M names deepens (many p) told ts (front, back, xs, are, o, splits) =
    let (before, apart) = and_both (is_told B M p && not (nullable p)) _ told in
    let (first, some) = and_both (is_told B M p) _ before in
    rw splits
    (many_deepens (not_true _ some) apart (is_exact E E ⊥ O r B M names p first) (tells_deep E O r B M names deepens p first)
    (length (front ++ back)) [] xs front back are o (omega arith))
tells_deep E O r B M names deepens (at x) told ts o = deepens x ts o
