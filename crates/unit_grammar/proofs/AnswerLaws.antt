-- From what a reader gives to what it tells of the texts.
use Rattle.std.specs.Prelude.{Result, Ok, Err}
use Rattle.std.proofs.Common.{◌≡◌, ℕ, Bool, true, inl, inr, List, drop}
use Rattle.unit_grammar.specs.declared.stop.Stop.{Stop}
use Rattle.unit_grammar.specs.declared.stop.Stop.TheVariants.{Absent, Deep, Memory}
use Rattle.unit_grammar.specs.Pieces.{Piece}
use Rattle.unit_grammar.specs.Signs.{Start}
use Rattle.unit_grammar.specs.Grammar.{Text}
use Rattle.unit_grammar.specs.Readers.{Reader, deep}
use Rattle.unit_grammar.specs.Exact.{Exact}
use Rattle.unit_grammar.specs.Seeing.{Gives}
use Rattle.unit_grammar.specs.Answers.{Tells}
use Rattle.unit_grammar.specs.Plain.{Plain, no_text, no_reader, no_start, IsPlain, plain_read}
use Rattle.unit_grammar.specs.Grammar.{nothing, token, enclosed, ◌▹◌, ◌⋆◌, says, ◌or◌, maybe, many, at, Opens}
use Rattle.unit_grammar.specs.Beginnings.{nullable, starts, more, is_told}
use Rattle.unit_grammar.proofs.GrammarLaws.{is_exact}
use Rattle.unit_grammar.proofs.LongestLaws.{is_longest, none_begins}

pub tells : {A : Type 0} {P Q : Text A} {D : Type 0} {O : List Piece → Type 0} {p : Reader A} {S M : List Start} {z : Bool} → Exact P Q D O p S M z →
    (tokens ts : List Piece) (r : Result (A × ℕ) Stop) → Gives tokens r (p ts) → Tells P Q O tokens ts r
tells h tokens ts (Ok x) e = is_longest h ts x.0 (drop x.1 tokens) e
tells h tokens ts (Err Absent) e = none_begins h ts e
tells h tokens ts (Err Deep) e = h.opened ts e
tells h tokens ts (Err Memory) e = tt

-- a part without named parts
pub plain_exact : {A : Type 0} (D : Type 0) (g : Plain A) → is_told no_start no_start g ≡ true →
    Exact (IsPlain g) (IsPlain g) D (Opens no_text (λ x ts. absurd x) g) (plain_read g) (starts no_start g) (more no_start no_start g) (nullable g)
plain_exact D g told = is_exact no_text no_text D (λ x ts. absurd x) no_reader no_start no_start (λ x. absurd x) g told

-- and nothing in it is opened too deep
plain_opens : {A : Type 0} (g : Plain A) (ts : List Piece) → Opens no_text (λ x us. absurd x) g ts → ⊥
plain_opens (nothing x) ts o = absurd o
plain_opens (token s f) ts o = absurd o
plain_opens (enclosed o c) ts h = absurd h
plain_opens (s ▹ p) ts (t, back, passed, o, splits) = plain_opens p back o
plain_opens (p ⋆ q) ts (inl o) = plain_opens p ts o
plain_opens (p ⋆ q) ts (inr (front, back, a, is, o, splits)) = plain_opens q back o
plain_opens (says f p) ts o = plain_opens p ts o
plain_opens (p or q) ts (inl o) = plain_opens p ts o
plain_opens (p or q) ts (inr o) = plain_opens q ts o
plain_opens (maybe p) ts o = plain_opens p ts o
plain_opens (many p) ts (front, back, xs, are, o, splits) = plain_opens p back o
plain_opens (at x) ts o = absurd x

pub plain_deep : {A : Type 0} (g : Plain A) → is_told no_start no_start g ≡ true → (ts : List Piece) → plain_read g ts ≡ deep → ⊥
plain_deep g told ts e = plain_opens g ts ((plain_exact ⊥ g told).opened ts e)

pub plain_tells : {A : Type 0} (g : Plain A) → is_told no_start no_start g ≡ true → (tokens ts : List Piece) (r : Result (A × ℕ) Stop) →
    Gives tokens r (plain_read g ts) → Tells (IsPlain g) (IsPlain g) (λ _. ⊥) tokens ts r
plain_tells g told tokens ts (Ok x) e = is_longest (plain_exact ⊥ g told) ts x.0 (drop x.1 tokens) e
plain_tells g told tokens ts (Err Absent) e = none_begins (plain_exact ⊥ g told) ts e
plain_tells g told tokens ts (Err Deep) e = plain_deep g told ts e
plain_tells g told tokens ts (Err Memory) e = tt
