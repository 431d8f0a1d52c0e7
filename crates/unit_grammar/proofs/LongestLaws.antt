-- What a reader answers, in the words of the texts.
use Rattle.std.proofs.Common.{◌≡◌, List, sym, subst}
use Rattle.unit_grammar.specs.Pieces.{Piece}
use Rattle.unit_grammar.specs.Signs.{Start}
use Rattle.unit_grammar.specs.Grammar.{Text}
use Rattle.unit_grammar.specs.Readers.{Read, found, absent, Reader}
use Rattle.unit_grammar.specs.Exact.{IsFront, Reaches, Exact}
use Rattle.unit_grammar.specs.Longest.{IsLongest, NoneBegins}
use Rattle.std.specs.Prelude.{Bool}

reached : {A : Type 0} {P Q : Text A} {D : Type 0} {O : List Piece → Type 0} {p : Reader A} {S M : List Start} {z : Bool} → Exact P Q D O p S M z →
    (ts : List Piece) (b : A) (after : List Piece) → IsFront Q ts b after → Reaches (p ts) b after
reached {A} {P} {Q} {D} {O} {p} h ts b after f =
    subst (λ (x : List Piece). Reaches (p x) b after) (sym f.splits) (h.reaches f.front after b f.is)

pub is_longest : {A : Type 0} {P Q : Text A} {D : Type 0} {O : List Piece → Type 0} {p : Reader A} {S M : List Start} {z : Bool} → Exact P Q D O p S M z →
    (ts : List Piece) (a : A) (rest : List Piece) → p ts ≡ found a rest → IsLongest P Q ts a rest
is_longest {A} {P} {Q} {D} {O} {p} h ts a rest e = record {
  stands = h.sound ts rest a e;
  longest = λ b after f. subst (λ (x : Read A). Reaches x b after) e (reached h ts b after f);
}

pub none_begins : {A : Type 0} {P Q : Text A} {D : Type 0} {O : List Piece → Type 0} {p : Reader A} {S M : List Start} {z : Bool} → Exact P Q D O p S M z →
    (ts : List Piece) → p ts ≡ absent → NoneBegins Q ts
none_begins {A} h ts e b after f = subst (λ (x : Read A). Reaches x b after) e (reached h ts b after f)
