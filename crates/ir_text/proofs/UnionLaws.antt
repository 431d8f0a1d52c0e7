-- Of texts that begin apart at most one sort begins at a place.
use Rattle.std.proofs.Common.{◌≡◌, true, false, ◌⊎◌, inl, inr, List, [], ◌∷◌, ◌++◌, refl, sym, ◌∙◌, subst}
use Rattle.unit_grammar.specs.Pieces.{Piece}
use Rattle.unit_grammar.specs.Signs.{Start, begins_any, all_apart}
use Rattle.unit_grammar.specs.Grammar.{Text, Is, Opens}
use Rattle.unit_grammar.specs.Readers.{Read, found, absent, deep, Reader, read, else_read}
use Rattle.unit_grammar.specs.Beginnings.{nullable, starts, more, is_told}
use Rattle.unit_grammar.specs.Covers.{all_covered}
use Rattle.unit_grammar.specs.Exact.{IsFront, Exact}
use Rattle.unit_grammar.specs.Longest.{IsLongest, NoneBegins}
use Rattle.unit_grammar.proofs.BoolLemmas.{not_both, is_false}
use Rattle.unit_grammar.proofs.SignLaws.{any_first, any_second, any_longer, never_both, never_other, none_of_both}
use Rattle.unit_grammar.proofs.CoverLaws.{all_cover}
use Rattle.unit_grammar.proofs.LongestLaws.{is_longest, none_begins}
use Rattle.unit_grammar.proofs.GrammarLaws.{is_exact, tells_deep}
use Rattle.type_grammar.specs.Types.{IsPart}
use Rattle.type_grammar.specs.Levels.{IsAt, IsAny, OpensAt, levels}
use Rattle.type_grammar.specs.Beginnings.{starts_of, more_of}
use Rattle.type_grammar.specs.Reading.{reads}
use Rattle.type_grammar.proofs.LevelLaws.{here, any, deepens}
use Rattle.ir_text.specs.Choices.{IsChosen}
use Rattle.ir_text.proofs.ChoiceLaws.{nothing_begins}

-- a reader of texts that begin in one of these ways
pub record IsBegun {A : Type 0} (P Q : Text A) (O : List Piece → Type 0) (p : Reader A) (S : List Start) : Type 0 where
  pub chosen : IsChosen P Q O p
  pub begins : (ts : List Piece) (a : A) → Q ts a → begins_any S ts ≡ true
  pub absent_at : (ts : List Piece) → begins_any S ts ≡ false → p ts ≡ absent
  pub opens : (ts : List Piece) → O ts → begins_any S ts ≡ true

abbrev pub Either : {A : Type 0} → Text A → Text A → Text A
Either P R ts a = P ts a ⊎ R ts a

else_one : {A : Type 0} (x y : Read A) (a : A) (rest : List Piece) → else_read x y ≡ found a rest →
    (x ≡ found a rest) ⊎ ((x ≡ absent) × (y ≡ found a rest))
else_one (found b after) y a rest e = inl e
else_one absent y a rest e = inr (refl, e)
else_one deep y a rest e = absurd cc

else_none : {A : Type 0} (x y : Read A) → else_read x y ≡ absent → (x ≡ absent) × (y ≡ absent)
else_none (found b after) y e = absurd cc
else_none absent y e = (refl, e)
else_none deep y e = absurd cc

else_opened : {A : Type 0} (x y : Read A) → else_read x y ≡ deep → (x ≡ deep) ⊎ (y ≡ deep)
else_opened (found b after) y e = absurd cc
else_opened absent y e = inr e
else_opened deep y e = inl refl

-- the front of a text begins it
front_begins : {A : Type 0} (Q : Text A) (S : List Start) (ts : List Piece) (a : A) (rest : List Piece) → ((us : List Piece) (b : A) → Q us b → begins_any S us ≡ true) →
    IsFront Q ts a rest → begins_any S ts ≡ true
front_begins Q S ts a rest begins f =
    subst (λ (us : List Piece). begins_any S us ≡ true) (sym f.splits) (any_longer S f.front rest (begins f.front a f.is))

first_longest : {A : Type 0} (P Q R V : Text A) (ts : List Piece) (a : A) (rest : List Piece) → IsLongest P Q ts a rest → NoneBegins V ts →
    IsLongest (Either P R) (Either Q V) ts a rest
first_longest P Q R V ts a rest h none = record {
  stands = record { front = h.stands.front; is = inl h.stands.is; splits = h.stands.splits };
  longest = λ b after f. elim f.is [
    | inl is ↦ h.longest b after (record { front = f.front; is = is; splits = f.splits })
    | inr is ↦ absurd (none b after (record { front = f.front; is = is; splits = f.splits }))
  ];
}

second_longest : {A : Type 0} (P Q R V : Text A) (ts : List Piece) (a : A) (rest : List Piece) → IsLongest R V ts a rest → NoneBegins Q ts →
    IsLongest (Either P R) (Either Q V) ts a rest
second_longest P Q R V ts a rest h none = record {
  stands = record { front = h.stands.front; is = inr h.stands.is; splits = h.stands.splits };
  longest = λ b after f. elim f.is [
    | inl is ↦ absurd (none b after (record { front = f.front; is = is; splits = f.splits }))
    | inr is ↦ h.longest b after (record { front = f.front; is = is; splits = f.splits })
  ];
}

either_chosen : {A : Type 0} {P Q R V : Text A} {O U : List Piece → Type 0} {p q : Reader A} {S T : List Start} →
    IsBegun P Q O p S → IsBegun R V U q T → all_apart S T ≡ true →
    IsChosen (Either P R) (Either Q V) (λ ts. O ts ⊎ U ts) (λ ts. else_read (p ts) (q ts))
either_chosen {A} {P} {Q} {R} {V} {O} {U} {p} {q} {S} {T} h k told = record {
  some = λ a is. elim is [ inl g ↦ h.chosen.some a g | inr g ↦ k.chosen.some a g ];
  within = λ ts a is. elim is [ inl g ↦ inl (h.chosen.within ts a g) | inr g ↦ inr (k.chosen.within ts a g) ];
  longest = λ ts a rest e.
      elim (else_one (p ts) (q ts) a rest e) [
        | inl g ↦
            let first = h.chosen.longest ts a rest g in
            let stands : IsFront Q ts a rest = record { front = first.stands.front; is = h.chosen.within first.stands.front a first.stands.is; splits = first.stands.splits } in
            let begun = front_begins Q S ts a rest h.begins stands in
            first_longest P Q R V ts a rest first (none_of_second ts (never_both S T ts told begun))
        | inr g ↦ second_longest P Q R V ts a rest (k.chosen.longest ts a rest g.1) (h.chosen.none ts g.0)
      ];
  none = λ ts e b after f.
      let both = else_none (p ts) (q ts) e in
      elim f.is [
        | inl is ↦ h.chosen.none ts both.0 b after (record { front = f.front; is = is; splits = f.splits })
        | inr is ↦ k.chosen.none ts both.1 b after (record { front = f.front; is = is; splits = f.splits })
      ];
  opened = λ ts e. elim (else_opened (p ts) (q ts) e) [ inl g ↦ inl (h.chosen.opened ts g) | inr g ↦ inr (k.chosen.opened ts g) ];
  deepens = λ ts o. elim o [
    | inl g ↦ rw (h.chosen.deepens ts g) refl
    | inr g ↦
        let none = never_other S T ts told (k.opens ts g) in
        rw (h.absent_at ts none) (k.chosen.deepens ts g)
  ];
}
  where
    none_of_second : (ts : List Piece) → begins_any T ts ≡ false → NoneBegins V ts
    none_of_second ts none b after f = not_both (begins_any T ts) (front_begins V T ts b after k.begins f) none

pub either_begun : {A : Type 0} {P Q R V : Text A} {O U : List Piece → Type 0} {p q : Reader A} {S T : List Start} →
    IsBegun P Q O p S → IsBegun R V U q T → all_apart S T ≡ true →
    IsBegun (Either P R) (Either Q V) (λ ts. O ts ⊎ U ts) (λ ts. else_read (p ts) (q ts)) (S ++ T)
either_begun {A} {P} {Q} {R} {V} {O} {U} {p} {q} {S} {T} h k told = record {
  chosen = either_chosen h k told;
  begins = λ ts a is. elim is [ inl g ↦ any_first S T ts (h.begins ts a g) | inr g ↦ any_second S T ts (k.begins ts a g) ];
  absent_at = λ ts none.
      let (first, second) = none_of_both S T ts none in
      rw (h.absent_at ts first) (k.absent_at ts second);
  opens = λ ts o. elim o [ inl g ↦ any_first S T ts (h.opens ts g) | inr g ↦ any_second S T ts (k.opens ts g) ];
}

-- a reader whose texts are told, over beginnings that are told more roughly
pub exact_begun : {A : Type 0} {P Q : Text A} {D : Type 0} {O : List Piece → Type 0} {p : Reader A} {S M : List Start} {z : _} (T : List Start) → z ≡ false →
    all_covered T S ≡ true → Exact P Q D O p S M z → ((ts : List Piece) → O ts → p ts ≡ deep) → IsBegun P Q O p T
exact_begun {A} {P} {Q} {D} {O} {p} {S} {M} {z} T some covers h deeper = record {
  chosen = record {
    some = λ a is. nothing_begins T (begun [] a is);
    within = h.within;
    longest = λ ts a rest e. is_longest h ts a rest e;
    none = λ ts e. none_begins h ts e;
    opened = h.opened;
    deepens = deeper;
  };
  begins = begun;
  absent_at = λ ts none. h.absent_at ts some (is_false _ (λ f. not_both _ (all_cover T S ts covers f) none));
  opens = λ ts o. all_cover T S ts covers (h.deep_starts ts (deeper ts o));
}
  where
    begun : (ts : List Piece) (a : A) → Q ts a → begins_any T ts ≡ true
    begun ts a is = elim (h.starts ts a is) [ inl e ↦ absurd (not_both z e.1 some) | inr e ↦ all_cover T S ts covers e ]

-- a reader that never tells that one is opened too deep
pub flat_begun : {A : Type 0} {P Q : Text A} {D : Type 0} {O : List Piece → Type 0} {p : Reader A} {S M : List Start} {z : _} (T : List Start) → z ≡ false →
    all_covered T S ≡ true → Exact P Q D O p S M z → ((ts : List Piece) → p ts ≡ deep → ⊥) → IsBegun P Q (λ _. ⊥) p T
flat_begun {A} {P} {Q} {D} {O} {p} {S} {M} {z} T some covers h never = record {
  chosen = record {
    some = λ a is. nothing_begins T (begun [] a is);
    within = h.within;
    longest = λ ts a rest e. is_longest h ts a rest e;
    none = λ ts e. none_begins h ts e;
    opened = never;
    deepens = λ ts o. absurd o;
  };
  begins = begun;
  absent_at = λ ts none. h.absent_at ts some (is_false _ (λ f. not_both _ (all_cover T S ts covers f) none));
  opens = λ ts o. absurd o;
}
  where
    begun : (ts : List Piece) (a : A) → Q ts a → begins_any T ts ≡ true
    begun ts a is = elim (h.starts ts a is) [ inl e ↦ absurd (not_both z e.1 some) | inr e ↦ all_cover T S ts covers e ]

-- a part that two tokens tell at each place
pub part_begun : {A : Type 0} (g : IsPart A) (T : List Start) → is_told starts_of more_of g ≡ true → nullable g ≡ false →
    all_covered T (starts starts_of g) ≡ true →
    IsBegun (Is (IsAt levels) g) (Is IsAny g) (Opens (IsAt levels) (OpensAt levels) g) (read (reads levels) g) T
part_begun g T told some covers =
    exact_begun T some covers
    (is_exact (IsAt levels) IsAny (Unit {0}) (OpensAt levels) (reads levels) starts_of more_of (any levels) g told)
    (tells_deep (IsAt levels) (OpensAt levels) (reads levels) starts_of more_of (here levels) (deepens levels) g told)
