-- Left-out constants with parentheses are read exactly, where the levels of a number of an address are counted.
use Rattle.std.proofs.Common.{◌≡◌, ℕ, zero, suc, ◌-◌, take, length as len, ◌<◌, ◌≤◌, Bool, true, false, cond, nat_lt, ◌⊎◌, inl, inr, List, [], ◌∷◌, ◌++◌, Option, Some, None, option_and_then, refl, sym, ◌∙◌, ap, subst, append-nil, arith}
use Rattle.std.proofs.lemmas.Bool.Decides.{nat_tests}
use Rattle.ir_values.specs.declared.constants.Const.TheVariants.{Number as NumberOf, Left}
use Rattle.type_grammar.specs.declared.address.Address.{Address}
use Rattle.type_grammar.specs.declared.bare.Bare.{Bare}
use Rattle.type_grammar.specs.declared.bare.Bare.TheVariants.{Plain as Whole}
use Rattle.unit_grammar.specs.Pieces.{Piece, spelling}
use Rattle.unit_grammar.specs.Signs.{Start, begins_any, mark, words}
use Rattle.unit_grammar.specs.Grammar.{Text}
use Rattle.unit_grammar.specs.Readers.{Read, found, absent, deep, Reader, then_read, before}
use Rattle.unit_grammar.specs.Beginnings.{is_told, more, one_sign, two_signs}
use Rattle.unit_grammar.specs.Exact.{IsFront, Finds, Reaches, Exact}
use Rattle.unit_grammar.specs.Plain.{IsPlain, plain_read, no_start}
use Rattle.unit_grammar.proofs.SignLaws.{any_longer}
use Rattle.unit_grammar.proofs.ExactLaws.{found_value, found_rest, then_found, then_deep, before_is, some_text}
use Rattle.unit_grammar.proofs.AnswerLaws.{plain_exact, plain_deep}
use Rattle.type_grammar.specs.Names.{a_left}
use Rattle.type_grammar.specs.Constants.{left_constant_words}
use Rattle.type_grammar.specs.Left.{left_text, here, moved_away, address, number_text, address_of, IsNumber, LeftSays, IsLeft, OpensLeft}
use Rattle.type_grammar.specs.Beginnings.{starts_of}
use Rattle.type_grammar.specs.Reading.{whole, number_in, left_value, left_read, reads}

text_told : is_told no_start no_start left_text ≡ true
unfolding left_text left_constant_words
text_told = refl

number_told : is_told no_start no_start number_text ≡ true
unfolding number_text address here moved_away
number_told = refl

number_closed : (rest : List Piece) → begins_any (more no_start no_start number_text) rest ≡ false
unfolding number_text address here moved_away
number_closed rest = refl

text_exact : Exact (IsPlain left_text) (IsPlain left_text) ⊥ (λ ts. ⊥) (plain_read left_text) (starts_of a_left) [] false
unfolding left_text
text_exact =
    let h = plain_exact ⊥ left_text text_told in
    record {
      sound = h.sound;
      opened = plain_deep left_text text_told;
      within = h.within;
      starts = h.starts;
      finds = h.finds;
      reaches = h.reaches;
      absent_at = h.absent_at;
      never_absent = h.never_absent;
      deep_starts = h.deep_starts;
    }

-- the number that the tokens are

and_then_some : {A B : Type 0} (f : A → Option B) (o : Option A) (b : B) → option_and_then f o ≡ Some b → (a : A) × (o ≡ Some a) × (f a ≡ Some b)
and_then_some f None b e = absurd cc
and_then_some f (Some a) b e = (a, refl, e)

whole_some : {A : Type 0} (r : Read A) (a : A) → whole r ≡ Some a → r ≡ found a []
whole_some (found b []) a e = cc
whole_some (found b (t ∷ ts)) a e = absurd cc
whole_some absent a e = absurd cc
whole_some deep a e = absurd cc

number_some : (ts : List Piece) (place : Address) → number_in ts ≡ Some place → IsNumber ts place
unfolding number_in
number_some ts place e =
    let (x, is, of) = and_then_some address_of (whole (plain_read number_text ts)) place e in
    let f = (plain_exact ⊥ number_text number_told).sound ts [] x (whole_some _ x is) in
    (x, subst (λ (us : List Piece). IsPlain number_text us x) (sym (f.splits ∙ append-nil f.front)) f.is, of)

found_is : {A : Type 0} (r : Read A) (a : A) (rest : List Piece) → Finds ⊥ r a rest → r ≡ found a rest
found_is (found b after) a rest (e, f) = rw (e, f) refl
found_is absent a rest h = absurd h
found_is deep a rest h = absurd h

number_is : (ts : List Piece) (place : Address) → IsNumber ts place → number_in ts ≡ Some place
unfolding number_in number_text address here moved_away
number_is ts place (x, is, of) =
    let finds = (plain_exact ⊥ number_text number_told).finds ts [] x is refl in
    let there : plain_read number_text ts ≡ found x [] =
    subst (λ (us : List Piece). plain_read number_text us ≡ found x []) (append-nil ts) (found_is _ x [] finds) in
    rw there of

not_number : (ts : List Piece) → number_in ts ≡ None → (place : Address) → IsNumber ts place → ⊥
not_number ts e place is = let there = number_is ts place is in cc

none_of : (o : Option Address) → ((place : Address) → o ≡ Some place → ⊥) → o ≡ None
none_of None h = refl
none_of (Some place) h = absurd (h place refl)

no_number : (ts : List Piece) → ((place : Address) → IsNumber ts place → ⊥) → number_in ts ≡ None
no_number ts h = none_of (number_in ts) (λ place e. h place (number_some ts place e))

less_of : (n m : ℕ) → nat_lt n m ≡ true → n < m
less_of n m e = grind (arith, nat_tests)

most_of : (n m : ℕ) → nat_lt n m ≡ false → m ≤ n
most_of n m e = grind (arith, nat_tests)

-- what the reader found

value_found : (n : ℕ) (front rest last : List Piece) (b : Bare) → left_value n front rest (number_in front) ≡ found b last → LeftSays n front b × (rest ≡ last)
value_found n front rest last b e = go (number_in front) refl e
  where
    limit : (place : Address) → number_in front ≡ Some place → (z : Bool) → nat_lt n place.levels ≡ z →
        cond z deep (found (Whole (NumberOf place.global place.offset)) rest) ≡ found b last → LeftSays n front b × (rest ≡ last)
    limit place is true less e = absurd cc
    limit place is false less e = (inl (place, number_some front place is, most_of n place.levels less, sym (found_value e)), found_rest e)

    go : (o : Option Address) → number_in front ≡ o → left_value n front rest o ≡ found b last → LeftSays n front b × (rest ≡ last)
    go None is e = (inr (not_number front is, sym (found_value e)), found_rest e)
    go (Some place) is e = limit place is (nat_lt n place.levels) refl e

value_deep : (n : ℕ) (front rest : List Piece) → left_value n front rest (number_in front) ≡ deep → (place : Address) × IsNumber front place × (n < place.levels)
value_deep n front rest e = go (number_in front) refl e
  where
    limit : (place : Address) → number_in front ≡ Some place → (z : Bool) → nat_lt n place.levels ≡ z →
        cond z deep (found (Whole (NumberOf place.global place.offset)) rest) ≡ deep → (other : Address) × IsNumber front other × (n < other.levels)
    limit place is true less e = (place, number_some front place is, less_of n place.levels less)
    limit place is false less e = absurd cc

    go : (o : Option Address) → number_in front ≡ o → left_value n front rest o ≡ deep → (other : Address) × IsNumber front other × (n < other.levels)
    go None is e = absurd cc
    go (Some place) is e = limit place is (nat_lt n place.levels) refl e

value_finds : (n m : ℕ) (D : Type 0) (front rest : List Piece) (b : Bare) → (n < m → D) → LeftSays m front b → Finds D (left_value n front rest (number_in front)) b rest
value_finds n m D front rest b allows (inl (place, is, few, says)) =
    rw (number_is front place is) (go (nat_lt n place.levels) refl)
  where
    go : (z : Bool) → nat_lt n place.levels ≡ z → Finds D (cond z deep (found (Whole (NumberOf place.global place.offset)) rest)) b rest
    go true less = let more = less_of n place.levels less in allows (omega arith)
    go false less = (sym says, refl)
value_finds n m D front rest b allows (inr (none, says)) = rw (no_number front none) (sym says, refl)

value_never : (n : ℕ) (front rest : List Piece) (o : Option Address) → left_value n front rest o ≡ absent → ⊥
value_never n front rest None e = cc
value_never n front rest (Some place) e = go (nat_lt n place.levels) e
  where
    go : (z : Bool) → cond z deep (found (Whole (NumberOf place.global place.offset)) rest) ≡ absent → ⊥
    go true e = cc
    go false e = cc

text_at : (front rest : List Piece) → IsPlain left_text front tt → plain_read left_text (front ++ rest) ≡ found tt rest
text_at front rest is = found_is _ tt rest (text_exact.finds front rest tt is refl)

value_at : (n m : ℕ) (D : Type 0) (front rest : List Piece) (b : Bare) → (n < m → D) → IsLeft m front b → Finds D (left_read n (front ++ rest)) b rest
unfolding left_read
value_at n m D front rest b allows (is, says) =
    rw (text_at front rest is, before_is front rest) (value_finds n m D front rest b allows says)

finds_reaches : {A : Type 0} (D : Type 0) (r : Read A) (a : A) (rest : List Piece) → Finds D r a rest → Reaches r a rest
finds_reaches D (found b after) a rest h = inr h
finds_reaches D absent a rest h = h
finds_reaches D deep a rest h = tt

left_sound : (n : ℕ) (ts last : List Piece) (b : Bare) → left_read n ts ≡ found b last → IsFront (IsLeft n) ts b last
unfolding left_read
left_sound n ts last b e =
    let (u, rest, is, more) = then_found (plain_read left_text ts) (λ _ rest. left_value n (before ts rest) rest (number_in (before ts rest))) b last e in
    let f = text_exact.sound ts rest u is in
    let same : before ts rest ≡ f.front = ap (λ x. before x rest) f.splits ∙ before_is f.front rest in
    let there : left_value n f.front rest (number_in f.front) ≡ found b last =
    subst (λ (x : List Piece). left_value n x rest (number_in x) ≡ found b last) same more in
    let (says, end) = value_found n f.front rest last b there in
    record { front = f.front; is = (f.is, says); splits = f.splits ∙ ap (λ x. f.front ++ x) end }

left_deep : (n : ℕ) (ts : List Piece) → left_read n ts ≡ deep → OpensLeft n ts
unfolding left_read
left_deep n ts e =
    elim (then_deep (plain_read left_text ts) (λ _ rest. left_value n (before ts rest) rest (number_in (before ts rest))) e) [
      | inl h ↦ absurd (text_exact.opened ts h)
      | inr h ↦
          let f = text_exact.sound ts h.1 h.0 h.2 in
          let same : before ts h.1 ≡ f.front = ap (λ x. before x h.1) f.splits ∙ before_is f.front h.1 in
          let there : left_value n f.front h.1 (number_in f.front) ≡ deep =
          subst (λ (x : List Piece). left_value n x h.1 (number_in x) ≡ deep) same h.3 in
          let (place, is, less) = value_deep n f.front h.1 there in
          (f.front, h.1, place, f.is, is, less, f.splits)
    ]

left_never : (n : ℕ) (ts : List Piece) → left_read n ts ≡ absent → plain_read left_text ts ≡ absent
unfolding left_read
left_never n ts e = go (plain_read left_text ts) e
  where
    go : (r : Read (Unit {0})) → then_read r (λ _ rest. left_value n (before ts rest) rest (number_in (before ts rest))) ≡ absent → r ≡ absent
    go (found u rest) e = absurd (value_never n (before ts rest) rest (number_in (before ts rest)) e)
    go absent e = refl
    go deep e = absurd cc

left_none : (n : ℕ) (ts : List Piece) → begins_any (starts_of a_left) ts ≡ false → left_read n ts ≡ absent
unfolding left_read
left_none n ts none = rw (text_exact.absent_at ts refl none) refl

pub left_exact : (n : ℕ) (D : Type 0) (Q : Text Bare) → ((ts : List Piece) (b : Bare) → Q ts b → (m : ℕ) × IsLeft m ts b × (n < m → D)) →
    ((ts : List Piece) (b : Bare) → IsLeft n ts b → Q ts b) → Exact (IsLeft n) Q D (OpensLeft n) (left_read n) (starts_of a_left) [] false
left_exact n D Q some within = record {
  sound = left_sound n;
  opened = left_deep n;
  within = within;
  starts = λ ts b is. let (m, left, allows) = some ts b is in text_exact.starts ts tt left.0;
  finds = λ front rest b is ends. let (m, left, allows) = some front b is in value_at n m D front rest b allows left;
  reaches = λ front rest b is.
      let (m, left, allows) = some front b is in
      finds_reaches (Unit {0}) (left_read n (front ++ rest)) b rest (value_at n m (Unit {0}) front rest b (λ h. tt) left);
  absent_at = λ ts e none. left_none n ts none;
  never_absent = λ ts e. absurd cc;
  deep_starts = λ ts e.
      let (front, back, place, is, number, less, splits) = left_deep n ts e in
      let begins = some_text front false (starts_of a_left) refl (text_exact.starts front tt is) in
      subst (λ (x : List Piece). begins_any (starts_of a_left) x ≡ true) (sym splits) (any_longer (starts_of a_left) front back begins);
}

more_levels : (n m : ℕ) → n < m → nat_lt n m ≡ true
more_levels n m h = grind (arith, nat_tests)

pub left_deepens : (n : ℕ) (ts : List Piece) → OpensLeft n ts → left_read n ts ≡ deep
unfolding left_read
left_deepens n ts (front, back, place, is, number, less, splits) =
    rw (splits, text_at front back is, before_is front back, number_is front place number, more_levels n place.levels less) refl

-- the number at the front, where the left-out text stands

number_at : (ts : List Piece) (x : List ℕ × Option (List ℕ)) → IsPlain number_text ts x → number_in ts ≡ address_of x
unfolding number_in number_text address here moved_away
number_at ts x is =
    let finds = (plain_exact ⊥ number_text number_told).finds ts [] x is refl in
    let there : plain_read number_text ts ≡ found x [] =
    subst (λ (us : List Piece). plain_read number_text us ≡ found x []) (append-nil ts) (found_is _ x [] finds) in
    rw there refl

pub in_front : (ts rest last : List Piece) (x : List ℕ × Option (List ℕ)) → plain_read number_text ts ≡ found x last → len last ≡ len rest →
    number_in (before ts rest) ≡ address_of x
in_front ts rest last x is same =
    let g = (plain_exact ⊥ number_text number_told).sound ts last x is in
    let front : before ts last ≡ g.front = ap (λ us. before us last) g.splits ∙ before_is g.front last in
    let both : before ts rest ≡ before ts last = ap (λ n. take (len ts - n) ts) (sym same) in
    ap number_in (both ∙ front) ∙ number_at g.front x g.is

pub none_in_front : (ts rest : List Piece) → plain_read left_text ts ≡ found tt rest →
    ((x : List ℕ × Option (List ℕ)) → plain_read number_text ts ≡ found x rest → ⊥) → number_in (before ts rest) ≡ None
none_in_front ts rest is none = none_of (number_in (before ts rest)) no
  where
    no : (place : Address) → number_in (before ts rest) ≡ Some place → ⊥
    no place e =
        let f = text_exact.sound ts rest tt is in
        let front : before ts rest ≡ f.front = ap (λ us. before us rest) f.splits ∙ before_is f.front rest in
        let (x, isx, of) = number_some (before ts rest) place e in
        let there : IsPlain number_text f.front x = subst (λ (us : List Piece). IsPlain number_text us x) front isx in
        let finds = (plain_exact ⊥ number_text number_told).finds f.front rest x there (number_closed rest) in
        none x (subst (λ (us : List Piece). plain_read number_text us ≡ found x rest) (sym f.splits) (found_is _ x rest finds))

pub number_deep : (ts : List Piece) → plain_read number_text ts ≡ deep → ⊥
number_deep ts e = plain_deep number_text number_told ts e

pub reads_left : (n : ℕ) (ts : List Piece) → reads n a_left ts ≡ left_read n ts
reads_left zero ts = refl
reads_left (suc n) ts = refl
