-- Types, constants and parts of metadata nodes are read exactly, at each number of levels.
use Rattle.std.proofs.Common.{◌≡◌, ℕ, zero, suc, ◌<◌, ◌≤◌, Bool, true, false, cond, nat_lt, ◌⊎◌, inl, inr, List, [], ◌∷◌, ◌++◌, refl, sym, ◌∙◌, ap, subst, arith}
use Rattle.unit_grammar.specs.Pieces.{Piece}
use Rattle.unit_grammar.specs.Signs.{Start, begins_any}
use Rattle.unit_grammar.specs.Grammar.{Text, Is, Opens}
use Rattle.unit_grammar.specs.Readers.{Read, found, absent, deep, Reader, read}
use Rattle.unit_grammar.specs.Beginnings.{is_told, nullable, starts, more}
use Rattle.unit_grammar.specs.Covers.{all_covered}
use Rattle.unit_grammar.specs.Exact.{Finds, Exact}
use Rattle.unit_grammar.proofs.BoolLemmas.{not_both}
use Rattle.unit_grammar.proofs.SignLaws.{any_longer}
use Rattle.unit_grammar.proofs.GrammarLaws.{is_exact, is_more, tells_deep}
use Rattle.unit_grammar.proofs.CoverLaws.{roughly}
use Rattle.type_grammar.specs.Names.{Name, a_type, a_value_type, a_constant, a_left, an_item, Value}
use Rattle.type_grammar.specs.Types.{integer, void, address_space, pointer, named, length, array, type_list, structure, left_type_words, left_type, vector, packed, value_type_body, type_body, value_type_signs, type_signs, value_type_starts, type_starts}
use Rattle.type_grammar.specs.Constants as constants
use Rattle.type_grammar.specs.Constants.{constant_body, constant_starts}
use Rattle.type_grammar.specs.Items as items
use Rattle.type_grammar.specs.Items.{item_body, item_starts, own_items}
use Rattle.type_grammar.specs.Left.{IsLeft}
use Rattle.type_grammar.specs.Levels.{IsAt, IsAny, OpensAt}
use Rattle.type_grammar.specs.Reading.{level_read, reads}
use Rattle.type_grammar.specs.Beginnings.{starts_of, more_of}
use Rattle.type_grammar.proofs.LeftLaws.{left_exact, left_deepens}

type_told : is_told starts_of more_of type_body ≡ true
unfolding integer void address_space pointer named length array type_list structure left_type_words left_type vector packed value_type_body type_body value_type_signs type_signs
type_told = refl

type_covered : all_covered type_starts (starts starts_of type_body) ≡ true
unfolding integer void address_space pointer named length array type_list structure left_type_words left_type vector packed value_type_body type_body value_type_signs type_signs
type_covered = refl

type_more : more starts_of more_of type_body ≡ more_of a_type
unfolding integer void address_space pointer named length array type_list structure left_type_words left_type vector packed value_type_body type_body value_type_signs type_signs
type_more = refl

type_some : nullable type_body ≡ false
unfolding integer void address_space pointer named length array type_list structure left_type_words left_type vector packed value_type_body type_body value_type_signs type_signs
type_some = refl

value_type_told : is_told starts_of more_of value_type_body ≡ true
unfolding integer void address_space pointer named length array type_list structure left_type_words left_type vector packed value_type_body type_body value_type_signs type_signs
value_type_told = refl

value_type_covered : all_covered value_type_starts (starts starts_of value_type_body) ≡ true
unfolding integer void address_space pointer named length array type_list structure left_type_words left_type vector packed value_type_body type_body value_type_signs type_signs
value_type_covered = refl

value_type_more : more starts_of more_of value_type_body ≡ more_of a_value_type
unfolding integer void address_space pointer named length array type_list structure left_type_words left_type vector packed value_type_body type_body value_type_signs type_signs
value_type_more = refl

value_type_some : nullable value_type_body ≡ false
unfolding integer void address_space pointer named length array type_list structure left_type_words left_type vector packed value_type_body type_body value_type_signs type_signs
value_type_some = refl

constant_told : is_told starts_of more_of constant_body ≡ true
unfolding constants.number constants.constant_words constants.constant_word constants.undefined_words constants.undefined constants.float constants.address constants.byte_string constants.typed constants.typed_list constants.structure constants.more_typed constants.array constants.address_words constants.address_word constants.address_run constants.in_range constants.index constants.index_list constants.moved constants.constant_body constants.left_constant_words constants.constant_signs value_type_signs type_signs left_type_words
constant_told = refl

constant_covered : all_covered constant_starts (starts starts_of constant_body) ≡ true
unfolding constants.number constants.constant_words constants.constant_word constants.undefined_words constants.undefined constants.float constants.address constants.byte_string constants.typed constants.typed_list constants.structure constants.more_typed constants.array constants.address_words constants.address_word constants.address_run constants.in_range constants.index constants.index_list constants.moved constants.constant_body constants.left_constant_words constants.constant_signs value_type_signs type_signs left_type_words
constant_covered = refl

constant_more : more starts_of more_of constant_body ≡ []
unfolding constants.number constants.constant_words constants.constant_word constants.undefined_words constants.undefined constants.float constants.address constants.byte_string constants.typed constants.typed_list constants.structure constants.more_typed constants.array constants.address_words constants.address_word constants.address_run constants.in_range constants.index constants.index_list constants.moved constants.constant_body constants.left_constant_words constants.constant_signs value_type_signs type_signs left_type_words
constant_more = refl

constant_some : nullable constant_body ≡ false
unfolding constants.number constants.constant_words constants.constant_word constants.undefined_words constants.undefined constants.float constants.address constants.byte_string constants.typed constants.typed_list constants.structure constants.more_typed constants.array constants.address_words constants.address_word constants.address_run constants.in_range constants.index constants.index_list constants.moved constants.constant_body constants.left_constant_words constants.constant_signs value_type_signs type_signs left_type_words
constant_some = refl

item_told : is_told starts_of more_of item_body ≡ true
unfolding items.node_item items.word_item items.null_item items.item_list items.nested items.constant_item items.item_body items.item_signs value_type_signs type_signs left_type_words constants.constant_words constants.undefined_words constants.left_constant_words constants.constant_signs
item_told = refl

item_covered : all_covered item_starts (starts starts_of item_body) ≡ true
unfolding items.node_item items.word_item items.null_item items.item_list items.nested items.constant_item items.item_body items.item_signs value_type_signs type_signs left_type_words constants.constant_words constants.undefined_words constants.left_constant_words constants.constant_signs
item_covered = refl

item_more : more starts_of more_of item_body ≡ []
unfolding items.node_item items.word_item items.null_item items.item_list items.nested items.constant_item items.item_body items.item_signs value_type_signs type_signs left_type_words constants.constant_words constants.undefined_words constants.left_constant_words constants.constant_signs
item_more = refl

item_some : nullable item_body ≡ false
unfolding items.node_item items.word_item items.null_item items.item_list items.nested items.constant_item items.item_body items.item_signs value_type_signs type_signs left_type_words constants.constant_words constants.undefined_words constants.left_constant_words constants.constant_signs
item_some = refl

-- where no level may be opened, all that begins is too deep

level_absent : {A : Type 0} (S : List Start) (ts : List Piece) → begins_any S ts ≡ false → level_read {A = A} S ts ≡ absent
level_absent S ts e = rw e refl

level_deep : {A : Type 0} (S : List Start) (ts : List Piece) → begins_any S ts ≡ true → level_read {A = A} S ts ≡ deep
level_deep S ts e = rw e refl

level_found : {A : Type 0} (S : List Start) (ts : List Piece) (a : A) (rest : List Piece) → level_read {A = A} S ts ≡ found a rest → ⊥
level_found {A} S ts a rest e = go (begins_any S ts) e
  where
    go : (b : Bool) → cond {A = Read A} b deep absent ≡ found a rest → ⊥
    go true e = cc
    go false e = cc

level_opened : {A : Type 0} (S : List Start) (ts : List Piece) → level_read {A = A} S ts ≡ deep → begins_any S ts ≡ true
level_opened {A} S ts e = go (begins_any S ts) e
  where
    go : (b : Bool) → cond {A = Read A} b deep absent ≡ deep → b ≡ true
    go true e = refl
    go false e = absurd cc

level_exact : {A : Type 0} (F : Text A) (D : Type 0) (S M : List Start) → ((ts : List Piece) (a : A) → F ts a → begins_any S ts ≡ true) →
    ((ts : List Piece) (a : A) → F ts a → D) → Exact (λ ts a. ⊥) F D (λ ts. begins_any S ts ≡ true) (level_read S) S M false
level_exact {A} F D S M begins allows = record {
  sound = λ ts rest a e. absurd (level_found S ts a rest e);
  opened = λ ts e. level_opened {A = A} S ts e;
  within = λ ts a h. absurd h;
  starts = λ ts a is. inr (begins ts a is);
  finds = λ front rest a is ends. rw (any_longer S front rest (begins front a is)) (allows front a is);
  reaches = λ front rest a is. rw (any_longer S front rest (begins front a is)) tt;
  absent_at = λ ts e none. level_absent {A = A} S ts none;
  never_absent = λ ts e. absurd cc;
  deep_starts = λ ts e. level_opened {A = A} S ts e;
}

-- the same without a gap between the texts that are read and all of them
pub here : (n : ℕ) (x : Name) → Exact (IsAt n x) (IsAt n x) ⊥ (OpensAt n x) (reads n x) (starts_of x) (more_of x) false
here zero a_type = level_exact (λ ts a. ⊥) ⊥ type_starts (more_of a_type) (λ ts a h. absurd h) (λ ts a h. h)
here zero a_value_type = level_exact (λ ts a. ⊥) ⊥ value_type_starts (more_of a_value_type) (λ ts a h. absurd h) (λ ts a h. h)
here zero a_constant = level_exact (λ ts a. ⊥) ⊥ constant_starts [] (λ ts a h. absurd h) (λ ts a h. h)
here zero a_left = left_exact zero ⊥ (λ ts b. IsAt zero a_left ts b) (λ ts b is. (zero, is, λ h. omega arith)) (λ ts b is. is)
here zero an_item = level_exact (λ ts a. ⊥) ⊥ item_starts [] (λ ts a h. absurd h) (λ ts a h. h)
here (suc n) a_type =
    roughly (IsAt (suc n) a_type) type_starts (more_of a_type) type_covered type_more type_some (λ ts a is. is) (λ ts a is. is)
    (is_exact (IsAt n) (IsAt n) ⊥ (OpensAt n) (reads n) starts_of more_of (here n) type_body type_told)
here (suc n) a_value_type =
    roughly (IsAt (suc n) a_value_type) value_type_starts (more_of a_value_type) value_type_covered value_type_more value_type_some (λ ts a is. is) (λ ts a is. is)
    (is_exact (IsAt n) (IsAt n) ⊥ (OpensAt n) (reads n) starts_of more_of (here n) value_type_body value_type_told)
here (suc n) a_constant =
    roughly (IsAt (suc n) a_constant) constant_starts [] constant_covered constant_more constant_some (λ ts a is. is) (λ ts a is. is)
    (is_exact (IsAt n) (IsAt n) ⊥ (OpensAt n) (reads n) starts_of more_of (here n) constant_body constant_told)
here (suc n) a_left = left_exact (suc n) ⊥ (λ ts b. IsAt (suc n) a_left ts b) (λ ts b is. (suc n, is, λ h. omega arith)) (λ ts b is. is)
here (suc n) an_item =
    roughly (IsAt (suc n) an_item) item_starts [] item_covered item_more item_some (λ ts a is. is) (λ ts a is. is)
    (is_exact (IsAt n) (IsAt n) ⊥ (OpensAt n) (reads n) starts_of more_of (here n) item_body item_told)

-- a text of any number of levels begins so
begins_here : (m : ℕ) (x : Name) (ts : List Piece) (a : Value x) → IsAt m x ts a → begins_any (starts_of x) ts ≡ true
begins_here m x ts a is =
    elim ((here m x).starts ts a is) [ inl e ↦ absurd (not_both false e.1 refl) | inr e ↦ e ]

any_type : (ts : List Piece) (a : Value a_type) → IsAny a_type ts a → Is IsAny type_body ts a
any_type ts a (zero, is) = absurd is
any_type ts a (suc m, is) = is_more (IsAt m) IsAny (λ x us b h. (m, h)) type_body ts a is

any_value_type : (ts : List Piece) (a : Value a_value_type) → IsAny a_value_type ts a → Is IsAny value_type_body ts a
any_value_type ts a (zero, is) = absurd is
any_value_type ts a (suc m, is) = is_more (IsAt m) IsAny (λ x us b h. (m, h)) value_type_body ts a is

any_constant : (ts : List Piece) (a : Value a_constant) → IsAny a_constant ts a → Is IsAny constant_body ts a
any_constant ts a (zero, is) = absurd is
any_constant ts a (suc m, is) = is_more (IsAt m) IsAny (λ x us b h. (m, h)) constant_body ts a is

any_item : (ts : List Piece) (a : Value an_item) → IsAny an_item ts a → Is IsAny item_body ts a
any_item ts a (zero, is) = absurd is
any_item ts a (suc m, is) = is_more (IsAt m) IsAny (λ x us b h. (m, h)) item_body ts a is

any_left : (n : ℕ) (ts : List Piece) (b : Value a_left) → IsAny a_left ts b → (m : ℕ) × IsLeft m ts b × (n < m → Unit {0})
any_left n ts b (zero, is) = (zero, is, λ h. tt)
any_left n ts b (suc m, is) = (suc m, is, λ h. tt)

pub any : (n : ℕ) (x : Name) → Exact (IsAt n x) (IsAny x) (Unit {0}) (OpensAt n x) (reads n x) (starts_of x) (more_of x) false
any zero a_type = (level_exact (IsAny a_type) (Unit {0}) type_starts (more_of a_type) (λ ts a (m, is). begins_here m a_type ts a is) (λ ts a is. tt))
any zero a_value_type = (level_exact (IsAny a_value_type) (Unit {0}) value_type_starts (more_of a_value_type) (λ ts a (m, is). begins_here m a_value_type ts a is) (λ ts a is. tt))
any zero a_constant = (level_exact (IsAny a_constant) (Unit {0}) constant_starts [] (λ ts a (m, is). begins_here m a_constant ts a is) (λ ts a is. tt))
any zero a_left = left_exact zero (Unit {0}) (IsAny a_left) (λ ts b is. any_left zero ts b is) (λ ts b is. (zero, is))
any zero an_item = level_exact (IsAny an_item) (Unit {0}) item_starts [] (λ ts a (m, is). begins_here m an_item ts a is) (λ ts a is. tt)
any (suc n) a_type =
    roughly (IsAny a_type) type_starts (more_of a_type) type_covered type_more type_some (λ ts a is. (suc n, is)) any_type
    (is_exact (IsAt n) IsAny (Unit {0}) (OpensAt n) (reads n) starts_of more_of (any n) type_body type_told)
any (suc n) a_value_type =
    roughly (IsAny a_value_type) value_type_starts (more_of a_value_type) value_type_covered value_type_more value_type_some (λ ts a is. (suc n, is)) any_value_type
    (is_exact (IsAt n) IsAny (Unit {0}) (OpensAt n) (reads n) starts_of more_of (any n) value_type_body value_type_told)
any (suc n) a_constant =
    roughly (IsAny a_constant) constant_starts [] constant_covered constant_more constant_some (λ ts a is. (suc n, is)) any_constant
    (is_exact (IsAt n) IsAny (Unit {0}) (OpensAt n) (reads n) starts_of more_of (any n) constant_body constant_told)
any (suc n) a_left = left_exact (suc n) (Unit {0}) (IsAny a_left) (λ ts b is. any_left (suc n) ts b is) (λ ts b is. (suc n, is))
any (suc n) an_item =
    roughly (IsAny an_item) item_starts [] item_covered item_more item_some (λ ts a is. (suc n, is)) any_item
    (is_exact (IsAt n) IsAny (Unit {0}) (OpensAt n) (reads n) starts_of more_of (any n) item_body item_told)

pub deepens : (n : ℕ) (x : Name) (ts : List Piece) → OpensAt n x ts → reads n x ts ≡ deep
deepens zero a_type ts o = level_deep type_starts ts o
deepens zero a_value_type ts o = level_deep value_type_starts ts o
deepens zero a_constant ts o = level_deep constant_starts ts o
deepens zero a_left ts o = left_deepens zero ts o
deepens zero an_item ts o = level_deep item_starts ts o
deepens (suc n) a_type ts o = tells_deep (IsAt n) (OpensAt n) (reads n) starts_of more_of (here n) (deepens n) type_body type_told ts o
deepens (suc n) a_value_type ts o = tells_deep (IsAt n) (OpensAt n) (reads n) starts_of more_of (here n) (deepens n) value_type_body value_type_told ts o
deepens (suc n) a_constant ts o = tells_deep (IsAt n) (OpensAt n) (reads n) starts_of more_of (here n) (deepens n) constant_body constant_told ts o
deepens (suc n) a_left ts o = left_deepens (suc n) ts o
deepens (suc n) an_item ts o = tells_deep (IsAt n) (OpensAt n) (reads n) starts_of more_of (here n) (deepens n) item_body item_told ts o

own_told : is_told starts_of more_of own_items ≡ true
unfolding own_items items.node_item items.word_item items.null_item items.item_list items.nested items.constant_item items.item_body items.item_signs value_type_signs type_signs left_type_words constants.constant_words constants.undefined_words constants.left_constant_words constants.constant_signs
own_told = refl

-- the parts of a node that stands for itself
pub own_exact : (n : ℕ) → Exact (Is (IsAt n) own_items) (Is IsAny own_items) (Unit {0}) (Opens (IsAt n) (OpensAt n) own_items) (read (reads n) own_items)
    (starts starts_of own_items) (more starts_of more_of own_items) (nullable own_items)
own_exact n = is_exact (IsAt n) IsAny (Unit {0}) (OpensAt n) (reads n) starts_of more_of (any n) own_items own_told
