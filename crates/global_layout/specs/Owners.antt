-- Fragments under rising numbers, and for each object the number of the fragment that holds it.
-- No standard speaks of them: they serve to take a step without looking at all fragments.
use Rattle.std.specs.Prelude.{◌≡◌, ℕ, ◌<◌, ◌≤◌, Bool, true, false, not, ◌⊎◌, List, length, ◌==◌, All, Option, Some, None, is_some, if◌then◌else◌, slice_index_or}
use Rattle.std.specs.List.{list_any, filter, concat}
use Rattle.std.specs.List.Sorted.{IsStrictlySortedBy}
use Rattle.std.specs.Ordering.{nat_cmp}
use Rattle.std.specs.Map.{keys_of, values_of}
use Rattle.global_layout.specs.Fragments.{is_among, is_held}

-- an object's number in a list by objects
abbrev pub owner_in : List (Option ℕ) → ℕ → Option ℕ
owner_in owners object = slice_index_or owners object None

-- whether an object's number is this one
abbrev pub is_of : Option ℕ → ℕ → Bool
is_of None number = false
is_of (Some other) number = other == number

pub record Owns (entries : List (ℕ × List ℕ)) (owner : ℕ → Option ℕ) (next : ℕ) : Type 0 where
  -- a fragment holds the objects of its number
  pub of : All (λ e. (o : ℕ) → is_among e.1 o ≡ is_of (owner o) e.0) entries
  -- an object has a number exactly if a fragment holds it
  pub held : (o : ℕ) → is_held (values_of entries) o ≡ is_some (owner o)
  -- numbers are below the next
  pub past : (o n : ℕ) → next ≤ n → is_of (owner o) n ≡ false
  pub low : All (λ e. e.0 < next) entries
  pub rising : IsStrictlySortedBy nat_cmp (keys_of entries)

-- whether one of the objects has this number
abbrev pub is_root : (ℕ → Option ℕ) → List ℕ → ℕ → Bool
is_root owner objects number = list_any (λ o. is_of (owner o) number) objects

-- the fragments whose number passes, joined in their order
abbrev pub joined : (ℕ → Bool) → List (ℕ × List ℕ) → List ℕ
joined p entries = concat (values_of (filter (λ e. p e.0) entries))

-- the other fragments
abbrev pub rest : (ℕ → Bool) → List (ℕ × List ℕ) → List (ℕ × List ℕ)
rest p entries = filter (λ e. not (p e.0)) entries

-- the objects that have no number
abbrev pub unowned : (ℕ → Option ℕ) → List ℕ → List ℕ
unowned owner objects = filter (λ o. not (is_some (owner o))) objects

-- these objects have this number, the others theirs
abbrev pub owner_more : (ℕ → Option ℕ) → List ℕ → ℕ → ℕ → Option ℕ
owner_more owner objects number o = if is_among objects o then Some number else owner o

-- Labels.

-- the number of a label's fragment
abbrev pub number_at : List ℕ → Option ℕ → Option ℕ
number_at numbers None = None
number_at numbers (Some label) = Some (slice_index_or numbers label 0)

-- the number of the fragment that holds an object, by the object's label
abbrev pub number_by : List (Option ℕ) → List ℕ → ℕ → Option ℕ
number_by labels numbers object = number_at numbers (owner_in labels object)

-- each label that an object has is below the next, and `names` has it for the number of its fragment
pub record IsLabelled (labels : List (Option ℕ)) (numbers names : List ℕ) (next : ℕ) : Type 0 where
  pub numbers_count : length numbers ≡ next
  pub names_count : length names ≡ next
  pub low : (o label : ℕ) → owner_in labels o ≡ Some label → label < next
  pub named : (o label : ℕ) → owner_in labels o ≡ Some label → slice_index_or names (slice_index_or numbers label 0) 0 ≡ label

-- these objects have this label, and the others what they had before
abbrev pub AreLabelled : (ℕ → Option ℕ) → List ℕ → ℕ → (ℕ → Option ℕ) → Type 0
AreLabelled before objects label after = (o : ℕ) → after o ≡ owner_more before objects label o

-- the objects of each fragment have the label that `names` has for its number
abbrev pub AreNamed : List (ℕ × List ℕ) → (ℕ → Option ℕ) → List ℕ → Type 0
AreNamed entries label names = All (λ e. (o : ℕ) → is_among e.1 o ≡ true → label o ≡ Some (slice_index_or names e.0 0)) entries

-- the label of a fragment whose number passes, or a fresh one
abbrev pub IsLabel : (ℕ → Bool) → List ℕ → ℕ → ℕ → Type 0
IsLabel p names fresh label = (label ≡ fresh) ⊎ ((number : ℕ) × (p number ≡ true) × (label ≡ slice_index_or names number 0))

-- one of two lists of objects keeps its label, and the other takes it
abbrev pub AreMerged : List ℕ → ℕ → List ℕ → ℕ → ℕ → (ℕ → Option ℕ) → (ℕ → Option ℕ) → Type 0
AreMerged first own more other label before after =
    ((label ≡ own) × AreLabelled before more own after) ⊎ ((label ≡ other) × AreLabelled before first other after)
