-- Places grow along a text.
use Rattle.std.proofs.Common.{◌≡◌, ℕ, zero, suc, ◌+◌, ◌-◌, ◌<◌, ◌≤◌, Bool, true, false, if◌then◌else◌, ◌⊎◌, inl, inr, List, length, slice_index, zero-add, refl, sym, ◌∙◌, ap, subst, arith, take-suc}
use Rattle.std.proofs.lemmas.Bool.{cases_order, cases_lt}
use Rattle.std.proofs.lemmas.List.Sums.{fold-append}
use Rattle.ltt_base.specs.declared.refusal.Place.{Place}
use Rattle.ir_lex.specs.Letters.{is_line_end}
use Rattle.ir_lex.specs.Places.{place_behind, place_at}
use Rattle.ir_text.specs.Stuck.{IsOffset, line_behind, column_behind, Walked}

pub place_first : (file : ℕ) (text : List ℕ) → place_at file text 0 ≡ record { file = file; line = 1; column = 1 }
unfolding place_at
place_first file text = refl

pub place_next : (file : ℕ) (text : List ℕ) (at : ℕ) → at < length text →
    place_at file text (suc at) ≡ place_behind (place_at file text at) (slice_index text at)
unfolding place_at
place_next file text at h = rw (take-suc text at 0, fold-append) refl

-- a place that stands behind another
abbrev pub IsBehind : Place → Place → Type 0
IsBehind p q = (p.line < q.line) ⊎ ((p.line ≡ q.line) × (p.column < q.column))

behind_test : (p : Place) (v : Bool) → IsBehind p (if v then record p { line = p.line + 1; column = 1 } else record p { column = p.column + 1 })
behind_test p true = inl (omega arith)
behind_test p false = inr (refl, omega arith)

behind_byte : (p : Place) (b : ℕ) → IsBehind p (place_behind p b)
behind_byte p b = behind_test p (is_line_end b)

behind_both : (p q r : Place) → IsBehind p q → IsBehind q r → IsBehind p r
behind_both p q r (inl a) (inl b) = inl (omega arith)
behind_both p q r (inl a) (inr b) = inl (omega arith)
behind_both p q r (inr a) (inl b) = inl (omega arith)
behind_both p q r (inr a) (inr b) = inr (omega arith, omega arith)

behind_self : (p : Place) → IsBehind p p → ⊥
behind_self p (inl a) = omega arith
behind_self p (inr a) = omega arith

behind_next : (file : ℕ) (text : List ℕ) (at : ℕ) → at < length text → IsBehind (place_at file text at) (place_at file text (suc at))
behind_next file text at h =
    subst (λ (z : Place). IsBehind (place_at file text at) z) (sym (place_next file text at h))
    (behind_byte (place_at file text at) (slice_index text at))

grows : (file : ℕ) (text : List ℕ) (d i : ℕ) → suc (d + i) ≤ length text → IsBehind (place_at file text i) (place_at file text (suc (d + i)))
grows file text zero i within = rw zero-add (behind_next file text i (omega arith))
grows file text (suc d) i within =
    let same : suc d + i ≡ suc (d + i) = omega arith in
    rw same
    (behind_both (place_at file text i) (place_at file text (suc (d + i))) (place_at file text (suc (suc (d + i))))
    (grows file text d i (omega arith)) (behind_next file text (suc (d + i)) (omega arith)))

apart : (file : ℕ) (text : List ℕ) (i k : ℕ) → i < k → k ≤ length text → place_at file text i ≡ place_at file text k → ⊥
apart file text i k less within same =
    let is : suc ((k - suc i) + i) ≡ k = omega arith in
    let more = grows file text (k - suc i) i (omega arith) in
    let more' : IsBehind (place_at file text i) (place_at file text k) =
    subst (λ (z : ℕ). IsBehind (place_at file text i) (place_at file text z)) is more in
    behind_self (place_at file text k) (subst (λ (z : Place). IsBehind z (place_at file text k)) same more')

-- one byte at most stands at a place
pub same_offset : (file : ℕ) (text : List ℕ) (i k : ℕ) → i ≤ length text → k ≤ length text → place_at file text i ≡ place_at file text k → i ≡ k
same_offset file text i k hi hk same =
    elim (cases_order i k) [
      | inl e ↦ e
      | inr other ↦ elim other [
        | inl less ↦ absurd (apart file text i k less hk same)
        | inr more ↦ absurd (apart file text k i more hi (sym same))
      ]
    ]

-- the place behind a byte, by its parts
parts_by : (file line column : ℕ) (v : Bool) →
    let behind : Place = (if v then record { file = file; line = line + 1; column = 1 } else record { file = file; line = line; column = column + 1 }) in
    let parts : Place = record { file = file; line = (if v then line + 1 else line); column = (if v then 1 else column + 1) } in
    behind ≡ parts
parts_by file line column true = refl
parts_by file line column false = refl

place_parts : (file line column b : ℕ) →
    let parts : Place = record { file = file; line = line_behind line b; column = column_behind column b } in
    place_behind (record { file = file; line = line; column = column }) b ≡ parts
place_parts file line column b = parts_by file line column (is_line_end b)

file_by : (p : Place) (v : Bool) → (if v then record p { line = p.line + 1; column = 1 } else record p { column = p.column + 1 }).file ≡ p.file
file_by p true = refl
file_by p false = refl

place_file : (file : ℕ) (text : List ℕ) (at : ℕ) → at ≤ length text → (place_at file text at).file ≡ file
place_file file text zero h = ap (λ (z : Place). z.file) (place_first file text)
place_file file text (suc at) h =
    ap (λ (z : Place). z.file) (place_next file text at (omega arith))
    ∙ file_by (place_at file text at) (is_line_end (slice_index text at))
    ∙ place_file file text at (omega arith)

line_by : (v : Bool) (line i : ℕ) → line ≤ i + 1 → (if v then line + 1 else line) ≤ suc i + 1
line_by true line i h = omega arith
line_by false line i h = omega arith

column_by : (v : Bool) (column i : ℕ) → column ≤ i + 1 → (if v then 1 else column + 1) ≤ suc i + 1
column_by true column i h = omega arith
column_by false column i h = omega arith

pub walked_start : (file : ℕ) (text : List ℕ) (place : Place) → Walked file text place 0 1 1
walked_start file text place = record {
  here = place_first file text;
  line_small = omega arith;
  column_small = omega arith;
  none = λ k less same. omega arith;
}

-- one byte further along
pub walks : (file : ℕ) (text : List ℕ) (place : Place) (i line column : ℕ) → i < length text → Walked file text place i line column →
    ((line ≡ place.line) × (column ≡ place.column) → ⊥) →
    Walked file text place (suc i) (line_behind line (slice_index text i)) (column_behind column (slice_index text i))
walks file text place i line column within w other = record {
  here =
      place_next file text i within ∙ ap (λ (z : Place). place_behind z (slice_index text i)) w.here
      ∙ place_parts file line column (slice_index text i);
  line_small = line_by (is_line_end (slice_index text i)) line i w.line_small;
  column_small = column_by (is_line_end (slice_index text i)) column i w.column_small;
  none = λ k less same.
      elim (cases_lt k i) [
        | inl before ↦ w.none k before same
        | inr past ↦
            let is : k ≡ i = omega arith in
            let here : place_at file text i ≡ place = subst (λ (z : ℕ). place_at file text z ≡ place) is same in
            other (ap (λ (z : Place). z.line) (sym w.here ∙ here), ap (λ (z : Place). z.column) (sym w.here ∙ here))
      ];
}

-- the byte that the walk stops at
pub found_here : (file : ℕ) (text : List ℕ) (place : Place) (i line column offset : ℕ) → i < length text → Walked file text place i line column →
    IsOffset file text place offset → line ≡ place.line → column ≡ place.column → IsOffset file text place i
found_here file text place i line column offset within w o same_line same_column =
    let same_file : place.file ≡ file = ap (λ (z : Place). z.file) o.is ∙ place_file file text offset (omega (arith, o.within)) in
    let of_file : ℕ → Place = λ z. record { file = z; line = place.line; column = place.column } in
    let of_line : ℕ → Place = λ z. record { file = file; line = z; column = place.column } in
    let of_column : ℕ → Place = λ z. record { file = file; line = line; column = z } in
    record {
      within = within;
      is = ap of_file same_file ∙ ap of_line (sym same_line) ∙ ap of_column (sym same_column) ∙ sym w.here;
    }

-- a byte that is sought is met before the end
pub not_past : (file : ℕ) (text : List ℕ) (place : Place) (i line column offset : ℕ) → length text ≤ i → Walked file text place i line column →
    IsOffset file text place offset → ⊥
not_past file text place i line column offset past w o = w.none offset (omega (arith, o.within)) (sym o.is)
