-- Lemmas on the files in memory: where a name stands once a file is replaced or added.
use Rattle.std.proofs.Common.{◌≡◌, ◌≢◌, ℕ, zero, suc, ◌+◌, ◌<◌, ◌≤◌, List, [], ◌∷◌, ◌++◌, length, get_or, slice_get, slice_set, Some, None, Bool, true, false, not, nat_eq, eqb, cond, inl, inr, length-append, Result, Ok, Err, is_err, OnOk, MatchOption, option_map, position, refl, sym, ap, ◌∙◌, arith}
use Rattle.std.specs.List.{position_or_len}
use Rattle.std.specs.declared.option.Option.{Option}
use Rattle.std.proofs.lemmas.Bool.{cases_eq}
use Rattle.std.proofs.lemmas.Bool.Decides.{nat_tests}
use Rattle.std.proofs.lemmas.List.Folds.{position_or_len-set, position_or_len_push}
use Rattle.std.proofs.lemmas.List.Sums.{passes_at_first, prefix_len-le-length}
use Rattle.std.proofs.lemmas.Option.{get_or_from_slice_get, slice_get_within, slice_get_past}
use Rattle.std.specs.Cmp.Lexicographic.{pointwise, same_text}
use Rattle.std.proofs.lemmas.Cmp.{nat_list_eq_equiv}
use Rattle.ltt_base.specs.declared.memory_files.MemFile.{MemFile}
use Rattle.ltt_base.specs.MemoryFiles.{is_named, place_of, bytes_at}

pub slice_get-set_same : {X : Type 0} (xs : List X) (i : ℕ) (y : X) → i < length xs → slice_get (slice_set xs i y) i ≡ Some y
slice_get-set_same [] i y within = absurd (omega arith)
slice_get-set_same (x ∷ xs) zero y within = refl
slice_get-set_same (x ∷ xs) (suc i) y within = slice_get-set_same xs i y (omega arith)

pub slice_get-set_other : {X : Type 0} (xs : List X) (i k : ℕ) (y : X) → k ≢ i → slice_get (slice_set xs i y) k ≡ slice_get xs k
slice_get-set_other [] i k y other = refl
slice_get-set_other (x ∷ xs) zero zero y other = absurd (other refl)
slice_get-set_other (x ∷ xs) zero (suc k) y other = refl
slice_get-set_other (x ∷ xs) (suc i) zero y other = refl
slice_get-set_other (x ∷ xs) (suc i) (suc k) y other = slice_get-set_other xs i k y (λ is. other (ap suc is))

pub slice_get-push : {X : Type 0} (xs : List X) (y : X) → slice_get (xs ++ y ∷ []) (length xs) ≡ Some y
slice_get-push [] y = refl
slice_get-push (x ∷ xs) y = slice_get-push xs y

pub slice_get-push_other : {X : Type 0} (xs : List X) (y : X) (k : ℕ) → k ≢ length xs → slice_get (xs ++ y ∷ []) k ≡ slice_get xs k
slice_get-push_other [] y zero other = absurd (other refl)
slice_get-push_other [] y (suc k) other = refl
slice_get-push_other (x ∷ xs) y zero other = refl
slice_get-push_other (x ∷ xs) y (suc k) other = slice_get-push_other xs y k (λ is. other (ap suc is))

-- what `position` finds is the place
pub placed : {X : Type 0} (p : X → Bool) (xs : List X) (found : Option ℕ) → found ≡ position p xs
    → MatchOption found (length xs ≡ position_or_len p xs) (λ place. place ≡ position_or_len p xs)
placed p xs None is = let bound = prefix_len-le-length (λ x. not (p x)) xs in grind (arith, nat_tests)
placed p xs (Some place) is = grind (arith, nat_tests)

-- a name is its own, and no other's
itself : (name : List ℕ) → pointwise nat_eq name name ≡ true
itself name = nat_list_eq_equiv.refl name

another : (name other : List ℕ) → name ≢ other → pointwise nat_eq name other ≡ false
another name other apart = elim (pointwise nat_eq name other) as (λ b. (true ≡ b → name ≡ other) → b ≡ false) [
  | true ↦ λ one. absurd (apart (one refl))
  | false ↦ λ one. refl
] (same_text name other)

pub place_of-bound : (name : List ℕ) (files : List MemFile) → place_of name files ≤ length files
place_of-bound name files = prefix_len-le-length (λ file. not (is_named name file)) files

-- two names of one file are one
pub one_name : (files : List MemFile) (name other : List ℕ) → place_of name files < length files
    → place_of other files ≡ place_of name files → other ≡ name
one_name files name other within is =
    let none : MemFile = record { name = []; bytes = [] } in
    let first : (get_or files (place_of name files) none).name ≡ name = same_text _ _ (sym (passes_at_first (is_named name) files none within)) in
    let second : (get_or files (place_of other files) none).name ≡ other = same_text _ _ (sym (passes_at_first (is_named other) files none (omega arith))) in
    sym second ∙ ap (λ place. (get_or files place none).name) is ∙ first

module _ (files : List MemFile) (place : ℕ) (file : MemFile) (stands : slice_get files place ≡ Some file) (bytes : List ℕ) where
  -- other bytes at a place change no name's place
  pub place_of-replaced : (name : List ℕ) → place_of name (slice_set files place (record file { bytes = bytes })) ≡ place_of name files
  place_of-replaced name =
      position_or_len-set (is_named name) files place (record file { bytes = bytes }) file (sym (ap (is_named name) (get_or_from_slice_get files place file file stands)))

  -- the name at the place has these bytes
  pub held_replaced : (name : List ℕ) → place_of name files ≡ place
      → bytes_at (slice_set files place (record file { bytes = bytes })) (place_of name (slice_set files place (record file { bytes = bytes }))) ≡ Some bytes
  held_replaced name is =
      ap (bytes_at (slice_set files place (record file { bytes = bytes }))) (place_of-replaced name ∙ is)
      ∙ ap (option_map (λ f. f.bytes)) (slice_get-set_same files place (record file { bytes = bytes }) (slice_get_within files place file stands))

  -- every other name has what it had
  pub held_others : (name : List ℕ) → place_of name files ≢ place
      → bytes_at (slice_set files place (record file { bytes = bytes })) (place_of name (slice_set files place (record file { bytes = bytes }))) ≡ bytes_at files (place_of name files)
  held_others name other =
      ap (bytes_at (slice_set files place (record file { bytes = bytes }))) (place_of-replaced name)
      ∙ ap (option_map (λ f. f.bytes)) (slice_get-set_other files place (place_of name files) (record file { bytes = bytes }) other)

module _ (files : List MemFile) (file : MemFile) where
  -- a file behind the last has its bytes under its name, where that had none
  pub held_pushed : place_of file.name files ≡ length files
      → bytes_at (files ++ file ∷ []) (place_of file.name (files ++ file ∷ [])) ≡ Some file.bytes
  held_pushed none =
      let same : is_named file.name file ≡ true = itself file.name in
      let at = position_or_len_push (is_named file.name) files file ∙ first none same in
      ap (bytes_at (files ++ file ∷ [])) at ∙ ap (option_map (λ f. f.bytes)) (slice_get-push files file)
    where
      first : {place count : ℕ} {same : Bool} → place ≡ count → same ≡ true → cond (eqb place count) (count + cond same 0 1) place ≡ count
      first is same = grind (arith, nat_tests)

  -- every other name has what it had
  pub held_besides : (name : List ℕ) → name ≢ file.name
      → bytes_at (files ++ file ∷ []) (place_of name (files ++ file ∷ [])) ≡ bytes_at files (place_of name files)
  held_besides name apart = elim (cases_eq (place_of name files) (length files)) [
    | inl last ↦
        let at : place_of name (files ++ file ∷ []) ≡ length files + 1 = position_or_len_push (is_named name) files file ∙ second last (another file.name name (λ is. apart (sym is))) in
        ap (option_map (λ f. f.bytes)) (slice_get_past (files ++ file ∷ []) (place_of name (files ++ file ∷ [])) (omega (arith, length-append files (file ∷ [])))
        ∙ sym (slice_get_past files (place_of name files) (omega arith)))
    | inr inside ↦
        let at : place_of name (files ++ file ∷ []) ≡ place_of name files = position_or_len_push (is_named name) files file ∙ third _ _ _ inside in
        ap (bytes_at (files ++ file ∷ [])) at ∙ ap (option_map (λ f. f.bytes)) (slice_get-push_other files file (place_of name files) inside)
  ]
    where
      second : {place count : ℕ} {same : Bool} → place ≡ count → same ≡ false → cond (eqb place count) (count + cond same 0 1) place ≡ count + 1
      second is same = grind (arith, nat_tests)

      third : (place count rest : ℕ) → place ≢ count → cond (eqb place count) rest place ≡ place
      third place count rest is = grind (arith, nat_tests)

-- what an `Ok` brings
pub ok_of : {T E : Type 0} (result : Result T E) (P : Type 0) → is_err result ≡ false → OnOk result P → P
ok_of (Ok x) P is holds = holds
ok_of (Err e) P is holds = cc
