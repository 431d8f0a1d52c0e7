-- What a type that is written without a flaw is, behind the names that stand for the whole of it.
use Rattle.std.proofs.Common.{◌≡◌, refl, ◌∙◌, ap, sym, subst, ℕ, zero, suc, Bool, true, false, not, cond, ◌&&◌, ◌||◌, List, [], ◌∷◌, length, Option, Some, None, arith}
use Rattle.std.specs.Prelude.{is_none}
use Rattle.std.specs.List.{list_all}
use Rattle.ltt_base.specs.declared.refusal.Code.TheVariants.{E05, E06, E07}
use Rattle.ir_values.specs.declared.types.Ty.{Ty, out-Ty, map-Ty, fold_out-Ty}
use Rattle.ir_values.specs.declared.types.Ty.TheOpen.{Ty-F}
use Rattle.check_names.specs.declared.spaces.Space.TheVariants.{Types}
use Rattle.check_names.specs.Flaws.{when, worded_when}
use Rattle.check_names.specs.Spaces.{sign, defines, missing_flaw}
use Rattle.ir_names.specs.Words.{named_word}
use Rattle.check_names.specs.Reserved.{reserved_flaw, use_flaw}
use Rattle.check_types.specs.Left.{is_metadata, is_wide_array, left_word, left_flaw}
use Rattle.check_types.specs.Named.{named_type, names_in, names_step, each_name, ends, is_endless, is_opaque}
use Rattle.check_types.specs.Heads.{type_head, option_head, followed, named_head, head}
use Rattle.check_types.specs.Measures.{Measure, measure_step, option_measure, named_measure, measure}
use Rattle.check_types.specs.Written.{Written, written_step, written, name_flaw, is_void, is_void_head}
use Rattle.sized_modules.specs.Written.{pair_step, has_pair}
use Rattle.sized_modules.proofs.FlawLemmas.{none_first, none_second, unbroken, unbroken_word, neither_first, neither_second, holds, clash}
use Rattle.sized_modules.proofs.RoundLemmas.{named_measure_is}
use Rattle.sized_modules.proofs.UnitLemmas.{Units}

-- a layer that is no name and isn't left out
abbrev pub is_known : Ty-F Ty → Bool
is_known (Ty-F.Named name) = false
is_known (Ty-F.Left text) = false
is_known _ = true

-- a name that may be used
pub record Usable (us : Units) (name : List ℕ) : Type 0 where
  pub typed : is_none (named_type us name) ≡ false
  pub ending : ends us (length us) name ≡ true

typed_defined : (a b : Bool) → not a ≡ false → a && b ≡ false → b ≡ false
typed_defined a b one other = grind arith

-- a type that is left out has a flaw
pub left_flawed : {P : Type 0} (text : List ℕ) → left_flaw false text ≡ None → P
unfolding left_flaw
left_flawed text is =
    absurd (choice (is_metadata text) (is_wide_array text) is) where
      choice : (one other : Bool) → cond one (when true E06) (cond other (when true E06) (worded_when true E07 (left_word text))) ≡ None → ⊥
      choice true other is = grind arith
      choice false true is = grind arith
      choice false false is = grind arith

-- a name that stands for the whole of a type ends where the type's names do
whole_ends : (us : Units) (n : ℕ) (ty : Ty) (name : List ℕ) → out-Ty ty ≡ Ty-F.Named name → each_name (ends us n) (Some ty) ≡ true → ends us n name ≡ true
whole_ends us n ty name is all =
    let names : names_in ty ≡ name ∷ [] = fold_out-Ty (List (List ℕ)) names_step ty ∙ ap (λ l. names_step (map-Ty Ty (List (List ℕ)) names_in l)) is in
    let one : ends us n name && true ≡ true = ap (list_all (ends us n)) (sym names) ∙ all in
    grind arith

module _ (output : Bool) where
  -- a type is written without a flaw, and holds no pair
  pub record IsPlain (us : Units) (ty : Ty) : Type 0 where
    pub clean : (written output us false ty).flaw ≡ None
    pub plain : has_pair ty ≡ false

  -- so is the type of each name
  abbrev pub ArePlain : Units → Type 0
  ArePlain us = (name : List ℕ) (ty : Ty) → named_type us name ≡ Some ty → IsPlain us ty

  -- such a type takes this much
  pub record Takes (us : Units) (m : Measure) (ty : Ty) : Type 0 where
    pub plain : IsPlain us ty
    pub takes : measure us ty ≡ Some m

  -- the same of one layer of a type
  pub record Layer (us : Units) (m : Measure) (layer : Ty-F Ty) : Type 0 where
    pub clean : (written_step output us false (map-Ty Ty Written (written output us false) layer)).flaw ≡ None
    pub plain : pair_step (map-Ty Ty Bool has_pair layer) ≡ false
    pub takes : measure_step (named_measure us) (map-Ty Ty (Option Measure) (measure us) layer) ≡ Some m

  -- what is known of a type is known of its layer
  pub opened : (us : Units) (m : Measure) (ty : Ty) (layer : Ty-F Ty) → out-Ty ty ≡ layer → Takes us m ty → Layer us m layer
  unfolding measure
  opened us m ty layer is own = subst (Layer us m) is (record {
    clean = ap (λ w. w.flaw) (sym (fold_out-Ty Written (written_step output us false) ty)) ∙ own.plain.clean;
    plain = sym (fold_out-Ty Bool pair_step ty) ∙ own.plain.plain;
    takes = sym (fold_out-Ty (Option Measure) (measure_step (named_measure us)) ty) ∙ own.takes;
  })

  -- a known type that takes this much
  pub record Known (us : Units) (m : Measure) (ty : Ty) : Type 0 where
    pub takes : Takes us m ty
    pub known : is_known (out-Ty ty) ≡ true

  -- a head that is known and takes this much
  abbrev pub HasHead : Units → Measure → Option Ty → Type 0
  HasHead us m None = ⊥
  HasHead us m (Some ty) = Known us m ty

  -- a name without a flaw may be used
  pub usable : (us : Units) (name : List ℕ) → name_flaw output us false name ≡ None → Usable us name
  unfolding is_endless
  usable us name none =
      let used = use_flaw output us Types name in
      let bad = is_opaque us name || is_endless us name in
      let unused = none_first (missing_flaw us Types name) (reserved_flaw output (sign Types) name) (none_first used (when bad E06) none) in
      let undefined = unbroken_word (not (defines Types name us)) E05 (named_word (sign Types) name) unused in
      let good = unbroken bad E06 (none_second used (when bad E06) none) in
      record {
        typed = typed_defined (defines Types name us) (is_none (named_type us name)) undefined (neither_first (is_opaque us name) (is_endless us name) good);
        ending = holds (ends us (length us) name) (neither_second (is_opaque us name) (is_endless us name) good);
      }

  -- the head of a type, where those of names are known
  type_has_head : (us : Units) (follow : List ℕ → Option Ty) (m : Measure) (ty : Ty)
      → ((name : List ℕ) → out-Ty ty ≡ Ty-F.Named name → name_flaw output us false name ≡ None → named_measure us name ≡ Some m → HasHead us m (follow name))
      → Takes us m ty → (layer : Ty-F Ty) → out-Ty ty ≡ layer → HasHead us m (type_head follow ty layer)
  type_has_head us follow m ty named own (Ty-F.Named name) is =
      let layer = opened us m ty (Ty-F.Named name) is own in named name is layer.clean layer.takes
  type_has_head us follow m ty named own (Ty-F.Left text) is =
      let layer = opened us m ty (Ty-F.Left text) is own in left_flawed text layer.clean
  type_has_head us follow m ty named own _ is = record { takes = own; known = ap is_known is }

  -- the head of a name's type, where those of its names are known
  option_has_head : (us : Units) (n : ℕ) (m : Measure) → ArePlain us
      → ((name : List ℕ) → ends us n name ≡ true → name_flaw output us false name ≡ None → named_measure us name ≡ Some m → HasHead us m (followed us n name))
      → (name : List ℕ) (ty : Option Ty) → named_type us name ≡ ty → is_none ty ≡ false → each_name (ends us n) ty ≡ true
      → option_measure (named_measure us) ty ≡ Some m → HasHead us m (option_head (followed us n) ty)
  unfolding measure
  option_has_head us n m plain follows name None is some all takes = clash true refl some
  option_has_head us n m plain follows name (Some ty) is some all takes =
      type_has_head us (followed us n) m ty (λ other whole clean much. follows other (whole_ends us n ty other whole all) clean much)
      (record { plain = plain name ty is; takes = takes }) (out-Ty ty) refl

  -- what a name stands for behind so many names
  followed_has_head : (us : Units) (m : Measure) → ArePlain us → (n : ℕ) (name : List ℕ) → ends us n name ≡ true
      → name_flaw output us false name ≡ None → named_measure us name ≡ Some m → HasHead us m (followed us n name)
  unfolding ends followed
  followed_has_head us m plain zero name ending clean takes =
      clash (is_none (named_type us name)) ending (usable us name clean).typed
  followed_has_head us m plain (suc n) name ending clean takes =
      let good = usable us name clean in
      option_has_head us n m plain (followed_has_head us m plain n) name (named_type us name) refl good.typed ending
      (sym (named_measure_is us name good.ending) ∙ takes)

  -- what a name stands for in the end
  named_has_head : (us : Units) (m : Measure) → ArePlain us → (name : List ℕ) → name_flaw output us false name ≡ None
      → named_measure us name ≡ Some m → HasHead us m (named_head us name)
  unfolding named_head is_endless
  named_has_head us m plain name clean takes =
      let good = usable us name clean in
      subst (λ b. HasHead us m (cond (not b) None (followed us (length us) name))) (sym good.ending)
      (followed_has_head us m plain (length us) name good.ending clean takes)

  -- a type within the limits that is written without a flaw has a head, which takes as much
  pub has_head : (us : Units) (m : Measure) → ArePlain us → (ty : Ty) → Takes us m ty → HasHead us m (head us ty)
  has_head us m plain ty own =
      type_has_head us (named_head us) m ty (λ name _ clean takes. named_has_head us m plain name clean takes) own (out-Ty ty) refl

  void_known : (us : Units) (ty : Ty) (layer : Ty-F Ty) → out-Ty ty ≡ layer
      → is_void_head (type_head (named_head us) ty layer) ≡ (written_step output us false (map-Ty Ty Written (written output us false) layer)).void
  void_known us ty (Ty-F.Named name) is = refl
  void_known us ty (Ty-F.Left text) is = refl
  void_known us ty _ is = ap is_void is

  -- a type is written as `void` where its head is
  pub void_is : (us : Units) (ty : Ty) → is_void_head (head us ty) ≡ (written output us false ty).void
  void_is us ty = void_known us ty (out-Ty ty) refl ∙ ap (λ w. w.void) (sym (fold_out-Ty Written (written_step output us false) ty))
