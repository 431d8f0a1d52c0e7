-- The tokens of a printed type are a text that says it.
use Rattle.std.proofs.Common.{◌≡◌, refl, sym, ◌∙◌, ap, subst, ℕ, zero, suc, false, true, List, [], ◌∷◌, map, Some, None}
use Rattle.std.specs.List.{AllByRecursion}
use Rattle.ir_lex.specs.declared.token.Kind.TheVariants.{Word}
use Rattle.ir_values.specs.declared.types.Width.{Width}
use Rattle.ir_values.specs.declared.types.Width.TheVariants.{W1, W8, W16, W32, W64}
use Rattle.ir_values.specs.declared.types.Ty.{Ty, out-Ty, roll-Ty, roll-out-Ty}
use Rattle.ir_values.specs.declared.types.Ty.TheVariants as ty
use Rattle.ir_values.specs.declared.types.Ty.TheVariants.{rolls-Void, rolls-Int, rolls-Ptr, rolls-Array, rolls-Struct}
use Rattle.ir_values.specs.declared.types.Ty.TheOpen.{Ty-F}
use Rattle.unit_grammar.specs.Grammar.{at}
use Rattle.type_grammar.specs.Names.{a_type, a_value_type}
use Rattle.type_grammar.specs.Numbers.{length_of}
use Rattle.type_grammar.specs.Types.{integer_of, integer_word, integer, void, pointer, length, array, type_list, structure, value_type_body, type_body}
use Rattle.type_grammar.specs.Levels.{IsAt, levels}
use Rattle.ir_print.specs.Types.{width_text}
use Rattle.printed_tokens.specs.Looks.{seen_of}
use Rattle.printed_tokens.proofs.AtomLemmas.{seen_of_append}
use Rattle.printed_units.specs.Printing.{word, ty_layer_atoms, ty_within_atoms, ty_atoms}
use Rattle.printed_units.specs.Written.{TyLayer, IsTyWithin, IsTy, is_void}
use Rattle.printed_units.proofs.WrittenLemmas.{int_within, int_within_atoms}
use Rattle.printed_units.proofs.SeenLemmas.{lets}
use Rattle.printed_units.proofs.ShowLemmas.{ShowsIn, Shows, AreShownBy, token_shows, skip_shows, sign_shows, both_show, says_shows, mapped_shows, left_shows, right_shows, none_shows, ends_show, braced_shows}
use Rattle.printed_units.proofs.ValueLemmas.{length_said}

width_lets : (width : Width) → lets integer_word Word (width_text width) ≡ true
width_lets W1 = refl
width_lets W8 = refl
width_lets W16 = refl
width_lets W32 = refl
width_lets W64 = refl

width_said : (width : Width) → integer_of (width_text width) ≡ ty.Int width
width_said W1 = refl
width_said W8 = refl
width_said W16 = refl
width_said W32 = refl
width_said W64 = refl

-- all parts are texts that say them
module _ (n : ℕ) (parts : (part : Ty) → IsTyWithin n part → ShowsIn (IsAt n) (at a_type) (seen_of (ty_within_atoms n part)) (λ a. a ≡ part)) where
  parts_shown : (types : List Ty) → AllByRecursion (IsTyWithin n) types →
      AreShownBy (IsAt n) (at a_type) (λ a. a) (map (ty_within_atoms n) types) types
  parts_shown [] are = tt
  parts_shown (type ∷ types) (is, are) = (parts type is, parts_shown types are)

  value_layer_shows : (layer : Ty-F Ty) (type : Ty) → roll-Ty layer ≡ type → is_void layer ≡ false → TyLayer (IsTyWithin n) layer →
      ShowsIn (IsAt n) value_type_body (seen_of (ty_layer_atoms (ty_within_atoms n) layer)) (λ a. a ≡ type)
  unfolding value_type_body integer pointer length array type_list structure
  value_layer_shows Ty-F.Void type rolls some is = absurd cc
  value_layer_shows (Ty-F.Int width) type rolls some is =
      left_shows (token_shows (width_lets width) (λ t bytes. ap integer_of bytes ∙ width_said width ∙ sym (rolls-Int width) ∙ rolls))
  value_layer_shows Ty-F.Ptr type rolls some is =
      right_shows (left_shows
      (says_shows {P = λ a. a ≡ None} (λ ts a none. rw none (sym rolls-Ptr ∙ rolls)) (skip_shows refl none_shows)))
  value_layer_shows (Ty-F.Array count part) type rolls some (small, is) =
      right_shows (right_shows (right_shows (left_shows
      (says_shows (λ ts x has. rw (has.0, has.1) (sym (rolls-Array count part) ∙ rolls))
      (skip_shows refl (both_show refl
      (token_shows {P = λ a. a ≡ Some count} refl (λ t bytes. ap length_of bytes ∙ length_said count small))
      (skip_shows refl (ends_show _ refl (seen_of_append (ty_within_atoms n part) _) (parts part is)))))))))
  value_layer_shows (Ty-F.Struct types) type rolls some are =
      right_shows (right_shows (right_shows (right_shows (left_shows
      (mapped_shows (λ xs same. rw same (sym (rolls-Struct types) ∙ rolls))
      (braced_shows (map (ty_within_atoms n) types) types (parts_shown types are)))))))
  value_layer_shows _ type rolls some is = absurd is

  layer_shows : (layer : Ty-F Ty) (type : Ty) → roll-Ty layer ≡ type → TyLayer (IsTyWithin n) layer →
      ShowsIn (IsAt n) type_body (seen_of (ty_layer_atoms (ty_within_atoms n) layer)) (λ a. a ≡ type)
  unfolding type_body void
  layer_shows Ty-F.Void type rolls is = left_shows (mapped_shows (λ a none. sym rolls-Void ∙ rolls) (sign_shows refl))
  layer_shows layer type rolls is = right_shows (value_layer_shows layer type rolls refl is)

-- a type of at most n levels
pub ty_within_shows : (n : ℕ) (type : Ty) → IsTyWithin n type →
    ShowsIn (IsAt n) (at a_type) (seen_of (ty_within_atoms n type)) (λ a. a ≡ type)
ty_within_shows zero type is = absurd is
ty_within_shows (suc n) type is = record { each = (layer_shows n (ty_within_shows n) (out-Ty type) type (roll-out-Ty type) is).each }

value_ty_within_shows : (n : ℕ) (type : Ty) → is_void (out-Ty type) ≡ false → IsTyWithin n type →
    ShowsIn (IsAt n) (at a_value_type) (seen_of (ty_within_atoms n type)) (λ a. a ≡ type)
value_ty_within_shows zero type some is = absurd is
value_ty_within_shows (suc n) type some is =
    record { each = (value_layer_shows n (ty_within_shows n) (out-Ty type) type (roll-out-Ty type) some is).each }

pub int_within_shows : (n : ℕ) (width : Width) →
    ShowsIn (IsAt (suc n)) (at a_type) (seen_of (word (width_text width) ∷ [])) (λ a. a ≡ ty.Int width)
int_within_shows n width =
    subst (λ atoms. ShowsIn (IsAt (suc n)) (at a_type) (seen_of atoms) (λ a. a ≡ ty.Int width)) (int_within_atoms n width)
    (ty_within_shows (suc n) (ty.Int width) (int_within n width))

-- a type, one that is not `void`, and that of an integer

pub ty_shows : (type : Ty) → IsTy type → Shows (at a_type) (seen_of (ty_atoms type)) (λ a. a ≡ type)
ty_shows type is = ty_within_shows levels type is

pub value_ty_shows : (type : Ty) → is_void (out-Ty type) ≡ false → IsTy type →
    Shows (at a_value_type) (seen_of (ty_atoms type)) (λ a. a ≡ type)
value_ty_shows type some is = value_ty_within_shows levels type some is

pub width_shows : (width : Width) → Shows (at a_type) (seen_of (word (width_text width) ∷ [])) (λ a. a ≡ ty.Int width)
unfolding levels
width_shows width = int_within_shows 63 width
