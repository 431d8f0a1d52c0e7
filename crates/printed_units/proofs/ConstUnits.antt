-- The tokens of a printed constant are a text of one that is it at its type.
use Rattle.std.proofs.Common.{◌≡◌, refl, sym, ◌∙◌, ap, ℕ, zero, suc, ◌^◌, ◌<◌, nat_eq, true, false, inl, List, [], ◌∷◌, ◌++◌, map, flat_map, codes, append-nil, append_assoc, Some, arith}
use Rattle.std.specs.List.{AllByRecursion, AllZip}
use Rattle.std.proofs.lemmas.Bool.Decides.{nat_tests}
use Rattle.ir_lex.specs.declared.token.Kind.TheVariants.{Word, Number, Bytes}
use Rattle.ir_values.specs.declared.types.Width.{Width}
use Rattle.ir_values.specs.declared.types.Width.TheVariants.{W1, W8, W64}
use Rattle.ir_values.specs.declared.types.Ty.{Ty, out-Ty, roll-Ty, roll-out-Ty}
use Rattle.ir_values.specs.declared.types.Ty.TheVariants as ty
use Rattle.ir_values.specs.declared.types.Ty.TheVariants.{rolls-Int, rolls-Ptr}
use Rattle.ir_values.specs.declared.types.Ty.TheOpen.{Ty-F}
use Rattle.ir_values.specs.declared.constants.Const.{Const, out-Const, roll-Const, roll-out-Const}
use Rattle.ir_values.specs.declared.constants.Const.TheVariants as const
use Rattle.ir_values.specs.declared.constants.Const.TheOpen.{Const-F}
use Rattle.ir_values.specs.declared.constants.Operand.{Operand}
use Rattle.ir_values.specs.declared.constants.Operand.TheVariants as operand
use Rattle.ir_numbers.specs.Numbers.{bits}
use Rattle.unit_grammar.specs.Pieces.{Piece}
use Rattle.unit_grammar.specs.Signs.{words}
use Rattle.unit_grammar.specs.Grammar.{Text, at}
use Rattle.unit_grammar.specs.Plain.{no_text}
use Rattle.unit_grammar.proofs.BoolLemmas.{not_both}
use Rattle.type_grammar.specs.declared.address.Address.{Address}
use Rattle.type_grammar.specs.declared.bare.Bare.{Bare}
use Rattle.type_grammar.specs.declared.bare.Bare.TheVariants.{Zero, Plain}
use Rattle.type_grammar.specs.Names.{Name, Value, a_constant, a_left, number_at, at_type}
use Rattle.type_grammar.specs.Types.{IsPart}
use Rattle.type_grammar.specs.Constants.{number, constant_words, word_constant, constant_word, address, byte_string, typed, typed_list, structure, more_typed, array, address_run, in_range, index, index_list, moved, constant_body, left_constant_words}
use Rattle.type_grammar.specs.Left as left
use Rattle.type_grammar.specs.Left.{left_text, here, moved_away, number_text, address_of, IsLeft}
use Rattle.type_grammar.specs.Levels.{IsAt, levels}
use Rattle.ir_print.specs.Constants.{bytes_text}
use Rattle.ir_names.specs.Numbers.{integer_text}
use Rattle.printed_tokens.specs.Atoms.{Atom, a_token}
use Rattle.printed_tokens.specs.Looks.{Seen, seen_of}
use Rattle.printed_units.proofs.ListLemmas.{all_zipped}
use Rattle.printed_tokens.proofs.AtomLemmas.{seen_of_append}
use Rattle.printed_units.specs.Printing.{space, word, mark, global, integer_kind, integer, ty_within_atoms, moved_atoms, address_atoms, number_atoms, typed_with, fields_atoms, const_layer_atoms, const_within_atoms, const_atoms, behind_comma, listed, braced}
use Rattle.printed_units.specs.Said.{address_said, part_said, fields_said, layer_said, said_within, const_said}
use Rattle.printed_units.specs.Written.{IsBytes, IsName, IsTyWithin, address_levels, IsAddress, AreParts, AreFields, ConstLayer, IsConstWithin}
use Rattle.printed_units.proofs.ValueLemmas.{global_named, bytes_named, number_said, truth_said, offset_said}
use Rattle.printed_units.proofs.SeenLemmas.{lets}
use Rattle.printed_units.proofs.ShowLemmas.{ShowsIn, Shows, AreShownBy, so_shows, is_so, token_shows, skip_shows, enclosed_shows, both_show, mapped_shows, left_shows, right_shows, optional_none, run_none, ends_show, no_more, one_more, unmapped, commas_show, braced_shows, seen_of_three}
use Rattle.printed_units.proofs.TypeUnits.{ty_within_shows, int_within_shows}

-- tokens that look so are a text of the part, which is this constant at the type
abbrev ShowsConst : ℕ → IsPart Bare → Ty → List Seen → Const → Type 0
ShowsConst n p type looks constant = ShowsIn (IsAt n) p looks (λ b. at_type type b ≡ constant)

-- where it is always the same
plain_shows : {E : (x : Name) → Text (Value x)} {p : IsPart Bare} {looks : List Seen} {bare : Bare} {constant : Const} (type : Ty) →
    at_type type bare ≡ constant → ShowsIn E p looks (λ b. b ≡ bare) → ShowsIn E p looks (λ b. at_type type b ≡ constant)
plain_shows type is of = so_shows (λ b same. ap (at_type type) same ∙ is) of

-- a constant of one level more, among the parts of another
const_at : {n : ℕ} {looks : List Seen} {P : Bare → Type 0} → ShowsIn (IsAt n) constant_body looks P →
    ShowsIn (IsAt (suc n)) (at a_constant) looks P
const_at of = record { each = of.each }

-- integers

truth_lets : (value : ℕ) → value < 2 → lets (words constant_words) Word (integer_text W1 value) ≡ true
unfolding integer_text constant_words
truth_lets zero small = refl
truth_lets (suc zero) small = refl
truth_lets (suc (suc value)) small = absurd (omega arith)

numeral_shows : (n : ℕ) (width : Width) (value : ℕ) → integer_kind width ≡ Number → value < 2 ^ bits width →
    ShowsConst n constant_body (ty.Int width) (seen_of (integer width value ∷ [])) (const.Int width value)
unfolding constant_body number
numeral_shows n width value kind small =
    rw kind (left_shows (token_shows refl (λ t bytes. ap (number_at (ty.Int width)) bytes ∙ number_said width value kind small)))

integer_shows : (n : ℕ) (width : Width) (value : ℕ) → value < 2 ^ bits width →
    ShowsConst n constant_body (ty.Int width) (seen_of (integer width value ∷ [])) (const.Int width value)
unfolding constant_body constant_word
integer_shows n W1 value small =
    right_shows (left_shows (token_shows (truth_lets value small)
    (λ t bytes. ap (λ text. at_type (ty.Int W1) (word_constant text)) bytes ∙ ap (at_type (ty.Int W1)) (truth_said value small))))
integer_shows n width value small = numeral_shows n width value refl small

-- addresses

global_shows : (n : ℕ) (name : List ℕ) → IsName name →
    ShowsIn (IsAt n) constant_body (seen_of (global name ∷ [])) (λ b. b ≡ Plain (const.Addr name 0))
unfolding constant_body address
global_shows n name is =
    right_shows (right_shows (right_shows (right_shows (left_shows
    (token_shows refl (λ t bytes. ap (λ s. Plain (const.Addr s 0)) (global_named t name is bytes)))))))

suc_not_zero : (n : ℕ) → nat_eq (suc n) 0 ≡ false
suc_not_zero n = grind (arith, nat_tests)

abbrev offset_index : ℕ → Operand
offset_index offset = operand.Const (const.Typed (ty.Int W64) (const.Int W64 offset))

-- `, i64 N`
abbrev offset_atoms : ℕ → List Atom
offset_atoms offset = mark (codes ",") ∷ space ∷ word (codes "i64") ∷ space ∷ integer W64 offset ∷ []

index_shows : (n offset : ℕ) → offset < 2 ^ 64 →
    ShowsIn (IsAt (suc n)) index (seen_of (offset_atoms offset)) (λ i. i ≡ offset_index offset)
unfolding index in_range typed
index_shows n offset small =
    mapped_shows (λ x has. rw has.1 refl)
    (skip_shows refl (both_show refl optional_none
    (mapped_shows {Q = λ c. c ≡ const.Typed (ty.Int W64) (const.Int W64 offset)} (λ x has. rw (has.0, has.1) refl)
    (both_show refl (int_within_shows n W64) (const_at (integer_shows n W64 offset small))))))

indices_show : (n offset : ℕ) → offset < 2 ^ 64 →
    ShowsIn (IsAt (suc n)) index_list (seen_of (offset_atoms offset)) (λ is. is ≡ offset_index offset ∷ [])
unfolding index_list
indices_show n offset small = unmapped (one_more (sym (append-nil _)) (index_shows n offset small) no_more)

-- an address away from its global's
moved_shows : (n : ℕ) (name : List ℕ) (offset : ℕ) → IsName name → offset < 2 ^ 64 →
    ShowsIn (IsAt (suc n)) constant_body (seen_of (moved_atoms name offset))
    (λ b. b ≡ Plain (const.Gep (ty.Int W8) (const.Addr name 0) (offset_index offset ∷ [])))
unfolding constant_body moved address_run
moved_shows n name offset is small =
    right_shows (right_shows (right_shows (right_shows (right_shows (right_shows (right_shows (right_shows (left_shows
    (mapped_shows (λ x has. rw (has.1.0, has.1.1.0, has.1.1.1) refl)
    (skip_shows refl (both_show refl run_none (skip_shows refl (both_show refl (int_within_shows n W8)
    (skip_shows refl (skip_shows refl (both_show refl (const_at (global_shows n name is))
    (ends_show _ refl refl (indices_show n offset small))))))))))))))))))

address_shows : (n : ℕ) (name : List ℕ) (offset : ℕ) → IsAddress (suc n) name offset →
    ShowsConst n constant_body ty.Ptr (seen_of (address_atoms name offset)) (address_said name offset)
address_shows n name zero is = plain_shows ty.Ptr refl (global_shows n name is.name)
address_shows zero name (suc offset) is = absurd (omega (arith, is.levels))
address_shows (suc n) name (suc offset) is =
    rw (suc_not_zero offset) (plain_shows ty.Ptr refl (moved_shows n name (suc offset) is.name is.near))

-- numbers of addresses

moved_text_shows : (name text : List ℕ) → IsName name →
    ShowsIn no_text moved_away
    (seen_of (word (codes "getelementptr") ∷ space ∷ mark (codes "(") ∷ word (codes "i8") ∷ mark (codes ",") ∷ space ∷ word (codes "ptr")
    ∷ space ∷ global name ∷ mark (codes ",") ∷ space ∷ word (codes "i64") ∷ space ∷ a_token Number text ∷ mark (codes ")") ∷ []))
    (λ x. x ≡ (name, Some text))
unfolding moved_away
moved_text_shows name text is =
    mapped_shows (λ x has. rw (has.0, has.1) refl)
    (skip_shows refl (skip_shows refl (skip_shows refl (skip_shows refl (skip_shows refl (both_show refl
    (token_shows {P = λ a. a ≡ name} refl (λ t bytes. global_named t name is bytes))
    (skip_shows refl (skip_shows refl (ends_show _ refl refl (token_shows {P = λ a. a ≡ text} refl (λ t bytes. bytes)))))))))))

abbrev the_address : List ℕ → ℕ → Address
the_address name offset = record { global = name; offset = offset; levels = address_levels offset }

address_text_shows : (name : List ℕ) (offset : ℕ) → IsName name → offset < 2 ^ 64 →
    ShowsIn no_text left.address (seen_of (address_atoms name offset)) (λ x. address_of x ≡ Some (the_address name offset))
unfolding left.address here
address_text_shows name zero is small =
    left_shows (mapped_shows {P = λ s. s ≡ name} (λ s same. rw same refl) (token_shows refl (λ t bytes. global_named t name is bytes)))
address_text_shows name (suc offset) is small =
    let by = offset_said (suc offset) (omega arith) small in
    rw (suc_not_zero offset)
    (right_shows (so_shows (λ x same. ap address_of same ∙ rw by refl) (moved_text_shows name (integer_text W64 (suc offset)) is)))

number_text_shows : (name : List ℕ) (offset : ℕ) → IsName name → offset < 2 ^ 64 →
    ShowsIn no_text number_text (seen_of (number_atoms name offset)) (λ x. address_of x ≡ Some (the_address name offset))
unfolding number_text
number_text_shows name offset is small =
    let own = address_atoms name offset in
    let to = seen_of (word (codes "to") ∷ []) in
    let integer = seen_of (word (codes "i64") ∷ []) in
    let end = seen_of (mark (codes ")") ∷ []) in
    skip_shows refl (skip_shows refl (skip_shows refl
    (ends_show _ refl (seen_of_append own _ ∙ sym (append_assoc (seen_of own) (to ++ integer) end))
    (ends_show _ refl (sym (append_assoc (seen_of own) to integer)) (ends_show _ refl refl (address_text_shows name offset is small))))))

-- its parentheses are balanced
left_text_shows : (name : List ℕ) (offset : ℕ) → ShowsIn no_text left_text (seen_of (number_atoms name offset)) (λ a. a ≡ tt)
unfolding left_text left_constant_words
left_text_shows name zero = skip_shows refl (enclosed_shows refl refl)
left_text_shows name (suc offset) = rw (suc_not_zero offset) (skip_shows refl (enclosed_shows refl refl))

left_at : (n : ℕ) (ts : List Piece) (b : Bare) → IsLeft n ts b → IsAt n a_left ts b
left_at zero ts b is = is
left_at (suc n) ts b is = is

number_shows : (n : ℕ) (name : List ℕ) (offset : ℕ) → IsAddress n name offset →
    ShowsIn (IsAt n) constant_body (seen_of (number_atoms name offset)) (λ b. b ≡ Plain (const.Number name offset))
unfolding constant_body
number_shows n name offset is =
    right_shows (right_shows (right_shows (right_shows (right_shows (right_shows (right_shows (right_shows (right_shows (record {
      each = λ ts e.
          let numbers = (number_text_shows name offset is.name is.near).each ts e in
          let says = inl (the_address name offset, numbers, is.levels, refl) in
          (Plain (const.Number name offset), left_at n ts _ (is_so (left_text_shows name offset) ts e, says), refl);
    })))))))))

-- constants without parts

zero_shows : (n : ℕ) → ShowsIn (IsAt n) constant_body (seen_of (word (codes "zeroinitializer") ∷ [])) (λ b. b ≡ Zero)
unfolding constant_body constant_word constant_words
zero_shows n = right_shows (left_shows (token_shows refl (λ t bytes. rw bytes refl)))

null_shows : (n : ℕ) → ShowsIn (IsAt n) constant_body (seen_of (word (codes "null") ∷ [])) (λ b. b ≡ Plain const.Null)
unfolding constant_body constant_word constant_words
null_shows n = right_shows (left_shows (token_shows refl (λ t bytes. rw bytes refl)))

bytes_shows : (n : ℕ) (text : List ℕ) → IsBytes text →
    ShowsIn (IsAt n) constant_body (seen_of (a_token Bytes (bytes_text text) ∷ [])) (λ b. b ≡ Plain (const.Bytes text))
unfolding constant_body byte_string
bytes_shows n text is =
    right_shows (right_shows (right_shows (right_shows (right_shows (left_shows
    (token_shows refl (λ t bytes. ap (λ s. Plain (const.Bytes s)) (bytes_named t text is bytes))))))))

-- constants of parts

-- a constant of at most n levels at a type
abbrev ConstShows : ℕ → Ty → Const → Type 0
ConstShows n type constant =
    ShowsConst n (at a_constant) type (seen_of (const_within_atoms n type constant)) (said_within n type constant)

-- a part of at most n levels, behind its type
abbrev typed_within : ℕ → Ty → Const → List Atom
typed_within n = typed_with (ty_within_atoms n) (const_within_atoms n)

-- all parts are texts that say them
module _ (n : ℕ) (parts : (type : Ty) (part : Const) → IsConstWithin n type part → ConstShows n type part) where
  typed_shows : (type : Ty) (part : Const) → IsTyWithin n type → IsConstWithin n type part →
      ShowsIn (IsAt n) typed (seen_of (typed_within n type part)) (λ c. c ≡ part_said (said_within n) type part)
  unfolding typed
  typed_shows type part written is =
      mapped_shows (λ x has. rw (has.0, has.1) refl)
      (both_show (seen_of_append (ty_within_atoms n type) _) (ty_within_shows n type written) (parts type part is))

  fields_shown : (types : List Ty) (xs : List Const) → AllByRecursion (IsTyWithin n) types → AllZip (IsConstWithin n) types xs →
      AreShownBy (IsAt n) typed (λ c. c) (fields_atoms (typed_within n) types xs) (fields_said (said_within n) types xs)
  fields_shown [] [] written are = tt
  fields_shown (type ∷ types) (x ∷ xs) (written, others) (is, are) = (typed_shows type x written is, fields_shown types xs others are)
  fields_shown _ _ written are = absurd are

  array_shows : (type : Ty) (xs : List Const) → AreParts n (IsConstWithin n) type xs →
      ShowsIn (IsAt n) constant_body (seen_of (mark (codes "[") ∷ listed (map (typed_within n type) xs) ++ mark (codes "]") ∷ []))
      (λ b. b ≡ Plain (const.Array type (map (part_said (said_within n) type) xs)))
  unfolding constant_body array more_typed
  array_shows type [] are = absurd (not_both _ are.some refl)
  array_shows type (x ∷ xs) are =
      let back = flat_map behind_comma (map (typed_within n type) xs) in
      let others = all_zipped (IsConstWithin n type) (λ item c. ShowsIn (IsAt n) typed (seen_of item) (λ a. a ≡ c)) (typed_within n type)
      (part_said (said_within n) type) (λ part is. typed_shows type part are.type is) xs are.each.1 in
      right_shows (right_shows (right_shows (right_shows (right_shows (right_shows (right_shows (left_shows
      (mapped_shows (λ y has. rw (has.0.0, has.0.1, has.1) refl)
      (skip_shows refl (both_show (seen_of_three (typed_within n type x) back _)
      (both_show (seen_of_append (ty_within_atoms n type) _) (ty_within_shows n type are.type) (parts type x are.each.0))
      (ends_show _ refl (seen_of_append back _) (unmapped (commas_show _ _ others)))))))))))))

  struct_shows : (types : List Ty) (xs : List Const) → AreFields n (IsConstWithin n) types xs →
      ShowsIn (IsAt n) constant_body (seen_of (braced (fields_atoms (typed_within n) types xs)))
      (λ b. b ≡ Plain (const.Struct (fields_said (said_within n) types xs)))
  unfolding constant_body structure typed_list
  struct_shows types xs are =
      right_shows (right_shows (right_shows (right_shows (right_shows (right_shows (left_shows
      (mapped_shows (λ cs same. rw same refl) (braced_shows _ _ (fields_shown types xs are.each_type are.each)))))))))

  const_layer_shows : (type : Ty) (constant : Const) (layer : Ty-F Ty) (inner : Const-F Const Operand) → out-Ty type ≡ layer →
      roll-Ty layer ≡ type → roll-Const inner ≡ constant → ConstLayer n (IsConstWithin n) type layer inner →
      ShowsConst n constant_body type (seen_of (const_layer_atoms (typed_within n) type inner))
      (layer_said (said_within n) type constant inner)
  const_layer_shows type constant (Ty-F.Int own) (Const-F.Int width value) out rolls made (same, small) =
      rw (← rolls, same, rolls-Int width, ← made, const.rolls-Int width value) (integer_shows n width value small)
  const_layer_shows type constant (Ty-F.Int own) (Const-F.Number name offset) out rolls made (same, is) =
      plain_shows type (sym (const.rolls-Number name offset) ∙ made) (number_shows n name offset is)
  const_layer_shows type constant Ty-F.Ptr Const-F.Null out rolls made is = plain_shows type (sym const.rolls-Null ∙ made) (null_shows n)
  const_layer_shows type constant Ty-F.Ptr (Const-F.Addr name offset) out rolls made is =
      rw (← rolls, rolls-Ptr) (address_shows n name offset is)
  const_layer_shows type constant (Ty-F.Array count part) (Const-F.Zero own) out rolls made is = plain_shows type refl (zero_shows n)
  const_layer_shows type constant (Ty-F.Array count part) (Const-F.Array own xs) out rolls made (same, long, are) =
      plain_shows type refl (array_shows own xs (rw (← same) are))
  const_layer_shows type constant (Ty-F.Array count part) (Const-F.Bytes text) out rolls made (same, long, is) =
      plain_shows type (sym (const.rolls-Bytes text) ∙ made) (bytes_shows n text is)
  const_layer_shows type constant (Ty-F.Struct types) (Const-F.Zero own) out rolls made is = plain_shows type refl (zero_shows n)
  const_layer_shows type constant (Ty-F.Struct types) (Const-F.Struct xs) out rolls made are =
      rw out (plain_shows type refl (struct_shows types xs are))
  const_layer_shows type constant layer inner out rolls made is = absurd is

const_within_shows : (n : ℕ) (type : Ty) (constant : Const) → IsConstWithin n type constant → ConstShows n type constant
const_within_shows zero type constant is = absurd is
const_within_shows (suc n) type constant is =
    const_at (const_layer_shows n (const_within_shows n) type constant (out-Ty type) (out-Const constant) refl (roll-out-Ty type)
    (roll-out-Const constant) is)

pub const_shows : (type : Ty) (constant : Const) → IsConstWithin levels type constant →
    Shows (at a_constant) (seen_of (const_atoms type constant)) (λ b. at_type type b ≡ const_said type constant)
const_shows type constant is = const_within_shows levels type constant is

pub integer_const_shows : (width : Width) (n : ℕ) → n < 2 ^ bits width →
    Shows (at a_constant) (seen_of (integer width n ∷ [])) (λ b. at_type (ty.Int width) b ≡ const.Int width n)
unfolding levels
integer_const_shows width n small = const_at {n = 63} (integer_shows 63 width n small)
