-- Lists, types and constants, and their texts.
use Rattle.std.proofs.Common.{◌≡◌, ℕ, zero, suc, true, ◌==◌, List, [], ◌∷◌, ◌++◌, map, flat_map, codes, decimal, refl, sym, ap, subst, ◌∙◌, append_assoc, append-nil}
use Rattle.std.specs.List.{AllByRecursion, AllZip}
use Rattle.ir_print.specs.Pieces.{commas, after_commas, spaces, after_spaces}
use Rattle.ir_values.specs.declared.types.Width.{Width}
use Rattle.ir_values.specs.declared.types.Width.TheVariants.{W1, W8, W16, W32, W64}
use Rattle.ir_values.specs.declared.types.Ty.{Ty, out-Ty, map-Ty, fold_out-Ty}
use Rattle.ir_values.specs.declared.types.Ty.TheOpen.{Ty-F}
use Rattle.ir_values.specs.declared.constants.Const.{Const, out-Const, map-Const, fold_out-Const}
use Rattle.ir_values.specs.declared.constants.Const.TheOpen.{Const-F, Operand-F}
use Rattle.ir_values.specs.declared.constants.Operand.{Operand, fold-roll-Operand}
use Rattle.ir_values.specs.declared.constants.Operand.TheVariants as operand
use Rattle.type_grammar.specs.Levels.{levels}
use Rattle.ir_print.specs.Types.{width_text, struct_ty_text, ty_step, ty_text}
use Rattle.ir_names.specs.Names.{global_text, local_text}
use Rattle.ir_names.specs.Numbers.{integer_text}
use Rattle.ir_print.specs.Constants.{Printed, moved_text, address_text, number_text, parts_text, zero_text, bytes_text, struct_text, const_step, operand_step, const_printed, operand_printed, const_text, typed_const_text, operand_text, typed_text}
use Rattle.ir_lex.specs.declared.token.Kind.TheVariants.{Word}
use Rattle.ir_lex.proofs.CaseSplits.{test}
use Rattle.printed_tokens.specs.Atoms.{Atom, IsToken}
use Rattle.printed_units.proofs.ListLemmas.{all_of, all_zipped}
use Rattle.printed_tokens.proofs.AtomLemmas.{separates, Prints, word_token, prints_as, prints_none, prints_append, prints_space, prints_one, prints_token, prints_word, prints_mark}
use Rattle.printed_units.specs.Written.{IsName, TyLayer, IsTyWithin, IsTy, ConstLayer, IsConstWithin, IsOperand}
use Rattle.printed_units.specs.Printing.{space, behind_comma, behind_space, listed, spaced, braced, word, ty_layer_atoms, ty_within_atoms, ty_atoms, moved_atoms, address_atoms, number_atoms, typed_with, fields_atoms, const_layer_atoms, const_within_atoms, const_atoms, operand_atoms, typed_atoms}
use Rattle.printed_units.proofs.NameLemmas.{number_token, integer_token, global_token, local_token, bytes_token}

-- lists with commas or spaces between their items

pub prints_behind_comma : {atoms : List Atom} {text : List ℕ} → Prints atoms text → Prints (behind_comma atoms) (codes ", " ++ text)
prints_behind_comma prints = prints_mark 44 refl (prints_space prints)

commas_separate : {X : Type 0} (atoms : X → List Atom) (items : List X) → separates (flat_map (λ x. behind_comma (atoms x)) items) ≡ true
commas_separate atoms [] = refl
commas_separate atoms (item ∷ items) = refl

spaces_separate : (items : List (List Atom)) → separates (flat_map behind_space items) ≡ true
spaces_separate [] = refl
spaces_separate (item ∷ items) = refl

behind_commas_print : (items : List (List Atom)) (texts : List (List ℕ)) → AllZip Prints items texts
    → Prints (flat_map behind_comma items) (after_commas texts)
behind_commas_print [] [] print = prints_none
behind_commas_print (item ∷ items) (text ∷ texts) print =
    prints_append (prints_behind_comma print.0) (behind_commas_print items texts print.1) (commas_separate (λ x. x) items)
behind_commas_print _ _ print = absurd print

pub listed_prints : (items : List (List Atom)) (texts : List (List ℕ)) → AllZip Prints items texts → Prints (listed items) (commas texts)
listed_prints [] [] print = prints_none
listed_prints (item ∷ items) (text ∷ texts) print =
    prints_append print.0 (behind_commas_print items texts print.1) (commas_separate (λ x. x) items)
listed_prints _ _ print = absurd print

behind_spaces_print : (items : List (List Atom)) (texts : List (List ℕ)) → AllZip Prints items texts
    → Prints (flat_map behind_space items) (after_spaces texts)
behind_spaces_print [] [] print = prints_none
behind_spaces_print (item ∷ items) (text ∷ texts) print =
    prints_append (prints_space print.0) (behind_spaces_print items texts print.1) (spaces_separate items)
behind_spaces_print _ _ print = absurd print

pub spaced_prints : (items : List (List Atom)) (texts : List (List ℕ)) → AllZip Prints items texts → Prints (spaced items) (spaces texts)
spaced_prints [] [] print = prints_none
spaced_prints (item ∷ items) (text ∷ texts) print =
    prints_append print.0 (behind_spaces_print items texts print.1) (spaces_separate items)
spaced_prints _ _ print = absurd print

braced_prints : (items : List (List Atom)) (texts : List (List ℕ)) → AllZip Prints items texts → Prints (braced items) (struct_ty_text texts)
braced_prints [] [] print = prints_mark 123 refl (prints_mark 125 refl prints_none)
braced_prints (item ∷ items) (text ∷ texts) print =
    prints_mark 123 refl (prints_space (prints_append (listed_prints (item ∷ items) (text ∷ texts) print)
    (prints_space (prints_mark 125 refl prints_none)) refl))
braced_prints _ _ print = absurd print

-- types

pub width_token : (width : Width) → IsToken Word (width_text width)
width_token W1 = word_token (codes "i1") refl
width_token W8 = word_token (codes "i8") refl
width_token W16 = word_token (codes "i16") refl
width_token W32 = word_token (codes "i32") refl
width_token W64 = word_token (codes "i64") refl

array_same : (a b : List ℕ) → 91 ∷ (a ++ (32 ∷ 120 ∷ 32 ∷ (b ++ 93 ∷ []))) ≡ codes "[" ++ a ++ codes " x " ++ b ++ codes "]"
array_same a b = simp append_assoc

-- a layer prints its text where the types in it do
ty_layer_prints : (P : Ty → Type 0) (atoms : Ty → List Atom) → ((type : Ty) → P type → Prints (atoms type) (ty_text type)) → (layer : Ty-F Ty)
    → TyLayer P layer → Prints (ty_layer_atoms atoms layer) (ty_step (map-Ty Ty (List ℕ) ty_text layer))
ty_layer_prints P atoms parts Ty-F.Void is = prints_word (codes "void") refl refl prints_none
ty_layer_prints P atoms parts (Ty-F.Int width) is = prints_as (append-nil (width_text width)) (prints_one (width_token width))
ty_layer_prints P atoms parts Ty-F.Ptr is = prints_word (codes "ptr") refl refl prints_none
ty_layer_prints P atoms parts (Ty-F.Array count part) is =
    prints_as (array_same (decimal count) (ty_text part))
    (prints_mark 91 refl (prints_token (number_token count) refl (prints_space (prints_word (codes "x") refl refl (prints_space
    (prints_append (parts part is.1) (prints_mark 93 refl prints_none) refl))))))
ty_layer_prints P atoms parts (Ty-F.Struct types) is =
    braced_prints (map atoms types) (map ty_text types) (all_zipped P Prints atoms ty_text parts types is)
ty_layer_prints P atoms parts _ is = absurd is

pub ty_prints : (n : ℕ) (type : Ty) → IsTyWithin n type → Prints (ty_within_atoms n type) (ty_text type)
ty_prints zero type is = absurd is
ty_prints (suc n) type is =
    prints_as (sym (fold_out-Ty (List ℕ) ty_step type)) (ty_layer_prints (IsTyWithin n) (ty_within_atoms n) (ty_prints n) (out-Ty type) is)

-- constants

moved_same : (a b : List ℕ) → codes "getelementptr (i8, ptr " ++ (a ++ (codes ", i64 " ++ (b ++ codes ")")))
    ≡ codes "getelementptr (i8, ptr " ++ a ++ codes ", i64 " ++ b ++ codes ")"
moved_same a b = simp append_assoc

moved_prints : (name : List ℕ) (offset : ℕ) → IsName name → Prints (moved_atoms name offset) (moved_text name offset)
moved_prints name offset is =
    prints_as (moved_same (global_text name) (integer_text W64 offset))
    (prints_word (codes "getelementptr") refl refl (prints_space (prints_mark 40 refl (prints_word (codes "i8") refl refl (prints_mark 44 refl
    (prints_space (prints_word (codes "ptr") refl refl (prints_space (prints_token (global_token name is) refl (prints_mark 44 refl
    (prints_space (prints_word (codes "i64") refl refl (prints_space (prints_token (integer_token W64 offset) refl
    (prints_mark 41 refl prints_none)))))))))))))))

address_prints : (name : List ℕ) (offset : ℕ) → IsName name → Prints (address_atoms name offset) (address_text name offset)
unfolding address_text
address_prints name offset is =
    test (offset == 0)
    (λ t. rw t (prints_as (append-nil (global_text name)) (prints_one (global_token name is))))
    (λ t. rw t (moved_prints name offset is))

number_same : (a : List ℕ) → codes "ptrtoint (ptr " ++ (a ++ codes " to i64)") ≡ codes "ptrtoint (ptr " ++ a ++ codes " to i64)"
number_same a = simp append_assoc

number_prints : (name : List ℕ) (offset : ℕ) → IsName name → Prints (number_atoms name offset) (number_text name offset)
number_prints name offset is =
    prints_as (number_same (address_text name offset))
    (prints_word (codes "ptrtoint") refl refl (prints_space (prints_mark 40 refl (prints_word (codes "ptr") refl refl (prints_space
    (prints_append (address_prints name offset is) (prints_space (prints_word (codes "to") refl refl (prints_space
    (prints_word (codes "i64") refl refl (prints_mark 41 refl prints_none))))) refl))))))

-- constants that each print their text behind its type, in a list of one type and behind types of their own
parts_print : (P : Ty → Const → Type 0) (typed : Ty → Const → List Atom)
    → ((type : Ty) (part : Const) → P type part → Prints (typed type part) (typed_const_text type part)) → (type : Ty) (parts : List Const)
    → AllByRecursion (P type) parts → AllZip Prints (map (typed type) parts) (map (λ part. part.typed type) (map const_printed parts))
parts_print P typed prints type [] are = tt
parts_print P typed prints type (part ∷ parts) are = (prints type part are.0, parts_print P typed prints type parts are.1)

fields_print : (P : Ty → Const → Type 0) (typed : Ty → Const → List Atom)
    → ((type : Ty) (part : Const) → P type part → Prints (typed type part) (typed_const_text type part)) → (types : List Ty) (parts : List Const)
    → AllZip P types parts → AllZip Prints (fields_atoms typed types parts) (parts_text types (map const_printed parts))
fields_print P typed prints [] [] are = tt
fields_print P typed prints (type ∷ types) (part ∷ parts) are = (prints type part are.0, fields_print P typed prints types parts are.1)
fields_print P typed prints _ _ are = absurd are

struct_same : (types : List Ty) (parts : List Printed) → struct_ty_text (parts_text types parts) ≡ struct_text types parts
struct_same types [] = refl
struct_same [] (part ∷ parts) = refl
struct_same (type ∷ types) (part ∷ parts) = refl

-- fields whose types and parts are such are fields of which both holds
both_hold : (P : Ty → Type 0) (Q : Ty → Const → Type 0) (types : List Ty) (parts : List Const) → AllByRecursion P types → AllZip Q types parts
    → AllZip (λ type part. P type × Q type part) types parts
both_hold P Q [] [] all are = tt
both_hold P Q (type ∷ types) (part ∷ parts) all are = ((all.0, are.0), both_hold P Q types parts all.1 are.1)
both_hold P Q _ _ all are = absurd are

abbrev layer_printed : Const-F Const Operand → Printed
layer_printed layer = const_step (map-Const Const Operand Printed Printed const_printed operand_printed layer)

printed_as : (constant : Const) → const_printed constant ≡ layer_printed (out-Const constant)
printed_as constant = fold_out-Const Printed Printed const_step operand_step constant

zero_prints : Prints (word (codes "zeroinitializer") ∷ []) zero_text
unfolding zero_text
zero_prints = prints_word (codes "zeroinitializer") refl refl prints_none

-- a layer prints its text where the constants in it do, behind their types
const_layer_prints : (n : ℕ) (P : Ty → Const → Type 0) (typed : Ty → Const → List Atom)
    → ((type : Ty) (part : Const) → IsTyWithin n type × P type part → Prints (typed type part) (typed_const_text type part))
    → (type : Ty) (types : Ty-F Ty) (layer : Const-F Const Operand) → out-Ty type ≡ types → ConstLayer n P type types layer
    → Prints (const_layer_atoms typed type layer) ((layer_printed layer).alone type)
const_layer_prints n P typed prints type (Ty-F.Int own) (Const-F.Int width value) e is =
    prints_as (append-nil (integer_text width value)) (prints_one (integer_token width value))
const_layer_prints n P typed prints type (Ty-F.Int own) (Const-F.Number name offset) e is = number_prints name offset is.1.name
const_layer_prints n P typed prints type Ty-F.Ptr Const-F.Null e is = prints_word (codes "null") refl refl prints_none
const_layer_prints n P typed prints type Ty-F.Ptr (Const-F.Addr name offset) e is = address_prints name offset is.name
const_layer_prints n P typed prints type (Ty-F.Array count part) (Const-F.Zero own) e is = zero_prints
const_layer_prints n P typed prints type (Ty-F.Array count part) (Const-F.Array own parts) e is =
    let both = all_of (P part) (λ x. IsTyWithin n part × P part x) (λ x is_part. (is.2.type, is_part)) parts is.2.each in
    let print = parts_print (λ type part. IsTyWithin n type × P type part) typed prints part parts both in
    subst (λ type. Prints (const_layer_atoms typed type (Const-F.Array type parts)) ((layer_printed (Const-F.Array type parts)).alone type)) is.0
    (prints_mark 91 refl (prints_append (listed_prints _ _ print) (prints_mark 93 refl prints_none) refl))
const_layer_prints n P typed prints type (Ty-F.Array count part) (Const-F.Bytes text) e is =
    prints_as (append-nil (bytes_text text)) (prints_one (bytes_token text is.2))
const_layer_prints n P typed prints type (Ty-F.Struct types) (Const-F.Zero own) e is = zero_prints
const_layer_prints n P typed prints type (Ty-F.Struct types) (Const-F.Struct parts) e is =
    let both = both_hold (IsTyWithin n) P types parts is.each_type is.each in
    let print = fields_print (λ type part. IsTyWithin n type × P type part) typed prints types parts both in
    rw e (prints_as (struct_same types (map const_printed parts)) (braced_prints _ _ print))
const_layer_prints n P typed prints type _ _ e is = absurd is

-- what is behind its type is the text of the type and the text of the constant
layer_typed : (n : ℕ) (P : Ty → Const → Type 0) (type : Ty) (types : Ty-F Ty) (layer : Const-F Const Operand) → ConstLayer n P type types layer
    → (layer_printed layer).typed type ≡ ty_text type ++ codes " " ++ (layer_printed layer).alone type
layer_typed n P type types (Const-F.Int width value) is = refl
layer_typed n P type types Const-F.Null is = refl
layer_typed n P type types (Const-F.Addr name offset) is = refl
layer_typed n P type types (Const-F.Zero own) is = refl
layer_typed n P type types (Const-F.Array own parts) is = refl
layer_typed n P type types (Const-F.Struct parts) is = refl
layer_typed n P type types (Const-F.Bytes text) is = refl
layer_typed n P type types (Const-F.Gep own base indices) is = refl
layer_typed n P type types (Const-F.Number name offset) is = refl
layer_typed n P type types (Const-F.Left text) is = refl
layer_typed n P type types (Const-F.Typed own part) is = absurd (never_typed types is)
  where
    never_typed : (types : Ty-F Ty) → ConstLayer n P type types (Const-F.Typed own part) → ⊥
    never_typed (Ty-F.Int width) is = is
    never_typed _ is = is

const_typed : (n : ℕ) (type : Ty) (constant : Const) → IsConstWithin n type constant
    → typed_const_text type constant ≡ ty_text type ++ codes " " ++ const_text type constant
const_typed zero type constant is = absurd is
const_typed (suc n) type constant is =
    ap (λ p. p.typed type) (printed_as constant) ∙ (layer_typed n (IsConstWithin n) type (out-Ty type) (out-Const constant) is
    ∙ ap (λ p. ty_text type ++ codes " " ++ p.alone type) (sym (printed_as constant)))

-- behind a space
pub prints_behind : {xs ys : List Atom} {a b : List ℕ} → Prints xs a → Prints ys b → Prints (xs ++ space ∷ ys) (a ++ codes " " ++ b)
prints_behind {a = a} {b = b} first second = prints_as (sym (append_assoc a (codes " ") b)) (prints_append first (prints_space second) refl)

const_prints : (n : ℕ) (type : Ty) (constant : Const) → IsConstWithin n type constant
    → Prints (const_within_atoms n type constant) (const_text type constant)
const_prints zero type constant is = absurd is
const_prints (suc n) type constant is =
    prints_as (ap (λ p. p.alone type) (sym (printed_as constant)))
    (const_layer_prints n (IsConstWithin n) (typed_with (ty_within_atoms n) (const_within_atoms n))
    (λ type part is. prints_as (sym (const_typed n type part is.1)) (prints_behind (ty_prints n type is.0) (const_prints n type part is.1)))
    type (out-Ty type) (out-Const constant) refl is)

pub typed_const_prints : (type : Ty) (constant : Const) → IsTy type → IsConstWithin levels type constant
    → Prints (ty_atoms type ++ space ∷ const_atoms type constant) (typed_const_text type constant)
typed_const_prints type constant is kept =
    prints_as (sym (const_typed levels type constant kept)) (prints_behind (ty_prints levels type is) (const_prints levels type constant kept))

-- operands

register_printed : (name : List ℕ) → operand_printed (operand.Reg name) ≡ operand_step (Operand-F.Reg name)
register_printed name = ap operand_printed (sym (operand.rolls-Reg name)) ∙ fold-roll-Operand Printed Printed const_step operand_step (Operand-F.Reg name)

constant_printed : (constant : Const) → operand_printed (operand.Const constant) ≡ const_printed constant
constant_printed constant =
    ap operand_printed (sym (operand.rolls-Const constant)) ∙ fold-roll-Operand Printed Printed const_step operand_step (Operand-F.Const constant)

pub operand_prints : (type : Ty) (value : Operand) → IsOperand type value → Prints (operand_atoms type value) (operand_text type value)
operand_prints type (operand.Reg name) is =
    prints_as (append-nil (local_text name) ∙ ap (λ p. p.alone type) (sym (register_printed name))) (prints_one (local_token name is))
operand_prints type (operand.Const constant) is =
    prints_as (ap (λ p. p.alone type) (sym (constant_printed constant))) (const_prints levels type constant is)

operand_typed : (type : Ty) (value : Operand) → IsOperand type value
    → typed_text type value ≡ ty_text type ++ codes " " ++ operand_text type value
operand_typed type (operand.Reg name) is =
    ap (λ p. p.typed type) (register_printed name) ∙ ap (λ p. ty_text type ++ codes " " ++ p.alone type) (sym (register_printed name))
operand_typed type (operand.Const constant) is =
    ap (λ p. p.typed type) (constant_printed constant) ∙ (const_typed levels type constant is
    ∙ ap (λ p. ty_text type ++ codes " " ++ p.alone type) (sym (constant_printed constant)))

pub typed_prints : (type : Ty) (value : Operand) → IsTy type → IsOperand type value → Prints (typed_atoms type value) (typed_text type value)
typed_prints type value is kept =
    prints_as (sym (operand_typed type value kept)) (prints_behind (ty_prints levels type is) (operand_prints type value kept))
