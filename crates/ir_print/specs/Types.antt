-- How a type is printed.
use Rattle.std.specs.Prelude.{ℕ, List, [], ◌∷◌, ◌++◌, codes, decimal}
use Rattle.ir_values.specs.declared.types.Width.{Width}
use Rattle.ir_values.specs.declared.types.Ty.{Ty, fold-Ty}
use Rattle.ir_values.specs.declared.types.Ty.TheOpen.{Ty-F}
use Rattle.ir_names.specs.Names.{local_text}
use Rattle.ir_print.specs.Pieces.{commas}

abbrev pub width_text : Width → List ℕ
width_text Width.W1 = codes "i1"
width_text Width.W8 = codes "i8"
width_text Width.W16 = codes "i16"
width_text Width.W32 = codes "i32"
width_text Width.W64 = codes "i64"

-- what a checked load gives
unfoldable pub pair_text : List ℕ
pair_text = codes "{ ptr, i1 }"

abbrev pub array_ty_text : ℕ → List ℕ → List ℕ
array_ty_text count part = codes "[" ++ decimal count ++ codes " x " ++ part ++ codes "]"

abbrev pub struct_ty_text : List (List ℕ) → List ℕ
struct_ty_text [] = codes "{}"
struct_ty_text (part ∷ parts) = codes "{ " ++ commas (part ∷ parts) ++ codes " }"

-- a type, given the texts of its parts
abbrev pub ty_step : Ty-F (List ℕ) → List ℕ
ty_step Ty-F.Void = codes "void"
ty_step (Ty-F.Int width) = width_text width
ty_step Ty-F.Ptr = codes "ptr"
ty_step Ty-F.Pair = pair_text
ty_step (Ty-F.Array count part) = array_ty_text count part
ty_step (Ty-F.Struct parts) = struct_ty_text parts
ty_step (Ty-F.Named name) = local_text name
ty_step (Ty-F.Left text) = text

abbrev pub ty_text : Ty → List ℕ
ty_text = fold-Ty (List ℕ) ty_step

-- each item with its type; one for which there is no type stands behind `void`
abbrev pub behind_types : {X : Type 0} → (Ty → X → List ℕ) → List Ty → List X → List (List ℕ)
behind_types text types [] = []
behind_types text [] (item ∷ items) = text Ty.Void item ∷ behind_types text [] items
behind_types text (ty ∷ types) (item ∷ items) = text ty item ∷ behind_types text types items
