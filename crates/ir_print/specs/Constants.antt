-- How constants and operands are printed.
use Rattle.std.specs.Prelude.{ℕ, ◌==◌, if◌then◌else◌, List, [], ◌∷◌, ◌++◌, map, codes}
use Rattle.ir_values.specs.declared.types.Width.{Width}
use Rattle.ir_values.specs.declared.types.Ty.{Ty, out-Ty}
use Rattle.ir_values.specs.declared.types.Ty.TheOpen.{Ty-F}
use Rattle.ir_values.specs.declared.constants.Const.{Const, fold-Const}
use Rattle.ir_values.specs.declared.constants.Const.TheOpen.{Const-F, Operand-F}
use Rattle.ir_values.specs.declared.constants.Operand.{Operand, fold-Operand}
use Rattle.ir_print.specs.Pieces.{commas, after_commas}
use Rattle.ir_names.specs.Names.{quoted, global_text, local_text}
use Rattle.ir_names.specs.Numbers.{integer_text}
use Rattle.ir_print.specs.Types.{ty_text, behind_types}

-- The two ways in which a constant is printed, each for the type that its place gives it.
pub record Printed : Type 0 where
  pub alone : Ty → List ℕ
  pub typed : Ty → List ℕ

-- a constant that doesn't hold its type, which is written before it
abbrev pub placed : (Ty → List ℕ) → Printed
placed text = record { alone = text; typed = λ ty. ty_text ty ++ codes " " ++ text ty }

-- the same where the text doesn't lean on the type
abbrev pub printed : List ℕ → Printed
printed text = placed (λ ty. text)

-- the address so many bytes from the start of a global
abbrev pub moved_text : List ℕ → ℕ → List ℕ
moved_text name offset =
    codes "getelementptr (i8, ptr " ++ global_text name ++ codes ", i64 " ++ integer_text Width.W64 offset ++ codes ")"

unfoldable pub address_text : List ℕ → ℕ → List ℕ
address_text name offset = if offset == 0 then global_text name else moved_text name offset

-- the number of that address
abbrev pub number_text : List ℕ → ℕ → List ℕ
number_text name offset = codes "ptrtoint (ptr " ++ address_text name offset ++ codes " to i64)"

-- the types of a struct's parts
abbrev pub parts_of : Ty-F Ty → List Ty
parts_of (Ty-F.Struct types) = types
parts_of _ = []

abbrev pub parts_text : List Ty → List Printed → List (List ℕ)
parts_text = behind_types (λ ty part. part.typed ty)

unfoldable pub zero_text : List ℕ
zero_text = codes "zeroinitializer"

abbrev pub bytes_text : List ℕ → List ℕ
bytes_text text = codes "c" ++ quoted text

abbrev pub array_text : Ty → List Printed → List ℕ
array_text ty parts = codes "[" ++ commas (map (λ part. part.typed ty) parts) ++ codes "]"

-- a struct with parts of these types
abbrev pub struct_text : List Ty → List Printed → List ℕ
struct_text types [] = codes "{}"
struct_text types (part ∷ parts) = codes "{ " ++ commas (parts_text types (part ∷ parts)) ++ codes " }"

abbrev pub indices_text : List Printed → List ℕ
indices_text indices = after_commas (map (λ index. index.typed (Ty.Int Width.W64)) indices)

abbrev pub gep_text : Ty → Printed → List Printed → List ℕ
gep_text ty base indices =
    codes "getelementptr (" ++ ty_text ty ++ codes ", " ++ base.typed Ty.Ptr ++ indices_text indices ++ codes ")"

-- a constant, given the texts of its parts
abbrev pub const_step : Const-F Printed Printed → Printed
const_step (Const-F.Int width n) = printed (integer_text width n)
const_step Const-F.Null = printed (codes "null")
const_step (Const-F.Addr name offset) = printed (address_text name offset)
const_step (Const-F.Zero ty) = printed zero_text
const_step (Const-F.Array ty parts) = printed (array_text ty parts)
const_step (Const-F.Struct parts) = placed (λ ty. struct_text (parts_of (out-Ty ty)) parts)
const_step (Const-F.Bytes text) = printed (bytes_text text)
const_step (Const-F.Gep ty base indices) = printed (gep_text ty base indices)
const_step (Const-F.Number name offset) = printed (number_text name offset)
const_step (Const-F.Left text) = printed text
const_step (Const-F.Typed ty part) = record { alone = λ place. part.alone ty; typed = λ place. part.typed ty }

abbrev pub operand_step : Operand-F Printed Printed → Printed
operand_step (Operand-F.Reg name) = printed (local_text name)
operand_step (Operand-F.Const part) = part

abbrev pub const_printed : Const → Printed
const_printed = fold-Const Printed Printed const_step operand_step

abbrev pub operand_printed : Operand → Printed
operand_printed = fold-Operand Printed Printed const_step operand_step

-- a constant of a type, and the same behind its type
abbrev pub const_text : Ty → Const → List ℕ
const_text ty value = (const_printed value).alone ty

abbrev pub typed_const_text : Ty → Const → List ℕ
typed_const_text ty value = (const_printed value).typed ty

-- an operand of a type, and the same behind its type
abbrev pub operand_text : Ty → Operand → List ℕ
operand_text ty value = (operand_printed value).alone ty

abbrev pub typed_text : Ty → Operand → List ℕ
typed_text ty value = (operand_printed value).typed ty

-- an index of an address, behind its comma
abbrev pub index_text : Operand → List ℕ
index_text index = codes ", " ++ typed_text (Ty.Int Width.W64) index
