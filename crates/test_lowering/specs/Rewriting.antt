-- The output module: each variable with an entry becomes a combined variable, and each test a comparison.
--
-- This is meant for the modules of thin files only: each variable is a group of its own, all initialisers are zero, each
-- identifier has one carrier, and the instructions are tests and returns.
use Rattle.std.specs.Prelude.{suc, zero, ◌≡◌, ℕ, ◌+◌, ◌-◌, ◌*◌, ◌/◌, Bool, true, false, List, [], ◌∷◌, ◌++◌, length, map, max, Option, Some, None, codes, decimal, if◌then◌else◌, nat_eq, nat_le, nat_lt, ◌==◌}
use Rattle.std.specs.List.{flat_map, list_all}
use Rattle.std.specs.Cmp.Lexicographic.{pointwise}
use Rattle.ltt_base.specs.declared.refusal.Place.{Place}
use Rattle.ir_values.specs.declared.types.Width.TheVariants.{W1, W8}
use Rattle.ir_values.specs.declared.types.Ty as ty
use Rattle.ir_values.specs.declared.types.Ty.{Ty}
use Rattle.ir_values.specs.declared.constants.Const as const
use Rattle.ir_values.specs.declared.constants.Const.{Const}
use Rattle.ir_values.specs.declared.constants.Operand as operand
use Rattle.ir_values.specs.declared.constants.Operand.{Operand}
use Rattle.ir_values.specs.declared.modules.Linkage.TheVariants.{Private, Strong}
use Rattle.ir_values.specs.declared.modules.Entry.{Entry}
use Rattle.ir_values.specs.declared.modules.TypeId.{TypeId}
use Rattle.ir_values.specs.declared.modules.Block.{Block}
use Rattle.ir_values.specs.declared.modules.Var.{Var}
use Rattle.ir_values.specs.declared.modules.Func.{Func}
use Rattle.ir_values.specs.declared.modules.Module.{Module}
use Rattle.ir_values.specs.declared.instructions.Inst.{Inst}
use Rattle.ir_values.specs.declared.instructions.Inst.TheVariants.{Test, Ret, Compare, Select}
use Rattle.ir_values.specs.declared.instructions.Pred.TheVariants.{Eq}
use Rattle.type_metadata.specs.Sizes.{size_of, align_of}
use Rattle.type_metadata.specs.Carriers.{extent_of}
use Rattle.type_metadata.specs.Identifiers.{is_same_id}

-- The place of a made item.
abbrev pub no_place : Place
no_place = record { file = 0; line = 0; column = 0 }

-- The slot of an object in its combined variable.

-- the first of p, 2 * p, 4 * p .. that is at least n, of at most `doublings` doublings
unfoldable pub doubled_to : ℕ → ℕ → ℕ → ℕ
doubled_to zero p n = p
doubled_to (suc doublings) p n = if nat_le n p then p else doubled_to doublings (2 * p) n

-- the least power of two that is at least n, for n up to 2^64
abbrev pub power_above : ℕ → ℕ
power_above n = doubled_to 64 1 n

-- the least power of two if that adds at most 32 bytes, else the least multiple of 32
abbrev pub pad : ℕ → ℕ
pad n = if nat_le (power_above n) (n + 32) then power_above n else (n + 31) / 32 * 32

-- The combined variable of number `group`.

abbrev pub group_name : ℕ → List ℕ
group_name group = codes ".ltt.gv." ++ decimal group

-- bytes that no object takes
abbrev pub gap_types : ℕ → List Ty
gap_types zero = []
gap_types (suc n) = ty.Array (suc n) (ty.Int W8) ∷ []

-- the bytes behind an object in its slot
abbrev pub gap_of : Var → ℕ
gap_of v = pad (extent_of v) - size_of v.ty

abbrev pub combined_type : Var → Ty
combined_type v = ty.Struct (v.ty ∷ gap_types (gap_of v))

abbrev pub combined : ℕ → Var → Var
combined group v = record {
  place = no_place;
  name = group_name group;
  linkage = Private;
  constant = v.constant;
  ty = combined_type v;
  init = Some (const.Zero (combined_type v));
  align = max v.align (align_of v.ty);
  entries = [];
  visibility = 0;
}

-- each identifier has one carrier, so that each variable is a group of its own, in their order
abbrev pub combined_from : ℕ → List Var → List Var
combined_from group [] = []
combined_from group (v ∷ vars) = combined group v ∷ combined_from (group + 1) vars

-- Where an object's first byte stands: the combined variable's number, and the offset in it.
pub record Home : Type 0 where
  pub group : ℕ
  pub offset : ℕ

abbrev pub home_of : ℕ → Home
home_of object = record { group = object; offset = 0 }

-- Operands.

-- the number of the variable of this name, where the first of them has the number `object`
abbrev pub object_from : ℕ → List Var → List ℕ → Option ℕ
object_from object [] name = None
object_from object (v ∷ vars) name = if pointwise nat_eq v.name name then Some object else object_from (object + 1) vars name

abbrev pub object_of : Module → List ℕ → Option ℕ
object_of m name = object_from 0 m.vars name

-- the address `offset` bytes behind the object of this name, in the output: behind its home, where it has one
abbrev pub address_in : Option ℕ → List ℕ → ℕ → Const
address_in None name offset = const.Addr name offset
address_in (Some object) name offset = const.Addr (group_name (home_of object).group) ((home_of object).offset + offset)

-- the home's address in the place of the address of an object that has one; other operands stay
abbrev pub rewritten_operand : Module → Operand → Operand
rewritten_operand m (operand.Const (const.Addr name offset)) = operand.Const (address_in (object_of m name) name offset)
rewritten_operand m other = other

-- Tests.

-- the offsets at which members of the identifier stand in the module's combined variables
abbrev pub offsets_at : TypeId → ℕ → List Entry → List Home
offsets_at id group [] = []
offsets_at id group (entry ∷ entries) =
    if is_same_id entry.id id
    then record { group = group; offset = entry.offset } ∷ offsets_at id group entries
    else offsets_at id group entries

abbrev pub members_from : TypeId → ℕ → List Var → List Home
members_from id group [] = []
members_from id group (v ∷ vars) = offsets_at id group v.entries ++ members_from id (group + 1) vars

abbrev pub members_of : Module → TypeId → List Home
members_of m id = members_from id 0 m.vars

abbrev pub address_of_member : Home → Operand
address_of_member member = operand.Const (const.Addr (group_name member.group) member.offset)

-- the instructions that a test of `ptr` into `dst` becomes, for an identifier with these members: it is
-- false of no member, and a comparison for one
abbrev pub test_shape : List Home → List ℕ → Operand → List Inst
test_shape [] dst ptr =
    Select dst (operand.Const (const.Int W1 1)) (ty.Int W1) (operand.Const (const.Int W1 0)) (operand.Const (const.Int W1 0)) ∷ []
test_shape (member ∷ _) dst ptr = Compare dst Eq ty.Ptr ptr (address_of_member member) ∷ []

abbrev pub rewritten_inst : Module → Inst → List Inst
rewritten_inst m (Test dst ptr id) = test_shape (members_of m id) dst (rewritten_operand m ptr)
rewritten_inst m (Ret ty (Some value)) = Ret ty (Some (rewritten_operand m value)) ∷ []
rewritten_inst m inst = inst ∷ []

abbrev pub rewritten_block : Module → Block → Block
rewritten_block m block = record { label = block.label; insts = flat_map (rewritten_inst m) block.insts }

abbrev pub rewritten_func : Module → Func → Func
rewritten_func m f = record {
  place = f.place;
  name = f.name;
  linkage = Strong;
  fty = f.fty;
  params = f.params;
  blocks = map (rewritten_block m) f.blocks;
  entries = [];
}

abbrev pub rewritten : Module → Module
rewritten m = record { vars = combined_from 0 m.vars; funcs = map (rewritten_func m) m.funcs; jumps = [] }
