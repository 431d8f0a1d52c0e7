-- What the instructions of a lowered test give when pointers are numbers.
use Rattle.std.specs.Prelude.{suc, zero, IsTrue, ◌≡◌, ℕ, ◌+◌, ◌%◌, ◌^◌, ◌<◌, Bool, true, false, List, [], ◌∷◌, Option, Some, None, if◌then◌else◌, ◌==◌, ◌↔◌, Contains, nat_eq, slice_get}
use Rattle.std.specs.Cmp.Lexicographic.{pointwise}
use Rattle.ir_values.specs.declared.types.Width.TheVariants.{W1}
use Rattle.ir_values.specs.declared.types.Ty as ty
use Rattle.ir_values.specs.declared.types.Ty.{Ty}
use Rattle.ir_values.specs.declared.constants.Const as const
use Rattle.ir_values.specs.declared.constants.Const.{Const}
use Rattle.ir_values.specs.declared.constants.Operand as operand
use Rattle.ir_values.specs.declared.constants.Operand.{Operand}
use Rattle.ir_values.specs.declared.modules.Block.{Block}
use Rattle.ir_values.specs.declared.modules.Func.{Func}
use Rattle.ir_values.specs.declared.modules.TypeId.{TypeId}
use Rattle.ir_values.specs.declared.modules.Module.{Module}
use Rattle.ir_values.specs.declared.instructions.Inst.{Inst}
use Rattle.ir_values.specs.declared.instructions.Inst.TheVariants.{Test, Compare, Select}
use Rattle.ir_values.specs.declared.instructions.Pred.{Pred}
use Rattle.ir_values.specs.declared.instructions.Pred.TheVariants.{Eq}
use Rattle.type_metadata.specs.Carriers.{Carries}
use Rattle.ir_memories.specs.Placement.{Placement, IsPlaced}
use Rattle.test_lowering.specs.Rewriting.{rewritten, rewritten_operand, rewritten_inst, home_of, group_name}

-- Registers and their numbers, the last set first.
abbrev pub Registers : Type 0
Registers = List (List ℕ × ℕ)

abbrev pub number_in : Registers → List ℕ → Option ℕ
number_in [] name = None
number_in (register ∷ registers) name =
    if pointwise nat_eq register.0 name then Some register.1 else number_in registers name

abbrev pub number_of : Placement → Registers → Operand → Option ℕ
number_of p registers (operand.Reg name) = number_in registers name
number_of p registers (operand.Const (const.Int width n)) = Some n
number_of p registers (operand.Const const.Null) = Some 0
number_of p registers (operand.Const (const.Addr name offset)) = Some ((p name + offset) % 2 ^ 64)
number_of p registers _ = None

abbrev pub flag_of : Bool → ℕ
flag_of answer = if answer then 1 else 0

-- the number that a comparison or a selection of these operands gives; other predicates stand in no test
abbrev pub compared : Pred → Option ℕ → Option ℕ → Option ℕ
compared Eq (Some a) (Some b) = Some (flag_of (nat_eq a b))
compared _ _ _ = None

abbrev pub selected : Option ℕ → Option ℕ → Option ℕ → Option ℕ
selected (Some zero) a b = b
selected (Some (suc n)) a b = a
selected None a b = None

abbrev pub set_in : Registers → List ℕ → Option ℕ → Option Registers
set_in registers name (Some n) = Some ((name, n) ∷ registers)
set_in registers name None = None

-- the registers after one instruction of a lowered test
abbrev pub after : Placement → Inst → Registers → Option Registers
after p (Compare dst pred ty a b) registers =
    set_in registers dst (compared pred (number_of p registers a) (number_of p registers b))
after p (Select dst cond ty a b) registers =
    set_in registers dst (selected (number_of p registers cond) (number_of p registers a) (number_of p registers b))
after p _ registers = None

abbrev pub after_each : Placement → List Inst → Option Registers → Option Registers
after_each p [] registers = registers
after_each p (inst ∷ insts) (Some registers) = after_each p insts (after p inst registers)
after_each p (inst ∷ insts) None = None

abbrev pub result_in : List ℕ → Option Registers → Option ℕ
result_in dst (Some registers) = number_in registers dst
result_in dst None = None

-- what a lowered test gives in `dst`, run from these registers
abbrev pub test_at : Placement → List Inst → Registers → List ℕ → Option ℕ
test_at p insts registers dst = result_in dst (after_each p insts (Some registers))

-- The address `offset` bytes from the start of a variable of the source.
abbrev pub address_of : Placement → ℕ → ℕ → ℕ
address_of p object offset = p (group_name (home_of object).group) + (home_of object).offset + offset

abbrev pub IsCarried : Module → Placement → TypeId → ℕ → Type 0
IsCarried m p id a = (object : ℕ) × ((offset : ℕ) × Carries m id object offset × (a ≡ address_of p object offset))

-- the instruction stands in a function of the module
abbrev pub HasInst : Module → Inst → Type 0
HasInst m inst = (f : Func) × ((block : Block) × Contains m.funcs f × Contains f.blocks block × Contains block.insts inst)

-- Each test of the module, as the output has it, is true of a number exactly where the number is the
-- address of a carrier, and false of every other number. The number is that of the test's pointer in the output.
abbrev pub IsExact : Module → Placement → Type 0
IsExact m p = (dst : List ℕ) (ptr : Operand) (id : TypeId) → HasInst m (Test dst ptr id)
    → (registers : Registers) (a : ℕ) → a < 2 ^ 64 → number_of p registers (rewritten_operand m ptr) ≡ Some a
    → (answer : Bool) × (test_at p (rewritten_inst m (Test dst ptr id)) registers dst ≡ Some (flag_of answer))
    × (IsTrue answer ↔ IsCarried m p id a)
