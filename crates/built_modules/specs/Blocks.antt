-- The blocks that the units of a body become.
-- Source: LLVM Language Reference, "Functions". Differs: units that are no instructions stand in no block.
use Rattle.std.specs.Prelude.{ℕ, Bool, true, false, List, [], ◌∷◌, Option, Some, None}
use Rattle.ltt_base.specs.declared.refusal.Placed.{Placed}
use Rattle.ir_values.specs.declared.instructions.Inst.{Inst}
use Rattle.ir_values.specs.declared.modules.Block as built
use Rattle.ir_values.specs.declared.units.Unit.{Unit}
use Rattle.ir_values.specs.declared.units.Form.{Form}
use Rattle.check_bodies.specs.declared.standing.Spot.{Spot}
use Rattle.check_bodies.specs.declared.blocks.BlockMark.{BlockMark}
use Rattle.check_bodies.specs.Standing.{opened}
use Rattle.check_bodies.specs.Gathered.{of_function}
use Rattle.check_bodies.specs.Blocks.{block_at, block_label, is_same_mark}
use Rattle.built_instructions.specs.Instructions.{instruction_of}

-- an instruction, and the block in which it stands
pub record Piece : Type 0 where
  pub mark : BlockMark
  pub inst : Inst

abbrev pub piece : BlockMark → Inst → Piece
piece mark inst = record { mark = mark; inst = inst }

abbrev pub pieces_in : BlockMark → Option Inst → List Piece
pieces_in mark None = []
pieces_in mark (Some inst) = piece mark inst ∷ []

-- the instruction that a unit at a spot is, in the block in which it stands
abbrev pub pieces_at : Bool → List (Placed Unit) → ℕ → ℕ → Spot → Form → List Piece
pieces_at output us file at spot form = pieces_in (block_at (opened at spot)) (instruction_of output us file at spot form)

abbrev pub no_piece : Form → List Piece
no_piece form = []

-- the instructions of the function whose head stands at a place, in the order of the text
abbrev pub pieces_of : Bool → List (Placed Unit) → ℕ → ℕ → List Piece
pieces_of output us file head = of_function no_piece (pieces_at output us file) us head

abbrev pub block : List (Placed Unit) → BlockMark → List Inst → built.Block
block us mark insts = record { label = block_label us mark; insts = insts }

-- the first of some instructions stands in a block
abbrev pub begins_in : BlockMark → List Piece → Bool
begins_in mark [] = false
begins_in mark (next ∷ pieces) = is_same_mark mark next.mark

-- an instruction before blocks: in the first of them, or else in one of its own
abbrev pub with_first : List (Placed Unit) → Piece → Bool → List built.Block → List built.Block
with_first us first true (next ∷ blocks) = record { label = next.label; insts = first.inst ∷ next.insts } ∷ blocks
with_first us first _ blocks = block us first.mark (first.inst ∷ []) ∷ blocks

-- the blocks of instructions: neighbours of one block are in one
unfoldable pub blocks_of : List (Placed Unit) → List Piece → List built.Block
blocks_of us [] = []
blocks_of us (first ∷ pieces) = with_first us first (begins_in first.mark pieces) (blocks_of us pieces)

-- the blocks of the function whose head stands at a place
unfoldable pub body_blocks : Bool → List (Placed Unit) → ℕ → ℕ → List built.Block
body_blocks output us file head = blocks_of us (pieces_of output us file head)
