-- What the blocks of a body hold: its instructions in their order, each under the label of the block in which it stands.
use Rattle.std.specs.Prelude.{◌≡◌, List, map, flat_map}
use Rattle.ltt_base.specs.declared.refusal.Placed.{Placed}
use Rattle.ir_values.specs.declared.units.Unit.{Unit}
use Rattle.check_bodies.specs.Blocks.{block_label}
use Rattle.built_modules.specs.Blocks.{Piece, blocks_of}

abbrev pub BlocksHoldAll : Type 0
BlocksHoldAll = (us : List (Placed Unit)) (pieces : List Piece) → flat_map (λ block. block.insts) (blocks_of us pieces) ≡ map (λ piece. piece.inst) pieces

abbrev pub LabelsAreTheirs : Type 0
LabelsAreTheirs = (us : List (Placed Unit)) (pieces : List Piece)
    → flat_map (λ block. map (λ _. block.label) block.insts) (blocks_of us pieces) ≡ map (λ piece. block_label us piece.mark) pieces
