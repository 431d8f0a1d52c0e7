-- Blocks of which the last is still open.
use Rattle.std.specs.Prelude.{List, ◌++◌, map}
use Rattle.ltt_base.specs.declared.refusal.Placed.{Placed}
use Rattle.ir_values.specs.declared.modules.Block as built
use Rattle.ir_values.specs.declared.units.Unit.{Unit}
use Rattle.built_modules.specs.declared.blocks.Run.{Run}
use Rattle.built_modules.specs.Blocks.{Piece, piece, blocks_of}

-- the blocks that are closed, and those of the open one's instructions and of others behind them
unfoldable pub blocks_with : List (Placed Unit) → Run → List Piece → List built.Block
blocks_with us run pieces = run.blocks ++ blocks_of us (map (piece run.mark) run.insts ++ pieces)
