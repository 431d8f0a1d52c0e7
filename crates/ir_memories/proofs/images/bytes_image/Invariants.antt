use Rattle.std.proofs.Common.{◌≡◌, ◌++◌, map, drop}
use Rattle.ir_memories.specs.declared.cells.Cell.TheVariants.{Byte}
use Rattle.ir_memories.proofs.images.bytes_image.Given as goal

abbrev pub invariant-loop-byte : goal.invariant-loop-byte
invariant-loop-byte l = l.cells ++ map Byte (drop l.byte-index l.bytes) ≡ map Byte l.bytes
