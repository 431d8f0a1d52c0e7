use Rattle.std.proofs.Common.{◌≡◌, ◌≤◌, [], map, drop}
use Rattle.ir_memories.specs.Images.{image, joined, laid}
use Rattle.ir_memories.proofs.images.+images.Given as goal

abbrev pub invariant-joined-loop-part : goal.invariant-joined-loop-part
invariant-joined-loop-part g l =
    joined l.cells (map (image (g.N.Addresses.gives l.names)) (drop l.part-index l.parts)) ≡ joined [] (map (image (g.N.Addresses.gives l.names)) l.parts)

abbrev pub invariant-struct_image-loop-part : goal.invariant-struct_image-loop-part
invariant-struct_image-loop-part g l = record {
  rest : laid l.align l.cells (map (image (g.N.Addresses.gives l.names)) (drop l.part-index l.parts)) ≡ laid 1 [] (map (image (g.N.Addresses.gives l.names)) l.parts);
  positive : 1 ≤ l.align;
}
