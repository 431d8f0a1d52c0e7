-- Whether two type identifiers are one.
use Rattle.std.specs.Prelude.{Bool, false, ◌&&◌, nat_eq}
use Rattle.std.specs.Cmp.Lexicographic.{pointwise}
use Rattle.ir_values.specs.declared.modules.TypeId.{TypeId}
use Rattle.ir_values.specs.declared.modules.TypeId.TheVariants.{Name, Node}

abbrev pub is_same_id : TypeId → TypeId → Bool
is_same_id (Name a) (Name b) = pointwise nat_eq a b
is_same_id (Node file number) (Node file' number') = nat_eq file file' && nat_eq number number'
is_same_id _ _ = false
