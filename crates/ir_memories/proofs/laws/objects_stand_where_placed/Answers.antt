use Rattle.ir_memories.proofs.AddressLaws.{address_law}
use Rattle.ir_memories.proofs.laws.objects_stand_where_placed.Goals as goal

pub returns : goal.returns
returns c = address_law
