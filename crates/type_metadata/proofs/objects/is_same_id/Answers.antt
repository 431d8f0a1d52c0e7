use Rattle.type_metadata.proofs.SameLaws.{id_decides}
use Rattle.type_metadata.proofs.objects.is_same_id.Goals as goal

pub returns : goal.returns
returns c = id_decides _ _ _ c.is.ensures
