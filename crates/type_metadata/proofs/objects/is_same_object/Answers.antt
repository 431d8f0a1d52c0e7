use Rattle.type_metadata.proofs.SameLaws.{object_decides}
use Rattle.type_metadata.proofs.objects.is_same_object.Goals as goal

pub returns : goal.returns
returns c = object_decides _ _ _ c.is.ensures
