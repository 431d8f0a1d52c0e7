use Rattle.global_layout.proofs.ListedLaws.{law-listed}
use Rattle.global_layout.proofs.HomeLaws.{law-homes}
use Rattle.global_layout.proofs.ApartLaws.{slots-apart}
use Rattle.global_layout.proofs.OverlapLaws.{homes-apart}
use Rattle.global_layout.proofs.TogetherLaws.{together}
use Rattle.global_layout.proofs.laws.objects_have_homes.Goals as goal

pub returns : goal.returns
returns c = record { listed = law-listed; homes = law-homes; apart = slots-apart; homes_apart = homes-apart; together = together }
