use Rattle.ir_text.proofs.ReadLaws.{one_reading, stops_end, nests_end, stops_once, nests_once, nests_never}
use Rattle.ir_text.proofs.laws.units_agree.Goals as goal

pub returns : goal.returns
returns c = record {
  agree = one_reading;
  end = stops_end;
  flat = nests_end;
  stop = stops_once;
  nest = nests_once;
  either = nests_never;
}
