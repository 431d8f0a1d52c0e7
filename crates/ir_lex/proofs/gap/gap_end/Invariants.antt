use Rattle.std.proofs.Common.{◌≡◌, false}
use Rattle.std.specs.Prelude.{slice_range, Some}
use Rattle.ir_lex.specs.Places.{place_at}
use Rattle.ir_lex.specs.Texts.{open_behind}
use Rattle.ir_lex.proofs.gap.gap_end.Given as goal

abbrev pub invariant-bytes : goal.invariant-bytes
invariant-bytes l = record {
  place_is : l.now ≡ place_at l.fn.place.file l.text l.at;
  open_is : open_behind false (slice_range l.text l.start l.at) ≡ Some l.inside;
}
