use Rattle.std.proofs.Common.{◌≡◌}
use Rattle.ir_lex.specs.Places.{place_at}
use Rattle.ir_lex.proofs.place.place_of.Given as goal

abbrev pub invariant-bytes : goal.invariant-bytes
invariant-bytes l = l.now ≡ place_at l.fn.place.file l.text l.at
