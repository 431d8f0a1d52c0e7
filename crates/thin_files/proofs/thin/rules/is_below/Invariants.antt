use Rattle.std.proofs.Common.{◌≡◌, ◌<◌, ◌^◌, drop}
use Rattle.thin_files.specs.Thin.{number_from}
use Rattle.thin_files.proofs.thin.rules.is_below.Given as goal

abbrev pub invariant-loop-digit : goal.invariant-loop-digit
invariant-loop-digit l = record {
  so_far : number_from l.value (drop l.digit-index l.digits) ≡ number_from 0 l.digits;
  small : l.value < 2 ^ 32;
}
