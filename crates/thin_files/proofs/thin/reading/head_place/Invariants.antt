use Rattle.std.proofs.Common.{◌≡◌, ◌+◌, drop}
use Rattle.std.specs.List.{position_or_len}
use Rattle.thin_files.specs.Shape.{is_head}
use Rattle.thin_files.proofs.thin.reading.head_place.Given as goal

abbrev pub invariant-loop-place : goal.invariant-loop-place
invariant-loop-place l = l.place + position_or_len (λ u. is_head u.value.form) (drop l.place l.units)
    ≡ position_or_len (λ u. is_head u.value.form) l.units
