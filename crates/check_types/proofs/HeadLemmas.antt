-- Names that are followed.
use Rattle.std.proofs.Common.{◌≡◌, refl, ℕ, suc, ◌+◌, List, arith}
use Rattle.ltt_base.specs.declared.refusal.Placed.{Placed}
use Rattle.ir_values.specs.declared.units.Unit as unit
use Rattle.check_types.specs.Named.{named_type}
use Rattle.check_types.specs.Heads.{followed, option_head}

pub followed_next : (us : List (Placed unit.Unit)) (n : ℕ) (name : List ℕ)
    → followed us (n + 1) name ≡ option_head (followed us n) (named_type us name)
unfolding followed
followed_next us n name = let next : n + 1 ≡ suc n = omega arith in rw next refl
