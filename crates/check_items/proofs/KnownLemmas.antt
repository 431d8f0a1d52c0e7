-- One level more.
use Rattle.std.proofs.Common.{◌≡◌, refl, sym, subst, ℕ, suc, ◌<◌, ◌-◌, List, arith}
use Rattle.ltt_base.specs.declared.refusal.Placed.{Placed}
use Rattle.ir_values.specs.declared.types.Ty.{Ty}
use Rattle.ir_values.specs.declared.units.Unit as unit
use Rattle.check_types.specs.Heads.{head}
use Rattle.check_items.specs.Known.{is_known_within, known_head}

pub known_next : (us : List (Placed unit.Unit)) (levels : ℕ) (ty : Ty) → 0 < levels
    → is_known_within us levels ty ≡ known_head (is_known_within us (levels - 1)) (head us ty)
unfolding is_known_within
known_next us levels ty some = let next : levels ≡ suc (levels - 1) = omega arith in
    subst (λ n. is_known_within us n ty ≡ known_head (is_known_within us (levels - 1)) (head us ty)) (sym next) refl
