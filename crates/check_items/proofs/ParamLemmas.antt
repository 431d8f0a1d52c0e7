-- A loop over the parameters of a head.
use Rattle.std.proofs.Common.{◌≡◌, ◌∙◌, sym, ap, ℕ, ◌+◌, ◌<◌, Bool, List, ◌∷◌, length, drop, get_or, Option, add-one, drop-cons}
use Rattle.ltt_base.specs.declared.refusal.Placed.{Placed}
use Rattle.ir_values.specs.declared.units.Unit as unit
use Rattle.ir_values.specs.declared.units.Param.{Param}
use Rattle.check_names.specs.declared.flaws.Flaw.{Flaw}
use Rattle.check_names.specs.Flaws.{◌then◌}
use Rattle.check_names.proofs.FlawLemmas.{then_assoc}
use Rattle.check_bodies.specs.Numbers.{behind_name}
use Rattle.check_constants.specs.declared.intrinsics.Intrinsic.{Intrinsic}
use Rattle.check_items.specs.Functions.{place_of, param_flaw, params_flaw}

pub params_step : (output : Bool) (us : List (Placed unit.Unit)) (quiet : Bool) (intrinsic : Option Intrinsic) (params : List Param) (at next : ℕ) (d : Param)
    (found new more whole : Option Flaw) (behind : ℕ) → at < length params → new ≡ found then more
    → more ≡ param_flaw output us quiet (place_of intrinsic at) next (get_or params at d) → behind ≡ behind_name next (get_or params at d).name
    → (found then params_flaw output us quiet intrinsic at next (drop at params)) ≡ whole
    → (new then params_flaw output us quiet intrinsic (at + 1) behind (drop (at + 1) params)) ≡ whole
params_step output us quiet intrinsic params at next d found new more whole behind inside joined one goes is =
    let first : drop at params ≡ get_or params at d ∷ drop (at + 1) params = rw add-one (drop-cons params at d inside) in
    let rest : Option Flaw = params_flaw output us quiet intrinsic (at + 1) behind (drop (at + 1) params) in
    let split : params_flaw output us quiet intrinsic at next (drop at params) ≡ more then rest =
    ap (params_flaw output us quiet intrinsic at next) first
    ∙ ap (λ n. param_flaw output us quiet (place_of intrinsic at) next (get_or params at d) then params_flaw output us quiet intrinsic (at + 1) n (drop (at + 1) params)) (sym goes)
    ∙ ap (λ f. f then rest) (sym one) in
    ap (λ f. f then rest) joined ∙ then_assoc found more rest ∙ ap (λ f. found then f) (sym split) ∙ is
