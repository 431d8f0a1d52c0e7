use Rattle.std.proofs.Common.{◌≡◌, ◌↔◌, ℕ, ◌-◌, ◌^◌, ◌<◌, IsTrue, ap, sym, ◌∙◌, arith}
use Rattle.std.specs.Int.{rotate_right, w64}
use Rattle.std.proofs.lemmas.Bool.{leb-true, le-leb}
use Rattle.std.specs.Prelude.{nat_le}
use Rattle.bit_sets.specs.Rotation.{IsOnStep}
use Rattle.bit_sets.proofs.RotationLemmas.{small_rotation, multiple_rotation}
use Rattle.bit_sets.proofs.rotation.rotated_in.Goals as goal

rotated : (x align size_m1 q : ℕ) → x < 2 ^ 64 → align < 64 → size_m1 < 2 ^ (64 - align) → q ≡ rotate_right w64 x align
    → IsTrue (nat_le q size_m1) ↔ IsOnStep x align size_m1
rotated x align size_m1 q x_small align_small small is = (
  λ holds.
      let within = leb-true q size_m1 holds in
      (q, within, small_rotation x (64 - align) align q (omega arith) align_small x_small (sym is) (omega (arith, within, small))),
  λ on.
      let within = on.1 in
      let same : q ≡ on.0 = is ∙ ap (λ n. rotate_right w64 n align) on.2 ∙ multiple_rotation on.0 (64 - align) align (omega arith) align_small (omega (arith, within, small)) in
      le-leb q size_m1 (omega (arith, within, same)),
)

pub returns-clause-on_step : goal.returns-clause-on_step
returns-clause-on_step c small =
    rotated c.args.x c.args.align c.args.size_m1 c.rotate_right.result c.ranges.x.fits c.requires small
    (c.rotate_right.ensures ∙ ap (rotate_right w64 c.args.x) c.from.ensures)
