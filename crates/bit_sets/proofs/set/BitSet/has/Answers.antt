use Rattle.std.proofs.Common.{◌≡◌, ◌∙◌, ap, sym, subst, Bool, ◌↔◌, IsTrue}
use Rattle.std.specs.Prelude.{Contains}
use Rattle.std.specs.Int.{rotate_right, w64}
use Rattle.bit_sets.specs.Tests.{is_held, difference}
use Rattle.bit_sets.proofs.ExactLemmas.{has-exact}
use Rattle.bit_sets.proofs.set.BitSet.has.Goals as goal

pub returns : goal.returns
returns c members all is =
    let set = c.args.self.now in
    let same : c.is_held.result ≡ is_held set (rotate_right w64 (difference c.args.offset set.min) set.align) =
    c.is_held.ensures ∙ ap (is_held set) (c.rotate_right-bit.ensures ∙ ap (rotate_right w64 (difference c.args.offset set.min)) c.from.ensures) in
    subst (λ (b : Bool). IsTrue b ↔ Contains members c.args.offset) (sym same) (has-exact members set c.args.offset c.ranges.offset.fits all is)
