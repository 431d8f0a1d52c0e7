-- Lemmas on texts that are taken piece by piece.
use Rattle.std.proofs.Common.{◌≡◌, ℕ, ◌+◌, List, ◌++◌, take, drop, ap, sym, ◌∙◌}
use Rattle.std.proofs.Math.Seq.{take-add}
use Rattle.std.specs.Io.KnownBytes.{append_known}
use Rattle.std.specs.declared.option.Option.{Option}
use Rattle.ltt_base.specs.Outside.{Took}
use Rattle.ltt_base.proofs.CallerLemmas.{Took-then}

-- what follows a taken prefix, and is taken too
pub Took_more : (old mid new : Option (List ℕ)) (text piece : List ℕ) (done count : ℕ) → piece ≡ drop done text
    → Took old mid (take done text) → Took mid new (take count piece) → Took old new (take (done + count) text)
Took_more old mid new text piece done count is first then =
    Took-then old mid new (take done text) (take count piece) first then
    ∙ ap (λ p. append_known old p) (ap (λ p. take done text ++ take count p) is ∙ sym (take-add done count text))
