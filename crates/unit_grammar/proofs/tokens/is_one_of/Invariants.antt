use Rattle.std.proofs.Common.{◌≡◌, drop, map}
use Rattle.std.specs.List.{list_any}
use Rattle.std.specs.Str.{bytes_eq}
use Rattle.unit_grammar.proofs.tokens.is_one_of.Given as goal

abbrev pub invariant-loop-text : goal.invariant-loop-text
invariant-loop-text l = list_any (bytes_eq l.bytes) (map (λ text. text.now) l.texts) ≡ list_any (bytes_eq l.bytes) (map (λ text. text.now) (drop l.text-index l.texts))
