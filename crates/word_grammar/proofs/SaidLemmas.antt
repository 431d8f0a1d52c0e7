-- What is said by some of the words of a run.
use Rattle.std.proofs.Common.{◌≡◌, List, [], ◌∷◌, ◌++◌, Option, Some, None, refl, ap}
use Rattle.word_grammar.specs.Attributes.{said}

pub said_more : {A : Type 0} (os ps : List (Option A)) → said (os ++ ps) ≡ said os ++ said ps
said_more [] ps = refl
said_more (None ∷ os) ps = said_more os ps
said_more (Some a ∷ os) ps = ap (λ xs. a ∷ xs) (said_more os ps)
