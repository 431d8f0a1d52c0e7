-- What the loops compute.
use Rattle.std.specs.Prelude.{List, [], ◌∷◌, length}
use Rattle.unit_grammar.specs.Signs.{Sign}
use Rattle.unit_grammar.specs.Readers.{Reader, then_read, many_read, sign_read}

-- one or more with signs between them
abbrev pub some_read : {A : Type 0} → Sign → Reader A → Reader (List A)
some_read s p ts = then_read (p ts) (λ a rest. many_read (length rest) (sign_read s p) (a ∷ []) rest)
