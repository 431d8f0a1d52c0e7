-- How a refusal shows a name.
-- Source: LLVM Language Reference, "Identifiers". Differs: a name of digits is always shown as them, also one of 2^32 or more, which no output has.
use Rattle.std.specs.Prelude.{ℕ, cond, ◌||◌, List, ◌++◌}
use Rattle.ir_names.specs.Names.{is_bare, is_decimal, quoted}

-- a name without its sign: bare where it can be, a number as its digits, else between quotes
abbrev pub shown_name : List ℕ → List ℕ
shown_name name = cond (is_bare name || is_decimal name) name (quoted name)

-- a name behind its sign
abbrev pub named_word : List ℕ → List ℕ → List ℕ
named_word sign name = sign ++ shown_name name
