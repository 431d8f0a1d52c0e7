-- The numbers of nodes.
use Rattle.std.specs.Prelude.{ℕ, ◌^◌, nat_lt, cond, List}
use Rattle.ir_names.specs.Names.{value_of}

-- a node's number; one of 2^32 or more, which no accepted file has, is taken as 0
abbrev pub node_number : List ℕ → ℕ
node_number digits = cond (nat_lt (value_of digits) (2 ^ 32)) (value_of digits) 0
