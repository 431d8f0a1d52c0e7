-- Beginnings that are told more roughly.
use Rattle.std.specs.Prelude.{ℕ, Bool, true, false, ◌&&◌, List, nat_eq, bytes_eq, Option, Some, None}
use Rattle.std.specs.List.{list_all, list_any}
use Rattle.ir_lex.specs.Kinds.{row}
use Rattle.unit_grammar.specs.Signs.{Which, whatever, one_of, numbered, unnumbered, Sign, Start}

-- what fits the second fits the first
abbrev pub covers : Which → Which → Bool
covers whatever other = true
covers (one_of texts) (one_of others) = list_all (λ other. list_any (bytes_eq other) texts) others
covers (numbered first) (numbered other) = nat_eq first other
covers (unnumbered first) (unnumbered other) = nat_eq first other
covers _ _ = false

abbrev pub sign_covers : Sign → Sign → Bool
sign_covers s r = nat_eq (row s.kind) (row r.kind) && covers s.which r.which

abbrev pub is_alone : Option Sign → Bool
is_alone None = true
is_alone (Some s) = false

abbrev pub start_covers : Start → Start → Bool
start_covers s r = is_alone s.second && sign_covers s.first r.first

-- each of the second beginnings is one of the first
abbrev pub all_covered : List Start → List Start → Bool
all_covered starts others = list_all (λ r. list_any (λ s. start_covers s r) starts) others
