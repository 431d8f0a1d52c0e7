-- One group more.
use Rattle.std.proofs.Common.{◌≡◌, ℕ, ◌+◌, ◌<◌, Bool, true, false, List, [], ◌∷◌, ◌++◌, length, get_or, take, refl, sym, ap, ◌∙◌}
use Rattle.std.specs.Prelude.{if◌then◌else◌}
use Rattle.std.proofs.lemmas.List.{take_more}
use Rattle.global_layout.specs.declared.groups.Group.{Group}
use Rattle.jump_tables.specs.declared.table.JumpTable.{JumpTable}
use Rattle.jump_tables.specs.Tables.{tables_in}

append_table : (groups : List Group) (group : Group) → tables_in (groups ++ group ∷ []) ≡ tables_in groups ++ tables_in (group ∷ [])
append_table [] group = refl
append_table (one ∷ groups) group = by_test one.table (append_table groups group) where
  by_test : (t : Bool) → tables_in (groups ++ group ∷ []) ≡ tables_in groups ++ tables_in (group ∷ [])
      → (if t then record { funcs = one.members } ∷ tables_in (groups ++ group ∷ []) else tables_in (groups ++ group ∷ []))
      ≡ (if t then record { funcs = one.members } ∷ tables_in groups else tables_in groups) ++ tables_in (group ∷ [])
  by_test true rest = ap (λ (tables : List JumpTable). record { funcs = one.members } ∷ tables) rest
  by_test false rest = rest

pub tables-more : (groups : List Group) (k : ℕ) (group : Group) → k < length groups → group ≡ get_or groups k group
    → tables_in (take (k + 1) groups) ≡ tables_in (take k groups) ++ tables_in (group ∷ [])
tables-more groups k group within is =
    ap tables_in (take_more groups k group within ∙ ap (λ g. take k groups ++ g ∷ []) (sym is)) ∙ append_table (take k groups) group
