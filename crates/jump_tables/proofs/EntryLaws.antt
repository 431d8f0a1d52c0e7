-- The entries of the tables of a layout.
use Rattle.std.proofs.Common.{◌≡◌, ℕ, ◌+◌, ◌*◌, ◌<◌, zero, suc, Bool, true, false, List, [], ◌∷◌, length, get_or, ap, ◌∙◌, arith, Option, Some, None}
use Rattle.std.specs.Prelude.{if◌then◌else◌}
use Rattle.global_layout.specs.declared.ids.Shape.{Shape}
use Rattle.global_layout.specs.declared.groups.Home.{Home}
use Rattle.global_layout.specs.declared.groups.Group.{Group}
use Rattle.global_layout.specs.declared.layout.Layout.{Layout}
use Rattle.global_layout.specs.Layout.{layout_of, groups_of}
use Rattle.global_layout.specs.Laws.{InTable, InGroup, AreHome}
use Rattle.global_layout.proofs.HomeLaws.{law-homes}
use Rattle.jump_tables.specs.Tables.{tables_in, entry_at}
use Rattle.jump_tables.specs.Laws.{AreEntries, EntriesStand}

entry_in : (homes : List (Option Home)) (number offset : ℕ) (objects : List ℕ) → InTable homes number offset objects → (k : ℕ) → k < length objects
    → entry_at (get_or homes (get_or objects k 0) None) ≡ Some (number, offset + 8 * k)
unfolding InTable
entry_in homes number offset [] is k within = absurd (omega arith)
entry_in homes number offset (object ∷ more) is zero within = ap entry_at is.0 ∙ ap (λ n. Some (number, n)) here where
  here : offset ≡ offset + 8 * 0
  here = omega arith
entry_in homes number offset (object ∷ more) is (suc k) within =
    entry_in homes number (offset + 8) more is.1 k (omega arith) ∙ ap (λ n. Some (number, n)) there where
      there : offset + 8 + 8 * k ≡ offset + 8 * suc k
      there = omega arith

entries_from : (shapes : List Shape) (layout : Layout) (variables tables : ℕ) (groups : List Group) → AreHome shapes layout.homes variables tables groups
    → AreEntries layout tables (tables_in groups)
unfolding AreHome AreEntries
entries_from shapes layout variables tables [] is = tt
entries_from shapes layout variables tables (group ∷ groups) is =
    by_sort group.table is.0
    (entries_from shapes layout (if group.table then variables else variables + 1) (if group.table then tables + 1 else tables) groups is.1) where
      by_sort : (t : Bool) → InGroup shapes layout.homes variables tables t group.members
          → AreEntries layout (if t then tables + 1 else tables) (tables_in groups)
          → AreEntries layout tables (if t then record { funcs = group.members } ∷ tables_in groups else tables_in groups)
      by_sort true here rest = (
        λ k within. entry_in layout.homes tables 0 group.members here k within ∙ ap (λ n. Some (tables, n)) (none_before (8 * k)),
        rest,
      ) where
        none_before : (n : ℕ) → 0 + n ≡ n
        none_before n = omega arith
      by_sort false here rest = rest

pub stand : EntriesStand
stand ids shapes all = entries_from shapes (layout_of ids shapes) 0 0 (groups_of (layout_of ids shapes)) (law-homes ids shapes all)
