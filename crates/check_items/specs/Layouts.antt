-- What is wrong with a data layout.
-- Source: LLVM Language Reference, "Data Layout". Differs: one layout alone is taken, little-endian with pointers of 64 bits; parts that
-- say something else are ignored.
use Rattle.std.specs.Prelude.{ℕ, Bool, true, not, ◌&&◌, ◌||◌, nat_eq, cond, find, List, [], ◌∷◌, Option, Some, None, codes}
use Rattle.std.specs.List.{starts_with}
use Rattle.std.specs.Str.{bytes_eq}
use Rattle.ltt_base.specs.declared.refusal.Code.TheVariants.{E07}
use Rattle.check_names.specs.declared.flaws.Flaw.{Flaw}
use Rattle.check_names.specs.Flaws.{worded_when}

-- a byte that is no `-`
abbrev pub is_inner : ℕ → Bool
is_inner byte = not (nat_eq byte 45)

-- one more byte in front of the first part
abbrev pub with_byte : ℕ → List (List ℕ) → List (List ℕ)
with_byte byte [] = (byte ∷ []) ∷ []
with_byte byte (part ∷ parts) = (byte ∷ part) ∷ parts

abbrev pub next_parts : Bool → ℕ → List (List ℕ) → List (List ℕ)
next_parts inner byte parts = cond inner (with_byte byte parts) ([] ∷ parts)

-- the parts of a layout, between which `-` stands
unfoldable pub layout_parts : List ℕ → List (List ℕ)
layout_parts [] = [] ∷ []
layout_parts (byte ∷ text) = next_parts (is_inner byte) byte (layout_parts text)

-- big-endian, or pointers of another size or alignment
abbrev pub is_foreign : List ℕ → Bool
is_foreign part =
    bytes_eq part (codes "E") || (starts_with nat_eq part (codes "p:") && not (starts_with nat_eq part (codes "p:64:64")))

abbrev pub foreign_flaw : Option (List ℕ) → Option Flaw
foreign_flaw None = None
foreign_flaw (Some part) = worded_when true E07 part

-- the first part that says something else
abbrev pub layout_flaw : List ℕ → Option Flaw
layout_flaw text = foreign_flaw (find is_foreign (layout_parts text))
