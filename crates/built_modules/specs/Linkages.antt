-- The linkages of variables and functions, by their words.
-- Source: LLVM Language Reference, "Linkage Types". Differs: four linkages are told apart; a declaration is external with whatever word, and
-- a definition with any word that isn't listed here is strong.
use Rattle.std.specs.Prelude.{ℕ, Bool, ◌||◌, cond, List, Option, Some, None, codes}
use Rattle.std.specs.Str.{bytes_eq}
use Rattle.ir_values.specs.declared.modules.Linkage.{Linkage}
use Rattle.ir_values.specs.declared.modules.Linkage.TheVariants.{Private, Strong, Weak, External}

-- a definition of this linkage has no name outside its file
abbrev pub is_private : List ℕ → Bool
is_private word = bytes_eq word (codes "private") || bytes_eq word (codes "internal")

-- definitions of one name and such a linkage are one
abbrev pub is_weak : List ℕ → Bool
is_weak word = (bytes_eq word (codes "linkonce") || bytes_eq word (codes "weak"))
    || (bytes_eq word (codes "linkonce_odr") || bytes_eq word (codes "weak_odr"))

abbrev pub worded_linkage : List ℕ → Linkage
worded_linkage word = cond (is_private word) Private (cond (is_weak word) Weak Strong)

-- the linkage of a definition, by its word if it has one
abbrev pub defined_linkage : Option (List ℕ) → Linkage
defined_linkage None = Strong
defined_linkage (Some word) = worded_linkage word

-- the linkage of a declaration, or of a definition
abbrev pub linkage_of : Bool → Option (List ℕ) → Linkage
linkage_of declared word = cond declared External (defined_linkage word)
