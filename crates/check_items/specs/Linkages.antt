-- Linkage words.
-- Source: LLVM Language Reference, "Linkage Types". Differs: four of the words are left out.
use Rattle.std.specs.Prelude.{ℕ, Bool, false, ◌||◌, List, Option, Some, None, codes}
use Rattle.std.specs.Str.{bytes_eq}
use Rattle.ltt_base.specs.declared.refusal.Code.TheVariants.{E07}
use Rattle.check_names.specs.declared.flaws.Flaw.{Flaw}
use Rattle.check_names.specs.Flaws.{worded_when}

abbrev pub is_left_linkage : List ℕ → Bool
is_left_linkage word = (bytes_eq word (codes "available_externally") || bytes_eq word (codes "common"))
    || (bytes_eq word (codes "extern_weak") || bytes_eq word (codes "appending"))

-- a linkage word that is left out
abbrev pub linkage_flaw : Option (List ℕ) → Option Flaw
linkage_flaw None = None
linkage_flaw (Some word) = worded_when (is_left_linkage word) E07 word

abbrev pub is_external : Option (List ℕ) → Bool
is_external None = false
is_external (Some word) = bytes_eq word (codes "external")
