-- Identifiers of words, which are what is laid out to be timed. No standard speaks of them.
use Rattle.std.specs.Prelude.{ℕ, false, List, replicate, All}
use Rattle.global_layout.specs.declared.ids.IdMembers.{IdMembers}
use Rattle.global_layout.specs.declared.ids.Shape.{Shape}
use Rattle.global_layout.specs.Layout.{IsId}

-- a variable of eight bytes
abbrev pub word : Shape
word = record { function = false; extent = 8; align = 8; before = 0; after = 0 }

-- identifiers that list some of so many words
abbrev pub AreIds : ℕ → List IdMembers → Type 0
AreIds count ids = All (IsId (replicate count word)) ids
