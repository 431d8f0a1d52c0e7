-- Types that are left out. They are kept as their texts.
-- Source: LLVM Language Reference, "Type System". Differs: the words of refusals are this project's own; the length of an array is below
-- 2^64.
use Rattle.std.specs.Prelude.{ℕ, Bool, true, cond, ◌&&◌, ◌||◌, not, nat_le, nat_eq, List, [], take, Option, codes}
use Rattle.std.specs.List.{starts_with, prefix_len}
use Rattle.std.specs.Str.{bytes_eq}
use Rattle.ltt_base.specs.declared.refusal.Code.TheVariants.{E06, E07}
use Rattle.check_names.specs.declared.flaws.Flaw.{Flaw}
use Rattle.check_names.specs.Flaws.{when, worded_when}

abbrev pub is_between : ℕ → ℕ → ℕ → Bool
is_between least most byte = nat_le least byte && nat_le byte most

-- a letter, a digit or `_`
unfoldable pub is_word_byte : ℕ → Bool
is_word_byte byte = is_between 97 122 byte || is_between 65 90 byte || is_between 48 57 byte || nat_eq byte 95

-- the word with which a text begins
abbrev pub leading_word : List ℕ → List ℕ
leading_word text = take (prefix_len is_word_byte text) text

-- the word of a refusal: the text's first token, or `addrspace` of a pointer, which is left out only where it has an address space
unfoldable pub left_word : List ℕ → List ℕ
left_word text = cond (bytes_eq (leading_word text) (codes "ptr")) (codes "addrspace")
    (cond (bytes_eq (leading_word text) []) (take 1 text) (leading_word text))

abbrev pub is_metadata : List ℕ → Bool
is_metadata text = bytes_eq text (codes "metadata")

-- an array of 2^64 parts or more
abbrev pub is_wide_array : List ℕ → Bool
is_wide_array text = starts_with nat_eq text (codes "[")

-- the flaw of a left-out type. A quiet unit has no flaw for where `metadata` stands
unfoldable pub left_flaw : Bool → List ℕ → Option Flaw
left_flaw quiet text = cond (is_metadata text) (when (not quiet) E06)
    (cond (is_wide_array text) (when true E06) (worded_when true E07 (left_word text)))
