-- The lines that a call of `ltt` writes on `err`.
use Rattle.std.specs.Prelude.{ℕ, suc, zero, ◌-◌, List, [], ◌∷◌, ◌++◌, codes, decimal, Option, Some, None, slice_get, unwrap_or}
use Rattle.ltt_base.specs.declared.refusal.Code.{Code}
use Rattle.ltt_base.specs.declared.refusal.Code.TheVariants.{E01, E02, E03, E04, E05, E06, E07, E08, E09, E10, E11, E12}
use Rattle.ltt_base.specs.declared.refusal.Place.{Place}
use Rattle.ltt_base.specs.declared.refusal.Refusal.{Refusal}

abbrev pub code_text : Code → List ℕ
code_text E01 = codes "E01"
code_text E02 = codes "E02"
code_text E03 = codes "E03"
code_text E04 = codes "E04"
code_text E05 = codes "E05"
code_text E06 = codes "E06"
code_text E07 = codes "E07"
code_text E08 = codes "E08"
code_text E09 = codes "E09"
code_text E10 = codes "E10"
code_text E11 = codes "E11"
code_text E12 = codes "E12"

-- the name of a file by its number, from 1; no file has the number 0
abbrev pub file_name : List (List ℕ) → ℕ → List ℕ
file_name names zero = codes "-"
file_name names (suc k) = unwrap_or (slice_get names k) (codes "-")

-- `ltt: CODE FILE:LINE:COLUMN: WORD`
unfoldable pub refusal_line : List (List ℕ) → Refusal → List ℕ
refusal_line names r = codes "ltt: " ++ code_text r.code ++ codes " " ++ file_name names r.place.file ++ codes ":"
    ++ decimal r.place.line ++ codes ":" ++ decimal r.place.column ++ codes ": " ++ r.word ++ codes "\n"

unfoldable pub read_fault_line : List ℕ → List ℕ
read_fault_line name = codes "ltt: read fault: " ++ name ++ codes "\n"

unfoldable pub write_fault_line : List ℕ
write_fault_line = codes "ltt: write fault\n"

unfoldable pub memory_line : List ℕ
memory_line = codes "ltt: out of memory\n"

-- the status of a refusal: 6 at a limit, else 1
abbrev pub refusal_status : Code → ℕ
refusal_status E12 = 6
refusal_status _ = 1
