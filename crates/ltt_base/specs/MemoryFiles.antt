-- Files in memory: what they hold, which is selected, what is counted, and which calls fail.
use Rattle.std.specs.Prelude.{◌≡◌, ℕ, ◌-◌, ◌^◌, Bool, nat_eq, ◌||◌, is_none, List, [], drop, slice_get, slice_index_or}
use Rattle.std.specs.List.{position_or_len}
use Rattle.std.specs.Option.{option_map, option_and_then}
use Rattle.std.specs.Cmp.Lexicographic.{pointwise}
use Rattle.std.specs.declared.option.Option.{Option}
use Rattle.std.specs.declared.option.Option.TheVariants.{Some, None}
use Rattle.ltt_base.specs.Calls.{up, fails}
use Rattle.ltt_base.specs.declared.memory_files.MemFile.{MemFile}

pub record FilesState : Type 0 where
  -- the files, no two of one name
  pub files : List MemFile
  -- the faults of each, and those of all names that aren't held
  pub counts : List ℕ
  pub others : ℕ
  -- the place of the selected file, and how many of its bytes are read
  pub selected : Option ℕ
  pub at : ℕ
  -- the numbers of the calls that fail
  pub failing_selects : List ℕ
  pub failing_reads : List ℕ
  -- the calls made so far
  pub selects : ℕ
  pub reads : ℕ
  -- the most bytes that one read gives
  pub most : ℕ

abbrev pub is_named : List ℕ → MemFile → Bool
is_named name file = pointwise nat_eq file.name name

-- the place of the file of this name, the number of files if there is none
abbrev pub place_of : List ℕ → List MemFile → ℕ
place_of name files = position_or_len (is_named name) files

-- the bytes of the file at a place
abbrev pub bytes_at : List MemFile → ℕ → Option (List ℕ)
bytes_at files place = option_map (λ file. file.bytes) (slice_get files place)

-- the bytes of a name, where it is held
abbrev pub held : FilesState → List ℕ → Option (List ℕ)
held m name = bytes_at m.files (place_of name m.files)

-- the bytes of the selected file that aren't read yet
abbrev pub left : FilesState → Option (List ℕ)
left m = option_map (drop m.at) (option_and_then (bytes_at m.files) m.selected)

abbrev pub IsSelected : FilesState → List ℕ → Type 0
IsSelected m name = m.selected ≡ Some (place_of name m.files)

-- the faults of a name: those of its file, or those of all names that aren't held
abbrev pub faults : FilesState → List ℕ → ℕ
faults m name = slice_index_or m.counts (place_of name m.files) m.others

-- the next select fails: its name isn't held, or its number is listed
abbrev pub select_fails : FilesState → List ℕ → Bool
select_fails m name = is_none (held m name) || fails m.failing_selects (up m.selects)

-- the same calls fail, and a read gives at most as many bytes
pub record SamePlan (old new : FilesState) : Type 0 where
  pub failing_selects : new.failing_selects ≡ old.failing_selects
  pub failing_reads : new.failing_reads ≡ old.failing_reads
  pub most : new.most ≡ old.most

-- the same calls fail, and as many are made
pub record SameCalls (old new : FilesState) : Type 0 where
  pub plan : SamePlan old new
  pub selects : new.selects ≡ old.selects
  pub reads : new.reads ≡ old.reads

-- no file, no fault, no call
abbrev pub none_held : FilesState
none_held = record {
  files = [];
  counts = [];
  others = 0;
  selected = None;
  at = 0;
  failing_selects = [];
  failing_reads = [];
  selects = 0;
  reads = 0;
  most = 2 ^ 64 - 1;
}
