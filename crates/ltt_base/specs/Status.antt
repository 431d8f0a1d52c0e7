-- What each status of a call of `ltt` means, over what was seen of the outside before the call and after it.
use Rattle.std.specs.Prelude.{◌≡◌, ℕ, suc, zero, ◌⊎◌, List, Option}
use Rattle.ltt_base.specs.Outside.{Rose, Took, TookPart}
use Rattle.ltt_base.specs.Lines.{read_fault_line, write_fault_line, memory_line}

-- What a call owes: the text of its command on `out`, or a line on `err` with its status.
pub data Due : Type 0 where
  Writes : (text : List ℕ) → Due
  Says : (status : ℕ) (line : List ℕ) → Due

-- The outside at one time: the bytes that each sink took, where they are told, and the counts of faults,
-- that of the files by name.
pub record Seen : Type 0 where
  pub out : Option (List ℕ)
  pub out_faults : ℕ
  pub err : Option (List ℕ)
  pub err_faults : ℕ
  pub read_faults : List ℕ → ℕ

-- nothing more was taken
abbrev pub OutIsSame : Seen → Seen → Type 0
OutIsSame before after = after.out ≡ before.out

-- `err` took the line, or a prefix where it counted a fault
abbrev pub ErrTook : Seen → Seen → List ℕ → Type 0
ErrTook before after line = Took before.err after.err line
    ⊎ (Rose before.err_faults after.err_faults × TookPart before.err after.err line)

-- a text was due, and taken whole
pub record IsDone (IsDue : Due → Type 0) (before after : Seen) : Type 0 where
  pub text : List ℕ
  pub due : IsDue (Writes text)
  pub taken : Took before.out after.out text
  pub quiet : after.err ≡ before.err

-- a line was due with this status, and taken whole
pub record IsSaid (IsDue : Due → Type 0) (status : ℕ) (before after : Seen) : Type 0 where
  pub line : List ℕ
  pub due : IsDue (Says status line)
  pub taken : Took before.err after.err line
  pub same : OutIsSame before after

-- the files counted a fault at a name that the call comes to, and the line that tells it was taken whole
pub record IsReadFault (ComesTo : List ℕ → Type 0) (before after : Seen) : Type 0 where
  pub name : List ℕ
  pub comes : ComesTo name
  pub rose : Rose (before.read_faults name) (after.read_faults name)
  pub taken : Took before.err after.err (read_fault_line name)
  pub same : OutIsSame before after

-- a text was due, `out` counted a fault and took a prefix
pub record IsWriteFault (IsDue : Due → Type 0) (before after : Seen) : Type 0 where
  pub text : List ℕ
  pub due : IsDue (Writes text)
  pub rose : Rose before.out_faults after.out_faults
  pub taken : TookPart before.out after.out text
  pub line : ErrTook before after write_fault_line

-- a line was due, `err` counted a fault and took a prefix
pub record IsLineFault (IsDue : Due → Type 0) (before after : Seen) : Type 0 where
  pub status : ℕ
  pub line : List ℕ
  pub due : IsDue (Says status line)
  pub rose : Rose before.err_faults after.err_faults
  pub taken : TookPart before.err after.err line
  pub same : OutIsSame before after

-- the line of a read fault was due, `err` counted a fault and took a prefix
pub record IsReadLineFault (ComesTo : List ℕ → Type 0) (before after : Seen) : Type 0 where
  pub name : List ℕ
  pub comes : ComesTo name
  pub read : Rose (before.read_faults name) (after.read_faults name)
  pub rose : Rose before.err_faults after.err_faults
  pub taken : TookPart before.err after.err (read_fault_line name)
  pub same : OutIsSame before after

-- `out` took a prefix of the text that was due, or nothing
pub record IsCutShort (IsDue : Due → Type 0) (before after : Seen) : Type 0 where
  pub text : List ℕ
  pub due : IsDue (Writes text)
  pub taken : TookPart before.out after.out text

-- memory was wanted where it may be
pub record IsOutOfMemory (IsDue : Due → Type 0) (MayWant : Type 0) (before after : Seen) : Type 0 where
  pub may : MayWant
  pub taken : OutIsSame before after ⊎ IsCutShort IsDue before after
  pub line : ErrTook before after memory_line

-- The statuses. `IsDue` tells what the call may owe, `ComesTo` the names at which it reads where no earlier
-- rule is broken, and `MayWant` where memory may be wanted.
abbrev pub StatusMeans : (Due → Type 0) → (List ℕ → Type 0) → Type 0 → Seen → Seen → ℕ → Type 0
StatusMeans IsDue ComesTo MayWant before after zero = IsDone IsDue before after
StatusMeans IsDue ComesTo MayWant before after (suc zero) = IsSaid IsDue 1 before after
StatusMeans IsDue ComesTo MayWant before after (suc (suc zero)) = IsSaid IsDue 2 before after
StatusMeans IsDue ComesTo MayWant before after (suc (suc (suc zero))) = IsReadFault ComesTo before after
StatusMeans IsDue ComesTo MayWant before after (suc (suc (suc (suc zero)))) =
    IsWriteFault IsDue before after ⊎ (IsLineFault IsDue before after ⊎ IsReadLineFault ComesTo before after)
StatusMeans IsDue ComesTo MayWant before after (suc (suc (suc (suc (suc zero))))) = IsOutOfMemory IsDue MayWant before after
StatusMeans IsDue ComesTo MayWant before after (suc (suc (suc (suc (suc (suc zero)))))) = IsSaid IsDue 6 before after
StatusMeans IsDue ComesTo MayWant before after (suc (suc (suc (suc (suc (suc (suc status))))))) = ⊥
