-- What the words of a call ask for.
use Rattle.std.specs.Prelude.{◌≡◌, ℕ, List, [], ◌∷◌, codes, Option, Some, None, if◌then◌else◌, bytes_eq}
use Rattle.std.specs.Option.{unwrap_or}
use Rattle.source_runs.specs.Words.{steps_of, answers_of}
use Rattle.ltt_driver.specs.declared.command.Kind.{Kind}
use Rattle.ltt_driver.specs.declared.command.Kind.TheVariants as kind

-- what is done with a file
pub data Command : Type 0 where
  Lower : Command
  Check : Command
  Reprint : Command
  Run : (steps : ℕ) (entry answers : List ℕ) → Command

-- a command with the answers that its word writes
abbrev pub command_in : Kind → Command
command_in kind.Lower = Lower
command_in kind.Check = Check
command_in kind.Reprint = Reprint
command_in (kind.Run steps entry answers) = Run steps entry.now (unwrap_or (answers_of answers.now) [])

pub data Asked : Type 0 where
  NoForm : Asked
  TooManyFiles : Asked
  OneFile : (command : Command) (name : List ℕ) → Asked

-- a command that takes several files, so far one
abbrev pub on_files : Command → List (List ℕ) → Asked
on_files command [] = NoForm
on_files command (name ∷ []) = OneFile command name
on_files command (name ∷ other ∷ names) = TooManyFiles

-- a command that takes one file
abbrev pub on_one : Command → List (List ℕ) → Asked
on_one command (name ∷ []) = OneFile command name
on_one command _ = NoForm

abbrev pub run_on : Option ℕ → List ℕ → Option (List ℕ) → List (List ℕ) → Asked
run_on None entry answers names = NoForm
run_on (Some steps) entry None names = NoForm
run_on (Some steps) entry (Some answers) names = on_files (Run steps entry answers) names

-- the words of a run: the number of steps, the entry's name, the answers, and the files
abbrev pub run_asked : List (List ℕ) → Asked
run_asked (steps ∷ entry ∷ answers ∷ names) = run_on (steps_of steps) entry (answers_of answers) names
run_asked _ = NoForm

abbrev pub asked_by : List ℕ → List (List ℕ) → Asked
asked_by word words = if bytes_eq word (codes "lower") then on_files Lower words
    else if bytes_eq word (codes "check") then on_files Check words
    else if bytes_eq word (codes "reprint") then on_one Reprint words
    else if bytes_eq word (codes "run") then run_asked words
    else NoForm

abbrev pub asked : List (List ℕ) → Asked
asked [] = NoForm
asked (word ∷ words) = asked_by word words

-- the words ask for this file
abbrev pub AsksFor : Asked → List ℕ → Type 0
AsksFor a name = (command : Command) × (a ≡ OneFile command name)

-- a command that reads files within the limits, and so may want memory
abbrev pub HasForm : Asked → Type 0
HasForm a = (name : List ℕ) × AsksFor a name

abbrev pub usage_line : List ℕ
usage_line = codes "usage: ltt lower|show|summary|check FILE... | reprint FILE | run N ENTRY ANSWERS FILE... | place BASE N ENTRY ANSWERS FILE... | gen SEED CLASSES\n"
