-- What a call owes is one thing.
use Rattle.std.specs.Prelude.{◌≡◌, ℕ, ◌⊎◌, List, Option, IsSome}
use Rattle.ltt_base.specs.Outside.{Rose}
use Rattle.ltt_base.specs.Status.{Due, Writes, Seen, StatusMeans}
use Rattle.ltt_driver.specs.Asked.{Asked, NoForm, TooManyFiles, OneFile, AsksFor, HasForm}
use Rattle.ltt_driver.specs.Outcome.{IsDue}

-- the files tell the text that is asked for
abbrev pub Tells : Asked → (List ℕ → Option (List ℕ)) → Type 0
Tells NoForm held = Unit {0}
Tells TooManyFiles held = Unit {0}
Tells (OneFile command name) held = IsSome (held name)

-- at most one thing is due
abbrev pub OneIsDue : Type 0
OneIsDue = (asked : Asked) (held : List ℕ → Option (List ℕ)) (due other : Due) → Tells asked held
    → IsDue asked held due → IsDue asked held other → due ≡ other

-- no count of faults rose: not that of a sink, nor that of a name that the call comes to
pub record IsQuiet (asked : Asked) (before after : Seen) : Type 0 where
  pub out : Rose before.out_faults after.out_faults → ⊥
  pub err : Rose before.err_faults after.err_faults → ⊥
  pub files : (name : List ℕ) → AsksFor asked name → Rose (before.read_faults name) (after.read_faults name) → ⊥

-- where a text is due and no count rose, the text is written, or memory is wanting
abbrev pub AcceptedIsDone : Type 0
AcceptedIsDone = (asked : Asked) (held : List ℕ → Option (List ℕ)) (text : List ℕ) (before after : Seen) (status : ℕ)
    → Tells asked held → IsDue asked held (Writes text) → IsQuiet asked before after
    → StatusMeans (IsDue asked held) (AsksFor asked) (HasForm asked) before after status
    → (status ≡ 0) ⊎ (status ≡ 5)
