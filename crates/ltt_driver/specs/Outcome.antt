-- What a call owes for honest files.
use Rattle.std.specs.Prelude.{◌≡◌, ℕ, ◌<◌, ◌≤◌, ◌⊎◌, List, [], ◌∷◌, codes, Option, length, MatchOption}
use Rattle.ltt_base.specs.Status.{Due, Writes, Says}
use Rattle.ltt_base.specs.Lines.{refusal_line, refusal_status}
use Rattle.ltt_base.specs.declared.refusal.Code.TheVariants.{E12}
use Rattle.ltt_base.specs.declared.refusal.Refusal.{Refusal}
use Rattle.ltt_driver.specs.Asked.{Command, Asked, NoForm, TooManyFiles, OneFile, usage_line}
use Rattle.ltt_driver.specs.Files.{text_limit, IsMade, IsRefusedBy}

-- a limit of a whole call, or of a whole file
abbrev pub limit_refusal : ℕ → List ℕ → Refusal
limit_refusal file quantity = record { code = E12; place = record { file = file; line = 0; column = 0 }; word = quantity }

abbrev pub refusal_due : List (List ℕ) → Refusal → Due
refusal_due names r = Says (refusal_status r.code) (refusal_line names r)

-- what the command makes of the text
pub record IsMadeOf (command : Command) (text : List ℕ) (due : Due) : Type 0 where
  pub made : List ℕ
  pub fits : length text ≤ text_limit
  pub is : IsMade command text made
  pub owed : due ≡ Writes made

-- the refusal of the text
pub record IsTurnedDown (command : Command) (name text : List ℕ) (due : Due) : Type 0 where
  pub refusal : Refusal
  pub fits : length text ≤ text_limit
  pub refused : IsRefusedBy command text refusal
  pub owed : due ≡ refusal_due (name ∷ []) refusal

-- the text passes the limit of all texts
pub record IsTooLong (name text : List ℕ) (due : Due) : Type 0 where
  pub long : text_limit < length text
  pub owed : due ≡ refusal_due (name ∷ []) (limit_refusal 1 (codes "text"))

-- what is due by a command for a file of this name that holds this text
abbrev pub IsDueFor : Command → List ℕ → List ℕ → Due → Type 0
IsDueFor command name text due = IsMadeOf command text due ⊎ (IsTurnedDown command name text due ⊎ IsTooLong name text due)

-- what is due where the files hold these texts, and for some text where they don't tell
abbrev pub IsDue : Asked → (List ℕ → Option (List ℕ)) → Due → Type 0
IsDue NoForm held due = due ≡ Says 2 usage_line
IsDue TooManyFiles held due = due ≡ refusal_due [] (limit_refusal 0 (codes "files"))
IsDue (OneFile command name) held due =
    MatchOption (held name) ((text : List ℕ) × IsDueFor command name text due) (λ text. IsDueFor command name text due)
