-- What the parts of a call answer, over what was seen of the sinks that they write to.
use Rattle.std.specs.Prelude.{◌≡◌, ℕ, ◌⊎◌, List, Option}
use Rattle.ltt_base.specs.Outside.{Rose, Took, TookPart}
use Rattle.ltt_base.specs.Lines.{write_fault_line, memory_line, refusal_line, refusal_status}
use Rattle.ltt_base.specs.Status.{Seen, StatusMeans}
use Rattle.ltt_base.specs.declared.refusal.Refusal.{Refusal}
use Rattle.ltt_driver.specs.Files.{IsMade, IsRefusedBy}
use Rattle.ltt_driver.specs.Asked.{Command, Asked, AsksFor, HasForm}
use Rattle.ltt_driver.specs.Outcome.{IsDue}

-- a sink at one time: the bytes that it took, where they are told, and its count of faults
pub record Sunk : Type 0 where
  pub taken : Option (List ℕ)
  pub faults : ℕ

-- the line was taken, or a prefix where the sink counted a fault
abbrev pub TookLine : List ℕ → Sunk → Sunk → Type 0
TookLine line before after = Took before.taken after.taken line
    ⊎ (Rose before.faults after.faults × TookPart before.taken after.taken line)

-- the line was taken whole at its status, or a prefix at 4 where the sink counted a fault
abbrev pub IsTold : ℕ → List ℕ → Sunk → Sunk → ℕ → Type 0
IsTold status line before after result = ((result ≡ status) × Took before.taken after.taken line)
    ⊎ ((result ≡ 4) × Rose before.faults after.faults × TookPart before.taken after.taken line)

abbrev pub IsWant : Sunk → Sunk → ℕ → Type 0
IsWant before after result = (result ≡ 5) × TookLine memory_line before after

-- The text was taken whole at 0. At 4 a prefix was, and the sink counted a fault. At 5 a prefix was.
abbrev pub IsPut : List ℕ → Sunk → Sunk → Sunk → Sunk → ℕ → Type 0
IsPut text out out_after err err_after result =
    ((result ≡ 0) × Took out.taken out_after.taken text × (err_after.taken ≡ err.taken))
    ⊎ (((result ≡ 4) × Rose out.faults out_after.faults × TookPart out.taken out_after.taken text
    × TookLine write_fault_line err err_after)
    ⊎ (TookPart out.taken out_after.taken text × IsWant err err_after result))

-- what the command makes of a text was put, or the text is refused, which was told, or memory was wanted before that
abbrev pub IsMadeOrTold : Command → List (List ℕ) → List ℕ → Sunk → Sunk → Sunk → Sunk → ℕ → Type 0
IsMadeOrTold command names text out out_after err err_after result =
    ((made : List ℕ) × IsMade command text made × IsPut made out out_after err err_after result)
    ⊎ (((refusal : Refusal) × IsRefusedBy command text refusal × (out_after.taken ≡ out.taken)
    × IsTold (refusal_status refusal.code) (refusal_line names refusal) err err_after result)
    ⊎ ((out_after.taken ≡ out.taken) × IsWant err err_after result))

-- the status means what it is to mean, for words that ask this of files that hold these texts
abbrev pub IsAnswer : Asked → (List ℕ → Option (List ℕ)) → Seen → Seen → ℕ → Type 0
IsAnswer asked held before after result = StatusMeans (IsDue asked held) (AsksFor asked) (HasForm asked) before after result
