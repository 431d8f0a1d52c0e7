-- What private clauses and invariants cite: what stands between the items of a list, and what printing does to a sink.
use Rattle.std.specs.Prelude.{◌≡◌, ℕ, ◌==◌, ◌≤◌, if◌then◌else◌, List, [], codes, Option, Result, OnOk, IfErr}
use Rattle.ltt_base.specs.Outside.{Rose, Took, TookPart}
use Rattle.ir_print.specs.declared.printing.PrintFault.{PrintFault}

-- what stands before the item at a place
abbrev pub comma_at : ℕ → List ℕ
comma_at at = if at == 0 then [] else codes ", "

abbrev pub space_at : ℕ → List ℕ
space_at at = if at == 0 then [] else codes " "

-- a text was printed to a sink, of which these are the bytes and the faults before and after
pub record Prints (before after : Option (List ℕ)) (faults now : ℕ) (text : List ℕ) (result : Result (Unit {0}) PrintFault) : Type 0 where
  pub ok : OnOk result (Took before after text)
  pub part : TookPart before after text
  pub write : IfErr result (λ fault. fault ≡ PrintFault.Write → Rose faults now)
  pub counts : faults ≤ now
