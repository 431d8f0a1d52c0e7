-- A whole text, once nothing waits any more.
use Rattle.std.proofs.Common.{◌≡◌, sym, ◌∙◌, ap, ℕ, true, false, List, [], ◌++◌, take, drop, Ok, Err, append-nil, arith}
use Rattle.std.proofs.lemmas.List.{take-append-drop}
use Rattle.std.specs.Io.KnownBytes.{append_known}
use Rattle.ltt_base.specs.Outside.{Took, TookPart}
use Rattle.ir_print.specs.declared.printing.PrintFault.{PrintFault}
use Rattle.ir_print.specs.Printing.{Prints}
use Rattle.ir_names.specs.Puts.{State, Puts}
use Rattle.ir_names.proofs.PutLemmas.{puts-then, puts-as}

pub whole : (a c : State) (text : List ℕ) → a.buffer ≡ [] → Puts a c text → a.failed ≡ false → c.failed ≡ false → c.buffer ≡ [] → Took a.taken c.taken text
whole a c text none p ok still sent =
    let m = p.moves ok in
    let k = m.0 in
    let u : a.buffer ++ text ≡ text = ap (λ s. s ++ text) none in
    let rest : drop k (a.buffer ++ text) ≡ [] = sym (m.1.waits still) ∙ sent in
    let all : take k (a.buffer ++ text) ≡ a.buffer ++ text =
    sym (append-nil (take k (a.buffer ++ text))) ∙ (ap (λ s. take k (a.buffer ++ text) ++ s) (sym rest) ∙ take-append-drop k (a.buffer ++ text)) in
    m.1.took ∙ ap (append_known a.taken) (all ∙ u)

pub part : (a c : State) (text : List ℕ) → a.buffer ≡ [] → Puts a c text → a.failed ≡ false → TookPart a.taken c.taken text
part a c text none p ok = let m = p.moves ok in (m.0, m.1.took ∙ ap (λ s. append_known a.taken (take m.0 (s ++ text))) none)

pub printed-whole : (a b c : State) (text : List ℕ) → a.buffer ≡ [] → a.failed ≡ false → Puts a b text → Puts b c [] → c.failed ≡ false → c.buffer ≡ []
    → Prints a.taken c.taken a.faults c.faults text (Ok tt)
printed-whole a b c text none ok p q still sent = let all : Puts a c text = puts-as (append-nil text) (puts-then p q) in record {
  ok = whole a c text none all ok still sent;
  part = part a c text none all ok;
  write = tt;
  counts = all.counts;
}

pub printed-part : (a b c : State) (text : List ℕ) → a.buffer ≡ [] → a.failed ≡ false → Puts a b text → Puts b c [] → c.failed ≡ true
    → Prints a.taken c.taken a.faults c.faults text (Err PrintFault.Write)
printed-part a b c text none ok p q failed = let all : Puts a c text = puts-as (append-nil text) (puts-then p q) in record {
  ok = tt;
  part = part a c text none all ok;
  write = λ is. all.rose ok failed;
  counts = all.counts;
}

-- want of memory, before anything was put
pub nothing : (a : State) (text : List ℕ) → TookPart a.taken a.taken text → Prints a.taken a.taken a.faults a.faults text (Err PrintFault.Memory)
nothing a text none = record { ok = tt; part = none; write = λ is. cc; counts = omega arith }
