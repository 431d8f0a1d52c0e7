-- Texts that are printed one behind the other.
use Rattle.std.proofs.Common.{◌≡◌, sym, ◌∙◌, ap, subst, ℕ, ◌+◌, ◌<◌, ◌≤◌, List, ◌++◌, length, take, drop, get_or, Option, Result, Ok, Err, arith}
use Rattle.std.specs.List.{flat_map}
use Rattle.std.proofs.lemmas.Grind.{flat_map-append}
use Rattle.std.proofs.lemmas.List.{take_more, take-append-drop}
use Rattle.ltt_base.specs.Outside.{Took}
use Rattle.ltt_base.proofs.CallerLemmas.{Took-then, TookPart-whole, TookPart-then, TookPart-more, Rose-within}
use Rattle.ir_print.specs.declared.printing.PrintFault.{PrintFault}
use Rattle.ir_print.specs.Printing.{Prints}
use Rattle.ir_names.proofs.FlatLemmas.{flat_map-last}

-- a text was printed whole
pub prints-whole : {a b : Option (List ℕ)} {i j : ℕ} {text : List ℕ} → Took a b text → i ≤ j → Prints a b i j text (Ok tt)
prints-whole {a} {b} {i} {j} {text} took le = record { ok = took; part = TookPart-whole a b text took; write = tt; counts = le }

-- a text is printed behind another
pub prints-then : {a b c : Option (List ℕ)} {i j k : ℕ} {x y : List ℕ} (result : Result (Unit {0}) PrintFault)
    → Prints a b i j x (Ok tt) → Prints b c j k y result → Prints a c i k (x ++ y) result
prints-then {a} {b} {c} {i} {j} {k} {x} {y} (Ok tt) p q = prints-whole (Took-then a b c x y p.ok q.ok) (omega (arith, p.counts, q.counts))
prints-then {a} {b} {c} {i} {j} {k} {x} {y} (Err fault) p q = record {
  ok = tt;
  part = TookPart-then a b c x y p.ok q.part;
  write = λ is. Rose-within i j k k p.counts (q.write is) (omega arith);
  counts = omega (arith, p.counts, q.counts);
}

-- printing stopped before the rest of a text
pub prints-stopped : {a b : Option (List ℕ)} {i j : ℕ} {x : List ℕ} {fault : PrintFault} (y : List ℕ)
    → Prints a b i j x (Err fault) → Prints a b i j (x ++ y) (Err fault)
prints-stopped {a} {b} {i} {j} {x} {fault} y p = record { ok = tt; part = TookPart-more a b x y p.part; write = p.write; counts = p.counts }

-- an item more, of items that are printed one behind the other
pub next-printed : {X : Type 0} {a b c : Option (List ℕ)} {i j k : ℕ} (text : X → List ℕ) (items : List X) (at : ℕ) (d : X) → at < length items
    → Prints a b i j (flat_map text (take at items)) (Ok tt) → Prints b c j k (text (get_or items at d)) (Ok tt)
    → Prints a c i k (flat_map text (take (at + 1) items)) (Ok tt)
next-printed {X} {a} {b} {c} {i} {j} {k} text items at d h p q =
    subst (λ t. Prints a c i k t (Ok tt)) (sym (ap (flat_map text) (take_more items at d h) ∙ flat_map-last text (take at items) (get_or items at d)))
    (prints-then (Ok tt) p q)

-- the text of an item and those behind it
flat_map-from : {X : Type 0} (text : X → List ℕ) (items : List X) (at : ℕ) (d : X) → at < length items
    → flat_map text items ≡ (flat_map text (take at items) ++ text (get_or items at d)) ++ flat_map text (drop (at + 1) items)
flat_map-from text items at d h =
    ap (flat_map text) (sym (take-append-drop (at + 1) items))
    ∙ flat_map-append text (take (at + 1) items) (drop (at + 1) items)
    ∙ ap (λ t. t ++ flat_map text (drop (at + 1) items)) (ap (flat_map text) (take_more items at d h) ∙ flat_map-last text (take at items) (get_or items at d))

-- printing stopped at an item
pub stopped-printed : {X : Type 0} {a b c : Option (List ℕ)} {i j k : ℕ} {fault : PrintFault} (text : X → List ℕ) (items : List X) (at : ℕ) (d : X) → at < length items
    → Prints a b i j (flat_map text (take at items)) (Ok tt) → Prints b c j k (text (get_or items at d)) (Err fault)
    → Prints a c i k (flat_map text items) (Err fault)
stopped-printed {X} {a} {b} {c} {i} {j} {k} {fault} text items at d h p q =
    subst (λ t. Prints a c i k t (Err fault)) (sym (flat_map-from text items at d h))
    (prints-stopped (flat_map text (drop (at + 1) items)) (prints-then (Err fault) p q))
