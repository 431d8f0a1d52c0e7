-- The lines of a printed module are read as units before the lines that may follow them.
use Rattle.std.proofs.Common.{◌≡◌, ℕ, Bool, true, false, ◌||◌, inl, inr, List, [], ◌∷◌, ◌++◌, codes, None, refl, ◌∙◌, ap, subst, append-nil}
use Rattle.ir_lex.specs.declared.token.Kind.TheVariants.{Word, Local, Mark}
use Rattle.ir_values.specs.declared.instructions.Inst.{Inst}
use Rattle.ir_values.specs.declared.instructions.Inst.TheVariants as inst
use Rattle.ir_values.specs.declared.units.Form.{Form}
use Rattle.ir_names.specs.Names.{local_text}
use Rattle.unit_grammar.specs.Pieces.{Piece}
use Rattle.unit_grammar.specs.Signs.{of_kind, mark as a_mark, word as a_word}
use Rattle.unit_grammar.specs.Readers.{found}
use Rattle.unit_grammar.proofs.BoolLemmas.{or_second}
use Rattle.instruction_grammar.specs.Actions.{plain_action_body}
use Rattle.ir_text.specs.Forms.{number_form}
use Rattle.ir_text.specs.UnitReaders.{said_read}
use Rattle.unit_grammar.specs.Signs.{Sign}
use Rattle.printed_tokens.specs.Atoms.{Atom}
use Rattle.printed_tokens.specs.Looks.{Seen, seen, seen_of, looks, looks_of}
use Rattle.printed_units.specs.Written.{IsInst, is_terminator}
use Rattle.printed_units.specs.Said.{inst_said}
use Rattle.printed_units.specs.Printing.{newline, inst_atoms}
use Rattle.printed_units.specs.Lines.{Line, inst_line}
use Rattle.printed_tokens.proofs.AtomLemmas.{seen_of_append}
use Rattle.printed_units.proofs.ShowLemmas.{is_so}
use Rattle.printed_units.proofs.SeenLemmas.{starts_with, let_by}
use Rattle.printed_units.proofs.LookLemmas.{behind, behind_both, end_of, seen_line, Follows, line_signs, end_signs}
use Rattle.printed_units.proofs.PartsFound.{IsText}
use Rattle.printed_units.proofs.InstsFound.{said_named, said_action, said_end, said_store, said_number}
use Rattle.printed_units.proofs.InstUnits.{inst_part, inst_shows}

-- The line ends, and it is read as what it says, where nothing follows or a line that begins with one of the signs.
pub record IsLineRead (signs : List Sign) (l : Line) : Type 0 where
  pub ends : (broke : Bool) → behind broke l.atoms ≡ true
  pub reads : (end : ℕ) (broke : Bool) (front rest : List Piece) → looks end front ≡ looks_of broke l.atoms →
      Follows signs (end_of end front) rest → said_read (front ++ rest) ≡ found l.says rest

-- what ends with a line's end
ended : (broke : Bool) (atoms : List Atom) → behind broke (atoms ++ newline ∷ []) ≡ true
ended broke atoms = behind_both broke atoms (newline ∷ []) ∙ or_second (behind broke atoms) true refl

-- instructions

inst_seen : (end : ℕ) (broke : Bool) (ts : List Piece) (i : Inst) → looks end ts ≡ looks_of broke (inst_line i).atoms →
    seen ts ≡ seen_of (inst_atoms i)
inst_seen end broke ts i e =
    seen_line end broke ts (inst_line i).atoms e ∙ seen_of_append (inst_atoms i) (newline ∷ []) ∙ append-nil (seen_of (inst_atoms i))

abbrev number_seen : List ℕ → List Seen → List Seen
number_seen dst more =
    record { kind = Local; bytes = local_text dst } ∷ record { kind = Mark; bytes = codes "=" }
    ∷ record { kind = Word; bytes = codes "ptrtoint" } ∷ more

number_line : (end : ℕ) (front rest : List Piece) (dst : List ℕ) (more : List Seen) (f : Form) → IsText number_form front f →
    seen front ≡ number_seen dst more → Follows line_signs (end_of end front) rest → said_read (front ++ rest) ≡ found f rest
number_line end front rest dst more f is e next =
    let one = starts_with front _ _ e in
    let two = starts_with one.back _ _ one.rest in
    let three = starts_with two.back _ _ two.rest in
    let splits : front ≡ one.t ∷ two.t ∷ three.t ∷ three.back =
    one.splits ∙ ap (λ z. one.t ∷ z) (two.splits ∙ ap (λ z. two.t ∷ z) three.splits) in
    ap (λ z. said_read (z ++ rest)) splits
    ∙ said_number one.t two.t three.t three.back rest f
    (let_by (of_kind Local) one.t Local (local_text dst) refl one.kind one.bytes)
    (let_by (a_mark (codes "=")) two.t Mark (codes "=") refl two.kind two.bytes)
    (let_by (a_word (codes "ptrtoint")) three.t Word (codes "ptrtoint") refl three.kind three.bytes)
    (subst (λ (z : List Piece). IsText number_form z f) splits is)
    (subst (λ (z : List Piece). Follows line_signs (end_of end z) rest) splits next)

line_said : (i : Inst) (end : ℕ) (front rest : List Piece) → is_terminator i ≡ false → IsInst i → IsText (inst_part i) front (inst_said i) →
    seen front ≡ seen_of (inst_atoms i) →
    Follows line_signs (end_of end front) rest → said_read (front ++ rest) ≡ found (inst_said i) rest
line_said (inst.Store type value addr) end front rest goes ok is e next = said_store _ front rest _ is next
line_said (inst.Call None fty callee args) end front rest goes ok is e next = said_action _ front rest _ is next
line_said (inst.Br to) end front rest goes ok is e next = absurd cc
line_said (inst.CondBr test met unmet) end front rest goes ok is e next = absurd cc
line_said (inst.Switch width value other cases) end front rest goes ok is e next = absurd cc
line_said (inst.Ret type value) end front rest goes ok is e next = absurd cc
line_said inst.Unreachable end front rest goes ok is e next = absurd cc
line_said (inst.Trap code) end front rest goes ok is e next = said_action _ front rest _ is next
line_said (inst.Test dst ptr id) end front rest goes ok is e next = absurd ok
line_said (inst.PublicTest dst ptr id) end front rest goes ok is e next = absurd ok
line_said (inst.Assume test) end front rest goes ok is e next = absurd ok
line_said (inst.CheckedLoad dst ptr offset id) end front rest goes ok is e next = absurd ok
line_said (inst.Number dst ptr) end front rest goes ok is e next = number_line end front rest dst _ _ is e next
line_said _ end front rest goes ok is e next = said_named _ front rest _ is next

end_said : (i : Inst) (end : ℕ) (front rest : List Piece) → is_terminator i ≡ true → IsText (inst_part i) front (inst_said i) →
    Follows end_signs (end_of end front) rest → said_read (front ++ rest) ≡ found (inst_said i) rest
unfolding plain_action_body
end_said (inst.Br to) end front rest ends is next = said_end _ front rest _ (inr (inl is)) next
end_said (inst.CondBr test met unmet) end front rest ends is next = said_end _ front rest _ (inr (inl is)) next
end_said (inst.Switch width value other cases) end front rest ends is next = said_end _ front rest _ (inr (inr (inl is))) next
end_said (inst.Ret type value) end front rest ends is next = said_end _ front rest _ (inr (inr (inr (inl is)))) next
end_said inst.Unreachable end front rest ends is next = said_end _ front rest _ (inr (inr (inr (inr is)))) next
end_said _ end front rest ends is next = absurd cc

pub inst_reads : (i : Inst) → IsInst i → is_terminator i ≡ false → IsLineRead line_signs (inst_line i)
inst_reads i ok goes = record {
  ends = λ broke. ended (broke || false) (inst_atoms i);
  reads = λ end broke front rest e next.
      let looks_so = inst_seen end broke front i e in
      line_said i end front rest goes ok (is_so (inst_shows i ok) front looks_so) looks_so next;
}

pub end_reads : (i : Inst) → IsInst i → is_terminator i ≡ true → IsLineRead end_signs (inst_line i)
end_reads i ok ends = record {
  ends = λ broke. ended (broke || false) (inst_atoms i);
  reads = λ end broke front rest e next. end_said i end front rest ends (is_so (inst_shows i ok) front (inst_seen end broke front i e)) next;
}
