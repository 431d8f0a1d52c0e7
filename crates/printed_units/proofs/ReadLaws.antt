-- The tokens of a printed module are read as units that say what its lines say.
use Rattle.std.proofs.Common.{◌≡◌, ℕ, Bool, true, false, if◌then◌else◌, ◌⊎◌, inl, inr, List, [], ◌∷◌, ◌++◌, map, Some, None, refl, sym, ◌∙◌, ap, subst, append_assoc}
use Rattle.std.specs.List.{flat_map, AllByRecursion}
use Rattle.ltt_base.specs.declared.refusal.Placed.{Placed}
use Rattle.ir_values.specs.declared.units.Unit.{Unit as TheUnit}
use Rattle.ir_values.specs.declared.units.Form.{Form}
use Rattle.ir_values.specs.declared.instructions.Inst.{Inst}
use Rattle.ir_values.specs.declared.instructions.Inst.TheVariants as inst
use Rattle.ir_values.specs.declared.modules.Block.{Block}
use Rattle.ir_values.specs.declared.modules.Func.{Func}
use Rattle.ir_values.specs.declared.modules.Jump.{Jump}
use Rattle.ir_values.specs.declared.modules.Var.{Var}
use Rattle.ir_values.specs.declared.modules.Module.{Module}
use Rattle.ir_print.specs.declared.intrinsics.Intrinsic.{Intrinsic}
use Rattle.ir_print.specs.ModuleText.{is_called, has_none}
use Rattle.unit_grammar.specs.Pieces.{Piece}
use Rattle.unit_grammar.specs.Signs.{Sign}
use Rattle.unit_grammar.specs.Readers.{found}
use Rattle.ir_text.specs.Units.{IsUnitWithin, first_bytes}
use Rattle.ir_text.specs.UnitReaders.{said_read, unit_read}
use Rattle.ir_text.specs.Reads.{IsNextUnit, Reads}
use Rattle.ir_text.proofs.FormLaws.{unit_chosen}
use Rattle.ir_text.proofs.ReadLaws.{next_unit}
use Rattle.printed_tokens.specs.Atoms.{Atom}
use Rattle.printed_tokens.specs.Looks.{looks, looks_of}
use Rattle.printed_units.specs.Written.{IsInst, AreInsts, IsBlock, IsVar, IsTable, IsFunc, IsWritten}
use Rattle.printed_units.specs.Lines.{Line, var_line, table_line, declare_line, intrinsic_line, define_line, inst_line, close_line, block_lines, declared_lines, defined_lines, called_lines, intrinsics_lines, lines_of, forms_of, module_atoms}
use Rattle.printed_units.proofs.LinePrinting.{atoms_of}
use Rattle.printed_units.proofs.LookLemmas.{behind, end_of, Halves, halved, BeginsAs, Follows, follows, line_signs, end_signs}
use Rattle.printed_units.proofs.InstLines.{IsLineRead, inst_reads, end_reads}
use Rattle.printed_units.proofs.ItemLines.{label_reads, close_reads, table_reads, intrinsic_reads, declare_reads, define_reads, var_reads}

-- one line

says_unit : (ts : List Piece) (f : Form) (rest : List Piece) → said_read ts ≡ found f rest →
    unit_read ts ≡ found (record { first = first_bytes ts; form = f }) rest
unfolding unit_read
says_unit ts f rest e = rw e refl

never_at_end : (u : TheUnit) (rest : List Piece) → unit_read [] ≡ found u rest → ⊥
never_at_end u rest e =
    let stands = (unit_chosen.longest [] u rest e).stands in
    let none = none_before stands.front rest stands.splits in
    unit_chosen.some u (unit_chosen.within [] u (subst (λ (z : List Piece). IsUnitWithin z u) none stands.is))
  where
    none_before : (front rest : List Piece) → [] ≡ front ++ rest → front ≡ []
    none_before [] rest e = refl
    none_before (t ∷ front) rest e = absurd cc

-- the unit that is read in front, with what it says
pub record HasNext (ts rest : List Piece) (f : Form) : Type 0 where
  pub u : Placed TheUnit
  pub is : IsNextUnit ts u rest
  pub says : u.value.form ≡ f

has_next : (ts rest : List Piece) (f : Form) → said_read ts ≡ found f rest → HasNext ts rest f
has_next [] rest f e = absurd (never_at_end _ rest (says_unit [] f rest e))
has_next (t ∷ ts) rest f e =
    let read = says_unit (t ∷ ts) f rest e in
    record {
      u = record { place = t.place; value = record { first = t.bytes; form = f } };
      is = next_unit (t ∷ ts) rest _ t.place read refl;
      says = refl;
    }

-- lines one after another

-- the first of these begins with one of the signs
abbrev BeginWith : List Sign → List Line → Type 0
BeginWith signs [] = ⊥
BeginWith signs (l ∷ ls) = BeginsAs signs l.atoms

-- each of these is read before the next
abbrev AreRead : List Line → Type 0
AreRead [] = Unit {0}
AreRead (l ∷ ls) = BeginsAs line_signs l.atoms × (IsLineRead line_signs l ⊎ (IsLineRead end_signs l × BeginWith end_signs ls)) × AreRead ls

next_follows : (signs : List Sign) (ls : List Line) (end : ℕ) (ts : List Piece) → BeginWith signs ls →
    looks end ts ≡ looks_of true (atoms_of ls) →
    Follows signs end ts
next_follows signs [] end ts begins e = absurd begins
next_follows signs (l ∷ ls) end ts begins e = follows signs l.atoms (atoms_of ls) end ts begins e

line_follows : (ls : List Line) (end : ℕ) (ts : List Piece) → AreRead ls → looks end ts ≡ looks_of true (atoms_of ls) →
    Follows line_signs end ts
line_follows [] end [] are e = tt
line_follows [] end (t ∷ ts) are e = absurd cc
line_follows (l ∷ ls) end ts are e = next_follows line_signs (l ∷ ls) end ts are.0 e

line_ends : (l : Line) (ls : List Line) → AreRead (l ∷ ls) → (broke : Bool) → behind broke l.atoms ≡ true
line_ends l ls (begins, inl h, more) broke = h.ends broke
line_ends l ls (begins, inr h, more) broke = h.0.ends broke

line_next : (l : Line) (ls : List Line) → AreRead (l ∷ ls) → (end : ℕ) (broke : Bool) (front back : List Piece) →
    looks end front ≡ looks_of broke l.atoms →
    looks (end_of end front) back ≡ looks_of true (atoms_of ls) → HasNext (front ++ back) back l.says
line_next l ls (begins, inl h, more) end broke front back e f =
    has_next (front ++ back) back l.says (h.reads end broke front back e (line_follows ls (end_of end front) back more f))
line_next l ls (begins, inr h, more) end broke front back e f =
    has_next (front ++ back) back l.says (h.0.reads end broke front back e (next_follows end_signs ls (end_of end front) back h.1 f))

-- units that say what the lines say
pub record LinesRead (ts : List Piece) (ls : List Line) : Type 0 where
  pub us : List (Placed TheUnit)
  pub reads : Reads ts us
  pub say : map (λ u. u.value.form) us ≡ map (λ l. l.says) ls

none_looks : (end : ℕ) (ts : List Piece) → looks end ts ≡ [] → ts ≡ []
none_looks end [] e = refl
none_looks end (t ∷ ts) e = absurd cc

one_more : {end : ℕ} {broke : Bool} {more : List Atom} {ts : List Piece} (l : Line) (ls : List Line)
    (h : Halves end broke l.atoms more ts) → HasNext (h.front ++ h.back) h.back l.says → LinesRead h.back ls → LinesRead ts (l ∷ ls)
one_more l ls h next others = record {
  us = next.u ∷ others.us;
  reads = (h.back, subst (λ (z : List Piece). IsNextUnit z next.u h.back) (sym h.splits) next.is, others.reads);
  say = rw (next.says, others.say) refl;
}

next_looks : (l : Line) (ls : List Line) → AreRead (l ∷ ls) →
    {end : ℕ} {broke : Bool} {ts : List Piece} (h : Halves end broke l.atoms (atoms_of ls) ts) →
    looks (end_of end h.front) h.back ≡ looks_of true (atoms_of ls)
next_looks l ls are {broke = broke} h = h.second ∙ ap (λ b. looks_of b (atoms_of ls)) (line_ends l ls are broke)

all_read : (ls : List Line) → AreRead ls → (end : ℕ) (broke : Bool) (ts : List Piece) → looks end ts ≡ looks_of broke (atoms_of ls) →
    LinesRead ts ls
all_read [] are end broke ts e = record { us = []; reads = none_looks end ts e; say = refl }
all_read (l ∷ ls) are end broke ts e =
    let h = halved end broke l.atoms (atoms_of ls) ts e in
    let behind = next_looks l ls are h in
    one_more l ls h (line_next l ls are end broke h.front h.back h.first behind) (all_read ls are.2 (end_of end h.front) true h.back behind)

-- the lines of a module

begin_more : (signs : List Sign) (ls ks : List Line) → BeginWith signs ls → BeginWith signs (ls ++ ks)
begin_more signs [] ks h = absurd h
begin_more signs (l ∷ ls) ks h = h

both_read : (ls ks : List Line) → AreRead ls → AreRead ks → AreRead (ls ++ ks)
both_read [] ks are others = others
both_read (l ∷ ls) ks (begins, inl h, more) others = (begins, inl h, both_read ls ks more others)
both_read (l ∷ ls) ks (begins, inr h, more) others = (begins, inr (h.0, begin_more end_signs ls ks h.1), both_read ls ks more others)

if_read : (b : Bool) (ls : List Line) → AreRead ls → AreRead (if b then ls else [])
if_read true ls are = are
if_read false ls are = tt

inst_begins : (i : Inst) → IsInst i → BeginsAs line_signs (inst_line i).atoms
inst_begins (inst.Call None fty callee args) ok = refl
inst_begins (inst.Call (Some dst) fty callee args) ok = refl
inst_begins (inst.Ret type None) ok = refl
inst_begins (inst.Ret type (Some value)) ok = refl
inst_begins (inst.Trap None) ok = refl
inst_begins (inst.Trap (Some code)) ok = refl
inst_begins (inst.Test dst ptr id) ok = absurd ok
inst_begins (inst.PublicTest dst ptr id) ok = absurd ok
inst_begins (inst.Assume test) ok = absurd ok
inst_begins (inst.CheckedLoad dst ptr offset id) ok = absurd ok
inst_begins _ ok = refl

insts_read : (insts : List Inst) → AreInsts insts → (ks : List Line) → BeginWith end_signs ks → AreRead ks →
    AreRead (map inst_line insts ++ ks)
insts_read [] are ks begin others = absurd are
insts_read (i ∷ []) (ok, ends) ks begin others = (inst_begins i ok, inr (end_reads i ok ends, begin), others)
insts_read (i ∷ next ∷ insts) (ok, goes, more) ks begin others =
    (inst_begins i ok, inl (inst_reads i ok goes), insts_read (next ∷ insts) more ks begin others)

blocks_begin : (blocks : List Block) → BeginWith end_signs (flat_map block_lines blocks ++ close_line ∷ [])
blocks_begin [] = refl
blocks_begin (block ∷ blocks) = refl

blocks_read : (blocks : List Block) → AllByRecursion IsBlock blocks → AreRead (flat_map block_lines blocks ++ close_line ∷ [])
blocks_read [] are = (refl, inl close_reads, tt)
blocks_read (block ∷ blocks) (is, are) =
    let behind = flat_map block_lines blocks ++ close_line ∷ [] in
    subst AreRead (sym (append_assoc (block_lines block) (flat_map block_lines blocks) (close_line ∷ [])))
    (refl, inl (label_reads block.label is.label), insts_read block.insts is.insts behind (blocks_begin blocks) (blocks_read blocks are))

vars_read : (vars : List Var) → AllByRecursion IsVar vars → AreRead (map var_line vars)
vars_read [] are = tt
vars_read (v ∷ vars) (is, are) = (refl, inl (var_reads v is), vars_read vars are)

tables_read : (tables : List Jump) → AllByRecursion IsTable tables → AreRead (map table_line tables)
tables_read [] are = tt
tables_read (table ∷ tables) (is, are) = (refl, inl (table_reads table is), tables_read tables are)

intrinsic_begins : (intrinsic : Intrinsic) → BeginsAs line_signs (intrinsic_line intrinsic).atoms
intrinsic_begins Intrinsic.Rotation = refl
intrinsic_begins Intrinsic.Trap = refl
intrinsic_begins Intrinsic.CodedTrap = refl

called_read : (m : Module) (intrinsic : Intrinsic) → AreRead (called_lines m intrinsic)
called_read m intrinsic =
    if_read (is_called intrinsic m.funcs) (intrinsic_line intrinsic ∷ []) (intrinsic_begins intrinsic, inl (intrinsic_reads intrinsic), tt)

intrinsics_read : (m : Module) → AreRead (intrinsics_lines m)
intrinsics_read m =
    both_read (called_lines m Intrinsic.Rotation ++ called_lines m Intrinsic.Trap) (called_lines m Intrinsic.CodedTrap)
    (both_read (called_lines m Intrinsic.Rotation) (called_lines m Intrinsic.Trap)
    (called_read m Intrinsic.Rotation) (called_read m Intrinsic.Trap)) (called_read m Intrinsic.CodedTrap)

declared_read : (f : Func) → IsFunc f → AreRead (declared_lines f)
declared_read f is = go f.blocks refl
  where
    go : (blocks : List Block) → f.blocks ≡ blocks → AreRead (if has_none blocks then declare_line f ∷ [] else [])
    go [] none = (refl, inl (declare_reads f is (ap has_none none)), tt)
    go (block ∷ blocks) some = tt

defined_read : (f : Func) → IsFunc f → AreRead (defined_lines f)
defined_read f is = go f.blocks refl is.blocks
  where
    go : (blocks : List Block) → f.blocks ≡ blocks → AllByRecursion IsBlock f.blocks →
        AreRead (if has_none blocks then [] else define_line f ∷ flat_map block_lines f.blocks ++ close_line ∷ [])
    go [] none are = tt
    go (block ∷ blocks) some are = (refl, inl (define_reads f is (ap has_none some)), blocks_read f.blocks are)

all_declared : (funcs : List Func) → AllByRecursion IsFunc funcs → AreRead (flat_map declared_lines funcs)
all_declared [] are = tt
all_declared (f ∷ funcs) (is, are) =
    both_read (declared_lines f) (flat_map declared_lines funcs) (declared_read f is) (all_declared funcs are)

all_defined : (funcs : List Func) → AllByRecursion IsFunc funcs → AreRead (flat_map defined_lines funcs)
all_defined [] are = tt
all_defined (f ∷ funcs) (is, are) = both_read (defined_lines f) (flat_map defined_lines funcs) (defined_read f is) (all_defined funcs are)

module_read : (m : Module) → IsWritten m → AreRead (lines_of m)
module_read m is =
    both_read _ (flat_map defined_lines m.funcs)
    (both_read _ (flat_map declared_lines m.funcs)
    (both_read _ (intrinsics_lines m)
    (both_read (map var_line m.vars) (map table_line m.jumps) (vars_read m.vars is.vars) (tables_read m.jumps is.tables))
    (intrinsics_read m)) (all_declared m.funcs is.funcs)) (all_defined m.funcs is.funcs)

pub lines_read : (m : Module) → IsWritten m → (end : ℕ) (ts : List Piece) → looks end ts ≡ looks_of false (module_atoms m) →
    (us : List (Placed TheUnit)) × Reads ts us × (map (λ u. u.value.form) us ≡ forms_of m)
lines_read m is end ts e =
    let all = all_read (lines_of m) (module_read m is) end false ts e in
    (all.us, all.reads, all.say)
