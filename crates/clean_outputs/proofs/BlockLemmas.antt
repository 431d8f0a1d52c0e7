-- What a body without flaws gives: runs of instructions, each of one block, that its terminator and nothing else ends.
use Rattle.std.proofs.Common.{◌≡◌, refl, ◌∙◌, ap, sym, subst, ℕ, ◌+◌, ◌<◌, Bool, true, false, not, ◌||◌, cond, List, [], ◌∷◌, ◌++◌, drop, slice_get, Option, Some, None, codes, arith}
use Rattle.std.specs.List.{list_any}
use Rattle.std.specs.Option.{option_map}
use Rattle.std.proofs.lemmas.Option.{same_Some}
use Rattle.ltt_base.specs.declared.refusal.Code.TheVariants.{E03}
use Rattle.ltt_base.specs.declared.refusal.Placed.{Placed}
use Rattle.ir_values.specs.declared.instructions.Inst.{Inst}
use Rattle.ir_values.specs.declared.units.Unit.{Unit as TheUnit}
use Rattle.ir_values.specs.declared.units.Form.{Form}
use Rattle.ir_values.specs.declared.units.Form.TheVariants as form
use Rattle.check_names.specs.Flaws.{◌then◌, each}
use Rattle.check_names.specs.Reserved.{reserved_flaw}
use Rattle.check_bodies.specs.declared.sorts.Sort.{Sort}
use Rattle.check_bodies.specs.declared.sorts.Sort.TheVariants.{Head, Label, Close, Phi, Plain, Terminator, Left, Outer}
use Rattle.check_bodies.specs.declared.standing.Stage.TheVariants.{Open}
use Rattle.check_bodies.specs.declared.standing.Spot.{Spot}
use Rattle.check_bodies.specs.declared.standing.Standing.TheVariants.{Outside, Inside}
use Rattle.check_bodies.specs.declared.blocks.BlockMark.{BlockMark}
use Rattle.check_bodies.specs.declared.names.Local.TheVariants.{Block}
use Rattle.check_bodies.specs.declared.names.Defined.{Defined}
use Rattle.check_bodies.specs.Numbers.{up, name_or}
use Rattle.check_bodies.specs.Sorts.{sort_of, is_instruction}
use Rattle.check_bodies.specs.Standing.{is_begun, labelled, opened, passed, after_inside, standing}
use Rattle.check_bodies.specs.Structure.{is_misplaced_inside, is_close, closes}
use Rattle.check_bodies.specs.Names.{own_names, implied_label, result_at}
use Rattle.check_bodies.specs.Gathered.{gathered}
use Rattle.check_bodies.specs.Bodies as bodies
use Rattle.check_bodies.specs.Blocks.{written_label, label_of, block_label, block_at, is_same_mark}
use Rattle.check_instructions.specs.Instructions.{defined_flaw, own_flaw, form_flaw, instruction_flaw}
use Rattle.built_instructions.specs.Instructions.{instruction_of}
use Rattle.built_instructions.specs.Laws.{sort_in}
use Rattle.built_modules.specs.Blocks.{Piece, piece, pieces_in, pieces_at, begins_in}
use Rattle.ir_check.specs.Units.{place_flaw, inner_flaw, flaw_at}
use Rattle.printed_units.specs.Written.{IsName, is_terminator}
use Rattle.said_units.specs.Sayable.{IsSaid}
use Rattle.sized_modules.proofs.FlawLemmas.{none_first, none_second, unbroken, neither_first, neither_second, clash}
use Rattle.sized_modules.proofs.UnitLemmas.{Units}
use Rattle.clean_outputs.proofs.FileLemmas.{IsFile, said_at, clean_at}
use Rattle.clean_outputs.proofs.NameLemmas.{free_name, name_or_free}
use Rattle.clean_outputs.proofs.SortLemmas.{of_sort, is_end, ends_by_sort}
use Rattle.clean_outputs.proofs.GatherLemmas.{drop_here, drop_next, stands_next}

-- the block of each instruction has a name, and goes on behind it unless it ends the block
abbrev pub AreRuns : Units → List Piece → Type 0
AreRuns us [] = Unit {0}
AreRuns us (first ∷ pieces) =
    IsName (block_label us first.mark) × (begins_in first.mark pieces ≡ not (is_terminator first.inst)) × AreRuns us pieces

abbrev pub has_no_piece : List Piece → Bool
has_no_piece [] = true
has_no_piece (first ∷ pieces) = false

-- what is known of a spot: its block began before it, and has a name if it goes on
pub record IsSpot (us : Units) (at : ℕ) (spot : Spot) : Type 0 where
  pub before : spot.start < at
  pub named : is_begun spot.stage ≡ true → IsName (block_label us (block_at spot))

-- what a body gives behind a spot: its block goes on or, if it has ended, another begins
pub record IsBehind (us : Units) (at : ℕ) (spot : Spot) (pieces : List Piece) : Type 0 where
  pub runs : AreRuns us pieces
  pub same : is_begun spot.stage ≡ true → begins_in (block_at spot) pieces ≡ true
  pub other : is_begun spot.stage ≡ false → (mark : BlockMark) → mark.start < at → begins_in mark pieces ≡ false
  pub some : spot.any ≡ false → has_no_piece pieces ≡ false

-- marks

mark_own : (mark : BlockMark) → is_same_mark mark mark ≡ true
mark_own mark = grind arith

mark_before : (mark later : BlockMark) → mark.start < later.start → is_same_mark mark later ≡ false
mark_before mark later before = grind arith

same_start : (mark later : BlockMark) → is_same_mark mark later ≡ true → mark.start ≡ later.start
same_start mark later same = grind arith

begins_once : (mark later : BlockMark) (pieces : List Piece) → mark.start < later.start → begins_in later pieces ≡ true
    → begins_in mark pieces ≡ false
begins_once mark later [] before begins = refl
begins_once mark later (first ∷ pieces) before begins =
    let start : later.start ≡ first.mark.start = same_start later first.mark begins in
    mark_before mark first.mark (omega arith)

-- sorts

-- a form that isn't a label writes none
no_label : (form : Form) → is_instruction (sort_of form) ≡ true → written_label form ≡ None
no_label (form.LabelForm name) is = absurd (cc)
no_label _ is = refl

-- what is known of a unit in a body without flaws

record IsPlaced (at : ℕ) (spot : Spot) (form : Form) : Type 0 where
  placed : is_misplaced_inside spot (sort_of form) ≡ false
  own : own_flaw true at spot form ≡ None

no_flaw : (us : Units) (at : ℕ) (spot : Spot) (form : Form) → inner_flaw true us at spot form ≡ None → IsPlaced at spot form
unfolding place_flaw instruction_flaw
no_flaw us at spot form none =
    let place = place_flaw us spot.head at spot form in
    let structure = bodies.structure_flaw us spot.head at spot form in
    let again = bodies.own_flaw us spot.head at spot form then bodies.limit_flaw spot form in
    let other = bodies.is_to_entry us spot.head form || bodies.is_torn us spot.head at spot form in
    let structured : structure ≡ None = none_first structure again (none_first place (instruction_flaw true us spot.head at spot form) none) in
    record {
      placed = neither_first (is_misplaced_inside spot (sort_of form)) other
          (unbroken (is_misplaced_inside spot (sort_of form) || other) E03 structured);
      own = none_first (own_flaw true at spot form) (form_flaw true us spot.head form)
          (none_second place (instruction_flaw true us spot.head at spot form) none);
    }

placed_at : (us : Units) → IsFile us → (at : ℕ) (u : Placed TheUnit) (spot : Spot) → slice_get us at ≡ Some u → standing us at ≡ Inside spot
    → IsPlaced at spot u.value.form
placed_at us of at u spot here stands =
    no_flaw us at spot u.value.form (ap (λ place. flaw_at true us at place u.value.form) (sym stands) ∙ clean_at us of at u here)

-- the names of blocks

label_is : (us : Units) (at number : ℕ) (u : Placed TheUnit) (written : Option (List ℕ)) → slice_get us at ≡ Some u
    → written_label u.value.form ≡ written → block_label us (record { start = at; number = number }) ≡ name_or number written
label_is us at number u written here is = ap (λ v. label_of v number) here ∙ ap (name_or number) is

-- that of a label
written_named : (at : ℕ) (spot : Spot) (form : Form) (number : ℕ) → sort_of form ≡ Label → IsSaid form → own_flaw true at spot form ≡ None
    → IsName (name_or number (written_label form))
written_named at spot (form.LabelForm name) number is said own =
    free_name (codes "%") name said (none_first (reserved_flaw true (codes "%") name) None own)
written_named at spot _ number is said own = absurd (cc)

-- and the number that an instruction begins a block with
implied_free : (at : ℕ) (spot : Spot) (others : List Defined) → is_begun spot.stage ≡ false
    → each (defined_flaw true) (implied_label at spot ++ others) ≡ None → reserved_flaw true (codes "%") (name_or spot.next None) ≡ None
implied_free at spot others ended own =
    let implied = λ (begun : Bool). cond begun [] (record { name = name_or spot.next None; local = Block at } ∷ []) in
    none_first (reserved_flaw true (codes "%") (name_or spot.next None)) (each (defined_flaw true) others)
    (ap (λ begun. each (defined_flaw true) (implied begun ++ others)) (sym ended) ∙ own)

number_free : (at : ℕ) (spot : Spot) (sort : Sort) (form : Form) → is_begun spot.stage ≡ false → is_instruction sort ≡ true
    → each (defined_flaw true) (own_names at spot sort form) ≡ None → reserved_flaw true (codes "%") (name_or spot.next None) ≡ None
number_free at spot Phi form ended is own = implied_free at spot (result_at at (opened at spot) form) ended own
number_free at spot Plain form ended is own = implied_free at spot (result_at at (opened at spot) form) ended own
number_free at spot Terminator form ended is own = implied_free at spot (result_at at (opened at spot) form) ended own
number_free at spot _ form ended is own = absurd (cc)

opened_begun : (at : ℕ) (spot : Spot) → is_begun spot.stage ≡ true → opened at spot ≡ spot
opened_begun at spot begun = ap (λ b. cond b spot (record spot {
  next = up spot.next;
  stage = Open;
  start = at;
  number = spot.next;
  only_phis = true;
  count = 0;
})) begun

opened_between : (at : ℕ) (spot : Spot) → is_begun spot.stage ≡ false → block_at (opened at spot) ≡ record { start = at; number = spot.next }
opened_between at spot ended = ap (λ b. block_at (cond b spot (record spot {
  next = up spot.next;
  stage = Open;
  start = at;
  number = spot.next;
  only_phis = true;
  count = 0;
}))) ended

opened_named : (us : Units) (at : ℕ) (u : Placed TheUnit) (spot : Spot) → slice_get us at ≡ Some u → IsPlaced at spot u.value.form → IsSpot us at spot
    → is_instruction (sort_of u.value.form) ≡ true → (begun : Bool) → is_begun spot.stage ≡ begun
    → IsName (block_label us (block_at (opened at spot)))
opened_named us at u spot here placed known is true begun =
    subst (λ (s : Spot). IsName (block_label us (block_at s))) (sym (opened_begun at spot begun)) (known.named begun)
opened_named us at u spot here placed known is false ended =
    let label = ap (block_label us) (opened_between at spot ended) ∙ label_is us at spot.next u None here (no_label u.value.form is) in
    subst IsName (sym label) (name_or_free spot.next None tt (number_free at spot (sort_of u.value.form) u.value.form ended is placed.own))

-- an instruction

opened_before : (us : Units) (at : ℕ) (spot : Spot) → IsSpot us at spot → (begun : Bool) → is_begun spot.stage ≡ begun
    → (opened at spot).start < at + 1
opened_before us at spot known true begun =
    let same : (opened at spot).start ≡ spot.start = ap (λ (s : Spot). s.start) (opened_begun at spot begun) in
    omega (arith, known.before)
opened_before us at spot known false ended =
    let same : (opened at spot).start ≡ at = ap (λ (mark : BlockMark). mark.start) (opened_between at spot ended) in
    omega arith

begins_behind : (us : Units) (at : ℕ) (spot : Spot) (sort : Sort) (form : Form) (pieces : List Piece) → spot.start < at
    → IsBehind us at (passed spot sort form) pieces → begins_in (block_at spot) pieces ≡ not (is_end sort)
begins_behind us at spot Terminator form pieces before behind = behind.other refl (block_at spot) before
begins_behind us at spot _ form pieces before behind = behind.same refl

inst_behind : (us : Units) (at : ℕ) (spot : Spot) (sort : Sort) (form : Form) (i : Inst) (pieces : List Piece) → IsSpot us at spot
    → IsName (block_label us (block_at (opened at spot))) → sort_in i ≡ sort → IsBehind us (at + 1) (passed (opened at spot) sort form) pieces
    → IsBehind us at spot (piece (block_at (opened at spot)) i ∷ pieces)
inst_behind us at spot sort form i pieces known name is behind =
    let inner = opened at spot in
    let ends : is_terminator i ≡ is_end sort = ends_by_sort i ∙ ap is_end is in
    let begins = begins_behind us (at + 1) inner sort form pieces (opened_before us at spot known (is_begun spot.stage) refl) behind in
    record {
      runs = (name, begins ∙ ap not (sym ends), behind.runs);
      same = λ begun. ap (λ (s : Spot). is_same_mark (block_at spot) (block_at s)) (opened_begun at spot begun) ∙ mark_own (block_at spot);
      other = λ ended mark before. ap (is_same_mark mark) (opened_between at spot ended)
          ∙ mark_before mark (record { start = at; number = spot.next }) before;
      some = λ none. refl;
    }

inst_spot : (us : Units) (at : ℕ) (spot : Spot) (sort : Sort) (form : Form) → IsSpot us at spot → IsName (block_label us (block_at (opened at spot)))
    → IsSpot us (at + 1) (passed (opened at spot) sort form)
inst_spot us at spot sort form known name = record {
  before = opened_before us at spot known (is_begun spot.stage) refl;
  named = λ begun. name;
}

-- a label

label_behind : (us : Units) (at : ℕ) (spot : Spot) (form : Form) (pieces : List Piece) → is_begun spot.stage ≡ false
    → IsBehind us (at + 1) (labelled at spot form) pieces → IsBehind us at spot pieces
label_behind us at spot form pieces ended behind = record {
  runs = behind.runs;
  same = λ begun. clash (is_begun spot.stage) begun ended;
  other = λ _ mark before. begins_once mark (block_at (labelled at spot form)) pieces before (behind.same refl);
  some = behind.some;
}

label_spot : (us : Units) (at : ℕ) (spot : Spot) (form : Form) → IsName (block_label us (block_at (labelled at spot form)))
    → IsSpot us (at + 1) (labelled at spot form)
label_spot us at spot form name = record { before = omega arith; named = λ begun. name }

-- a close

close_behind : (us : Units) (at : ℕ) (spot : Spot) → not spot.any || is_begun spot.stage ≡ false → IsBehind us at spot []
close_behind us at spot placed = record {
  runs = tt;
  same = λ begun. clash (is_begun spot.stage) begun (neither_second (not spot.any) (is_begun spot.stage) placed);
  other = λ _ mark before. refl;
  some = λ none. clash (not spot.any) (ap not none) (neither_first (not spot.any) (is_begun spot.stage) placed);
}

-- what is left out

left_behind : (us : Units) (at : ℕ) (spot : Spot) (pieces : List Piece) → IsBehind us (at + 1) spot pieces → IsBehind us at spot pieces
left_behind us at spot pieces behind = record {
  runs = behind.runs;
  same = behind.same;
  other = λ ended mark before. behind.other ended mark (omega arith);
  some = behind.some;
}

left_spot : (us : Units) (at : ℕ) (spot : Spot) → IsSpot us at spot → IsSpot us (at + 1) spot
left_spot us at spot known = record { before = omega (arith, known.before); named = known.named }

-- a unit of some sort, by what is behind it

outside : (us : Units) (file at : ℕ) (rest : Units) → gathered (pieces_at true us file) at Outside rest ≡ []
unfolding gathered
outside us file at [] = refl
outside us file at (u ∷ rest) = refl

by_sort : (us : Units) (file at : ℕ) (spot : Spot) (form : Form) (rest : Units) (sort : Sort) (i : Option Inst)
    → option_map sort_in i ≡ cond (is_instruction sort) (Some sort) None → is_misplaced_inside spot sort ≡ false → IsSpot us at spot
    → (is_instruction sort ≡ true → IsName (block_label us (block_at (opened at spot))))
    → (sort ≡ Label → IsName (block_label us (block_at (labelled at spot form))))
    → ((next : Spot) → is_close sort ≡ false → after_inside at spot sort form ≡ Inside next → IsSpot us (at + 1) next
    → IsBehind us (at + 1) next (gathered (pieces_at true us file) (at + 1) (Inside next) rest))
    → IsBehind us at spot
    (pieces_in (block_at (opened at spot)) i ++ gathered (pieces_at true us file) (at + 1) (after_inside at spot sort form) rest)
by_sort us file at spot form rest Head i made placed known begins labels behind = absurd (cc)
by_sort us file at spot form rest Outer i made placed known begins labels behind = absurd (cc)
by_sort us file at spot form rest Left None made placed known begins labels behind =
    left_behind us at spot _ (behind spot refl refl (left_spot us at spot known))
by_sort us file at spot form rest Label None made placed known begins labels behind =
    label_behind us at spot form _ placed (behind (labelled at spot form) refl refl (label_spot us at spot form (labels refl)))
by_sort us file at spot form rest Close None made placed known begins labels behind =
    subst (IsBehind us at spot) (sym (outside us file (at + 1) rest)) (close_behind us at spot placed)
by_sort us file at spot form rest Phi (Some i) made placed known begins labels behind =
    inst_behind us at spot Phi form i _ known (begins refl) (same_Some (sort_in i) Phi made)
    (behind (passed (opened at spot) Phi form) refl refl (inst_spot us at spot Phi form known (begins refl)))
by_sort us file at spot form rest Plain (Some i) made placed known begins labels behind =
    inst_behind us at spot Plain form i _ known (begins refl) (same_Some (sort_in i) Plain made)
    (behind (passed (opened at spot) Plain form) refl refl (inst_spot us at spot Plain form known (begins refl)))
by_sort us file at spot form rest Terminator (Some i) made placed known begins labels behind =
    inst_behind us at spot Terminator form i _ known (begins refl) (same_Some (sort_in i) Terminator made)
    (behind (passed (opened at spot) Terminator form) refl refl (inst_spot us at spot Terminator form known (begins refl)))
by_sort us file at spot form rest Left (Some i) made placed known begins labels behind = absurd (cc)
by_sort us file at spot form rest Label (Some i) made placed known begins labels behind = absurd (cc)
by_sort us file at spot form rest Close (Some i) made placed known begins labels behind = absurd (cc)
by_sort us file at spot form rest Phi None made placed known begins labels behind = absurd (cc)
by_sort us file at spot form rest Plain None made placed known begins labels behind = absurd (cc)
by_sort us file at spot form rest Terminator None made placed known begins labels behind = absurd (cc)

later_closes : (sort : Sort) (others : Bool) → is_close sort || others ≡ true → is_close sort ≡ false → others ≡ true
later_closes sort others some is = ap (λ b. b || others) (sym is) ∙ some

-- what a body gives behind a spot, up to its close
pub body_behind : (us : Units) → IsFile us → (file at : ℕ) (spot : Spot) (rest : Units) → drop at us ≡ rest → standing us at ≡ Inside spot
    → IsSpot us at spot → list_any closes rest ≡ true → IsBehind us at spot (gathered (pieces_at true us file) at (Inside spot) rest)
unfolding gathered
body_behind us of file at spot [] is stands known closed = absurd (cc)
body_behind us of file at spot (u ∷ rest) is stands known closed =
    let form = u.value.form in
    let here = drop_here us at u rest is in
    let placed = placed_at us of at u spot here stands in
    by_sort us file at spot form rest (sort_of form) (instruction_of true us file at spot form) (of_sort us file at spot form (sort_of form) refl)
    placed.placed known
    (λ inside. opened_named us at u spot here placed known inside (is_begun spot.stage) refl)
    (λ label. subst IsName (sym (label_is us at spot.number u (written_label form) here refl))
    (written_named at spot form spot.number label (said_at us of at u here) placed.own))
    (λ next unclosed goes known_next. body_behind us of file (at + 1) next rest (drop_next us at u rest is)
    (stands_next us at u (Inside spot) here stands ∙ goes) known_next (later_closes (sort_of form) (list_any closes rest) closed unclosed))
