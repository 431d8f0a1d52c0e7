-- The blocks of a body whose units say what the lines of some blocks say.
use Rattle.std.proofs.Common.{◌≡◌, refl, ◌∙◌, ap, sym, subst, true≢false, ℕ, ◌+◌, ◌<◌, true, false, cond, List, [], ◌∷◌, ◌++◌, map, length, drop, slice_get, option_map, Option, Some, None, append_assoc, length-append, drop_at, arith}
use Rattle.std.specs.Prelude.{flat_map}
use Rattle.std.specs.List.{AllByRecursion}
use Rattle.std.proofs.lemmas.List.{drop-map, length-map}
use Rattle.std.proofs.lemmas.Option.{slice_get-map, none-some, same_Some}
use Rattle.ltt_base.specs.declared.refusal.Placed.{Placed}
use Rattle.ir_values.specs.declared.instructions.Inst.{Inst}
use Rattle.ir_values.specs.declared.instructions.Inst.TheVariants as inst
use Rattle.ir_values.specs.declared.modules.Block.{Block}
use Rattle.ir_values.specs.declared.units.Unit.{Unit as TheUnit}
use Rattle.ir_values.specs.declared.units.Head.{Head}
use Rattle.ir_values.specs.declared.units.Form.{Form}
use Rattle.ir_values.specs.declared.units.Form.TheVariants as form
use Rattle.check_bodies.specs.declared.standing.Stage.{Stage}
use Rattle.check_bodies.specs.declared.standing.Spot.{Spot}
use Rattle.check_bodies.specs.declared.standing.Standing.{Standing}
use Rattle.check_bodies.specs.declared.standing.Standing.TheVariants.{Outside, Inside}
use Rattle.check_bodies.specs.declared.blocks.BlockMark.{BlockMark}
use Rattle.check_bodies.specs.Numbers.{up, name_or}
use Rattle.check_bodies.specs.Sorts.{sort_of}
use Rattle.check_bodies.specs.Standing.{is_begun, entered, labelled, opened, passed, stage_behind, after}
use Rattle.check_bodies.specs.Gathered.{gathered, behind_head, of_function}
use Rattle.check_bodies.specs.Blocks.{written_label, label_of, block_at, is_same_mark}
use Rattle.built_instructions.specs.Instructions.{form_kept, instruction_of}
use Rattle.built_modules.specs.Blocks.{Piece, piece, pieces_in, pieces_at, no_piece, pieces_of, block as block_with, begins_in, with_first, blocks_of, body_blocks}
use Rattle.printed_units.specs.Said.{inst_said}
use Rattle.printed_units.specs.Written.{IsInst, is_terminator, AreInsts, IsBlock}
use Rattle.printed_modules.proofs.TypeKept.{Units}
use Rattle.printed_modules.proofs.ModuleForms.{forms, block_forms, body_forms}

-- what a body gives, by its forms

abbrev Own : Type 0
Own = ℕ → Spot → Form → List Piece

given : Own → ℕ → Standing → List Form → List Piece
given own at standing [] = []
given own at Outside (says ∷ others) = []
given own at (Inside spot) (says ∷ others) = own at spot says ++ given own (at + 1) (after at (Inside spot) says) others

gathered_given : (own : Own) (at : ℕ) (standing : Standing) (us : Units) → gathered own at standing us ≡ given own at standing (forms us)
unfolding gathered given
gathered_given own at standing [] = refl
gathered_given own at Outside (u ∷ us) = refl
gathered_given own at (Inside spot) (u ∷ us) =
    ap (λ ps. own at spot u.value.form ++ ps) (gathered_given own (at + 1) (after at (Inside spot) u.value.form) us)

given_outside : (own : Own) (at : ℕ) (says : List Form) → given own at Outside says ≡ []
unfolding given
given_outside own at [] = refl
given_outside own at (one ∷ says) = refl

given_inside : (own : Own) (at : ℕ) (spot : Spot) (one : Form) (says : List Form)
    → given own at (Inside spot) (one ∷ says) ≡ own at spot one ++ given own (at + 1) (after at (Inside spot) one) says
unfolding given
given_inside own at spot one says = refl

-- an instruction in a begun block stands in it

opened_begun : (at : ℕ) (spot : Spot) → is_begun spot.stage ≡ true → opened at spot ≡ spot
opened_begun at spot begun = ap (λ b. cond b spot (record spot {
  next = up spot.next;
  stage = Stage.Open;
  start = at;
  number = spot.next;
  only_phis = true;
  count = 0;
})) begun

behind_inst : (at : ℕ) (spot : Spot) (i : Inst) → IsInst i
    → after at (Inside spot) (inst_said i) ≡ Inside (passed (opened at spot) (sort_of (inst_said i)) (inst_said i))
behind_inst at spot (inst.Test dst ptr id) is = absurd is
behind_inst at spot (inst.PublicTest dst ptr id) is = absurd is
behind_inst at spot (inst.Assume test) is = absurd is
behind_inst at spot (inst.CheckedLoad dst ptr offset id) is = absurd is
behind_inst at spot (inst.Trap None) is = refl
behind_inst at spot (inst.Trap (Some code)) is = refl
behind_inst at spot _ is = refl

-- and the block goes on unless the instruction ends it
goes_on : (i : Inst) → IsInst i → is_terminator i ≡ false → is_begun (stage_behind (sort_of (inst_said i))) ≡ true
goes_on (inst.Br to) is end = absurd (true≢false end)
goes_on (inst.CondBr test met unmet) is end = absurd (true≢false end)
goes_on (inst.Switch width value other cases) is end = absurd (true≢false end)
goes_on (inst.Ret type value) is end = absurd (true≢false end)
goes_on inst.Unreachable is end = absurd (true≢false end)
goes_on (inst.Trap None) is end = refl
goes_on (inst.Trap (Some code)) is end = refl
goes_on _ is end = refl

-- the instruction is read again, whatever number the next register has
abbrev pub IsAgain : Units → ℕ → Inst → Type 0
IsAgain us file i = (next : ℕ) → form_kept true us file next (inst_said i) ≡ Some i

inst_piece : (us : Units) (file at : ℕ) (spot : Spot) (i : Inst) → is_begun spot.stage ≡ true → IsAgain us file i
    → pieces_at true us file at spot (inst_said i) ≡ piece (block_at spot) i ∷ []
unfolding instruction_of
inst_piece us file at spot i begun again =
    let same = opened_begun at spot begun in
    ap (pieces_in (block_at (opened at spot))) (again (opened at spot).next) ∙ ap (λ (s : Spot). piece (block_at s) i ∷ []) same

-- what the instructions of a block give, with those behind it

inst_given : (us : Units) (file at : ℕ) (spot : Spot) (i : Inst) → is_begun spot.stage ≡ true → IsInst i → IsAgain us file i
    → (others : List Form)
    → given (pieces_at true us file) at (Inside spot) (inst_said i ∷ others)
    ≡ piece (block_at spot) i ∷ given (pieces_at true us file) (at + 1) (Inside (passed spot (sort_of (inst_said i)) (inst_said i))) others
inst_given us file at spot i begun is again others =
    let own = pieces_at true us file in
    let behind : after at (Inside spot) (inst_said i) ≡ Inside (passed spot (sort_of (inst_said i)) (inst_said i)) =
    behind_inst at spot i is ∙ ap (λ s. Inside (passed s (sort_of (inst_said i)) (inst_said i))) (opened_begun at spot begun) in
    given_inside own at spot (inst_said i) others
    ∙ (λ k. inst_piece us file at spot i begun again k ++ given own (at + 1) (behind k) others)

insts_given : (us : Units) (file : ℕ) (insts : List Inst) → AreInsts insts → AllByRecursion (IsAgain us file) insts → (at : ℕ) (spot : Spot)
    → is_begun spot.stage ≡ true → (others : List Form) (pieces : List Piece)
    → ((next : Spot) → next.number ≡ spot.number → given (pieces_at true us file) (at + length insts) (Inside next) others ≡ pieces)
    → given (pieces_at true us file) at (Inside spot) (map inst_said insts ++ others) ≡ map (piece (block_at spot)) insts ++ pieces
insts_given us file [] are again at spot begun others pieces behind = absurd are
insts_given us file (i ∷ []) are again at spot begun others pieces behind =
    inst_given us file at spot i begun are.0 again.0 others
    ∙ ap (λ ps. piece (block_at spot) i ∷ ps) (behind (passed spot (sort_of (inst_said i)) (inst_said i)) refl)
insts_given us file (i ∷ next ∷ insts) are again at spot begun others pieces behind =
    let later = passed spot (sort_of (inst_said i)) (inst_said i) in
    let count : (at + 1) + length (next ∷ insts) ≡ at + length (i ∷ next ∷ insts) = omega arith in
    inst_given us file at spot i begun are.0 again.0 (map inst_said (next ∷ insts) ++ others)
    ∙ ap (λ ps. piece (block_at spot) i ∷ ps)
    (insts_given us file (next ∷ insts) are.2 again.1 (at + 1) later (goes_on i are.0 are.1) others pieces
    (λ s same. ap (λ n. given (pieces_at true us file) n (Inside s) others) count ∙ behind s same))

-- the instructions of blocks, each block by the place of its label
marked : ℕ → ℕ → List Block → List Piece
marked number at [] = []
marked number at (block ∷ blocks) =
    map (piece (record { start = at; number = number })) block.insts ++ marked number (at + 1 + length block.insts) blocks

label_given : (us : Units) (file at : ℕ) (spot : Spot) (label : List ℕ) (others : List Form)
    → given (pieces_at true us file) at (Inside spot) (form.LabelForm label ∷ others)
    ≡ given (pieces_at true us file) (at + 1) (Inside (labelled at spot (form.LabelForm label))) others
unfolding instruction_of
label_given us file at spot label others = given_inside (pieces_at true us file) at spot (form.LabelForm label) others

close_given : (us : Units) (file at : ℕ) (spot : Spot) (others : List Form)
    → given (pieces_at true us file) at (Inside spot) (form.CloseForm ∷ others) ≡ []
unfolding instruction_of
close_given us file at spot others =
    given_inside (pieces_at true us file) at spot form.CloseForm others ∙ given_outside (pieces_at true us file) (at + 1) others

abbrev pub AreAgain : Units → ℕ → List Block → Type 0
AreAgain us file blocks = AllByRecursion (λ block. AllByRecursion (IsAgain us file) block.insts) blocks

blocks_given : (us : Units) (file number : ℕ) (blocks : List Block) → AllByRecursion IsBlock blocks → AreAgain us file blocks
    → (at : ℕ) (spot : Spot) → spot.number ≡ number → (others : List Form)
    → given (pieces_at true us file) at (Inside spot) (flat_map block_forms blocks ++ (form.CloseForm ∷ others)) ≡ marked number at blocks
unfolding marked
blocks_given us file number [] are again at spot same others = close_given us file at spot others
blocks_given us file number (block ∷ blocks) are again at spot same others =
    let own = pieces_at true us file in
    let behind = flat_map block_forms blocks ++ (form.CloseForm ∷ others) in
    let start = labelled at spot (form.LabelForm block.label) in
    ap (given own at (Inside spot)) (append_assoc (block_forms block) (flat_map block_forms blocks) (form.CloseForm ∷ others))
    ∙ label_given us file at spot block.label (map inst_said block.insts ++ behind)
    ∙ insts_given us file block.insts are.0.insts again.0 (at + 1) start refl behind (marked number (at + 1 + length block.insts) blocks)
    (λ next kept. blocks_given us file number blocks are.1 again.1 (at + 1 + length block.insts) next (kept ∙ same) others)
    ∙ ap (λ n. map (piece (record { start = at; number = n })) block.insts ++ marked number (at + 1 + length block.insts) blocks) same

-- the labels of blocks stand at these places
AreLabelled : List Form → ℕ → List Block → Type 0
AreLabelled says at [] = Unit {0}
AreLabelled says at (block ∷ blocks) =
    (slice_get says at ≡ Some (form.LabelForm block.label)) × AreLabelled says (at + 1 + length block.insts) blocks

get_behind : {X : Type 0} (before : List X) (x : X) (others : List X) → slice_get (before ++ x ∷ others) (length before) ≡ Some x
get_behind [] x others = refl
get_behind (y ∷ before) x others = get_behind before x others

labels_stand : (before : List Form) (blocks : List Block) (others : List Form) (at : ℕ) → length before ≡ at
    → AreLabelled (before ++ (flat_map block_forms blocks ++ others)) at blocks
unfolding AreLabelled
labels_stand before [] others at long = tt
labels_stand before (block ∷ blocks) others at long =
    let inner = flat_map block_forms blocks in
    let joined : (before ++ block_forms block) ++ (inner ++ others) ≡ before ++ ((block_forms block ++ inner) ++ others) =
    append_assoc before (block_forms block) (inner ++ others)
    ∙ ap (λ fs. before ++ fs) (sym (append_assoc (block_forms block) inner others)) in
    let count = length-append before (block_forms block) in
    let insts = length-map block.insts inst_said in
    let longer : length (before ++ block_forms block) ≡ at + 1 + length block.insts = omega (arith, count, insts, long) in (
      subst (λ n. slice_get (before ++ ((block_forms block ++ inner) ++ others)) n ≡ Some (form.LabelForm block.label)) long
          (get_behind before (form.LabelForm block.label) ((map inst_said block.insts ++ inner) ++ others)),
      subst (λ says. AreLabelled says (at + 1 + length block.insts) blocks) joined
          (labels_stand (before ++ block_forms block) blocks others (at + 1 + length block.insts) longer),
    )

-- so these blocks are made of the instructions

begins_apart : (number start at : ℕ) (insts : List Inst) (others : List Piece) → AreInsts insts → start < at
    → begins_in (record { start = start; number = number }) (map (piece (record { start = at; number = number })) insts ++ others) ≡ false
begins_apart number start at [] others are before = absurd are
begins_apart number start at (i ∷ insts) others are before = grind arith

marked_apart : (number start at : ℕ) (blocks : List Block) → AllByRecursion IsBlock blocks → start < at
    → begins_in (record { start = start; number = number }) (marked number at blocks) ≡ false
unfolding marked
marked_apart number start at [] are before = refl
marked_apart number start at (block ∷ blocks) are before =
    begins_apart number start at block.insts (marked number (at + 1 + length block.insts) blocks) are.0.insts before

mark_own : (mark : BlockMark) → is_same_mark mark mark ≡ true
mark_own mark = grind arith

-- neighbours of one block are in one
one_block : (us : Units) (mark : BlockMark) (i : Inst) (insts : List Inst) (others : List Piece) → begins_in mark others ≡ false
    → blocks_of us (map (piece mark) (i ∷ insts) ++ others) ≡ block_with us mark (i ∷ insts) ∷ blocks_of us others
unfolding blocks_of
one_block us mark i [] others apart = ap (λ b. with_first us (piece mark i) b (blocks_of us others)) apart
one_block us mark i (next ∷ insts) others apart =
    ap (λ b. with_first us (piece mark i) b (blocks_of us (map (piece mark) (next ∷ insts) ++ others))) (mark_own mark)
    ∙ ap (with_first us (piece mark i) true) (one_block us mark next insts others apart)

some_block : (us : Units) (mark : BlockMark) (insts : List Inst) (others : List Piece) → AreInsts insts → begins_in mark others ≡ false
    → blocks_of us (map (piece mark) insts ++ others) ≡ block_with us mark insts ∷ blocks_of us others
some_block us mark [] others are apart = absurd are
some_block us mark (i ∷ insts) others are apart = one_block us mark i insts others apart

label_by : (u : Option (Placed TheUnit)) (number : ℕ) (label : List ℕ) → option_map (λ u. u.value.form) u ≡ Some (form.LabelForm label)
    → label_of u number ≡ label
label_by None number label is = absurd (none-some (form.LabelForm label) is)
label_by (Some u) number label is = ap (λ says. name_or number (written_label says)) (same_Some u.value.form (form.LabelForm label) is)

blocks_are : (us : Units) (number at : ℕ) (blocks : List Block) → AllByRecursion IsBlock blocks → AreLabelled (forms us) at blocks
    → blocks_of us (marked number at blocks) ≡ blocks
unfolding marked AreLabelled blocks_of
blocks_are us number at [] are labels = refl
blocks_are us number at (block ∷ blocks) are labels =
    let mark : BlockMark = record { start = at; number = number } in
    let next = at + 1 + length block.insts in
    let label = label_by (slice_get us at) number block.label (sym (slice_get-map (λ u. u.value.form) us at) ∙ labels.0) in
    some_block us mark block.insts (marked number next blocks) are.0.insts (marked_apart number at next blocks are.1 (omega arith))
    ∙ (λ i. record { label = label i; insts = block.insts } ∷ blocks_are us number next blocks are.1 labels.1 i)

-- the body behind a head

behind_given : (own : Own) (us : Units) (at : ℕ) (head : Head) (u : Option (Placed TheUnit))
    → option_map (λ u. u.value.form) u ≡ Some (form.DefineForm head)
    → behind_head no_piece own us at u ≡ given own (at + 1) (Inside (entered at head.params)) (drop (at + 1) (forms us))
behind_given own us at head None is = absurd (none-some (form.DefineForm head) is)
behind_given own us at head (Some u) is =
    let behind = sym (drop-map (λ (v : Placed TheUnit). v.value.form) (at + 1) us) in
    gathered_given own (at + 1) (after at Outside u.value.form) (drop (at + 1) us)
    ∙ (λ i. given own (at + 1) (after at Outside (same_Some u.value.form (form.DefineForm head) is i)) (behind i))

drop_behind : {X : Type 0} (before : List X) (x : X) (others : List X) → drop (length before + 1) (before ++ x ∷ others) ≡ others
drop_behind before x others =
    ap (drop (length before + 1)) (sym (append_assoc before (x ∷ []) others))
    ∙ drop_at (before ++ x ∷ []) others (length before + 1) (length-append before (x ∷ []))

-- the blocks of a function whose head, body and close stand behind others
pub body_is : (us : Units) (file : ℕ) (before : List Form) (head : Head) (blocks : List Block) (others : List Form)
    → forms us ≡ before ++ form.DefineForm head ∷ (body_forms blocks ++ others) → AllByRecursion IsBlock blocks → AreAgain us file blocks
    → body_blocks true us file (length before) ≡ blocks
unfolding body_blocks of_function
body_is us file before head blocks others say are again =
    let at = length before in
    let own = pieces_at true us file in
    let inner = flat_map block_forms blocks in
    let body : body_forms blocks ++ others ≡ inner ++ form.CloseForm ∷ others = append_assoc inner (form.CloseForm ∷ []) others in
    let here : option_map (λ u. u.value.form) (slice_get us at) ≡ Some (form.DefineForm head) =
    sym (slice_get-map (λ u. u.value.form) us at) ∙ ap (λ says. slice_get says at) say
    ∙ get_behind before (form.DefineForm head) (body_forms blocks ++ others) in
    let behind : drop (at + 1) (forms us) ≡ inner ++ form.CloseForm ∷ others =
    ap (drop (at + 1)) say ∙ drop_behind before (form.DefineForm head) (body_forms blocks ++ others) ∙ body in
    let pieces : pieces_of true us file at ≡ marked 0 (at + 1) blocks =
    behind_given own us at head (slice_get us at) here ∙ ap (given own (at + 1) (Inside (entered at head.params))) behind
    ∙ blocks_given us file 0 blocks are again (at + 1) (entered at head.params) refl others in
    let whole : (before ++ form.DefineForm head ∷ []) ++ (inner ++ form.CloseForm ∷ others) ≡ forms us =
    append_assoc before (form.DefineForm head ∷ []) (inner ++ form.CloseForm ∷ others)
    ∙ ap (λ says. before ++ form.DefineForm head ∷ says) (sym body) ∙ sym say in
    let labels : AreLabelled (forms us) (at + 1) blocks =
    subst (λ says. AreLabelled says (at + 1) blocks) whole
    (labels_stand (before ++ form.DefineForm head ∷ []) blocks (form.CloseForm ∷ others) (at + 1)
    (length-append before (form.DefineForm head ∷ []))) in
    ap (blocks_of us) pieces ∙ blocks_are us 0 (at + 1) blocks are labels
