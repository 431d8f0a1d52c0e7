-- The lowered test of a thin file is exact.
use Rattle.std.proofs.Common.{◌≡◌, ◌≢◌, ℕ, ◌+◌, ◌-◌, ◌*◌, ◌%◌, ◌^◌, ◌<◌, ◌≤◌, inl, inr, Bool, true, false, IsTrue, ◌↔◌, List, [], ◌∷◌, ◌++◌, refl, sym, ap, subst, ◌∙◌, arith, zero, suc, map, Option, Some, None, option_map, nat_eq, slice_get, Contains, IfSome, add-zero, zero-add, max}
use Rattle.std.proofs.lemmas.Option.{slice_get-map}
use Rattle.std.proofs.lemmas.Bool.{cases_order}
use Rattle.std.proofs.lemmas.Bool.Decides.{nat_tests}
use Rattle.std.specs.Prelude.{nat_le, if◌then◌else◌, ◌||◌}
use Rattle.std.specs.Cmp.Lexicographic.{pointwise}
use Rattle.ir_values.specs.declared.constants.Operand as operand
use Rattle.ir_values.specs.declared.constants.Operand.{Operand}
use Rattle.ir_values.specs.declared.instructions.Inst.{Inst}
use Rattle.ir_values.specs.declared.instructions.Inst.TheVariants.{Test}
use Rattle.ir_values.specs.declared.modules.Entry.{Entry}
use Rattle.ir_values.specs.declared.modules.TypeId.{TypeId}
use Rattle.ir_values.specs.declared.modules.TypeId.TheVariants.{Name}
use Rattle.ir_values.specs.declared.modules.Var.{Var}
use Rattle.ir_values.specs.declared.modules.Func.{Func}
use Rattle.ir_values.specs.declared.modules.Block.{Block}
use Rattle.thin_files.specs.declared.thin.Thin.{Thin}
use Rattle.thin_files.specs.declared.thin.Variable.{Variable}
use Rattle.thin_files.specs.declared.thin.Second.{Second}
use Rattle.thin_files.specs.Thin.{AreDistinct, IsSecondAllowed, IsAllowed, module_of, variable_of, function_of, block_of, tested_block, address_of, second_block, second_function, second_functions, words_type}
use Rattle.ir_numbers.specs.Layout.{Layout}
use Rattle.type_metadata.specs.Sizes.{size_of}
use Rattle.type_metadata.specs.Carriers.{Carries, extent_of}
use Rattle.test_lowering.specs.Rewriting.{Home, test_shape, rewritten, combined, combined_from, combined_type, group_name, members_of, pad, rewritten_operand, rewritten_inst}
use Rattle.ir_memories.specs.Placement.{Placement, Placeable, IsPlaced, placeables, of_variable, of_table, of_function}
use Rattle.test_lowering.specs.TestAt.{Registers, number_of, test_at, flag_of, HasInst, IsCarried}
use Rattle.test_lowering.specs.Exact.{LoweredTestsAreExact}
use Rattle.test_lowering.proofs.PlaceLaws.{text_cases, pairs_at, all_at, place_of, contains_at, slice_get-append_left, only}
use Rattle.test_lowering.proofs.MemberLaws.{members-one}
use Rattle.test_lowering.proofs.SizeLaws.{size-words, size-combined, pad-reaches}

-- The slot holds every offset at which an entry may stand.

end_or_more : (at_end : Bool) (size offset : ℕ) → (at_end ≡ false → offset < size) → offset ≤ size
    → offset < (if at_end || false then size + 1 else size)
end_or_more true size offset inside below = omega arith
end_or_more false size offset inside below = inside refl

not_at_end : (size offset : ℕ) → nat_le size offset ≡ false → offset < size
not_at_end size offset e = grind (arith, nat_tests)

pub words_size : (v : Variable) → size_of (words_type v.count) ≡ v.count * 8
words_size v = ap (λ (l : Layout). l.size) (size-words v.count)

pub extent_above : (v : Variable) → v.offset ≤ 8 * v.count → v.offset < extent_of (variable_of v)
extent_above v below =
    let size = words_size v in
    end_or_more (nat_le (size_of (words_type v.count)) v.offset) (size_of (words_type v.count)) v.offset
    (not_at_end (size_of (words_type v.count)) v.offset) (omega arith)

one_more_at_most : (at_end : Bool) (size : ℕ) → (if at_end || false then size + 1 else size) ≤ size + 1
one_more_at_most true size = omega arith
one_more_at_most false size = omega arith

pub extent_below : (v : Variable) → v.count ≤ 1000 → extent_of (variable_of v) ≤ 2 ^ 64
extent_below v few =
    let size = words_size v in
    let most : extent_of (variable_of v) ≤ size_of (words_type v.count) + 1 =
    one_more_at_most (nat_le (size_of (words_type v.count)) v.offset) (size_of (words_type v.count)) in
    at_most_words (extent_of (variable_of v)) (size_of (words_type v.count)) v.count most size few where
      at_most_words : (extent size count : ℕ) → extent ≤ size + 1 → size ≡ count * 8 → count ≤ 1000 → extent ≤ 2 ^ 64
      at_most_words extent size count most is few = omega arith

offset_within : (v : Variable) → v.offset ≤ 8 * v.count → v.count ≤ 1000 → v.offset < size_of (combined_type (variable_of v))
offset_within v below few =
    in_slot v.offset (extent_of (variable_of v)) (pad (extent_of (variable_of v))) (size_of (words_type v.count)) v.count
    (size_of (combined_type (variable_of v))) (extent_above v below) (pad-reaches (extent_of (variable_of v)) (extent_below v few))
    (words_size v) (size-combined v.count (pad (extent_of (variable_of v)) - size_of (words_type v.count))) where
      in_slot : (offset extent slot size count whole : ℕ) → offset < extent → extent ≤ slot → size ≡ count * 8 → count * 8 + (slot - size) ≤ whole → offset < whole
      in_slot offset extent slot size count whole above reaches is holds = omega arith

-- The combined variable of number k is the one of variable k.

pub combined_at : (group : ℕ) (vars : List Var) (k : ℕ) (v : Var) → slice_get vars k ≡ Some v → slice_get (combined_from group vars) k ≡ Some (combined (group + k) v)
combined_at group [] k v at = cc
combined_at group (w ∷ vars) zero v at = let same : w ≡ v = cc in rw (same, add-zero) refl
combined_at group (w ∷ vars) (suc k) v at = let e : group + 1 + k ≡ group + suc k = omega arith in rw (combined_at (group + 1) vars k v at, e) refl

pub variable_at : (t : Thin) (k : ℕ) (v : Variable) → slice_get t.variables k ≡ Some v → slice_get (module_of t).vars k ≡ Some (variable_of v)
variable_at t k v at = slice_get-map variable_of t.variables k ∙ ap (option_map variable_of) at

pub placeable_at : (t : Thin) (k : ℕ) (v : Variable) → slice_get t.variables k ≡ Some v
    → slice_get (placeables (rewritten (module_of t))) k ≡ Some (of_variable (combined k (variable_of v)))
placeable_at t k v at =
    let vars = combined_from 0 (module_of t).vars in
    let here = combined_at 0 (module_of t).vars k (variable_of v) (variable_at t k v at) in
    let named : slice_get (map of_variable vars) k ≡ Some (of_variable (combined k (variable_of v))) =
    slice_get-map of_variable vars k ∙ ap (option_map of_variable) (here ∙ ap (λ g. Some (combined g (variable_of v))) (zero-add k)) in
    slice_get-append_left (map of_variable vars ++ map of_table (rewritten (module_of t)).jumps) (map of_function (rewritten (module_of t)).funcs) k
    (of_variable (combined k (variable_of v)))
    (slice_get-append_left (map of_variable vars) (map of_table (rewritten (module_of t)).jumps) k (of_variable (combined k (variable_of v))) named)

no_wrap : (t : Thin) → IsAllowed t → (p : Placement) → IsPlaced (rewritten (module_of t)) p → (k : ℕ) (v : Variable)
    → slice_get t.variables k ≡ Some v → p (group_name k) + v.offset < 2 ^ 64
no_wrap t allowed p placed k v at =
    let fits : p (group_name k) + max 1 (size_of (combined_type (variable_of v))) ≤ 2 ^ 64 =
    all_at (λ (object : Placeable). p object.name + object.size ≤ 2 ^ 64) (placeables (rewritten (module_of t))) k
    (of_variable (combined k (variable_of v))) placed.within (placeable_at t k v at) in
    let few : (1 ≤ v.count) × (v.count ≤ 1000) = all_at (λ (w : Variable). (1 ≤ w.count) × (w.count ≤ 1000)) t.variables k v allowed.counts at in
    let inside : v.offset ≤ 8 * v.count = all_at (λ (w : Variable). w.offset ≤ 8 * w.count) t.variables k v allowed.inside at in
    let within = offset_within v inside few.1 in
    below_end (p (group_name k)) v.offset (size_of (combined_type (variable_of v))) fits within where
      below_end : (start offset size : ℕ) → start + max 1 size ≤ 2 ^ 64 → offset < size → start + offset < 2 ^ 64
      below_end start offset size fits within = omega arith

-- The one member of a tested identifier.

pub record Carrier (t : Thin) (id : List ℕ) : Type 0 where
  pub number : ℕ
  pub variable : Variable
  pub at : slice_get t.variables number ≡ Some variable
  pub is : variable.id ≡ id

-- a variable that carries the identifier, and its number
pub carried_at : (variables : List Variable) (id : List ℕ) → Contains (map (λ (v : Variable). v.id) variables) id
    → (k : ℕ) × ((v : Variable) × (slice_get variables k ≡ Some v) × (v.id ≡ id))
carried_at variables id carried =
    let found = place_of (map (λ (v : Variable). v.id) variables) id carried in
    at_place found.0 (slice_get variables found.0) refl (sym (slice_get-map (λ (v : Variable). v.id) variables found.0) ∙ found.1) where
      at_place : (k : ℕ) (o : Option Variable) → slice_get variables k ≡ o → option_map (λ (v : Variable). v.id) (slice_get variables k) ≡ Some id
          → (k : ℕ) × ((v : Variable) × (slice_get variables k ≡ Some v) × (v.id ≡ id))
      at_place k (Some v) e is = (k, (v, e, (let h = rw e at is in cc)))
      at_place k None e is = let h = rw e at is in cc

pub carrier_of : (t : Thin) (id : List ℕ) → Contains (map (λ (v : Variable). v.id) t.variables) id → Carrier t id
carrier_of t id carried =
    let found = carried_at t.variables id carried in
    record { number = found.0; variable = found.1.0; at = found.1.1; is = found.1.2 }

pub member_of : (t : Thin) (id : List ℕ) → IsAllowed t → (c : Carrier t id) → members_of (module_of t) (Name id) ≡ record { group = c.number; offset = c.variable.offset } ∷ []
member_of t id allowed c = members-one id 0 t.variables c.number c.variable allowed.apart c.at c.is
    ∙ ap (λ g. record { group = g; offset = c.variable.offset } ∷ []) (zero-add c.number)

-- What the comparison gives.

same_text : (text : List ℕ) → pointwise nat_eq text text ≡ true
same_text text = elim (text_cases text text) [ inl equal ↦ equal.0 | inr other ↦ absurd (other.1 refl) ]

compared_gives : (p : Placement) (home : Home) (dst : List ℕ) (ptr : Operand) (registers : Registers) (a : ℕ) → number_of p registers ptr ≡ Some a
    → test_at p (test_shape (home ∷ []) dst ptr) registers dst ≡ Some (flag_of (nat_eq a ((p (group_name home.group) + home.offset) % 2 ^ 64)))
compared_gives p home dst ptr registers a read = rw (read, same_text dst) refl

-- The address of the one member, and no other, carries the identifier.

carries_its_entry : (t : Thin) (tested : List ℕ) (c : Carrier t tested) → Carries (module_of t) (Name tested) c.number c.variable.offset
carries_its_entry t tested c = (
  variable_of c.variable,
  variable_at t c.number c.variable c.at,
  contains_at (variable_of c.variable).entries (record { offset = c.variable.offset; id = Name tested }) 0
      (ap (λ id. Some (record { offset = c.variable.offset; id = Name id })) c.is),
)

variable_from : (t : Thin) (k : ℕ) (v : Var) → slice_get (module_of t).vars k ≡ Some v → (w : Variable) × (slice_get t.variables k ≡ Some w) × (variable_of w ≡ v)
variable_from t k v at = by_place (slice_get t.variables k) refl (sym (slice_get-map variable_of t.variables k) ∙ at) where
  by_place : (o : Option Variable) → slice_get t.variables k ≡ o → option_map variable_of (slice_get t.variables k) ≡ Some v
      → (w : Variable) × (slice_get t.variables k ≡ Some w) × (variable_of w ≡ v)
  by_place (Some w) e is = let h = rw e at is in (w, e, cc)
  by_place None e is = let h = rw e at is in cc

pub one_place : (texts : List (List ℕ)) (i j : ℕ) (text : List ℕ) → AreDistinct texts → slice_get texts i ≡ Some text → slice_get texts j ≡ Some text → i ≡ j
one_place texts i j text distinct at_i at_j =
    elim (cases_order i j) [
      | inl same ↦ same
      | inr apart ↦ elim apart [
        | inl before ↦ absurd (pairs_at (λ one other. one ≢ other) texts i j text text distinct before at_i at_j refl)
        | inr behind ↦ absurd (pairs_at (λ one other. one ≢ other) texts j i text text distinct behind at_j at_i refl)
      ]
    ]

only_carrier : (t : Thin) (tested : List ℕ) (allowed : IsAllowed t) (c : Carrier t tested) (object offset : ℕ) → Carries (module_of t) (Name tested) object offset
    → (object ≡ c.number) × (offset ≡ c.variable.offset)
only_carrier t tested allowed c object offset carries =
    let from = variable_from t object carries.0 carries.1 in
    let held : Contains (variable_of from.0).entries (record { offset = offset; id = Name tested }) =
    subst (λ (v : Var). Contains v.entries (record { offset = offset; id = Name tested })) (sym from.2) carries.2 in
    let same = only (record { offset = from.0.offset; id = Name from.0.id }) (record { offset = offset; id = Name tested }) held in
    let is : from.0.id ≡ tested = (let h = ap (λ (e : Entry). e.id) same in cc) in
    let here = one_place (map (λ (v : Variable). v.id) t.variables) object c.number tested allowed.apart
    (id_at object from.0 from.1 is) (id_at c.number c.variable c.at c.is) in
    let found : from.0 ≡ c.variable = (let e = subst (λ k. slice_get t.variables k ≡ Some from.0) here from.1 in let at = c.at in cc) in
    (here, sym (ap (λ (e : Entry). e.offset) same) ∙ ap (λ (v : Variable). v.offset) found) where
      id_at : (k : ℕ) (v : Variable) → slice_get t.variables k ≡ Some v → v.id ≡ tested → slice_get (map (λ (w : Variable). w.id) t.variables) k ≡ Some tested
      id_at k v at is = slice_get-map (λ (w : Variable). w.id) t.variables k ∙ ap (option_map (λ (w : Variable). w.id)) at ∙ ap Some is

carried_is : (t : Thin) (tested : List ℕ) → IsAllowed t → (p : Placement) → (c : Carrier t tested) (a : ℕ) → p (group_name c.number) + c.variable.offset < 2 ^ 64
    → IsTrue (nat_eq a ((p (group_name c.number) + c.variable.offset) % 2 ^ 64)) ↔ IsCarried (module_of t) p (Name tested) a
carried_is t tested allowed p c a fits = (
  λ equal. (c.number, (c.variable.offset, carries_its_entry t tested c, at_address (p (group_name c.number)) c.variable.offset a fits equal)),
  λ carried.
      let only = only_carrier t tested allowed c carried.0 carried.1.0 carried.1.1 in
      let is : a ≡ p (group_name c.number) + 0 + c.variable.offset =
      carried.1.2 ∙ ap (λ k. p (group_name k) + 0 + carried.1.0) only.0 ∙ ap (λ o. p (group_name c.number) + 0 + o) only.1 in
      from_address (p (group_name c.number)) c.variable.offset a fits is,
) where
  at_address : (start offset a : ℕ) → start + offset < 2 ^ 64 → IsTrue (nat_eq a ((start + offset) % 2 ^ 64)) → a ≡ start + 0 + offset
  at_address start offset a fits equal = grind (arith, nat_tests)

  from_address : (start offset a : ℕ) → start + offset < 2 ^ 64 → a ≡ start + 0 + offset → IsTrue (nat_eq a ((start + offset) % 2 ^ 64))
  from_address start offset a fits is = grind (arith, nat_tests)

tested_exact : (t : Thin) (allowed : IsAllowed t) (p : Placement) → IsPlaced (rewritten (module_of t)) p
    → (dst : List ℕ) (ptr : Operand) (tested : List ℕ) → Contains (map (λ (v : Variable). v.id) t.variables) tested
    → (registers : Registers) (a : ℕ) → number_of p registers (rewritten_operand (module_of t) ptr) ≡ Some a
    → (answer : Bool) × (test_at p (rewritten_inst (module_of t) (Test dst ptr (Name tested))) registers dst ≡ Some (flag_of answer))
    × (IsTrue answer ↔ IsCarried (module_of t) p (Name tested) a)
tested_exact t allowed p placed dst ptr tested carried registers a read =
    let c = carrier_of t tested carried in
    let home : Home = record { group = c.number; offset = c.variable.offset } in (
      nat_eq a ((p (group_name c.number) + c.variable.offset) % 2 ^ 64),
      ap (λ members. test_at p (test_shape members dst (rewritten_operand (module_of t) ptr)) registers dst) (member_of t tested allowed c)
          ∙ compared_gives p home dst (rewritten_operand (module_of t) ptr) registers a read,
      carried_is t tested allowed p c a (no_wrap t allowed p placed c.number c.variable c.at),
    )

-- A test of a thin file: of its first function, or of its second.

pub record IsTested (t : Thin) (inst : Inst) : Type 0 where
  pub dst : List ℕ
  pub ptr : Operand
  pub id : List ℕ
  pub carried : Contains (map (λ (v : Variable). v.id) t.variables) id
  pub is : Test dst ptr (Name id) ≡ inst

-- an instruction of a function of one block
inst_in : (f : Func) (block : Block) (inst : Inst) (blocks : List Block) → blocks ≡ block ∷ [] → f.blocks ≡ blocks → (b : Block) → Contains f.blocks b → Contains b.insts inst → Contains block.insts inst
inst_in f block inst blocks one is b held has =
    let same = only block b (subst (λ (bs : List Block). Contains bs b) (is ∙ one) held) in
    subst (λ (b : Block). Contains b.insts inst) (sym same) has

-- the one test of a block that tests and returns
test_in : (register : List ℕ) (pointer : Operand) (tested : List ℕ) (dst : List ℕ) (ptr : Operand) (id : TypeId)
    → Contains (tested_block register pointer tested).insts (Test dst ptr id) → Test register pointer (Name tested) ≡ Test dst ptr id
test_in register pointer tested dst ptr id held =
    let at = place_of (tested_block register pointer tested).insts (Test dst ptr id) held in
    at_place at.0 at.1 where
      at_place : (k : ℕ) → slice_get (tested_block register pointer tested).insts k ≡ Some (Test dst ptr id) → Test register pointer (Name tested) ≡ Test dst ptr id
      at_place zero at = cc
      at_place (suc zero) at = cc
      at_place (suc (suc k)) at = cc

first_test : (t : Thin) → IsAllowed t → (dst : List ℕ) (ptr : Operand) (id : TypeId) (f : Func) → function_of t ≡ f → (block : Block)
    → Contains f.blocks block → Contains block.insts (Test dst ptr id) → IsTested t (Test dst ptr id)
first_test t allowed dst ptr id f is block held has = record {
  dst = t.register;
  ptr = operand.Reg t.pointer;
  id = t.tested;
  carried = allowed.carried;
  is = test_in t.register (operand.Reg t.pointer) t.tested dst ptr id
      (inst_in f (block_of t) (Test dst ptr id) (block_of t ∷ []) refl (ap (λ (g : Func). g.blocks) (sym is)) block held has);
}

second_test : (t : Thin) (s : Second) → IsSecondAllowed t s → (dst : List ℕ) (ptr : Operand) (id : TypeId) (f : Func) → second_function s ≡ f → (block : Block)
    → Contains f.blocks block → Contains block.insts (Test dst ptr id) → IsTested t (Test dst ptr id)
second_test t s allowed dst ptr id f is block held has = record {
  dst = s.register;
  ptr = address_of s;
  id = s.tested;
  carried = allowed.carried;
  is = test_in s.register (address_of s) s.tested dst ptr id
      (inst_in f (second_block s) (Test dst ptr id) (second_block s ∷ []) refl (ap (λ (g : Func). g.blocks) (sym is)) block held has);
}

second_at : (t : Thin) (second : Option Second) → IfSome second (IsSecondAllowed t) → (dst : List ℕ) (ptr : Operand) (id : TypeId) (k : ℕ) (f : Func)
    → slice_get (second_functions second) k ≡ Some f → (block : Block) → Contains f.blocks block → Contains block.insts (Test dst ptr id) → IsTested t (Test dst ptr id)
second_at t None allowed dst ptr id k f at block held has = absurd (cc)
second_at t (Some s) allowed dst ptr id zero f at block held has = second_test t s allowed dst ptr id f (cc) block held has
second_at t (Some s) allowed dst ptr id (suc k) f at block held has = absurd (cc)

tested_in : (t : Thin) → IsAllowed t → (dst : List ℕ) (ptr : Operand) (id : TypeId) → HasInst (module_of t) (Test dst ptr id) → IsTested t (Test dst ptr id)
tested_in t allowed dst ptr id has =
    let at = place_of (module_of t).funcs has.0 has.1.1 in
    at_place at.0 at.1 where
      at_place : (k : ℕ) → slice_get (module_of t).funcs k ≡ Some has.0 → IsTested t (Test dst ptr id)
      at_place zero at = first_test t allowed dst ptr id has.0 (cc) has.1.0 has.1.2 has.1.3
      at_place (suc k) at = second_at t t.second allowed.second dst ptr id k has.0 at has.1.0 has.1.2 has.1.3

abbrev pub ExactAt : Thin → Placement → List ℕ → Operand → TypeId → Type 0
ExactAt t p dst ptr id = (registers : Registers) (a : ℕ) → a < 2 ^ 64 → number_of p registers (rewritten_operand (module_of t) ptr) ≡ Some a
    → (answer : Bool) × (test_at p (rewritten_inst (module_of t) (Test dst ptr id)) registers dst ≡ Some (flag_of answer))
    × (IsTrue answer ↔ IsCarried (module_of t) p id a)

pub exact : LoweredTestsAreExact
exact t allowed p placed dst ptr id has =
    let test = tested_in t allowed dst ptr id has in
    let same = test.is in
    let is_dst : test.dst ≡ dst = cc in
    let is_ptr : test.ptr ≡ ptr = cc in
    let is_id : Name test.id ≡ id = cc in
    subst (λ (d : List ℕ). ExactAt t p d ptr id) is_dst
    (subst (λ (o : Operand). ExactAt t p test.dst o id) is_ptr
    (subst (λ (i : TypeId). ExactAt t p test.dst test.ptr i) is_id
    (λ registers a small read. tested_exact t allowed p placed test.dst test.ptr test.id test.carried registers a read)))
