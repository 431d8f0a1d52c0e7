-- The memories of a thin file and of its output.
use Rattle.std.proofs.Common.{◌≡◌, ◌≢◌, ℕ, ◌+◌, ◌*◌, ◌%◌, ◌^◌, ◌<◌, ◌≤◌, Bool, true, false, IsTrue, ◌↔◌, ◌&&◌, zero, suc, List, [], ◌∷◌, ◌++◌, map, inl, inr, Option, Some, None, option_map, refl, sym, ap, subst, ◌∙◌, slice_get, Contains, nat_eq, zero-add, add-zero, arith}
use Rattle.std.proofs.lemmas.Option.{slice_get-map}
use Rattle.std.proofs.lemmas.Bool.Decides.{nat_tests}
use Rattle.std.specs.Prelude.{if◌then◌else◌, nat_lt}
use Rattle.std.specs.Cmp.Lexicographic.{pointwise}
use Rattle.ir_values.specs.declared.modules.TypeId.{TypeId}
use Rattle.ir_values.specs.declared.modules.TypeId.TheVariants.{Name, Node}
use Rattle.ir_values.specs.declared.modules.Entry.{Entry}
use Rattle.ir_values.specs.declared.modules.Module.{Module}
use Rattle.type_metadata.specs.declared.objects.Object.{Object}
use Rattle.type_metadata.specs.declared.objects.Carrier as carrying
use Rattle.type_metadata.specs.declared.objects.Denoted.TheVariants as denotes
use Rattle.type_metadata.specs.declared.items.Item.{Item}
use Rattle.type_metadata.specs.Carriers.{Carries, extent_of}
use Rattle.type_metadata.specs.Identifiers.{is_same_id}
use Rattle.type_metadata.specs.Items.{variable_at, item_of_variable, items}
use Rattle.ir_values.specs.declared.modules.Linkage.TheVariants.{External}
use Rattle.type_metadata.specs.Denoted.{denoted, is_called, first as first_item}
use Rattle.type_metadata.specs.Types.{IsCarrier, AreTypes, has_carrier}
use Rattle.type_metadata.proofs.CarrierLaws.{tells_carrier}
use Rattle.type_metadata.proofs.SameLaws.{alike}
use Rattle.ir_memories.specs.declared.symbolic.SPtr.{SPtr}
use Rattle.ir_memories.specs.declared.symbolic.SPtr.TheVariants.{Null, At}
use Rattle.ir_memories.specs.declared.symbolic.Space.{Space}
use Rattle.ir_memories.specs.declared.symbolic.Symbolic.{Symbolic}
use Rattle.ir_memories.specs.declared.numeric.Numeric.{Numeric}
use Rattle.ir_memories.specs.Symbolic.{symbolic, pointer_at, pointer_to, object_or, extent_in, extent_or_none, at_place, place_of as place_among, test as symbolic_test}
use Rattle.ir_memories.specs.Numeric.{numeric, placed}
use Rattle.ir_memories.specs.Stated.{placement_of}
use Rattle.ir_memories.specs.Worlds.{variable_space, function_space, spaces_in, spaces_from}
use Rattle.ir_memories.specs.Placement.{Placement, IsPlaced}
use Rattle.thin_files.specs.declared.thin.Thin.{Thin}
use Rattle.thin_files.specs.declared.thin.Variable.{Variable}
use Rattle.thin_files.specs.Thin.{IsAllowed, module_of, variable_of}
use Rattle.test_lowering.specs.Rewriting.{Home, home_of, group_name, object_from, object_of as numbered, members_from, members_of, rewritten}
use Rattle.test_lowering.proofs.PlaceLaws.{text_cases, all_at, place_of, contains_at, slice_get-append_left, only}
use Rattle.test_lowering.proofs.ExactLaws.{variable_at as variable_is, one_place, extent_above}
use Rattle.simulation.specs.Runs.{types_of, source_memory}
use Rattle.simulation.proofs.ValueLaws.{Bridge}
use Rattle.simulation.proofs.ItemLaws.{all_items, denoted_variable, variable_place, variable_item, variable_entries}
use Rattle.simulation.proofs.AddressLaws.{Stand, stand_of, one_address}

-- A pointer to a variable of the file, or null, and its number in the output.
abbrev pub VariableStands : Thin → Placement → SPtr → ℕ → Type 0
VariableStands t p Null a = a ≡ 0
VariableStands t p (At object offset) a = (k : ℕ) × ((v : Variable) × (object ≡ variable_at 1 k) × (slice_get t.variables k ≡ Some v)
    × (a ≡ (p (group_name k) + offset) % 2 ^ 64))

-- Addresses.

numbered_at : (group : ℕ) (vs : List Variable) (name : List ℕ) (k : ℕ) → object_from group (map variable_of vs) name ≡ Some k
    → (j : ℕ) × ((v : Variable) × (group + j ≡ k) × (slice_get vs j ≡ Some v) × (v.name ≡ name))
numbered_at group [] name k is = absurd (cc)
numbered_at group (v ∷ vs) name k is =
    elim (text_cases v.name name) [
      | inl same ↦ let h = rw same.0 at is in (0, (v, add-zero group ∙ cc, refl, same.1))
      | inr other ↦
          let h = rw other.0 at is in
          let rest = numbered_at (group + 1) vs name k h in
          let next : group + suc rest.0 ≡ group + 1 + rest.0 = omega arith in
          (suc rest.0, (rest.1.0, next ∙ rest.1.1, rest.1.2, rest.1.3))
    ]

pub numbered_variable : (t : Thin) (name : List ℕ) (k : ℕ) → numbered (module_of t) name ≡ Some k → (v : Variable) × (slice_get t.variables k ≡ Some v) × (v.name ≡ name)
numbered_variable t name k is =
    let found = numbered_at 0 t.variables name k is in
    let same : found.0 ≡ k = sym (zero-add found.0) ∙ found.1.1 in
    (found.1.0, ap (slice_get t.variables) (sym same) ∙ found.1.2, found.1.3)

-- the addresses of the names of the output
abbrev pub places : Thin → List ℕ → Placement
places t at = placement_of (rewritten (module_of t)) at

abbrev pub output_memory : Thin → List ℕ → Numeric
output_memory t at = placed (rewritten (module_of t)) at

address_stands : (t : Thin) (at : List ℕ) (file file' : ℕ) → file ≡ 1 → file' ≡ 1 → (name : List ℕ) (k offset : ℕ) → numbered (module_of t) name ≡ Some k
    → VariableStands t (places t at) (symbolic.address (source_memory (module_of t)) file name offset)
    (numeric.address (output_memory t at) file' (group_name (home_of k).group) ((home_of k).offset + offset))
address_stands t at file file' first first' name k offset is =
    let v = numbered_variable t name k is in
    let pointer : pointer_to (all_items t) file name offset ≡ At (variable_at 1 k) offset =
    ap (λ f. pointer_to (all_items t) f name offset) first
    ∙ ap (λ d. pointer_at (object_or d (first_item (is_called External name) (all_items t))) offset) (denoted_variable t name k is) in
    subst (λ q. VariableStands t (places t at) q (numeric.address (output_memory t at) file' (group_name k) (0 + offset))) (sym pointer)
    (k, (v.0, refl, v.1, ap (λ o. (places t at (group_name k) + o) % 2 ^ 64) (zero-add offset)))

-- Tests.

id_is : (name : List ℕ) (id : TypeId) → is_same_id (Name name) id ≡ true → Name name ≡ id
id_is name (Name other) is =
    elim (text_cases name other) [ inl same ↦ ap Name same.1 | inr apart ↦ let h = rw apart.0 at is in absurd (cc) ]
id_is name (Node file number) is = absurd (cc)

-- a member is the entry of a variable
pub record Member (t : Thin) (id : TypeId) (member : Home) : Type 0 where
  pub variable : Variable
  pub at : slice_get t.variables member.group ≡ Some variable
  pub is : Name variable.id ≡ id
  pub offset : variable.offset ≡ member.offset

abbrev MemberAt : TypeId → ℕ → List Variable → Home → Type 0
MemberAt id group vs member = (j : ℕ) × ((v : Variable) × (slice_get vs j ≡ Some v) × (Name v.id ≡ id) × (group + j ≡ member.group) × (v.offset ≡ member.offset))

member_at : (id : TypeId) (group : ℕ) (vs : List Variable) (member : Home) (members : List Home) → members_from id group (map variable_of vs) ≡ member ∷ members
    → MemberAt id group vs member
member_at id group [] member members is = absurd (cc)
member_at id group (v ∷ vs) member members is = by_id (is_same_id (Name v.id) id) refl is (member_at id (group + 1) vs member members) where
  by_id : (b : Bool) → is_same_id (Name v.id) id ≡ b
      → (if b then record { group = group; offset = v.offset } ∷ [] else []) ++ members_from id (group + 1) (map variable_of vs) ≡ member ∷ members
      → (members_from id (group + 1) (map variable_of vs) ≡ member ∷ members → MemberAt id (group + 1) vs member)
      → MemberAt id group (v ∷ vs) member
  by_id true e is others =
      let same : record { group = group; offset = v.offset } ≡ member = cc in
      (0, (v, refl, id_is v.id id e, add-zero group ∙ ap (λ (h : Home). h.group) same, ap (λ (h : Home). h.offset) same))
  by_id false e is others =
      let rest = others is in
      let next : group + suc rest.0 ≡ group + 1 + rest.0 = omega arith in
      (suc rest.0, (rest.1.0, rest.1.1, rest.1.2, next ∙ rest.1.3, rest.1.4))

member_is : (t : Thin) (id : TypeId) (member : Home) (members : List Home) → members_of (module_of t) id ≡ member ∷ members → Member t id member
member_is t id member members is =
    let found = member_at id 0 t.variables member members is in
    let same : found.0 ≡ member.group = sym (zero-add found.0) ∙ found.1.3 in
    record { variable = found.1.0; at = ap (slice_get t.variables) (sym same) ∙ found.1.1; is = found.1.2; offset = found.1.4 }

-- the extent of a variable in the source's memory
extent_is : (t : Thin) (k : ℕ) (v : Variable) → slice_get t.variables k ≡ Some v
    → extent_in (source_memory (module_of t)) (variable_at 1 k) ≡ extent_of (variable_of v)
extent_is t k v at =
    let m = module_of t in
    let space = variable_space (all_items t) 1 (variable_of v) in
    let here : slice_get (map (variable_space (all_items t) 1) m.vars) k ≡ Some space =
    slice_get-map (variable_space (all_items t) 1) m.vars k ∙ ap (option_map (variable_space (all_items t) 1)) (variable_is t k v at) in
    let found : slice_get (spaces_from (all_items t) 1 (m ∷ [])) k ≡ Some space =
    slice_get-append_left (spaces_in (all_items t) 1 m) [] k space
    (slice_get-append_left (map (variable_space (all_items t) 1) m.vars) (map function_space m.funcs) k space here) in
    ap (λ place. extent_or_none (at_place (spaces_from (all_items t) 1 (m ∷ [])) place)) (variable_place t k v at) ∙ ap extent_or_none found

carrier_at : ℕ → ℕ → carrying.Carrier
carrier_at k offset = record { object = variable_at 1 k; offset = offset }

-- the variable of this number has one entry, and so carries its identifier there and nothing else
carried_here : (t : Thin) (k : ℕ) (v : Variable) → slice_get t.variables k ≡ Some v → (id : TypeId) (offset : ℕ)
    → IsCarrier (module_of t ∷ []) id (record { object = variable_at 1 k; offset = offset }) → (v.offset ≡ offset) × (Name v.id ≡ id)
carried_here t k v at id offset c =
    let place = place_of (all_items t) c.item c.listed in
    let entries = variable_entries t place.0 c.item place.1 k v at c.object in
    let held : Contains (variable_of v).entries (record { offset = offset; id = id }) =
    subst (λ (es : List Entry). Contains es (record { offset = offset; id = id })) entries c.entry in
    let same = only (record { offset = v.offset; id = Name v.id }) (record { offset = offset; id = id }) held in
    (ap (λ (e : Entry). e.offset) same, ap (λ (e : Entry). e.id) same)

numbered_from : (group : ℕ) (vs : List Variable) (j : ℕ) (w : Variable) → slice_get vs j ≡ Some w → (n : ℕ) × (object_from group (map variable_of vs) w.name ≡ Some n)
numbered_from group [] j w is = absurd (cc)
numbered_from group (u ∷ vs) j w is = by_name (pointwise nat_eq u.name w.name) refl j is (λ k at. numbered_from (group + 1) vs k w at) where
  by_name : (b : Bool) → pointwise nat_eq u.name w.name ≡ b → (j : ℕ) → slice_get (u ∷ vs) j ≡ Some w
      → ((k : ℕ) → slice_get vs k ≡ Some w → (n : ℕ) × (object_from (group + 1) (map variable_of vs) w.name ≡ Some n))
      → (n : ℕ) × ((if b then Some group else object_from (group + 1) (map variable_of vs) w.name) ≡ Some n)
  by_name true e j is others = (group, refl)
  by_name false e zero is others =
      let same : u ≡ w = cc in
      elim (text_cases u.name w.name) [ inl equal ↦ let h = sym e ∙ equal.0 in absurd (cc) | inr other ↦ absurd (other.1 (ap (λ (x : Variable). x.name) same)) ]
  by_name false e (suc j) is others = others j is

own_number : (t : Thin) → IsAllowed t → (k : ℕ) (v : Variable) → slice_get t.variables k ≡ Some v → numbered (module_of t) v.name ≡ Some k
own_number t allowed k v at =
    let found = numbered_from 0 t.variables k v at in
    let other = numbered_variable t v.name found.0 found.1 in
    let same : found.0 ≡ k =
    pred_same found.0 k (one_place (t.name ∷ map (λ (w : Variable). w.name) t.variables) (suc found.0) (suc k) v.name allowed.globals
    (named found.0 other.0 other.1 other.2) (named k v at refl)) in
    found.1 ∙ ap Some same where
      pred_same : (i j : ℕ) → suc i ≡ suc j → i ≡ j
      pred_same i j e = omega arith

      named : (j : ℕ) (w : Variable) → slice_get t.variables j ≡ Some w → w.name ≡ v.name → slice_get (map (λ (u : Variable). u.name) t.variables) j ≡ Some v.name
      named j w at_j is = slice_get-map (λ (u : Variable). u.name) t.variables j ∙ ap (option_map (λ (u : Variable). u.name)) at_j ∙ ap Some is

carries_here : (t : Thin) → IsAllowed t → (k : ℕ) (v : Variable) → slice_get t.variables k ≡ Some v
    → IsCarrier (module_of t ∷ []) (Name v.id) (record { object = variable_at 1 k; offset = v.offset })
carries_here t allowed k v at = record {
  item = item_of_variable (variable_at 1 k) (variable_of v);
  listed = variable_item t k v at;
  object = refl;
  kept = inr (denoted_variable t v.name k (own_number t allowed k v at));
  entry = contains_at (variable_of v).entries (record { offset = v.offset; id = Name v.id }) 0 refl;
}

types_are : (t : Thin) → AreTypes (module_of t ∷ []) (types_of (module_of t))
types_are t = record { ids = refl; carriers = refl }

-- a pointer within the extent of a variable is the address of the member exactly where the variable carries the identifier there
told : (t : Thin) → IsAllowed t → (p : Placement) → IsPlaced (rewritten (module_of t)) p → (k : ℕ) (v : Variable) → slice_get t.variables k ≡ Some v
    → (id : TypeId) (member : Home) → Member t id member → (offset : ℕ) → offset < extent_of (variable_of v)
    → nat_eq ((p (group_name k) + offset) % 2 ^ 64) ((p (group_name member.group) + member.offset) % 2 ^ 64)
    ≡ has_carrier (types_of (module_of t)) id (record { object = variable_at 1 k; offset = offset })
told t allowed p placed k v at id member c offset inside =
    let has = has_carrier (types_of (module_of t)) id (record { object = variable_at 1 k; offset = offset }) in
    let tells = tells_carrier (module_of t ∷ []) (types_of (module_of t)) id (record { object = variable_at 1 k; offset = offset }) (types_are t) in
    alike (nat_eq ((p (group_name k) + offset) % 2 ^ 64) ((p (group_name member.group) + member.offset) % 2 ^ 64)) has
    (λ equal. tells.1 (there (equal_numbers _ _ equal))) (λ held. back (tells.0 held)) where
      equal_numbers : (a b : ℕ) → nat_eq a b ≡ true → a ≡ b
      equal_numbers a b e = grind (arith, nat_tests)

      numbers_equal : (a b : ℕ) → a ≡ b → nat_eq a b ≡ true
      numbers_equal a b e = grind (arith, nat_tests)

      within : member.offset < extent_of (variable_of c.variable)
      within = subst (λ o. o < extent_of (variable_of c.variable)) c.offset
          (extent_above c.variable (all_at (λ (w : Variable). w.offset ≤ 8 * w.count) t.variables member.group c.variable allowed.inside c.at))

      there : (p (group_name k) + offset) % 2 ^ 64 ≡ (p (group_name member.group) + member.offset) % 2 ^ 64
          → IsCarrier (module_of t ∷ []) id (record { object = variable_at 1 k; offset = offset })
      there equal =
          let one = one_address t allowed p placed k member.group v c.variable at c.at offset member.offset inside within equal in
          let here = carries_here t allowed member.group c.variable c.at in
          subst (λ i. IsCarrier (module_of t ∷ []) i (record { object = variable_at 1 k; offset = offset })) c.is
          (subst (λ n. IsCarrier (module_of t ∷ []) (Name c.variable.id) (record { object = variable_at 1 n; offset = offset })) (sym one.0)
          (subst (λ o. IsCarrier (module_of t ∷ []) (Name c.variable.id) (record { object = variable_at 1 member.group; offset = o })) (c.offset ∙ sym one.1) here))

      id_at : (j : ℕ) (w : Variable) → slice_get t.variables j ≡ Some w → (name : List ℕ) → w.id ≡ name → slice_get (map (λ (u : Variable). u.id) t.variables) j ≡ Some name
      id_at j w at_j name is = slice_get-map (λ (u : Variable). u.id) t.variables j ∙ ap (option_map (λ (u : Variable). u.id)) at_j ∙ ap Some is

      name_is : (one other : List ℕ) → Name one ≡ Name other → one ≡ other
      name_is one other e = cc

      back : IsCarrier (module_of t ∷ []) id (record { object = variable_at 1 k; offset = offset })
          → nat_eq ((p (group_name k) + offset) % 2 ^ 64) ((p (group_name member.group) + member.offset) % 2 ^ 64) ≡ true
      back carried =
          let here = carried_here t k v at id offset carried in
          let same_id : v.id ≡ c.variable.id = name_is v.id c.variable.id (here.1 ∙ sym c.is) in
          let same : k ≡ member.group =
          one_place (map (λ (u : Variable). u.id) t.variables) k member.group c.variable.id allowed.apart
          (id_at k v at c.variable.id same_id) (id_at member.group c.variable c.at c.variable.id refl) in
          let variable : v ≡ c.variable = (let e = subst (λ n. slice_get t.variables n ≡ Some v) same at in let other = c.at in cc) in
          let offsets : offset ≡ member.offset = sym here.0 ∙ ap (λ (w : Variable). w.offset) variable ∙ c.offset in
          numbers_equal _ _ (ap (λ n. (p (group_name n) + offset) % 2 ^ 64) same ∙ ap (λ o. (p (group_name member.group) + o) % 2 ^ 64) offsets)

module _ (t : Thin) (allowed : IsAllowed t) (addresses : List ℕ) (is_placed : IsPlaced (rewritten (module_of t)) (places t addresses)) where
  abbrev p : Placement
  p = places t addresses

  null_differs : (id : TypeId) (member : Home) → Member t id member → nat_eq 0 ((p (group_name member.group) + member.offset) % 2 ^ 64) ≡ false
  null_differs id member c =
      let stand = stand_of t allowed p is_placed member.group c.variable c.at in
      let inside : c.variable.offset < extent_of (variable_of c.variable) =
      extent_above c.variable (all_at (λ (w : Variable). w.offset ≤ 8 * w.count) t.variables member.group c.variable allowed.inside c.at) in
      not_null (p (group_name member.group)) (extent_of (variable_of c.variable)) c.variable.offset member.offset stand.some stand.within inside c.offset where
        not_null : (start extent at offset : ℕ) → 0 < start → start + extent ≤ 2 ^ 64 → at < extent → at ≡ offset → nat_eq 0 ((start + offset) % 2 ^ 64) ≡ false
        not_null start extent at offset some fits inside is = grind (arith, nat_tests)

  inside_test : (k : ℕ) (v : Variable) → slice_get t.variables k ≡ Some v → (id : TypeId) (member : Home) → Member t id member → (offset : ℕ) (b holds : Bool)
      → nat_lt offset (extent_in (source_memory (module_of t)) (variable_at 1 k)) ≡ b
      → (if b then Some (has_carrier (types_of (module_of t)) id (record { object = variable_at 1 k; offset = offset })) else None) ≡ Some holds
      → nat_eq ((p (group_name k) + offset) % 2 ^ 64) ((p (group_name member.group) + member.offset) % 2 ^ 64) ≡ holds
  inside_test k v at id member c offset true holds below is =
      let inside : offset < extent_of (variable_of v) = below_extent offset _ _ below (extent_is t k v at) in
      let same : has_carrier (types_of (module_of t)) id (record { object = variable_at 1 k; offset = offset }) ≡ holds = cc in
      told t allowed p is_placed k v at id member c offset inside ∙ same where
        below_extent : (offset extent other : ℕ) → nat_lt offset extent ≡ true → extent ≡ other → offset < other
        below_extent offset extent other below is = grind (arith, nat_tests)
  inside_test k v at id member c offset false holds below is = absurd (cc)

  test_stands : (id : TypeId) (member : Home) (members : List Home) → members_of (module_of t) id ≡ member ∷ members
      → (q : SPtr) (a : ℕ) → VariableStands t p q a → (holds : Bool) → symbolic.test (source_memory (module_of t)) id q ≡ Some holds → (file : ℕ) → file ≡ 1
      → numeric.equal (output_memory t addresses) a (numeric.address (output_memory t addresses) file (group_name member.group) member.offset) ≡ Some holds
  test_stands id member members is Null a stands holds tested file first =
      let c = member_is t id member members is in
      let answer : false ≡ holds = cc in
      rw stands (ap Some (null_differs id member c ∙ answer))
  test_stands id member members is (At object offset) a stands holds tested file first =
      let c = member_is t id member members is in
      let k = stands.0 in
      let v = stands.1.0 in
      let tested' : symbolic_test (source_memory (module_of t)) id (At (variable_at 1 k) offset) ≡ Some holds =
      ap (λ o. symbolic_test (source_memory (module_of t)) id (At o offset)) (sym stands.1.1) ∙ tested in
      ap Some (ap (λ b. nat_eq b ((p (group_name member.group) + member.offset) % 2 ^ 64)) stands.1.3
      ∙ inside_test k v stands.1.2 id member c offset (nat_lt offset (extent_in (source_memory (module_of t)) (variable_at 1 k))) holds refl tested')

  -- what the memory of the file and that of its output have in common
  pub bridge : Bridge symbolic numeric (source_memory (module_of t)) (output_memory t addresses) (VariableStands t p) (module_of t)
  bridge = record {
    null = refl;
    address = λ file file' first first' name k offset is. address_stands t addresses file file' first first' name k offset is;
    number = λ q. refl;
    test = test_stands;
  }
