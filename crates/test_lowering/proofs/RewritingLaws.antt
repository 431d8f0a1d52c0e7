-- The rewriting of a thin file, step by step.
use Rattle.std.proofs.Common.{◌≡◌, ℕ, ◌+◌, ◌-◌, ◌*◌, ◌<◌, ◌≤◌, Bool, true, false, List, [], ◌∷◌, ◌++◌, refl, sym, ap, ◌∙◌, arith, zero, suc, map, Some, inl, inr, add-zero, add-one, max, zero-add, length, take, drop, drop-cons, get_or}
use Rattle.std.specs.List.{flat_map}
use Rattle.std.proofs.lemmas.Bool.Decides.{nat_tests}
use Rattle.std.specs.Prelude.{nat_le, if◌then◌else◌, ◌||◌, codes}
use Rattle.ir_values.specs.declared.types.Width.TheVariants.{W1}
use Rattle.ir_values.specs.declared.types.Ty as ty
use Rattle.ir_values.specs.declared.constants.Operand as operand
use Rattle.ir_values.specs.declared.constants.Operand.{Operand}
use Rattle.ir_values.specs.declared.constants.Const as const
use Rattle.ir_values.specs.declared.instructions.Inst.{Inst}
use Rattle.ir_values.specs.declared.instructions.Inst.TheVariants.{Ret}
use Rattle.ir_values.specs.declared.modules.TypeId.TheVariants.{Name}
use Rattle.ir_values.specs.declared.modules.Linkage.TheVariants.{Private}
use Rattle.thin_files.specs.declared.thin.Thin.{Thin}
use Rattle.thin_files.specs.declared.thin.Variable.{Variable}
use Rattle.thin_files.specs.declared.thin.Second.{Second}
use Rattle.thin_files.specs.Thin.{IsAllowed, CarriesAt, module_of, variable_of, function_of, tested_block, address_of, second_function, words_type}
use Rattle.ir_numbers.specs.Layout.{Layout}
use Rattle.test_lowering.specs.Rewriting.{Home, doubled_to, pad, gap_of, gap_types, combined, combined_from, group_name, no_place, members_of, test_shape, object_from, rewritten_operand, rewritten_inst, rewritten_func}
use Rattle.test_lowering.proofs.SizeLaws.{size-words, pad-reaches}
use Rattle.test_lowering.proofs.ExactLaws.{Carrier, member_of}
use Rattle.test_lowering.proofs.PlaceLaws.{text_cases}

pub doubled-done : (left p n : ℕ) → n ≤ p → doubled_to left p n ≡ p
unfolding doubled_to
doubled-done zero p n reached = refl
doubled-done (suc left) p n reached = grind (arith, nat_tests)

pub doubled-next : (left p n : ℕ) → p < n → doubled_to (suc left) p n ≡ doubled_to left (2 * p) n
unfolding doubled_to
doubled-next left p n below = grind (arith, nat_tests)

-- the words' size and alignment in what the code computes
pub gap-variable : (v : Variable) → gap_of (variable_of v)
    ≡ pad (if nat_le (v.count * 8) v.offset then v.count * 8 + 1 else v.count * 8) - v.count * 8
gap-variable v = ap (λ (l : Layout). pad (if nat_le l.size v.offset || false then l.size + 1 else l.size) - l.size) (size-words v.count) ∙ tidy (nat_le (v.count * 8) v.offset) where
  tidy : (at_end : Bool) → pad (if at_end || false then v.count * 8 + 1 else v.count * 8) - v.count * 8
      ≡ pad (if at_end then v.count * 8 + 1 else v.count * 8) - v.count * 8
  tidy true = refl
  tidy false = refl

pub combined-variable : (group : ℕ) (v : Variable) → combined group (variable_of v) ≡ record {
  place = no_place;
  name = group_name group;
  linkage = Private;
  constant = true;
  ty = ty.Struct (words_type v.count ∷ gap_types (gap_of (variable_of v)));
  init = Some (const.Zero (ty.Struct (words_type v.count ∷ gap_types (gap_of (variable_of v)))));
  align = 8;
  entries = [];
  visibility = 0;
}
combined-variable group v = ap (λ (l : Layout). record {
  place = no_place;
  name = group_name group;
  linkage = Private;
  constant = true;
  ty = ty.Struct (words_type v.count ∷ gap_types (gap_of (variable_of v)));
  init = Some (const.Zero (ty.Struct (words_type v.count ∷ gap_types (gap_of (variable_of v)))));
  align = max 1 l.align;
  entries = [];
  visibility = 0;
}) (size-words v.count)

-- a test and a return, lowered
pub lowered-block : (t : Thin) → IsAllowed t → (register : List ℕ) (pointer : Operand) (tested : List ℕ) (number offset : ℕ)
    → CarriesAt t.variables tested number offset
    → flat_map (rewritten_inst (module_of t)) (tested_block register pointer tested).insts
    ≡ test_shape (record { group = number; offset = offset } ∷ []) register (rewritten_operand (module_of t) pointer)
    ++ Ret (ty.Int W1) (Some (operand.Reg register)) ∷ []
lowered-block t allowed register pointer tested number offset carries =
    let c : Carrier t tested = record { number = number; variable = carries.0; at = carries.1; is = carries.2 } in
    let members : members_of (module_of t) (Name tested) ≡ record { group = number; offset = offset } ∷ [] =
    member_of t tested allowed c ∙ ap (λ (o : ℕ). record { group = number; offset = o } ∷ []) carries.3 in
    ap (λ (homes : List Home). test_shape homes register (rewritten_operand (module_of t) pointer) ++ (Ret (ty.Int W1) (Some (operand.Reg register)) ∷ [])) members

pub lowered-function : (t : Thin) → IsAllowed t → (number offset : ℕ) → CarriesAt t.variables t.tested number offset
    → record (function_of t) {
      blocks = record {
        label = codes "0";
        insts = test_shape (record { group = number; offset = offset } ∷ []) t.register (operand.Reg t.pointer)
            ++ Ret (ty.Int W1) (Some (operand.Reg t.register)) ∷ [];
      } ∷ [];
    }
    ≡ rewritten_func (module_of t) (function_of t)
lowered-function t allowed number offset carries =
    ap (λ (insts : List Inst). record (function_of t) { blocks = record { label = codes "0"; insts = insts } ∷ [] })
    (sym (lowered-block t allowed t.register (operand.Reg t.pointer) t.tested number offset carries))

pub lowered-second : (t : Thin) → IsAllowed t → (s : Second) (number offset : ℕ) → CarriesAt t.variables s.tested number offset
    → record (second_function s) {
      blocks = record {
        label = codes "0";
        insts = test_shape (record { group = number; offset = offset } ∷ []) s.register (rewritten_operand (module_of t) (address_of s))
            ++ Ret (ty.Int W1) (Some (operand.Reg s.register)) ∷ [];
      } ∷ [];
    }
    ≡ rewritten_func (module_of t) (second_function s)
lowered-second t allowed s number offset carries =
    ap (λ (insts : List Inst). record (second_function s) { blocks = record { label = codes "0"; insts = insts } ∷ [] })
    (sym (lowered-block t allowed s.register (address_of s) s.tested number offset carries))

-- the same for what the code makes
pub function-made : (t : Thin) → IsAllowed t → (number offset : ℕ) → CarriesAt t.variables t.tested number offset
    → (pointer : Operand) → pointer ≡ operand.Reg t.pointer
    → (insts : List Inst) → insts ≡ test_shape (record { group = number; offset = offset } ∷ []) t.register pointer
    ++ Ret (ty.Int W1) (Some (operand.Reg t.register)) ∷ []
    → record (function_of t) { blocks = record { label = codes "0"; insts = insts } ∷ [] } ≡ rewritten_func (module_of t) (function_of t)
function-made t allowed number offset carries pointer is insts made =
    ap (λ (body : List Inst). record (function_of t) { blocks = record { label = codes "0"; insts = body } ∷ [] })
    (made ∙ ap (λ (tested : Operand). test_shape (record { group = number; offset = offset } ∷ []) t.register tested
    ++ (Ret (ty.Int W1) (Some (operand.Reg t.register)) ∷ [])) is)
    ∙ lowered-function t allowed number offset carries

pub second-made : (t : Thin) → IsAllowed t → (s : Second) (number offset : ℕ) → CarriesAt t.variables s.tested number offset
    → (pointer : Operand) → pointer ≡ rewritten_operand (module_of t) (address_of s)
    → (insts : List Inst) → insts ≡ test_shape (record { group = number; offset = offset } ∷ []) s.register pointer
    ++ Ret (ty.Int W1) (Some (operand.Reg s.register)) ∷ []
    → record (second_function s) { blocks = record { label = codes "0"; insts = insts } ∷ [] } ≡ rewritten_func (module_of t) (second_function s)
second-made t allowed s number offset carries pointer is insts made =
    ap (λ (body : List Inst). record (second_function s) { blocks = record { label = codes "0"; insts = body } ∷ [] })
    (made ∙ ap (λ (tested : Operand). test_shape (record { group = number; offset = offset } ∷ []) s.register tested
    ++ (Ret (ty.Int W1) (Some (operand.Reg s.register)) ∷ [])) is)
    ∙ lowered-second t allowed s number offset carries

-- the first variable of a name, from a place on

pub object-here : (variables : List Variable) (k object : ℕ) (name : List ℕ) (v : Variable) → k < length variables → v ≡ get_or variables k v
    → v.name ≡ name → object_from object (map variable_of (drop k variables)) name ≡ Some object
object-here variables k object name v within is same =
    let first : drop k variables ≡ v ∷ drop (k + 1) variables =
    drop-cons variables k v within ∙ ap (λ w. w ∷ drop (suc k) variables) (sym is) ∙ ap (λ n. v ∷ drop n variables) (sym (add-one k)) in
    elim (text_cases v.name name) [
      | inl equal ↦ rw (first, equal.0) refl
      | inr other ↦ absurd (other.1 same)
    ]

pub object-next : (variables : List Variable) (k object : ℕ) (name : List ℕ) (v : Variable) → k < length variables → v ≡ get_or variables k v
    → (v.name ≡ name → ⊥) → object_from object (map variable_of (drop k variables)) name
    ≡ object_from (object + 1) (map variable_of (drop (k + 1) variables)) name
object-next variables k object name v within is differs =
    let first : drop k variables ≡ v ∷ drop (k + 1) variables =
    drop-cons variables k v within ∙ ap (λ w. w ∷ drop (suc k) variables) (sym is) ∙ ap (λ n. v ∷ drop n variables) (sym (add-one k)) in
    elim (text_cases v.name name) [
      | inl equal ↦ absurd (differs equal.1)
      | inr other ↦ rw (first, other.0) refl
    ]

-- one more combined variable
next_from : (group : ℕ) (vars : List Variable) (k : ℕ) (v : Variable) → k < length vars → get_or vars k v ≡ v
    → combined_from group (map variable_of (take (suc k) vars))
    ≡ combined_from group (map variable_of (take k vars)) ++ combined (group + k) (variable_of v) ∷ []
next_from group [] k v within is = absurd (omega arith)
next_from group (w ∷ vars) zero v within is = rw (is, add-zero) refl
next_from group (w ∷ vars) (suc k) v within is =
    let e : group + 1 + k ≡ group + suc k = omega arith in
    ap (λ rest. combined group (variable_of w) ∷ rest) (next_from (group + 1) vars k v (omega arith) is
    ∙ ap (λ g. combined_from (group + 1) (map variable_of (take k vars)) ++ combined g (variable_of v) ∷ []) e)

pub combined-next : (vars : List Variable) (k : ℕ) (v : Variable) → k < length vars → v ≡ get_or vars k v
    → combined_from 0 (map variable_of (take (k + 1) vars))
    ≡ combined_from 0 (map variable_of (take k vars)) ++ combined k (variable_of v) ∷ []
combined-next vars k v within is =
    ap (λ n. combined_from 0 (map variable_of (take n vars))) (add-one k) ∙ next_from 0 vars k v within (sym is)
    ∙ ap (λ g. combined_from 0 (map variable_of (take k vars)) ++ combined g (variable_of v) ∷ []) (zero-add k)

-- a turn of the loop that doubles
pub doubled-step : (turn p n whole : ℕ) → turn < 64 → p < n → doubled_to (64 - turn) p n ≡ whole → doubled_to (64 - (turn + 1)) (p * 2) n ≡ whole
doubled-step turn p n whole within below so_far =
    let one_less : 64 - turn ≡ suc (64 - (turn + 1)) = omega arith in
    let twice : p * 2 ≡ 2 * p = omega arith in
    ap (λ q. doubled_to (64 - (turn + 1)) q n) twice ∙ sym (doubled-next (64 - (turn + 1)) p n below)
    ∙ ap (λ left. doubled_to left p n) (sym one_less) ∙ so_far

pub doubled-end : (turn p n whole : ℕ) → 64 ≤ turn → doubled_to (64 - turn) p n ≡ whole → p ≡ whole
unfolding doubled_to
doubled-end turn p n whole past so_far =
    let none_left : 64 - turn ≡ 0 = omega arith in
    ap (λ left. doubled_to left p n) (sym none_left) ∙ so_far

-- the words of a variable lie in its slot
pub words-in-slot : (v : Variable) → v.count ≤ 1000 → v.count * 8 ≤ pad (if nat_le (v.count * 8) v.offset then v.count * 8 + 1 else v.count * 8)
words-in-slot v few = by_end (nat_le (v.count * 8) v.offset) where
  by_end : (at_end : Bool) → v.count * 8 ≤ pad (if at_end then v.count * 8 + 1 else v.count * 8)
  by_end true = let reached = pad-reaches (v.count * 8 + 1) (omega arith) in omega arith
  by_end false = pad-reaches (v.count * 8) (omega arith)
