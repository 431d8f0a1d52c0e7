-- What an operand holds in the output, where it holds something in the source.
use Rattle.std.proofs.Common.{◌≡◌, ℕ, ◌+◌, Bool, true, false, zero, suc, List, [], ◌∷◌, Option, Some, None, refl, sym, ap, subst, ◌∙◌}
use Rattle.std.specs.Prelude.{if◌then◌else◌, nat_eq, ◌%◌, ◌^◌}
use Rattle.std.specs.Option.{option_map}
use Rattle.std.specs.Cmp.Lexicographic.{pointwise}
use Rattle.ir_values.specs.declared.types.Ty as ty
use Rattle.ir_values.specs.declared.constants.Operand as operand
use Rattle.ir_values.specs.declared.constants.Operand.{Operand}
use Rattle.ir_values.specs.declared.constants.Const as const
use Rattle.ir_values.specs.declared.constants.Const.{Const}
use Rattle.ir_values.specs.declared.modules.TypeId.{TypeId}
use Rattle.ir_values.specs.declared.modules.Module.{Module}
use Rattle.ir_memories.specs.Model.{Model}
use Rattle.ir_memories.specs.declared.values.Value.{Value}
use Rattle.ir_memories.specs.declared.values.Value.TheVariants.{Int, Ptr, Pair}
use Rattle.ir_meaning.specs.declared.states.Register.{Register}
use Rattle.ir_meaning.specs.declared.states.Frame.{Frame}
use Rattle.ir_meaning.specs.Registers.{is_named, get, put}
use Rattle.ir_meaning.specs.Operands.{value_of, pointer_of, pointer}
use Rattle.ir_meaning.specs.Sequence.{◌>>=◌}
use Rattle.test_lowering.specs.Rewriting.{Home, home_of, object_of, group_name, address_in, members_of, rewritten_operand}
use Rattle.simulation.specs.Same.{SameValue, SameOption, SameRegisters, SameFrame}
use Rattle.simulation.proofs.Following.{Followed, in_turn}

-- What the two memories have in common, for the module M and its rewriting.
pub record Bridge {W V P Q : Type 0} (m : Model W P) (n : Model V Q) (w : W) (v : V) (Stands : P → Q → Type 0) (M : Module) : Type 0 where
  pub null : Stands m.null n.null
  -- the address of a variable is its home's
  pub address : (file file' : ℕ) → file ≡ 1 → file' ≡ 1 → (name : List ℕ) (object offset : ℕ) → object_of M name ≡ Some object
      → Stands (m.address w file name offset) (n.address v file' (group_name (home_of object).group) ((home_of object).offset + offset))
  -- pointers of the source have no numbers
  pub number : (p : P) → m.number w p ≡ None
  -- a test of the source is the comparison with the address of the identifier's member
  pub test : (id : TypeId) (member : Home) (members : List Home) → members_of M id ≡ member ∷ members
      → (p : P) (q : Q) → Stands p q → (holds : Bool) → m.test w id p ≡ Some holds → (file : ℕ) → file ≡ 1
      → n.equal v q (n.address v file (group_name member.group) member.offset) ≡ Some holds

-- the operand names no object but variables of the module
abbrev pub IsKnown : Module → Operand → Type 0
IsKnown M (operand.Const (const.Addr name offset)) = (object : ℕ) × (object_of M name ≡ Some object)
IsKnown M _ = Unit {0}

module _ {P Q : Type 0} (Stands : P → Q → Type 0) where
  pick_value : (b c : Bool) → b ≡ c → (x : Option (Value P)) (y : Option (Value Q)) → SameOption Stands x y
      → (o : Option (Value P)) (p : Option (Value Q)) → SameOption Stands o p
      → SameOption Stands (if b then x else o) (if c then y else p)
  pick_value true true e x y same o p others = same
  pick_value false false e x y same o p others = others
  pick_value true false e x y same o p others = cc
  pick_value false true e x y same o p others = cc

  pub same_get : (rs : List (Register P)) (qs : List (Register Q)) (name : List ℕ) → SameRegisters Stands rs qs
      → SameOption Stands (get rs name) (get qs name)
  same_get [] [] name same = tt
  same_get [] (q ∷ qs) name same = absurd same
  same_get (r ∷ rs) [] name same = absurd same
  same_get (r ∷ rs) (q ∷ qs) name same =
      pick_value (is_named name r) (is_named name q) (ap (λ (n : List ℕ). pointwise nat_eq n name) same.0)
      (Some r.value) (Some q.value) same.1 (get rs name) (get qs name) (same_get rs qs name same.2)

  pick_registers : (b c : Bool) → b ≡ c → (xs : List (Register P)) (ys : List (Register Q)) → SameRegisters Stands xs ys
      → (os : List (Register P)) (ps : List (Register Q)) → SameRegisters Stands os ps
      → SameRegisters Stands (if b then xs else os) (if c then ys else ps)
  pick_registers true true e xs ys same os ps others = same
  pick_registers false false e xs ys same os ps others = others
  pick_registers true false e xs ys same os ps others = cc
  pick_registers false true e xs ys same os ps others = cc

  pub same_put : (rs : List (Register P)) (qs : List (Register Q)) (name : List ℕ) (x : Value P) (y : Value Q) → SameRegisters Stands rs qs
      → SameValue Stands x y → SameRegisters Stands (put rs name x) (put qs name y)
  same_put [] [] name x y same value = (refl, value, tt)
  same_put [] (q ∷ qs) name x y same value = absurd same
  same_put (r ∷ rs) [] name x y same value = absurd same
  same_put (r ∷ rs) (q ∷ qs) name x y same value =
      pick_registers (is_named name r) (is_named name q) (ap (λ (n : List ℕ). pointwise nat_eq n name) same.0)
      (record r { value = x } ∷ rs) (record q { value = y } ∷ qs) (same.0, value, same.2)
      (r ∷ put rs name x) (q ∷ put qs name y) (same.0, same.1, same_put rs qs name x y same.2 value)

  pub option_followed : (o : Option (Value P)) (p : Option (Value Q)) → SameOption Stands o p → Followed (SameValue Stands) o p
  option_followed None p same = tt
  option_followed (Some x) None same = absurd same
  option_followed (Some x) (Some y) same = same

  pub pointer_same : (x : Value P) (y : Value Q) → SameValue Stands x y → Followed Stands (pointer x) (pointer y)
  pointer_same (Int width a) y same = tt
  pointer_same (Ptr p) (Int width b) same = absurd same
  pointer_same (Ptr p) (Ptr q) same = same
  pointer_same (Ptr p) (Pair q b) same = absurd same
  pointer_same (Pair p a) y same = tt

module _ {W V P Q : Type 0} (m : Model W P) (n : Model V Q) (w : W) (v : V) (Stands : P → Q → Type 0) (M : Module) (b : Bridge m n w v Stands M) where
  address_followed : (f : Frame P) (g : Frame Q) → f.file ≡ 1 → g.file ≡ 1 → (name : List ℕ) (offset object : ℕ) → object_of M name ≡ Some object
      → Followed (SameValue Stands) (value_of m w f (operand.Const (const.Addr name offset)))
      (value_of n v g (operand.Const (address_in (Some object) name offset)))
  unfolding operand.out-Operand denote.Hole.Carrier.out const.out-Const
  address_followed f g first first' name offset object is = b.address f.file g.file first first' name object offset is

  constant_followed : (f : Frame P) (g : Frame Q) → f.file ≡ 1 → g.file ≡ 1 → (c : Const) → IsKnown M (operand.Const c)
      → Followed (SameValue Stands) (value_of m w f (operand.Const c)) (value_of n v g (rewritten_operand M (operand.Const c)))
  unfolding operand.out-Operand denote.Hole.Carrier.out const.out-Const
  constant_followed f g first first' (const.Int width k) known = (refl, refl)
  constant_followed f g first first' const.Null known = b.null
  constant_followed f g first first' (const.Addr name offset) known =
      rw known.1 (address_followed f g first first' name offset known.0 known.1)
  constant_followed f g first first' (const.Number name offset) known = rw (b.number (m.address w f.file name offset)) tt
  constant_followed f g first first' _ known = tt

  pub value_followed : (f : Frame P) (g : Frame Q) → f.file ≡ 1 → SameFrame Stands f g → (o : Operand) → IsKnown M o
      → Followed (SameValue Stands) (value_of m w f o) (value_of n v g (rewritten_operand M o))
  unfolding operand.out-Operand denote.Hole.Carrier.out
  value_followed f g first same (operand.Reg name) known =
      option_followed Stands (get f.registers name) (get g.registers name) (same_get Stands f.registers g.registers name same.registers)
  value_followed f g first same (operand.Const c) known = constant_followed f g first (sym same.file ∙ first) c known

  pub pointer_followed : (f : Frame P) (g : Frame Q) → f.file ≡ 1 → SameFrame Stands f g → (o : Operand) → IsKnown M o
      → Followed Stands (pointer_of m w f o) (pointer_of n v g (rewritten_operand M o))
  pointer_followed f g first same o known =
      in_turn (SameValue Stands) Stands (value_of m w f o) (value_of n v g (rewritten_operand M o)) pointer pointer
      (value_followed f g first same o known) (pointer_same Stands)
