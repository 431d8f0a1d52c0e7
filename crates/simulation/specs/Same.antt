-- When values, registers, events and frames of a run of the source and of a run of the output are the same, up to where
-- objects stand. `Stands p q` tells that the source's pointer p is the output's pointer q.
use Rattle.std.specs.Prelude.{◌≡◌, ℕ, Bool, List, [], ◌∷◌, Option, Some, None}
use Rattle.ir_memories.specs.declared.values.Value.{Value}
use Rattle.ir_memories.specs.declared.values.Value.TheVariants.{Int, Ptr, Pair}
use Rattle.ir_meaning.specs.declared.states.Register.{Register}
use Rattle.ir_meaning.specs.declared.states.Event.{Event}
use Rattle.ir_meaning.specs.declared.states.Frame.{Frame}
use Rattle.ir_meaning.specs.declared.states.State.{State}

module _ {P Q : Type 0} (Stands : P → Q → Type 0) where
  -- integers are equal, pointers stand for each other, and pairs are the same by parts
  abbrev pub SameValue : Value P → Value Q → Type 0
  SameValue (Int width a) (Int width' b) = (width ≡ width') × (a ≡ b)
  SameValue (Ptr p) (Ptr q) = Stands p q
  SameValue (Pair p a) (Pair q b) = Stands p q × (a ≡ b)
  SameValue _ _ = ⊥

  -- neither has a value, or both have the same
  abbrev pub SameOption : Option (Value P) → Option (Value Q) → Type 0
  SameOption None None = Unit {0}
  SameOption (Some x) (Some y) = SameValue x y
  SameOption _ _ = ⊥

  abbrev pub SameValues : List (Value P) → List (Value Q) → Type 0
  SameValues [] [] = Unit {0}
  SameValues (x ∷ xs) (y ∷ ys) = SameValue x y × SameValues xs ys
  SameValues _ _ = ⊥

  abbrev pub SameRegisters : List (Register P) → List (Register Q) → Type 0
  SameRegisters [] [] = Unit {0}
  SameRegisters (r ∷ rs) (q ∷ qs) = (r.name ≡ q.name) × SameValue r.value q.value × SameRegisters rs qs
  SameRegisters _ _ = ⊥

  pub record SameEvent (e : Event P) (g : Event Q) : Type 0 where
    pub name : e.name ≡ g.name
    pub args : SameValues e.args g.args
    pub answer : SameOption e.answer g.answer

  abbrev pub SameEvents : List (Event P) → List (Event Q) → Type 0
  SameEvents [] [] = Unit {0}
  SameEvents (e ∷ es) (g ∷ gs) = SameEvent e g × SameEvents es gs
  SameEvents _ _ = ⊥

  -- Frames of a source and of an output whose instructions stand at the same places.
  pub record SameFrame (f : Frame P) (g : Frame Q) : Type 0 where
    pub file : f.file ≡ g.file
    pub func : f.func ≡ g.func
    pub block : f.block ≡ g.block
    pub place : f.place ≡ g.place
    pub registers : SameRegisters f.registers g.registers

  -- The state of a run of the source, which began with the memory w, and that of a run of the output, which began with v, after
  -- the same number of steps. Nothing has been stored, and no frame waits.
  pub record Related {W V : Type 0} (w : W) (v : V) (s : State W P) (t : State V Q) : Type 0 where
    pub kept : s.memory ≡ w
    pub output_kept : t.memory ≡ v
    pub frame : SameFrame s.frame t.frame
    pub file : s.frame.file ≡ 1
    pub callers : s.callers ≡ []
    pub output_callers : t.callers ≡ []
    pub taken : s.taken ≡ t.taken
    pub events : SameEvents s.events t.events
    pub status : s.status ≡ t.status
    pub result : SameOption s.result t.result
