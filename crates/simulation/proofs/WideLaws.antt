-- What is the same for one relation of pointers is the same for a wider one.
use Rattle.std.proofs.Common.{◌≡◌, ℕ, List, [], ◌∷◌, Option, Some, None, refl}
use Rattle.ir_memories.specs.declared.values.Value.{Value}
use Rattle.ir_memories.specs.declared.values.Value.TheVariants.{Int, Ptr, Pair}
use Rattle.ir_meaning.specs.declared.states.Event.{Event}
use Rattle.simulation.specs.Same.{SameValue, SameOption, SameValues, SameEvent, SameEvents}

module _ {P Q : Type 0} (R S : P → Q → Type 0) (wider : (p : P) (q : Q) → R p q → S p q) where
  value_wider : (x : Value P) (y : Value Q) → SameValue R x y → SameValue S x y
  value_wider (Int width a) (Int width' b) same = same
  value_wider (Int width a) (Ptr q) same = absurd same
  value_wider (Int width a) (Pair q b) same = absurd same
  value_wider (Ptr p) (Int width b) same = absurd same
  value_wider (Ptr p) (Ptr q) same = wider p q same
  value_wider (Ptr p) (Pair q b) same = absurd same
  value_wider (Pair p a) (Int width b) same = absurd same
  value_wider (Pair p a) (Ptr q) same = absurd same
  value_wider (Pair p a) (Pair q b) same = (wider p q same.0, same.1)

  pub option_wider : (x : Option (Value P)) (y : Option (Value Q)) → SameOption R x y → SameOption S x y
  option_wider None None same = tt
  option_wider None (Some y) same = absurd same
  option_wider (Some x) None same = absurd same
  option_wider (Some x) (Some y) same = value_wider x y same

  values_wider : (xs : List (Value P)) (ys : List (Value Q)) → SameValues R xs ys → SameValues S xs ys
  values_wider [] [] same = tt
  values_wider [] (y ∷ ys) same = absurd same
  values_wider (x ∷ xs) [] same = absurd same
  values_wider (x ∷ xs) (y ∷ ys) same = (value_wider x y same.0, values_wider xs ys same.1)

  event_wider : (e : Event P) (g : Event Q) → SameEvent R e g → SameEvent S e g
  event_wider e g same = record {
    name = same.name;
    args = values_wider e.args g.args same.args;
    answer = option_wider e.answer g.answer same.answer;
  }

  pub events_wider : (es : List (Event P)) (gs : List (Event Q)) → SameEvents R es gs → SameEvents S es gs
  events_wider [] [] same = tt
  events_wider [] (g ∷ gs) same = absurd same
  events_wider (e ∷ es) [] same = absurd same
  events_wider (e ∷ es) (g ∷ gs) same = (event_wider e g same.0, events_wider es gs same.1)
