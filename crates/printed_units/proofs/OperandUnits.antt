-- The tokens of printed names, operands and labels are texts that say them.
use Rattle.std.proofs.Common.{◌≡◌, ℕ, List, [], ◌∷◌, refl, ap}
use Rattle.ir_lex.specs.declared.token.Kind.TheVariants.{Global, Local}
use Rattle.ir_values.specs.declared.types.Ty.{Ty}
use Rattle.ir_values.specs.declared.types.Ty.TheVariants as ty
use Rattle.ir_values.specs.declared.constants.Operand.{Operand}
use Rattle.ir_values.specs.declared.constants.Operand.TheVariants as operand
use Rattle.unit_grammar.specs.Signs.{of_kind, name}
use Rattle.unit_grammar.specs.Grammar.{token}
use Rattle.instruction_grammar.specs.Operands.{operand_at, register, fixed, value, typed_value, next_typed_value, pointer, target, next_target}
use Rattle.printed_tokens.specs.Looks.{seen_of}
use Rattle.printed_tokens.proofs.AtomLemmas.{seen_of_append}
use Rattle.printed_units.specs.Written.{IsName, IsTy, IsOperand}
use Rattle.printed_units.specs.Said.{operand_said}
use Rattle.printed_units.specs.Printing.{global, local, ty_atoms, operand_atoms, typed_atoms, target_atoms, behind_comma}
use Rattle.printed_units.proofs.ValueLemmas.{global_named, local_named}
use Rattle.printed_units.proofs.WrittenLemmas.{ptr_atoms}
use Rattle.printed_units.proofs.ShowLemmas.{Shows, token_shows, skip_shows, both_show, mapped_shows, left_shows, right_shows}
use Rattle.printed_units.proofs.TypeUnits.{ty_shows}
use Rattle.printed_units.proofs.ConstUnits.{const_shows}

pub global_shows : (own : List ℕ) → IsName own → Shows (token (of_kind Global) (name Global)) (seen_of (global own ∷ [])) (λ a. a ≡ own)
global_shows own is = token_shows refl (λ t e. global_named t own is e)

pub local_shows : (own : List ℕ) → IsName own → Shows (token (of_kind Local) (name Local)) (seen_of (local own ∷ [])) (λ a. a ≡ own)
local_shows own is = token_shows refl (λ t e. local_named t own is e)

-- values

pub value_shows : (type : Ty) (v : Operand) → IsOperand type v →
    Shows value (seen_of (operand_atoms type v)) (λ a. operand_at type a ≡ operand_said type v)
unfolding value register fixed
value_shows type (operand.Reg own) is = left_shows (token_shows refl (λ t e. ap operand.Reg (local_named t own is e)))
value_shows type (operand.Const constant) is =
    right_shows (mapped_shows (λ b same. ap operand.Const same) (const_shows type constant is))

pub typed_shows : (type : Ty) (v : Operand) → IsTy type → IsOperand type v →
    Shows typed_value (seen_of (typed_atoms type v)) (λ a. a ≡ (type, operand_said type v))
unfolding typed_value
typed_shows type v is valued =
    mapped_shows (λ x has. rw (has.0, has.1) refl)
    (both_show (seen_of_append (ty_atoms type) _) (ty_shows type is) (value_shows type v valued))

pub next_typed_shows : (type : Ty) (v : Operand) → IsTy type → IsOperand type v →
    Shows next_typed_value (seen_of (behind_comma (typed_atoms type v))) (λ a. a ≡ (type, operand_said type v))
unfolding next_typed_value
next_typed_shows type v is valued = skip_shows refl (typed_shows type v is valued)

pub pointer_shows : (v : Operand) → IsOperand ty.Ptr v → Shows pointer (seen_of (typed_atoms ty.Ptr v)) (λ a. a ≡ operand_said ty.Ptr v)
unfolding pointer
pointer_shows v is = rw ptr_atoms (mapped_shows (λ a same. same) (skip_shows refl (value_shows ty.Ptr v is)))

-- labels

pub target_shows : (own : List ℕ) → IsName own → Shows target (seen_of (target_atoms own)) (λ a. a ≡ own)
unfolding target
target_shows own is = skip_shows refl (local_shows own is)

pub next_target_shows : (own : List ℕ) → IsName own → Shows next_target (seen_of (behind_comma (target_atoms own))) (λ a. a ≡ own)
unfolding next_target
next_target_shows own is = skip_shows refl (target_shows own is)
