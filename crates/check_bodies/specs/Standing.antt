-- Where a unit stands: outside all bodies, or at a spot of one.
-- Source: LLVM Language Reference, "Functions" and "Identifiers". Differs: units that are left out are no instructions.
use Rattle.std.specs.Prelude.{ℕ, ◌+◌, Bool, true, false, ◌&&◌, ◌||◌, cond, is_some, List, [], ◌∷◌, take}
use Rattle.ltt_base.specs.declared.refusal.Placed.{Placed}
use Rattle.ir_values.specs.declared.units.Unit.{Unit}
use Rattle.ir_values.specs.declared.units.Param.{Param}
use Rattle.ir_values.specs.declared.units.Form.{Form}
use Rattle.ir_values.specs.declared.units.Form.TheVariants as form
use Rattle.check_bodies.specs.declared.sorts.Sort.{Sort}
use Rattle.check_bodies.specs.declared.sorts.Sort.TheVariants.{Head, Label, Close, Phi, Plain, Terminator, Left, Outer}
use Rattle.check_bodies.specs.declared.standing.Stage.{Stage}
use Rattle.check_bodies.specs.declared.standing.Stage.TheVariants.{Between, Labelled, Open}
use Rattle.check_bodies.specs.declared.standing.Spot.{Spot}
use Rattle.check_bodies.specs.declared.standing.Standing.{Standing}
use Rattle.check_bodies.specs.declared.standing.Standing.TheVariants.{Outside, Inside}
use Rattle.check_bodies.specs.Sorts.{sort_of, written_name, has_result}
use Rattle.check_bodies.specs.Numbers.{up, behind_name, behind_parameters}

-- a block has begun and isn't ended
abbrev pub is_begun : Stage → Bool
is_begun Between = false
is_begun Labelled = true
is_begun Open = true

-- behind the head at a place
abbrev pub entered : ℕ → List Param → Spot
entered at params = record {
  head = at;
  next = behind_parameters 0 params;
  stage = Between;
  start = at;
  number = 0;
  only_phis = true;
  count = 0;
  any = false;
}

-- behind a label
abbrev pub labelled : ℕ → Spot → Form → Spot
labelled at spot label = record spot {
  next = behind_name spot.next (written_name label);
  stage = Labelled;
  start = at;
  only_phis = true;
  count = 0;
}

-- where an instruction stands: one outside a block begins a block, whose label is the next number
abbrev pub opened : ℕ → Spot → Spot
opened at spot = cond (is_begun spot.stage) spot (record spot {
  next = up spot.next;
  stage = Open;
  start = at;
  number = spot.next;
  only_phis = true;
  count = 0;
})

abbrev pub is_phi : Sort → Bool
is_phi Phi = true
is_phi _ = false

abbrev pub stage_behind : Sort → Stage
stage_behind Terminator = Between
stage_behind _ = Open

-- the instruction has a result
abbrev pub is_named : Form → Bool
is_named form = is_some (written_name form) || has_result form

abbrev pub next_behind : ℕ → Form → ℕ
next_behind next form = cond (is_named form) (behind_name next (written_name form)) next

-- behind an instruction that stands at a spot of a block
abbrev pub passed : Spot → Sort → Form → Spot
passed spot sort form = record spot {
  next = next_behind spot.next form;
  stage = stage_behind sort;
  only_phis = spot.only_phis && is_phi sort;
  count = up spot.count;
  any = true;
}

abbrev pub after_inside : ℕ → Spot → Sort → Form → Standing
after_inside at spot Close form = Outside
after_inside at spot Label form = Inside (labelled at spot form)
after_inside at spot Phi form = Inside (passed (opened at spot) Phi form)
after_inside at spot Plain form = Inside (passed (opened at spot) Plain form)
after_inside at spot Terminator form = Inside (passed (opened at spot) Terminator form)
after_inside at spot _ form = Inside spot

abbrev pub after_outside : ℕ → Form → Standing
after_outside at (form.DefineForm head) = Inside (entered at head.params)
after_outside at _ = Outside

-- where the unit behind the one at a place stands; a head in a body opens none
abbrev pub after : ℕ → Standing → Form → Standing
after at Outside form = after_outside at form
after at (Inside spot) form = after_inside at spot (sort_of form) form

-- where the unit behind some stands, the first of them at a place
unfoldable pub behind : ℕ → Standing → List (Placed Unit) → Standing
behind at standing [] = standing
behind at standing (u ∷ us) = behind (at + 1) (after at standing u.value.form) us

-- where the unit at a place stands
unfoldable pub standing : List (Placed Unit) → ℕ → Standing
standing us at = behind 0 Outside (take at us)
