use Rattle.std.proofs.Common.{◌≡◌, ◌+◌, ◌++◌, ◌∷◌, [], List, ℕ, Bool, Option, sym, ap, subst, ◌∙◌}
use Rattle.std.specs.Map.{values_of, keys_of}
use Rattle.std.specs.BTreeSet.{contains}
use Rattle.std.specs.Ordering.{nat_cmp}
use Rattle.std.specs.List.Sorted.{IsStrictlySortedBy}
use Rattle.global_layout.specs.Owners.{owner_in, number_by, Owns, joined, rest, unowned, AreLabelled, IsLabel}
use Rattle.global_layout.proofs.OwnerLaws.{step-is}
use Rattle.global_layout.proofs.OwnsLaws.{owns-after, whole-is, inserted}
use Rattle.global_layout.proofs.LabelLaws.{label-fits, unowned-by, next-numbered, put-whole, number-after, labelled-after}
use Rattle.global_layout.proofs.fragments.with_id.Goals as goal

pub number_next-requires : goal.number_next-requires
number_next-requires c =
    let before = c.args.owners.now in
    let p : ℕ → Bool = contains nat_cmp c.in_ok-numbers.numbers in
    label-fits before.labels.items before.numbers.items before.names.items c.args.number c.args.live.now.entries c.args.objects.now p
    c.requires.owns c.requires.labelled c.in_ok-numbers.ensures c.in_ok-joint.joint.label
    (subst (λ (ns : List ℕ). IsLabel p ns c.args.number c.in_ok-joint.joint.label) c.as_slice-names.ensures.value c.in_ok-joint.ensures.label)

pub returns-in-Ok-clause-step : goal.returns-in-Ok-clause-step
returns-in-Ok-clause-step c =
    let p : ℕ → Bool = contains nat_cmp c.in_ok-numbers.numbers in
    let labels : List (Option ℕ) = c.args.owners.now.labels.items in
    let owner : ℕ → Option ℕ = number_by labels c.args.owners.now.numbers.items in
    let entries : List (ℕ × List ℕ) = c.args.live.now.entries in
    let own : List ℕ = unowned owner c.args.objects.now in
    let others : c.in_ok-others.others ≡ own =
    c.in_ok-others.ensures ∙ ap (λ (ls : List (Option ℕ)). unowned (owner_in ls) c.args.objects.now) c.as_slice.ensures.value
    ∙ unowned-by labels c.args.owners.now.numbers.items c.args.objects.now in
    let whole : c.in_ok-fragment.fragment ≡ joined p entries ++ own =
    whole-is p entries c.in_ok-joint.joint.objects c.in_ok-others.others own c.in_ok-fragment.fragment c.in_ok-joint.ensures.joined others c.in_ok-fragment.ensures in
    ap values_of (inserted p c.args.number entries c.joined.new.live.entries c.insert.new.self.entries c.in_ok-fragment.fragment (joined p entries ++ own)
    c.requires.owns.low c.in_ok-joint.ensures.rest whole c.in-Ok.ensures.entries)
    ∙ step-is p owner c.args.objects.now entries c.args.number c.requires.owns c.in_ok-numbers.ensures

pub returns-in-Ok-clause-owns : goal.returns-in-Ok-clause-owns
returns-in-Ok-clause-owns c =
    let p : ℕ → Bool = contains nat_cmp c.in_ok-numbers.numbers in
    let before = c.args.owners.now in
    let behind = c.number_next.new.self in
    let labels : List (Option ℕ) = before.labels.items in
    let numbers : List ℕ = before.numbers.items in
    let owner : ℕ → Option ℕ = number_by labels numbers in
    let after : ℕ → Option ℕ = number_by behind.labels.items behind.numbers.items in
    let entries : List (ℕ × List ℕ) = c.args.live.now.entries in
    let own : List ℕ = unowned owner c.args.objects.now in
    let joint = c.in_ok-joint.joint in
    let others : c.in_ok-others.others ≡ own =
    c.in_ok-others.ensures ∙ ap (λ (ls : List (Option ℕ)). unowned (owner_in ls) c.args.objects.now) c.as_slice.ensures.value
    ∙ unowned-by labels numbers c.args.objects.now in
    let whole : c.in_ok-fragment.fragment ≡ joined p entries ++ own =
    whole-is p entries joint.objects c.in_ok-others.others own c.in_ok-fragment.fragment c.in_ok-joint.ensures.joined others c.in_ok-fragment.ensures in
    let put : c.insert.new.self.entries ≡ rest p entries ++ (c.args.number, joined p entries ++ own) ∷ [] =
    inserted p c.args.number entries c.joined.new.live.entries c.insert.new.self.entries c.in_ok-fragment.fragment (joined p entries ++ own)
    c.requires.owns.low c.in_ok-joint.ensures.rest whole c.in-Ok.ensures.entries in
    let one : IsLabel p before.names.items c.args.number joint.label =
    subst (λ (ns : List ℕ). IsLabel p ns c.args.number joint.label) c.as_slice-names.ensures.value c.in_ok-joint.ensures.label in
    let labelled : AreLabelled (owner_in labels) (joined p entries ++ own) joint.label (owner_in behind.labels.items) =
    put-whole labels c.joined.new.labels.items c.own.new.labels.items behind.labels.items joint.objects c.items.result.now (joined p entries ++ own) joint.label
    c.in_ok-joint.ensures.labels c.in_ok-own.ensures (ap (λ (os : List ℕ). joint.objects ++ os) c.items.ensures ∙ sym c.in_ok-fragment.ensures ∙ whole)
    c.in_ok-number_next.ensures.labels in
    subst (λ (es : List (ℕ × List ℕ)). Owns es after (c.args.number + 1)) (sym put)
    (owns-after p owner after c.args.objects.now entries c.args.number c.requires.owns
    (number-after labels numbers before.names.items c.args.number entries c.args.objects.now p c.requires.owns c.requires.labelled c.in_ok-numbers.ensures joint.label one
    behind.labels.items behind.numbers.items behind.names.items labelled
    (next-numbered numbers behind.numbers.items c.args.number joint.label c.requires.labelled.numbers_count c.in_ok-number_next.ensures.numbers)
    c.in_ok-number_next.ensures.names)
    (subst (λ (es : List (ℕ × List ℕ)). IsStrictlySortedBy nat_cmp (keys_of es)) put c.in-Ok.ensures.ordered))

pub returns-in-Ok-clause-labelled : goal.returns-in-Ok-clause-labelled
returns-in-Ok-clause-labelled c =
    let p : ℕ → Bool = contains nat_cmp c.in_ok-numbers.numbers in
    let before = c.args.owners.now in
    let behind = c.number_next.new.self in
    let labels : List (Option ℕ) = before.labels.items in
    let numbers : List ℕ = before.numbers.items in
    let owner : ℕ → Option ℕ = number_by labels numbers in
    let entries : List (ℕ × List ℕ) = c.args.live.now.entries in
    let own : List ℕ = unowned owner c.args.objects.now in
    let joint = c.in_ok-joint.joint in
    let others : c.in_ok-others.others ≡ own =
    c.in_ok-others.ensures ∙ ap (λ (ls : List (Option ℕ)). unowned (owner_in ls) c.args.objects.now) c.as_slice.ensures.value
    ∙ unowned-by labels numbers c.args.objects.now in
    let whole : joint.objects ++ c.items.result.now ≡ joined p entries ++ own =
    ap (λ (os : List ℕ). joint.objects ++ os) (c.items.ensures ∙ others) ∙ ap (λ (os : List ℕ). os ++ own) c.in_ok-joint.ensures.joined in
    let one : IsLabel p before.names.items c.args.number joint.label =
    subst (λ (ns : List ℕ). IsLabel p ns c.args.number joint.label) c.as_slice-names.ensures.value c.in_ok-joint.ensures.label in
    let labelled : AreLabelled (owner_in labels) (joined p entries ++ own) joint.label (owner_in behind.labels.items) =
    put-whole labels c.joined.new.labels.items c.own.new.labels.items behind.labels.items joint.objects c.items.result.now (joined p entries ++ own) joint.label
    c.in_ok-joint.ensures.labels c.in_ok-own.ensures whole c.in_ok-number_next.ensures.labels in
    labelled-after labels numbers before.names.items c.args.number entries c.args.objects.now p c.requires.owns c.requires.labelled c.in_ok-numbers.ensures joint.label one
    behind.labels.items behind.numbers.items behind.names.items labelled
    (next-numbered numbers behind.numbers.items c.args.number joint.label c.requires.labelled.numbers_count c.in_ok-number_next.ensures.numbers)
    c.in_ok-number_next.ensures.names
