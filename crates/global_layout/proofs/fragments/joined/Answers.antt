use Rattle.std.proofs.Common.{ℕ, List, refl, sym, subst}
use Rattle.std.specs.BTreeSet.{contains}
use Rattle.std.specs.BTreeMap.{is_at}
use Rattle.std.specs.Map.{lookup}
use Rattle.std.specs.Ordering.{nat_cmp}
use Rattle.global_layout.specs.Owners.{owner_in, AreNamed}
use Rattle.global_layout.proofs.OwnerLaws.{joined-more, rest-more, joined-all, rest-all, no-key}
use Rattle.global_layout.proofs.LabelLaws.{named-taken, label-more, has-first, has-later}
use Rattle.global_layout.proofs.fragments.joined.Goals as goal

pub loop-number-preserved : goal.loop-number-preserved
loop-number-preserved c =
    let so_far = c.loop-number.invariant in
    let r : ℕ = c.in-Some.number in
    let keys : List ℕ = c.loop-number.numbers.keys in
    let more : List ℕ = c.pop_first.new.self.keys in
    let live : List (ℕ × List ℕ) = c.loop-number.live.entries in
    let next = c.in_ok-joint.ensures in
    record {
      joined = joined-more r keys more live c.join_one.new.live.entries (lookup (is_at (nat_cmp r)) live) c.loop-number.joint.objects c.in_ok-joint.joint.objects _
          c.in-Some.ensures.removal c.in-Some.ensures.all_above so_far.ordered refl next.taken next.objects so_far.joined;
      rest = rest-more r keys more live c.join_one.new.live.entries _
          c.in-Some.ensures.removal c.in-Some.ensures.all_above so_far.ordered next.taken so_far.rest;
      ordered = next.ordered;
      labels = next.labels (owner_in c.args.labels.now.items) so_far.named so_far.labels;
      label = label-more (contains nat_cmp c.args.numbers) c.args.names.now c.args.label r c.loop-number.joint.label c.in_ok-joint.joint.label
          (so_far.within r (has-first r keys more c.in-Some.ensures.removal)) so_far.label next.label;
      within = λ n is. so_far.within n (has-later r n keys more c.in-Some.ensures.removal is);
      named = subst (λ (es : List (ℕ × List ℕ)). AreNamed es (owner_in c.args.labels.now.items) c.args.names.now) (sym next.taken)
          (named-taken (is_at (nat_cmp r)) live (owner_in c.args.labels.now.items) c.args.names.now so_far.named);
    }

pub returns-clause-joined : goal.returns-clause-joined
returns-clause-joined c = joined-all c.loop-number.numbers.keys c.loop-number.live.entries c.loop-number.joint.objects _
    (no-key c.loop-number.numbers.keys (λ some. let h = c.in_default.ensures.variant.1 some in cc)) c.loop-number.invariant.joined

pub returns-clause-rest : goal.returns-clause-rest
returns-clause-rest c = rest-all c.loop-number.numbers.keys c.loop-number.live.entries _
    (no-key c.loop-number.numbers.keys (λ some. let h = c.in_default.ensures.variant.1 some in cc)) c.loop-number.invariant.rest
