use Rattle.std.proofs.Common.{◌≡◌, ◌+◌, ◌<◌, ◌≤◌, ◌∙◌, sym, ap, length, get_or, btree_set_len, arith}
use Rattle.check_items.specs.Found.{Holds}
use Rattle.check_items.specs.Identifiers.{unit_identifiers, identifiers_to, has_too_many}
use Rattle.check_items.proofs.IdentifierLemmas.{holds_more, left_more, first_told, none_more}
use Rattle.check_items.proofs.identifiers.first_past.Goals as goal

pub returns-then-is_past : goal.returns-then-is_past
returns-then-is_past c =
    let within : c.loop-at.at < length c.units-units.result.now = let test = c.loop-at-test.true in omega arith in
    let own : c.items.result.now ≡ unit_identifiers c.units-units.result.now (get_or c.units-units.result.now c.loop-at.at c.index-units-at.result) =
    cc (c.items.ensures, c.in_ok-names.ensures, c.kept_attached-attached.ensures, c.index-units-at.is, c.loop-at.invariant.0) in
    let holds : Holds (identifiers_to c.units-units.result.now (c.loop-at.at + 1)) c.put_counted.new.found =
    holds_more c.units-units.result.now c.loop-at.at c.loop-at.left c.index-units-at.result c.items.result.now c.loop-at.found c.put_counted.new.found
    within own c.loop-at.invariant.2 c.loop-at.invariant.1 c.in_ok-left.ensures.found in
    let past : 65536 < btree_set_len c.put_counted.new.found = grind (arith, c.if-is_past.true, c.if-is_past.ensures, c.len-many.ensures.len) in
    λ at inside. ap (λ us. has_too_many us at) (sym c.loop-at.invariant.0)
    ∙ first_told c.units-units.result.now c.loop-at.at c.put_counted.new.found c.len-many.ensures.ordered holds past c.loop-at.invariant.3 at

pub loop-at-preserved : goal.loop-at-preserved
loop-at-preserved c =
    let within : c.loop-at.at < length c.units-units.result.now = let test = c.loop-at-test.true in omega arith in
    let own : c.items.result.now ≡ unit_identifiers c.units-units.result.now (get_or c.units-units.result.now c.loop-at.at c.index-units-at.result) =
    cc (c.items.ensures, c.in_ok-names.ensures, c.kept_attached-attached.ensures, c.index-units-at.is, c.loop-at.invariant.0) in
    let holds : Holds (identifiers_to c.units-units.result.now (c.loop-at.at + 1)) c.put_counted.new.found =
    holds_more c.units-units.result.now c.loop-at.at c.loop-at.left c.index-units-at.result c.items.result.now c.loop-at.found c.put_counted.new.found
    within own c.loop-at.invariant.2 c.loop-at.invariant.1 c.in_ok-left.ensures.found in
    let few : btree_set_len c.put_counted.new.found ≤ 65536 = grind (arith, c.if-is_past.false, c.if-is_past.ensures, c.len-many.ensures.len) in (
      c.loop-at.invariant.0,
      holds,
      left_more c.units-units.result.now c.loop-at.at c.loop-at.left c.in_ok-left.left c.index-units-at.result c.items.result.now
          within own c.loop-at.invariant.2 c.in_ok-left.ensures.left,
      none_more c.units-units.result.now c.loop-at.at c.put_counted.new.found c.len-many.ensures.ordered holds few c.loop-at.invariant.3,
    )
