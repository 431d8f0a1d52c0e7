use Rattle.std.proofs.Common.{ℕ, suc, List, codes, drop, sym, subst}
use Rattle.ir_values.specs.declared.units.MetaItem.{MetaItem}
use Rattle.type_grammar.specs.Items.{own_items, item_body}
use Rattle.type_grammar.specs.Levels.{levels}
use Rattle.type_grammar.specs.Names.{an_item}
use Rattle.type_grammar.specs.Reading.{reads}
use Rattle.unit_grammar.specs.Readers.{Read, read, list_read}
use Rattle.unit_grammar.specs.Seeing.{Gives, tokens}
use Rattle.unit_grammar.specs.Signs.{mark}
use Rattle.unit_grammar.proofs.AnswerLaws.{tells}
use Rattle.unit_grammar.proofs.ListLemmas.{list_is}
use Rattle.type_grammar.proofs.LevelLaws.{own_exact}
use Rattle.type_grammar.proofs.reading.read_own_items.Goals as goal

pub returns : goal.returns
unfolding own_items
returns c =
    let ts = drop c.args.at (tokens c.args.input.now) in
    let own : Gives {A = List MetaItem} (tokens c.args.input.now) c.listed_items.result (list_read (mark (codes ",")) (reads (suc levels) an_item) ts) =
    subst (λ (n : ℕ). Gives {A = List MetaItem} (tokens c.args.input.now) c.listed_items.result (list_read (mark (codes ",")) (reads n an_item) ts)) c.levels_of_parts.ensures c.listed_items.ensures in
    let gives : Gives {A = List MetaItem} (tokens c.args.input.now) c.listed_items.result (read (reads levels) own_items ts) =
    subst (λ (r : Read (List MetaItem)). Gives {A = List MetaItem} (tokens c.args.input.now) c.listed_items.result r)
    (sym (list_is (reads levels) (mark (codes ",")) item_body ts)) own in
    record {
      gives = gives;
      longest = tells (own_exact levels) (tokens c.args.input.now) ts c.listed_items.result gives;
    }
