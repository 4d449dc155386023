-- `text::spaces` meets its contract: what is counted is the bytes before the first that is no space.
use Rattle.std.proofs.Common.{◌∙◌, eqb}
use Rattle.std.proofs.lemmas.Iterator.{YieldsList-from_slice}
use Rattle.std.proofs.lemmas.Iterator.Search.{YieldsList-from_take_while}
use Rattle.std.proofs.lemmas.Iterator.Consumers.{count_from_yields_List}
use Rattle.std.proofs.lemmas.List.Folds.{length-prefix_len}
use borrow.Author.Rules.{rules}
use borrow.Author.Tests.{tests}
use Rattle.text.proofs.Laws.{spaces-counted}
use Rattle.text.proofs.spaces.Goals as goal

pub returns : goal.returns
returns c =
    let s = c.args.field.now in
    let t = c.take_while in
    spaces-counted s c.count.result
    (count_from_yields_List t.result c.count.result c.count.ensures.ran
    (YieldsList-from_take_while _ (λ b. eqb b 32) (YieldsList-from_slice s cc) t.ensures.closure t.ensures.done (λ x b q k. search (rules, tests)))
    ∙ length-prefix_len (λ b. eqb b 32) s)
