-- `test_kept::is_filled` meets its contract: std's test of all is the definition's.
use Rattle.std.proofs.Common.{rules, ◌∙◌, eqb}
use borrow.Author.Tests.{tests}
use Rattle.std.proofs.lemmas.Iterator.{YieldsList-from_slice}
use Rattle.std.proofs.lemmas.Iterator.Search.{all_from_yields_List}
use Rattle.test_kept.proofs.Filling.{filled_all}
use Rattle.test_kept.proofs.is_filled.Goals as goal

pub returns : goal.returns
returns c =
    all_from_yields_List (λ b. eqb b 165) _ _ _ c.all.ensures.ran (YieldsList-from_slice c.args.s.now cc)
    (λ x b q k. search (rules, tests))
    ∙ filled_all c.args.s.now
