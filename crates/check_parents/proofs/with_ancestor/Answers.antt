-- `with_ancestor` meets its contract: a directory adds nothing, anything else its end.
use mathlib.Core.Path.{sym, ◌∙◌}
use borrow.Author.Rules.{rules}
use Rattle.model.specs.Tree.{is_directory}
use Rattle.view_at.specs.Sight.{visible_kind}
use Rattle.base_paths.specs.Dirs.{ends_of}
use Rattle.base_paths.proofs.Ends.{made, unmade}
use Rattle.check_parents.proofs.with_ancestor.Goals as goal

pub returns-then-is_directory : goal.returns-then-is_directory
returns-then-is_directory c =
    let a = c.args in
    let d = c.is_directory in
    record { result_value = unmade (ends_of a.dirs) a.end (is_directory (visible_kind a.visible)) (sym d.ensures ∙ c.if-is_directory.true); count_bound = search rules }

pub returns : goal.returns
returns c =
    let a = c.args in
    let d = c.is_directory in
    record { result_value = c.with_end.ensures.result_value ∙ made (ends_of a.dirs) a.end (is_directory (visible_kind a.visible)) (sym d.ensures ∙ c.if-is_directory.false); count_bound = search rules }
