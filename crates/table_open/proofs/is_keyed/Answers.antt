-- `table_open::is_keyed` meets its contract: the part that it tests is the key.
use mathlib.Core.Path.{ap, ◌∙◌}
use Rattle.model.specs.Path.{is_path}
use Rattle.table_open.proofs.Steps.{key_is}
use Rattle.table_open.proofs.is_keyed.Goals as goal

pub returns : goal.returns
returns c = c.is_path.ensures ∙ ap is_path (key_is _ _ _ c.le16.ensures.0)
