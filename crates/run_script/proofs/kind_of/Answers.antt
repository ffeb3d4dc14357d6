-- `kind_of` meets its contract: the kind with this number, or writing inside.
use mathlib.Core.Path.{◌∙◌}
use Rattle.run_script.proofs.Heads.{kind_is}
use Rattle.run_script.proofs.kind_of.Goals as goal

pub returns : goal.returns
returns c = c.unwrap_or.ensures ∙ kind_is c.args.kind _ c.try_from.ensures
