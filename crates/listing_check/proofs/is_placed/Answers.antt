-- `listing_check::is_placed` meets its contract: all ancestors are left at the start.
use mathlib.Core.Path.{sym, ap}
use Rattle.model.specs.Bytes.{every}
use Rattle.base_paths.proofs.Ancestors.{all_ancestors}
use Rattle.listing_check.proofs.is_placed.Goals as goal

pub loop-i-init : goal.loop-i-init
loop-i-init c = λ f z. ap (every f) (sym (all_ancestors c.args.path.now))
