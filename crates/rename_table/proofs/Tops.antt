-- Which entry is carried from the source itself.
use mathlib.Core.Path.{◌≡◌, refl, ap, sym, ◌∙◌}
use mathlib.Core.List.{[]}
use mathlib.Core.Bool.{Bool, true, false, cond}
use mathlib.Core.Option.{some}
use Rattle.model.specs.Path.{Path}
use Rattle.model.specs.Map.{lookup}
use Rattle.model.specs.Tree.{Table, Tree, shown, a_directory, a_file, kind, is_nothing}
use Rattle.model.proofs.Orders.{Lt, Lt-≢, bot, has_none, is_some, opt}
use Rattle.rename_checks.proofs.Passed.{some_shown}
use Rattle.rename_laws.proofs.Moves.{top_entry, found_top}
use Rattle.rename_write.specs.Sequence.{top}

module _ (t : Table) (l : Tree) (a : Path) where
  -- a source that is a directory or a file is shown, so there is an entry that is carried from it
  pub top_found : (whole : Bool) → kind (shown t l) a ≡ cond whole a_directory a_file → Lt [] a → top_entry t l a ≡ some (top t l a)
  top_found whole k r =
      let n = some_shown t l a (λ z. Lt-≢ [] a r (sym z)) (ap is_nothing k ∙ there whole) in
      let e = (found_top t l a n.0 n.1).1 in
      elim (opt (lookup t a)) [
        | is_some x f ↦ cc
        | has_none f ↦ elim (opt (lookup l a)) [ is_some y g ↦ cc | has_none g ↦ absurd (bot (cc)) ]
      ]
    where
      there : (w : Bool) → is_nothing (cond w a_directory a_file) ≡ false
      there true = refl
      there false = refl
