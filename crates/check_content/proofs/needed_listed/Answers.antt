-- `needed_listed` meets its contract: a listed file's size is needed, and no listed file is an own one.
use Rattle.model.specs.Map.{lookup}
use Rattle.model.specs.Listing.{tree_in}
use Rattle.check_content.proofs.Owned.{listed_not_own, listed_size}
use Rattle.check_content.proofs.needed_listed.Goals as goal

pub returns-in-Some-File : goal.returns-in-Some-File
returns-in-Some-File c =
    let a = c.args in
    listed_size (lookup (tree_in a.listing.now) a.path.now) _ _ _ c.in-Some-File.field-0-is c.in-Some-File.ensures (listed_not_own a.listing.now a.path.now)
