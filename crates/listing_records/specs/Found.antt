-- What the answers of this crate say of a node of the tree.
use Rattle.std.specs.Prelude.{Option, Some, None}
use Rattle.std.proofs.Math.Option as maybe
use Rattle.model.specs.Tree.{Node, dir, file, link}
use Rattle.model.specs.Tree.{Kind, nothing, a_directory, a_file, a_link}
use Rattle.listing_records.specs.declared.Found.{Found}
use Rattle.listing_records.specs.declared.Found.TheVariants as found
use Rattle.listing_records.specs.declared.RealTarget.{RealTarget}
use Rattle.listing_records.specs.declared.RealTarget.TheVariants as target

-- a listed file's body is its own path: nothing of a listing's node is lost
abbrev pub found_as : Node → Found
found_as (dir m) = found.Directory m
found_as (file m z b) = found.File m z
found_as link = found.Link

-- the same of what a tree has at a path
abbrev pub found_of : maybe.Option Node → Option Found
found_of maybe.none = None
found_of (maybe.some n) = Some (found_as n)

-- what each answer says, and each case of RealTarget
abbrev pub found_kind : Option Found → Kind
found_kind None = nothing
found_kind (Some (found.Directory m)) = a_directory
found_kind (Some (found.File m z)) = a_file
found_kind (Some found.Link) = a_link

abbrev pub target_kind : RealTarget → Kind
target_kind target.Dir = a_directory
target_kind target.File = a_file
target_kind target.Symlink = a_link
target_kind target.Absent = nothing
