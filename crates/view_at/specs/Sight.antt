-- A look at a path's prefixes, one after the other: what is visible there, and from where table and listing are
-- searched on.
use Rattle.std.specs.Prelude.{◌≡◌, true, ℕ, ◌≤◌, length, take, Option, Some, None}
use Rattle.model.specs.Bytes.{Bytes}
use Rattle.model.specs.Path.{Path}
use Rattle.model.specs.Map.{lookup}
use Rattle.model.specs.Tree.{Kind, nothing, a_directory, a_file, a_link}
use Rattle.model.specs.Listing.{is_listing}
use Rattle.model.specs.Table.{entries_at, table_in, is_table}
use Rattle.model.specs.declared.Record.{Record}
use Rattle.listing_records.specs.Walk.{Walks}
use Rattle.table_entries.specs.Place.{Standing}
use Rattle.view_at.specs.declared.Visible.{Visible}
use Rattle.view_at.specs.declared.Visible.TheVariants as visible
use Rattle.view_at.specs.declared.Sight.{Sight}

-- what each case of Visible says, and that there is none
abbrev pub visible_kind : Option Visible → Kind
visible_kind None = nothing
visible_kind (Some visible.Directory) = a_directory
visible_kind (Some visible.File) = a_file
visible_kind (Some visible.Link) = a_link

-- g is good for every prefix of p of k or more bytes: each is looked up in the listing l by g's walk, and in the table
-- s among the entries from g's place on
pub record Sees (l s : Bytes) (r : Record) (p : Path) (g : Sight) (k : ℕ) : Type 0 where
  pub listing : is_listing l ≡ true
  pub table : is_table s r ≡ true
  pub walks : Walks l p g.walk k
  pub stand : Standing s g.place.left g.place.at
  pub ahead : (j : ℕ) → k ≤ j → j ≤ length p → lookup (table_in s r) (take j p)
      ≡ lookup (entries_at s g.place.left g.place.at) (take j p)
