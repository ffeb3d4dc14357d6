-- From where a directory's children are read; and an output that is filled where it is long enough.
use Rattle.std.specs.Prelude.{◌≡◌, leb, length}
use Rattle.model.specs.Bytes.{Bytes}
use Rattle.model.specs.Path.{Path}
use Rattle.model.specs.Listing.{tree_in}
use Rattle.model.specs.Table.{table_in}
use Rattle.model.specs.Checks.{unless}
use Rattle.model.specs.Plain.{visible_tree}
use Rattle.model.specs.Output.{Written, written_by}
use Rattle.model.specs.declared.Record.{Record}
use Rattle.base_fields.specs.Read.{part}
use Rattle.view_merge.specs.Merges.{ahead}
use Rattle.show_names.specs.Names.{names}
use Rattle.show_write.specs.Sizes.{Showing}
use Rattle.show_dir.specs.declared.Span.{Span}

-- r's entries and r's records in its part of the listing lie below p, and show all of p's children
pub record SpanOf (listing table : Bytes) (rec : Record) (p : Path) (r : Span) : Type 0 where
  pub showing : Showing table (part listing r.from r.to) p r.merge
  pub are : names p (ahead table (part listing r.from r.to) r.merge)
      ≡ names p (visible_tree (table_in table rec) (tree_in listing))

-- "an output too short is 13": else it holds the content
abbrev pub fitted : Bytes → Bytes → Written
fitted content output = written_by (unless 13 (leb (length content) (length output))) content output
