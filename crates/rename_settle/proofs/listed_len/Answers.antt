-- `listed_len` meets its contract: a file's body is its path.
use Rattle.std.proofs.Common.{ap, length}
use Rattle.model.specs.Tree.{Entry}
use Rattle.model.specs.Table.{body_of}
use Rattle.listing_records.specs.declared.Found.TheVariants as found
use Rattle.rename_write.proofs.Sequences.{told_some}
use Rattle.rename_settle.proofs.listed_len.Goals as goal

pub returns-in-Some-File : goal.returns-in-Some-File
returns-in-Some-File c =
    let a = c.args in
    let w = c.in-Some-File in
    ap (λ (e : Entry). length (body_of e)) (told_some a.listing.now a.source.now _ w.field-0 (found.File _ _) c.find.ensures w.is w.field-0-is)
