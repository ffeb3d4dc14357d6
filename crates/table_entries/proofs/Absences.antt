-- What an answer says of an entry tells whether there is one.
use mathlib.Core.Path.{◌≡◌, refl}
use mathlib.Core.Bool.{Bool, true, false, not}
use mathlib.Core.Option.{Option, none, some}
use Rattle.std.specs.Prelude.{Some, None, is_some}
use Rattle.std.specs.Prelude as code
use Rattle.model.specs.Bytes.{Bytes}
use Rattle.model.specs.Map.{is_none}
use Rattle.model.specs.Tree.{Entry, own, reference, directory, deleted}
use Rattle.model.proofs.Orders.{bot}
use Rattle.table_entries.specs.Said.{said, said_of}
use Rattle.table_entries.specs.declared.OverlayEntry.{OverlayEntry}
use Rattle.table_entries.specs.declared.OverlayEntry.TheVariants.{File, RealFileRef, Directory, Deleted}

absent_as : (s : Bytes) (a : code.Option OverlayEntry) (e : Option Entry) → said_of s a ≡ said e → not (is_some a) ≡ is_none e
absent_as s None none h = refl
absent_as s None (some (own m c)) h = absurd (bot (cc))
absent_as s None (some (reference m z p)) h = absurd (bot (cc))
absent_as s None (some (directory m)) h = absurd (bot (cc))
absent_as s None (some deleted) h = absurd (bot (cc))
absent_as s (Some (File m at n)) none h = absurd (bot (cc))
absent_as s (Some (RealFileRef m z at n)) none h = absurd (bot (cc))
absent_as s (Some (Directory m)) none h = absurd (bot (cc))
absent_as s (Some Deleted) none h = absurd (bot (cc))
absent_as s (Some x) (some e) h = refl

pub absent : (s : Bytes) (a : code.Option OverlayEntry) (e : Option Entry) → said_of s a ≡ said e → (b : Bool) → is_some a ≡ not b → b ≡ is_none e
absent s a e h true k = (let g = absent_as s a e h in cc)
absent s a e h false k = (let g = absent_as s a e h in cc)
