-- What an answer of the table says of an entry: its mtime as a float, its body by its place in the table's bytes.
use Rattle.std.proofs.Math.Option.{Option, none, some}
use Rattle.std.specs.Prelude.{ℕ, Float, take, drop, Some, None}
use Rattle.std.specs.Prelude as code
use Rattle.std.specs.Float.Ieee.{of_bits}
use Rattle.std.specs.Float.{binary64}
use Rattle.model.specs.Bytes.{Bytes}
use Rattle.model.specs.Tree.{Entry, own, reference, directory, deleted}
use Rattle.table_entries.specs.declared.OverlayEntry.{OverlayEntry}
use Rattle.table_entries.specs.declared.OverlayEntry.TheVariants.{File, RealFileRef, Directory, Deleted}

-- an entry with the float that its mtime bits are: every pattern of a NaN is the one NaN, and nothing else is lost
pub data Said : Type 0 where
  a_file : (mtime : Float) → Bytes → Said
  a_reference : (mtime : Float) (size : ℕ) → Bytes → Said
  a_directory : (mtime : Float) → Said
  is_deleted no_entry : Said

abbrev pub said : Option Entry → Said
said none = no_entry
said (some (own m c)) = a_file (of_bits binary64 m) c
said (some (reference m z p)) = a_reference (of_bits binary64 m) z p
said (some (directory m)) = a_directory (of_bits binary64 m)
said (some deleted) = is_deleted

-- what an OverlayEntry says of the bytes s
abbrev pub said_by : Bytes → OverlayEntry → Said
said_by s (File m at n) = a_file m (take n (drop at s))
said_by s (RealFileRef m z at n) = a_reference m z (take n (drop at s))
said_by s (Directory m) = a_directory m
said_by s Deleted = is_deleted

-- what an answer says of them
abbrev pub said_of : Bytes → code.Option OverlayEntry → Said
said_of s (Some e) = said_by s e
said_of s None = no_entry
