-- Document 01, "Paths and the published tree": the listing's bytes, its rules, and the tree that it gives.
use Rattle.std.specs.Prelude.{Bool, cond, ◌&&◌, ◌||◌, List, [], ◌∷◌, ℕ, zero, suc, ◌+◌, ltb, leb, eqb, length}
use Rattle.std.specs.Prelude.{take, drop, get_or}
use Rattle.model.specs.Bytes.{Bytes, every, number_at, same}
use Rattle.model.specs.Path.{Path, is_path, ancestors}
use Rattle.model.specs.Map.{lookup, ascends}
use Rattle.model.specs.Tree.{listed, Node, dir, file, link, Tree, kind, is_directory}

-- mtime and size are the 64 bits that stand in the record
pub record ListingRecord : Type 0 where
  pub path : Path
  pub type : ℕ
  pub mtime : ℕ
  pub size : ℕ

-- "A record: path length (16 bits), kind (8 bits …), mtime (the bits of an f64), size (signed 64 bits), path."
abbrev pub record_at : Bytes → ℕ → ListingRecord
record_at s at = record {
  path = take (number_at s at 2) (drop (at + 19) s);
  type = get_or s (at + 2) 0;
  mtime = number_at s (at + 3) 8;
  size = number_at s (at + 11) 8;
}

-- where the record that starts at `at` ends
abbrev pub record_end : Bytes → ℕ → ℕ
record_end s at = at + 19 + number_at s at 2

-- "a 32-bit count, then records up to the buffer's end"
abbrev pub record_count : Bytes → ℕ
record_count s = number_at s 5 4

abbrev pub filled : Bytes → ℕ → ℕ → Bool
filled s zero at = eqb at (length s)
filled s (suc n) at = leb (at + 19) (length s) && leb (record_end s at) (length s) && filled s n (record_end s at)

abbrev pub records_from : Bytes → ℕ → ℕ → List ListingRecord
records_from s zero at = []
records_from s (suc n) at = record_at s at ∷ records_from s n (record_end s at)

abbrev pub records : Bytes → List ListingRecord
records s = records_from s (record_count s) 9

-- "mark `RDL`, a 16-bit version 1, a 32-bit count …"; "A listing has at most 16 MiB."
abbrev pub headed : Bytes → Bool
headed s = leb 9 (length s) && leb (length s) 16777216 && same (take 3 s) (82 ∷ 68 ∷ 76 ∷ []) && eqb (number_at s 3 2) 1

-- "1 directory, 2 file, 3 link"; "Size is at least 0 for a file, else 0; a link's mtime bits are 0."
abbrev pub ruled : ListingRecord → Bool
ruled r =
    (eqb r.type 1 && eqb r.size 0)
    || (eqb r.type 2 && ltb r.size 0x8000_0000_0000_0000)
    || (eqb r.type 3 && eqb r.size 0 && eqb r.mtime 0)

-- "a node for each record, a listed file held by its own path"
abbrev pub node_of : ListingRecord → Node
node_of r = cond (eqb r.type 1) (dir r.mtime) (cond (eqb r.type 2)
    (file r.mtime r.size (listed r.path)) link)

abbrev pub tree_from : List ListingRecord → Tree
tree_from [] = []
tree_from (r ∷ rs) = (r.path, node_of r) ∷ tree_from rs

abbrev pub tree_in : Bytes → Tree
tree_in s = tree_from (records s)

-- "each proper ancestor is listed as a directory"
abbrev pub placed : Tree → ListingRecord → Bool
placed l r = every (λ q. is_directory (kind (lookup l) q)) (ancestors r.path)

-- "Paths … are in the form above …, and each proper ancestor is listed as a directory."
abbrev pub formed_record : Tree → ListingRecord → Bool
formed_record l r = is_path r.path && ruled r && placed l r

-- "Paths ascend strictly by bytes … and not empty": from the empty path on
abbrev pub is_listing : Bytes → Bool
is_listing s = let l = tree_in s in headed s && filled s (record_count s) 9 && ascends [] l
    && every (formed_record l) (records s)
