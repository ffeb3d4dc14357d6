-- What a case of the tables in Cases.antt, Corners.antt and ContentCases.antt is, and how it is computed: on bytes, from a listing and a table encoded here.
-- The encoding of a listing serves the cases alone: the port only reads listings.
use mathlib.Core.Bool.{Bool, true, false}
use mathlib.Core.List.{List, [], ◌∷◌, ◌++◌}
use Prim.Native.Nat.{ℕ}
use Prim.Native.Char.{code}
use Prim.Native.String.{String}
use lib.ListN.{length, replicate}
use Rattle.model.specs.Bytes.{Bytes, bytes, same}
use Rattle.model.specs.Path.{Path}
use Rattle.model.specs.Tree.{listed, Node, dir, file, link, Table, Tree}
use Rattle.model.specs.Table.{encode, padded, record_of, is_table, table_in}
use Rattle.model.specs.Calls.{Call, write, append, write_inside, mkdir, unlink, rmdir, rename, Query}
use Rattle.model.specs.Answer.{Reply, accepted, refused}
use Rattle.model.specs.Outcome.{Store, Outcome, outcome, ask}

-- the bytes of a text
abbrev pub path : String → Path
path String.[] = []
path (String.◌∷◌ c s) = code c ∷ path s

abbrev pub typed : ℕ → ℕ → ℕ → Path → Bytes
typed type m z p = bytes 2 (length p) ++ (type ∷ (bytes 8 m ++ (bytes 8 z ++ p)))

abbrev pub listed_bytes : Path → Node → Bytes
listed_bytes p (dir m) = typed 1 m 0 p
listed_bytes p (file m z b) = typed 2 m z p
listed_bytes p link = typed 3 0 0 p

abbrev pub tree_bytes : Tree → Bytes
tree_bytes [] = []
tree_bytes (x ∷ xs) = listed_bytes x.0 x.1 ++ tree_bytes xs

abbrev pub listing_bytes : Tree → Bytes
listing_bytes l = path "RDL" ++ (bytes 2 1 ++ (bytes 4 (length l) ++ tree_bytes l))

-- a directory, a file and a link of a listing
abbrev pub dir_at : String → ℕ → Path × Node
dir_at p m = (path p, dir m)

abbrev pub file_at : String → ℕ → ℕ → Path × Node
file_at p m z = (path p, file m z (listed (path p)))

abbrev pub link_at : String → Path × Node
link_at p = (path p, link)

pub data Step : Type 0 where
  call : (limit : ℕ) → Call → Step
  query : Query → (p : String) → Step

-- the calls with their limits; mkdir without exist_ok, without and with parents; write and mkdir with mtime 7
abbrev pub writing : ℕ → String → Bytes → Step
writing limit p c = call limit (write (path p) 7 c)

-- data and lent bytes; an offset and data: with mtime 8
abbrev pub appending : ℕ → String → Bytes → Bytes → Step
appending limit p d b = call limit (append (path p) 8 d b)

abbrev pub writing_inside : ℕ → String → ℕ → Bytes → Step
writing_inside limit p o d = call limit (write_inside (path p) 8 o d)

abbrev pub making : ℕ → String → Step
making limit p = call limit (mkdir (path p) false false 7)

abbrev pub making_all : ℕ → String → Step
making_all limit p = call limit (mkdir (path p) true false 7)

abbrev pub unlinking : ℕ → String → Step
unlinking limit p = call limit (unlink (path p))

abbrev pub removing : ℕ → String → Step
removing limit p = call limit (rmdir (path p))

abbrev pub renaming : ℕ → String → String → Step
renaming limit a b = call limit (rename (path a) (path b))

-- what is seen after a step: the answer, the record's charge, the entries; whether table and record are well-formed; whether the work buffer is all 0
-- (accepted) or as it was (refused)
pub record Seen : Type 0 where
  pub reply : Reply
  pub charge : ℕ
  pub entries : Table
  pub formed : Bool
  pub tidy : Bool

abbrev pub work_after : Reply → ℕ → Bytes
work_after (accepted v) n = replicate n 0
work_after (refused k w m) n = replicate n 0x77

-- each step has a work buffer of its own, as long as the table and filled with 0x77
abbrev pub work : Store → Bytes
work s = replicate (length s.table) 0x77

abbrev pub look : Reply → Bytes → Store → Seen
look r w s = record {
  reply = r;
  charge = s.rec.charge;
  entries = table_in s.table s.rec;
  formed = is_table s.table s.rec;
  tidy = same w (work_after r (length s.table));
}

abbrev pub called : Bytes → ℕ → Call → Store → Outcome
called listing limit c s = outcome listing (record { call = c; limit = limit; work = work s }) s

abbrev pub step : Bytes → Step → Store → Seen × Store
step listing (call limit c) s = let o = called listing limit c s in (look o.reply o.work o.store, o.store)
step listing (query q p) s = let r = ask q listing (path p) s in (look r (work_after r (length s.table)) s, s)

abbrev pub steps : Bytes → Step → List Step → Store → Seen
steps listing c [] s = (step listing c s).0
steps listing c (d ∷ ds) s = steps listing d ds (step listing c s).1

-- a case: over a listing, in a buffer of `buffer` bytes that holds the table `start`, these steps; and what is seen after the last
pub record Case : Type 0 where
  pub listing : Tree
  pub E : ℕ
  pub buffer : ℕ
  pub start : Table
  pub first : Step
  pub later : List Step
  pub seen : Seen

abbrev pub computed : Case → Seen
computed c = steps (listing_bytes c.listing) c.first c.later
    (record { table = padded c.buffer (encode c.start); rec = record_of c.E c.start })

abbrev pub stated : Case → Seen
stated c = c.seen

-- from the table `start`, with entry size E, in a buffer of n bytes; and with E 40, in 400 bytes, from the empty table
abbrev pub begun : Tree → ℕ → ℕ → Table → Step → List Step → Reply → ℕ → Table → Case
begun l E n start c cs r k t = record {
  listing = l;
  E = E;
  buffer = n;
  start = start;
  first = c;
  later = cs;
  seen = record { reply = r; charge = k; entries = t; formed = true; tidy = true };
}

abbrev pub from : Tree → Step → List Step → Reply → ℕ → Table → Case
from l c cs r k t = begun l 40 400 [] c cs r k t
