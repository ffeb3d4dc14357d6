-- Each call on bytes, for every input: the answer, and what it leaves as record, table and work buffer.
use Rattle.std.specs.Prelude.{◌≡◌, Bool, true, cond, ◌&&◌, [], ℕ, leb, length, replicate}
use Rattle.model.specs.Bytes.{Bytes}
use Rattle.model.specs.Path.{Path}
use Rattle.model.specs.Tree.{Table, View, shown, kind}
use Rattle.model.specs.Listing.{is_listing, tree_in}
use Rattle.model.specs.Table.{encode, padded, record_of, sized, is_table, table_in}
use Rattle.model.specs.Checks.{Check, pass, refuse, ◌then◌, unless, form, limited}
use Rattle.model.specs.Calls.{Call, changed, forms, rules, value_of, Query, says}
use Rattle.model.specs.Answer.{Reply, accepted, refused}
use Rattle.model.specs.declared.Record.{Record}

-- a table's bytes and the record beside them
pub record Store : Type 0 where
  pub table : Bytes
  pub rec : Record

-- a listing in form, and a table in form with its record: what 1 and 2 ask for, the work buffer aside
pub record Given (listing table : Bytes) (rec : Record) : Type 0 where
  pub listing_is : is_listing listing ≡ true
  pub table_is : is_table table rec ≡ true

-- what a table with its record shows over a listing
abbrev pub shown_in : Bytes → Bytes → Record → View
shown_in listing table rec = shown (table_in table rec) (tree_in listing)

-- what a call brings of its own
pub record Request : Type 0 where
  pub call : Call
  pub limit : ℕ
  pub work : Bytes

pub record Outcome : Type 0 where
  pub reply : Reply
  pub store : Store
  pub work : Bytes

-- the table after the call, if it is accepted
abbrev pub table_after : Bytes → Request → Store → Table
table_after listing q s = changed (table_in s.table s.rec) (tree_in listing) q.call

-- "Changing calls take a work buffer at least as long as the table buffer"; "table, record, E above 4,096 or work
-- buffer malformed or too short | 1"
abbrev pub lent : Request → Store → Bool
lent q s = is_table s.table s.rec && leb (length s.table) (length q.work)

-- "entries after the call longer than the table buffer | 13"
abbrev pub room : Bytes → Request → Store → Bool
room listing q s = leb (length (encode (table_after listing q s))) (length s.table)

-- "Always 1, 2, 3 (source before destination); then" 4 to 12; 13
abbrev pub verdict : Bytes → Request → Store → Check
verdict listing q s =
    unless 1 (lent q s)
    then unless 2 (is_listing listing)
    then forms q.call
    then rules (limited s.rec.entry_size q.limit) (table_in s.table s.rec) (tree_in listing) q.call
    then unless 13 (room listing q s)

-- accepted, the table is encoded anew with its record, and the work buffer is all 0; refused, all is as it was
abbrev pub settle : Check → Bytes → Request → Store → Outcome
settle pass listing q s =
    let t = table_after listing q s in
    record {
      reply = accepted (value_of q.call);
      store = record { table = padded (length s.table) (encode t); rec = record_of s.rec.entry_size t };
      work = replicate (length q.work) 0;
    }
settle (refuse n w k) listing q s = record { reply = refused n w k; store = s; work = q.work }

abbrev pub outcome : Bytes → Request → Store → Outcome
outcome listing q s = settle (verdict listing q s) listing q s

-- a query answers 1 for yes and 0 for no
abbrev pub answered : Check → Bool → Reply
answered pass yes? = accepted (cond yes? 1 0)
answered (refuse n w k) yes? = refused n w k

abbrev pub ask : Query → Bytes → Path → Store → Reply
ask q listing p s =
    answered (unless 1 (is_table s.table s.rec) then unless 2 (is_listing listing) then form 0 p)
    (says q (kind (shown_in listing s.table s.rec) p))

-- "Opening zeroes the buffer and gives the empty record; its one refusal is 1, for E or a buffer above 16 MiB."
-- The record is the empty one after a refusal too; with that buffer no call takes it.
pub record Opened : Type 0 where
  pub reply : Reply
  pub store : Store

abbrev pub opened : ℕ → Bytes → Opened
opened E t = record {
  reply = cond (sized E (length t)) (accepted 0) (refused 1 0 0);
  store = record { table = cond (sized E (length t)) (replicate (length t) 0) t; rec = record_of E [] };
}
