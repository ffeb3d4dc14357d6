-- #101: "A call sequence may then start from a table that our calls made and that was written here with the listing
-- they ran over, and its tree goes on from the one shown at writing." Lists in which calls, writes and readings stand
-- in any order.
use Rattle.std.specs.Prelude.{◌≡◌, true, List, [], ◌∷◌, ℕ, zero, suc, ◌≤◌, length, take, drop}
use Rattle.std.proofs.Math.Option.{Option, none, some}
use Rattle.model.specs.Bytes.{Bytes}
use Rattle.model.specs.Tree.{Tree}
use Rattle.model.specs.Listing.{is_listing}
use Rattle.model.specs.Answer.{Reply, accepted, refused}
use Rattle.model.specs.Outcome.{Request}
use Rattle.model.specs.Output.{Written}
use Rattle.model.specs.Runs.{State, step, WordedCall, Built, Agrees, DoesAsSaid}
use Rattle.kept_file.specs.Kept.{entries_in, file_of, written, read_back}
use Rattle.kept_file.specs.declared.Content.{Content}

-- a call; a file written into an output buffer; a file that was written, the nth back, read into a table buffer
pub data Act : Type 0 where
  call : Request → Act
  write : (output : Bytes) → Act
  read : (n : ℕ) (buffer : Bytes) → Act

-- a file, and the plain tree as it was at its writing
pub record Filed : Type 0 where
  pub file : Bytes
  pub plain : Tree

-- what is held between the acts: the listing, the table with its record and the plain tree, and the files, the last
-- one first
pub record Held : Type 0 where
  pub listing : Bytes
  pub state : State
  pub files : List Filed

abbrev pub nth_back : ℕ → List Filed → Option Filed
nth_back n [] = none
nth_back zero (f ∷ fs) = some f
nth_back (suc n) (f ∷ fs) = nth_back n fs

-- what the writer makes of what is held
abbrev pub written_of : Held → Bytes → Written
written_of h output = written h.listing h.state.store.table h.state.store.rec output

-- an accepted writing adds its file, which has as many bytes as it answers
abbrev pub filed : Reply → Bytes → Held → Held
filed (accepted n) output h = record {
  listing = h.listing;
  state = h.state;
  files = record { file = take n output; plain = h.state.plain } ∷ h.files;
}
filed (refused n w k) output h = h

-- an accepted reading puts listing, table and record of the file in the place of those held, and the plain tree "goes
-- on from the one shown at writing"
abbrev pub resumed : Option Content → Filed → Bytes → Held → Held
resumed none f table h = h
resumed (some c) f table h = record {
  listing = take c.listing_len (drop c.listing_start f.file);
  state = record { store = record { table = table; rec = c.«record» }; plain = f.plain };
  files = h.files;
}

-- there may be no such file
abbrev pub read_into : Option Filed → Bytes → Held → Held
read_into none buffer h = h
read_into (some f) buffer h = let r = read_back f.file buffer in resumed r.content f r.table h

abbrev pub act : Act → Held → Held
act (call q) h = record { listing = h.listing; state = step h.listing q h.state; files = h.files }
act (write output) h = let w = written_of h output in filed w.reply w.output h
act (read n buffer) h = read_into (nth_back n h.files) buffer h

abbrev pub after_acts : List Act → Held → Held
after_acts [] h = h
after_acts (a ∷ more) h = after_acts more (act a h)

-- a call's mtime argument has 64 bits
abbrev pub WordedActs : List Act → Type 0
WordedActs [] = Unit {0}
WordedActs (call q ∷ more) = WordedCall q.call × WordedActs more
WordedActs (write output ∷ more) = WordedActs more
WordedActs (read n buffer ∷ more) = WordedActs more

-- what holds of an act with what it finds: of a call what holds of one in a list of calls; a writing is accepted where
-- the listing is in form, E is 40 and the output is long enough; a reading, where the table buffer is
abbrev pub ActHolds : Held → Act → Type 0
ActHolds h (call q) = DoesAsSaid h.listing h.state q
ActHolds h (write output) =
    let file = file_of h.listing h.state.store.table h.state.store.rec in
    is_listing h.listing ≡ true → h.state.store.rec.entry_size ≡ 40 → length file ≤ length output
    → (written_of h output).reply ≡ accepted (length file)
ActHolds h (read n buffer) =
    (f : Filed) → nth_back n h.files ≡ some f → length (entries_in f.file) ≤ length buffer
    → length buffer ≤ 16777216 → (read_back f.file buffer).reply ≡ accepted 0

abbrev pub EachAct : Held → List Act → Type 0
EachAct h [] = Unit {0}
EachAct h (a ∷ more) = ActHolds h a × EachAct (act a h) more

-- Of a list of acts as a whole: what holds of each act; and in the end the listing is the one that was there at first,
-- the table is one that the calls built, and it agrees with its record and the plain tree.
pub record HoldsOfActs (listing : Bytes) (E : ℕ) (start : Held) (acts : List Act) : Type 0 where
  pub each : EachAct start acts
  pub same_listing : (after_acts acts start).listing ≡ listing
  pub built : Built listing E (after_acts acts start).state
  pub in_the_end : Agrees listing E (after_acts acts start).state
