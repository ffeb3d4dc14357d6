-- Lists in which calls, writes and readings stand in any order, from a table that the calls built: each act does as said, the listing stays, and
-- the table is one that the calls built, beside the plain tree that goes on from the one at writing. Assumes that the listing's elements are bytes.
use mathlib.Core.Path.{◌≡◌, refl, ap, sym, ◌∙◌, subst, subst⁻¹}
use mathlib.Core.Bool.{true}
use mathlib.Core.List.{List, [], ◌∷◌}
use mathlib.Core.Option.{Option, none, some}
use Prim.Native.Nat.{ℕ, zero, suc, ◌≤◌, ◌<◌}
use native.Mathlib.Omega.{arith}
use lib.Dec.{leb}
use lib.ListN.{length, take, drop}
use borrow.Author.Tests.{leb-true}
use Rattle.model.specs.Bytes.{Bytes}
use Rattle.model.specs.Tree.{Tree}
use Rattle.model.specs.Listing.{is_listing}
use Rattle.model.specs.Table.{encode, padded, is_table}
use Rattle.model.specs.Checks.{Check, pass, refuse}
use Rattle.model.specs.Answer.{Reply, accepted, refused}
use Rattle.model.specs.Outcome.{Store, Request}
use Rattle.model.specs.Output.{Written}
use Rattle.model.specs.Runs.{State, step, entries_of, moved_to, WordedCalls, Built, by_call, by_reading, Agrees, DoesAsSaid, RunFrom}
use Rattle.model.specs.declared.Record.{Record}
use Rattle.model.proofs.Orders.{bot}
use Rattle.model.proofs.Words.{IsBytes, Words}
use Rattle.model.proofs.Codec.{decoded}
use Rattle.model.proofs.Formed.{fine_is}
use Rattle.model.proofs.Built.{built_reached, built_runs}
use Rattle.model.proofs.Listings.{checked}
use Rattle.kept_file.specs.Kept.{kept, entries_in, marked, undamaged, file_of, written, ReadBack, may_read, read_by, read_back}
use Rattle.kept_file.specs.Acts.{Act, call, write, read, Filed, Held, nth_back, written_of, filed, resumed, read_into, act}
use Rattle.kept_file.specs.Acts.{WordedActs, ActHolds, HoldsOfActs}
use Rattle.kept_file.specs.declared.Content.{Content}
use Rattle.kept_file.proofs.Files.{kept_length, kept_listing, kept_entries}
use Rattle.kept_file.proofs.RoundTrip.{all_passed, written_passed, written_file, kept_read_words}

module _ (listing : Bytes) (E : ℕ) (bytes : IsBytes listing) where
  -- a file that was written of a built table over this listing, and the plain tree beside it
  record WrittenHere (f : Filed) : Type 0 where
    pub state : State
    pub built : Built listing E state
    pub well : is_listing listing ≡ true
    pub size : state.store.rec.entry_size ≡ 40
    pub file_is : f.file ≡ file_of listing state.store.table state.store.rec
    pub plain_is : f.plain ≡ state.plain

  abbrev AllHere : List Filed → Type 0
  AllHere [] = Unit {0}
  AllHere (f ∷ fs) = WrittenHere f × AllHere fs

  -- what every list of acts keeps
  record StillHere (h : Held) : Type 0 where
    pub same_listing : h.listing ≡ listing
    pub built : Built listing E h.state
    pub files : AllHere h.files

  here_at : (n : ℕ) (fs : List Filed) (f : Filed) → AllHere fs → nth_back n fs ≡ some f → WrittenHere f
  here_at n [] f a e = absurd (none_some f e)
    where
      none_some : (f : Filed) → none ≡ some f → ⊥
      none_some f e = bot (cc)
  here_at zero (g ∷ fs) f a e = subst WrittenHere (some_is g f e) a.0
    where
      some_is : (g f : Filed) → some g ≡ some f → g ≡ f
      some_is g f e = cc
  here_at (suc n) (g ∷ fs) f a e = here_at n fs f a.1 e

  -- what a built table is, for the writer and the reader
  record Ready (s : Store) : Type 0 where
    pub table : is_table s.table s.rec ≡ true
    pub words : Words (entries_of s)

  ready : (x : State) → Built listing E x → Ready x.store
  ready x b = let r = built_reached listing E bytes x b in record { table = r.table; words = (fine_is (entries_of x.store) r.fine).2 }

  -- writing
  module _ (h : Held) (k : StillHere h) (output : Bytes) where
    write_holds : ActHolds h (write output)
    write_holds l e u =
        let s = h.state.store in
        ap (λ (w : Written). w.reply) (written_passed h.listing s.table s.rec output (ready h.state k.built).table l e u)

    kept_by_writing : (r : Reply) → (written_of h output).reply ≡ r → StillHere (filed r (written_of h output).output h)
    kept_by_writing (refused n w j) e = k
    kept_by_writing (accepted n) e =
        let s = h.state.store in
        let w = written_file h.listing s.table s.rec output n e in
        record {
          same_listing = k.same_listing;
          built = k.built;
          files = (
            record {
              state = h.state;
              built = k.built;
              well = subst (λ (l : Bytes). is_listing l ≡ true) k.same_listing w.well_listed;
              size = w.entry_size;
              file_is = w.file ∙ ap (λ (l : Bytes). file_of l s.table s.rec) k.same_listing;
              plain_is = refl;
            },
            k.files,
          );
        }

  -- reading
  module _ (h : Held) (k : StillHere h) (buffer : Bytes) (f : Filed) (w : WrittenHere f) where
    abbrev x : State
    x = w.state

    abbrev entries : Bytes
    entries = encode (entries_of x.store)

    is_ready : Ready x.store
    is_ready = ready x w.built

    short : length listing < 0x1_0000_0000
    short = let m = (checked listing w.well).small in omega arith

    entries_are : entries_in f.file ≡ entries
    entries_are = ap entries_in w.file_is ∙ kept_entries listing entries short

    listing_is : take (length listing) (drop 9 f.file) ≡ listing
    listing_is =
        ap (λ (s : Bytes). take (length listing) (drop 9 s)) w.file_is
        ∙ ap (λ (n : ℕ). take n (drop 9 (kept 1 listing entries))) (sym (kept_length listing entries short))
        ∙ kept_listing listing entries short

    whole : length entries ≤ length buffer → length buffer ≤ 16777216
        → read_back f.file buffer
        ≡ record {
          reply = accepted 0;
          content = some (record { listing_start = 9; listing_len = length listing; «record» = x.store.rec });
          table = padded (length buffer) entries;
        }
    whole u m = ap (λ (s : Bytes). read_back s buffer) w.file_is
        ∙ (kept_read_words listing x.store.table x.store.rec w.well is_ready.table w.size buffer u m is_ready.words).answer

    read_holds : length (entries_in f.file) ≤ length buffer → length buffer ≤ 16777216 → (read_back f.file buffer).reply ≡ accepted 0
    read_holds u m = ap (λ (r : ReadBack). r.reply) (whole (subst (λ (s : Bytes). length s ≤ length buffer) entries_are u) m)

    -- the state after an accepted reading is the written one, in the new buffer
    took_up : length entries ≤ length buffer → length buffer ≤ 16777216 → let r = read_back f.file buffer in StillHere (resumed r.content f r.table h)
    took_up u m = subst⁻¹ (λ (r : ReadBack). StillHere (resumed r.content f r.table h)) (whole u m) (record {
      same_listing = listing_is;
      built = subst⁻¹ (λ (t : Tree). Built listing E (record { store = (moved_to (length buffer) x).store; plain = t })) w.plain_is
          (by_reading x (length buffer) (subst⁻¹ (λ (r : Record). r.used ≤ length buffer) (decoded x.store.table x.store.rec is_ready.table).rec u) m w.built);
      files = k.files;
    })

    kept_by_reading : (c : Check) → may_read f.file buffer ≡ c → let r = read_by c f.file buffer in StillHere (resumed r.content f r.table h)
    kept_by_reading (refuse n v j) e = k
    kept_by_reading pass e =
        let p = all_passed 1 14 15 13 (leb (length buffer) 16777216) (marked f.file) (undamaged f.file) (leb (length (entries_in f.file)) (length buffer)) e in
        let m = leb-true (length buffer) 16777216 p.0 in
        let u = leb-true (length (entries_in f.file)) (length buffer) p.3 in
        subst (λ (c : Check). let r = read_by c f.file buffer in StillHere (resumed r.content f r.table h)) e
        (took_up (subst (λ (s : Bytes). length s ≤ length buffer) entries_are u) m)

  -- each act keeps it, and does as said
  kept_by : (a : Act) (h : Held) → WordedActs (a ∷ []) → StillHere h → StillHere (act a h)
  kept_by (call q) h w k = record {
    same_listing = k.same_listing;
    built = subst⁻¹ (λ (l : Bytes). Built listing E (step l q h.state)) k.same_listing (by_call h.state q w.0 k.built);
    files = k.files;
  }
  kept_by (write output) h w k = kept_by_writing h k output (written_of h output).reply refl
  kept_by (read n buffer) h w k = go (nth_back n h.files) refl
    where
      go : (o : Option Filed) → nth_back n h.files ≡ o → StillHere (read_into o buffer h)
      go none e = k
      go (some f) e = kept_by_reading h k buffer f (here_at n h.files f k.files e) (may_read f.file buffer) refl

  does : (a : Act) (h : Held) → WordedActs (a ∷ []) → StillHere h → ActHolds h a
  does (call q) h w k = subst⁻¹ (λ (l : Bytes). DoesAsSaid l h.state q) k.same_listing (built_runs listing E bytes h.state k.built (q ∷ []) (w.0, tt)).each.0
  does (write output) h w k = write_holds h k output
  does (read n buffer) h w k = λ f e u m. read_holds h k buffer f (here_at n h.files f k.files e) u m

  agrees : (x : State) → Built listing E x → Agrees listing E x
  agrees x b = subst (λ (e : ℕ). Agrees listing e x) (built_reached listing E bytes x b).size_kept (built_runs listing E bytes x b [] tt).in_the_end

  first_word : (a : Act) (more : List Act) → WordedActs (a ∷ more) → WordedActs (a ∷ []) × WordedActs more
  first_word (call q) more w = ((w.0, tt), w.1)
  first_word (write output) more w = (tt, w)
  first_word (read n buffer) more w = (tt, w)

  holds : (acts : List Act) (h : Held) → WordedActs acts → StillHere h → HoldsOfActs listing E h acts
  holds [] h w k = record { each = tt; same_listing = k.same_listing; built = k.built; in_the_end = agrees h.state k.built }
  holds (a ∷ more) h w k =
      let v = first_word a more w in
      let l = holds more (act a h) v.1 (kept_by a h v.0 k) in
      record { each = (does a h v.0 k, l.each); same_listing = l.same_listing; built = l.built; in_the_end = l.in_the_end }

  -- from a built table on, with no file yet
  pub kept_run : (x : State) → Built listing E x → (acts : List Act) → WordedActs acts → HoldsOfActs listing E (record { listing = listing; state = x; files = [] }) acts
  kept_run x b acts w = holds acts (record { listing = listing; state = x; files = [] }) w (record { same_listing = refl; built = b; files = tt })

  -- #101: "A call sequence may then start from a table that our calls made and that was written here with the listing they ran over, and its tree goes
  -- on from the one shown at writing.": one built table, written and read
  module _ (x : State) (b : Built listing E x) (output : Bytes) (n : ℕ) (a : (written listing x.store.table x.store.rec output).reply ≡ accepted n)
      (buffer : Bytes) (c : Content) where
    abbrev file : Bytes
    file = take n (written listing x.store.table x.store.rec output).output

    -- what a caller has after the reading
    abbrev read_state : State
    read_state = record { store = record { table = (read_back file buffer).table; rec = c.«record» }; plain = x.plain }

    -- the listing that was told is the same, and the table is one that the calls built
    pub read_built : (read_back file buffer).content ≡ some c → (take c.listing_len (drop c.listing_start file) ≡ listing) × Built listing E read_state
    read_built e =
        let h : Held = record { listing = listing; state = x; files = [] } in
        let k : StillHere h = record { same_listing = refl; built = b; files = tt } in
        let f : Filed = record { file = file; plain = x.plain } in
        let w = (kept_by_writing h k output (accepted n) a).files.0 in
        let r = subst (λ (y : Option Content). StillHere (resumed y f (read_back file buffer).table h)) e (kept_by_reading h k buffer f w (may_read file buffer) refl) in
        (r.same_listing, r.built)

    -- and a list of calls may go on from it, over the listing that was told
    pub read_runs : (read_back file buffer).content ≡ some c → (calls : List Request) → WordedCalls calls
        → RunFrom (take c.listing_len (drop c.listing_start file)) read_state calls
    read_runs e calls w =
        let r = read_built e in
        subst⁻¹ (λ (l : Bytes). RunFrom l read_state calls) r.0 (built_runs listing E bytes read_state r.1 calls w)
