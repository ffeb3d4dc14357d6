-- What the reader answers and leaves, by its checks in their order: one law for each exit.
use mathlib.Core.Path.{◌≡◌, refl, ap, sym, ◌∙◌}
use mathlib.Core.Bool.{Bool, true, false, not}
use mathlib.Core.List.{◌++◌}
use mathlib.Core.Option.{Option, none, some}
use Prim.Native.Nat.{ℕ, ◌-◌, ◌<◌, ◌≤◌}
use lib.Dec.{leb}
use lib.ListN.{length, take, replicate}
use borrow.Author.Tests.{le-leb, lt-leb, leb-true, not-true, not-false}
use Rattle.model.specs.Bytes.{Bytes}
use Rattle.model.specs.Listing.{is_listing}
use Rattle.model.specs.Table.{padded}
use Rattle.model.specs.Checks.{Check, pass, refuse}
use Rattle.model.specs.Answer.{Reply, accepted, refused}
use Rattle.model.specs.declared.Record.{Record}
use Rattle.model.proofs.Orders.{bot}
use Rattle.model.proofs.Words.{IsBytes}
use Rattle.base_fields.specs.Write.{overwritten}
use Rattle.base_fields.proofs.Zeros.{zeroed_behind}
use Rattle.kept_file.specs.declared.Content.{Content}
use Rattle.kept_file.specs.declared.ReadError.{ReadError}
use Rattle.kept_file.specs.Kept.{listing_in, entries_in, marked, undamaged, content_of, may_read, read_by, read_back}
use Rattle.kept_file.specs.Kept.{told_content}
use Rattle.kept_file.proofs.RoundTrip.{all_passed}
use Rattle.std.specs.Prelude as core
use Rattle.std.specs.Prelude.{Result, Ok, Err, Some, None}
use Rattle.kept_read.specs.Heads.{record_in}
use Rattle.kept_read.specs.Frame.{framed}
use Rattle.kept_read.proofs.Sums.{no_record, own_sum}
use Rattle.kept_read.proofs.Frames.{framed_is, listing_length_lem, undamaged_framed, not_framed, is_undamaged}

-- what a file holds whose listing has n bytes
abbrev content_by : ℕ → Record → Content
content_by n r = record { listing_start = 9; listing_len = n; «record» = r }

-- the same answer for each table buffer of one length
abbrev Tells : Bytes → ℕ → Reply → Option Content → Type 0
Tells s len reply content =
    ((t : Bytes) → length t ≡ len → reply ≡ (read_back s t).reply)
    × ((t : Bytes) → length t ≡ len → content ≡ (read_back s t).content)

module _ (s : Bytes) (len : ℕ) where
  refuses : (n : ℕ) → ((t : Bytes) → length t ≡ len → may_read s t ≡ refuse n 0 0) → Tells s len (refused n 0 0) none
  refuses n h = (
    λ t e. ap (λ (c : Check). (read_by c s t).reply) (sym (h t e)),
    λ t e. ap (λ (c : Check). (read_by c s t).content) (sym (h t e)),
  )

  pub long_table : 16777216 < len → Tells s len (refused 1 0 0) none
  long_table h = refuses 1 (λ t e. rw (e, lt-leb len 16777216 h))

  module _ (small : len ≤ 16777216) {b : Bool} (eb : b ≡ marked s) where
    pub not_kept : not b ≡ true → Tells s len (refused 14 0 0) none
    not_kept h = refuses 14 (λ t e. rw (e, le-leb len 16777216 small, sym eb ∙ not-true b h))

    module _ (hb : not b ≡ false) where
      mark : marked s ≡ true
      mark = sym eb ∙ not-false b hb

      damaged : undamaged s ≡ false → Tells s len (refused 15 0 0) none
      damaged h = refuses 15 (λ t e. rw (e, le-leb len 16777216 small, mark, h))

      module _ {f : Bool} (ef : f ≡ framed s) where
        pub no_frame : not f ≡ true → Tells s len (refused 15 0 0) none
        no_frame h = damaged (not_framed s mark (sym ef ∙ not-true f h))

        module _ (hf : not f ≡ false) {l : Bytes} (el : l ≡ listing_in s) {g : Bool} (eg : g ≡ is_listing l) where
          frame : framed s ≡ true
          frame = sym ef ∙ not-false f hf

          listed : g ≡ is_listing (listing_in s)
          listed = eg ∙ ap is_listing el

          pub no_listing : not g ≡ true → Tells s len (refused 15 0 0) none
          no_listing h = damaged (rw (sym listed ∙ not-true g h))

          module _ (hg : not g ≡ false) {e : Bytes} (ee : e ≡ entries_in s) {r : core.Option Record} (er : r ≡ record_in 40 e) where
            listing : is_listing (listing_in s) ≡ true
            listing = sym listed ∙ not-false g hg

            summed_in : r ≡ record_in 40 (entries_in s)
            summed_in = er ∙ ap (record_in 40) ee

            pub no_entries : r ≡ None → Tells s len (refused 15 0 0) none
            no_entries h = damaged (rw (listing, no_record 40 (entries_in s) (sym h ∙ summed_in)))

            module _ (rec : Record) (w : r ≡ Some rec) (bs : IsBytes s) where
              whole : undamaged s ≡ true
              whole = is_undamaged s mark listing bs frame (own_sum 40 (entries_in s) rec (sym w ∙ summed_in)).0

              pub no_room : len < length e → Tells s len (refused 13 0 0) none
              no_room h =
                  let k : len < length (entries_in s) = rw ee at h in
                  refuses 13 (λ t i.
                  rw (i, le-leb len 16777216 small, mark, whole, lt-leb (length (entries_in s)) len k))

              pub accepts : length e ≤ len → Tells s len (accepted 0) (some (content_by (length l) rec))
              accepts h =
                  let k : length (entries_in s) ≤ len = rw ee at h in
                  let n = ap length el ∙ listing_length_lem s (framed_is s frame) in
                  let o = (own_sum 40 (entries_in s) rec (sym w ∙ summed_in)).1 in
                  let c : content_by (length l) rec ≡ content_of s = λ i. content_by (n i) (o i) in
                  let p : (t : Bytes) → length t ≡ len → may_read s t ≡ pass
                  = λ t i. rw (i, le-leb len 16777216 small, mark, whole, le-leb (length (entries_in s)) len k) in (
                    λ t i. ap (λ (c : Check). (read_by c s t).reply) (sym (p t i)),
                    λ t i. ap some c ∙ ap (λ (c : Check). (read_by c s t).content) (sym (p t i)),
                  )

-- what is left in the table buffer

-- the entries copied in, with zeros behind
pub filled_up : (t u w bs : Bytes) → length bs ≤ length t → u ≡ overwritten t 0 bs
    → w ≡ take (length bs) u ++ replicate (length u - length bs) 0 → w ≡ padded (length t) bs
filled_up t u w bs h e f =
    f
    ∙ ap (λ (v : Bytes). take (length bs) v ++ replicate (length v - length bs) 0) e
    ∙ zeroed_behind t bs (length bs) refl h

-- refused, it is as it was
kept_as : (s t : Bytes) (c : Check) → none ≡ (read_by c s t).content → t ≡ (read_by c s t).table
kept_as s t pass h = absurd (bot (cc))
kept_as s t (refuse n w k) h = refl

content_pass : (s t : Bytes) (x : Content) (c : Check) → some x ≡ (read_by c s t).content → c ≡ pass
content_pass s t x pass h = refl
content_pass s t x (refuse n w k) h = absurd (bot (cc))

-- r is what the judge answered
module _ (s t : Bytes) {r : Result Content ReadError} (content : told_content r ≡ (read_back s t).content) where
  pub unchanged : {e : ReadError} → r ≡ Err e → t ≡ (read_back s t).table
  unchanged d = kept_as s t (may_read s t) (sym (ap told_content d) ∙ content)

  module _ {y : Content} (d : r ≡ Ok y) where
    passes : may_read s t ≡ pass
    passes = content_pass s t y (may_read s t) (sym (ap told_content d) ∙ content)

    passed : (marked s ≡ true) × (undamaged s ≡ true) × (length (entries_in s) ≤ length t)
    passed =
        let n : ℕ = length (entries_in s) in
        let p = all_passed 1 14 15 13 (leb (length t) 16777216) (marked s) (undamaged s) (leb n (length t)) passes in
        (p.1, p.2, leb-true n (length t) p.3)

    pub done_framed : framed s ≡ true
    done_framed = undamaged_framed s passed.0 passed.1

    module _ {p : Bytes} (ep : p ≡ entries_in s) where
      pub done_fits : length p ≤ length t
      done_fits = rw ep passed.2

      pub done : {w : Bytes} → w ≡ padded (length t) p → w ≡ (read_back s t).table
      done ew = ew ∙ ap (padded (length t)) ep ∙ ap (λ (c : Check). (read_by c s t).table) (sym passes)
