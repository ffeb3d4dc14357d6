-- The head of a kept file and the lengths in it: the tests that the code makes, and that a marked file is undamaged
-- exactly where they pass and its listing and its entries are in form. A length that was read is written as the same
-- bytes only where they are bytes, so this asks `IsBytes`.
use mathlib.Core.Path.{◌≡◌, refl, ap, ap₂, sym, ◌∙◌}
use mathlib.Core.Bool.{Bool, true, false, ◌&&◌}
use mathlib.Core.List.{[], ◌∷◌, ◌++◌}
use Prim.Native.Nat.{ℕ, ◌+◌, ◌-◌, ◌<◌, ◌≤◌}
use native.Mathlib.Omega.{arith}
use native.Mathlib.Nat.{add-sub_cancel_left}
use lib.Dec.{leb, eqb}
use lib.ListN.{length, take, drop, length-append, length-drop, drop_of_length-le}
use lib.Seq.{take_all, take-nil}
use borrow.Author.Tests.{le-leb, lt-leb, leb-true, eq-eqb}
use Rattle.model.specs.Bytes.{Bytes, number_at, bytes, same}
use Rattle.model.specs.Listing.{is_listing}
use Rattle.model.proofs.Orders.{bot, yea, nay, test, same_no, same_refl, eqb_eq, and_true}
use Rattle.model.proofs.Words.{IsBytes}
use Rattle.model.proofs.Codec.{same_is}
use Rattle.model.proofs.Listings.{checked}
use Rattle.base_fields.proofs.Pieces.{cut, part_length, piece}
use Rattle.kept_file.specs.Kept.{head, kept, version_in, listing_length, listing_in, entries_in}
use Rattle.kept_file.specs.Kept.{is_entries, marked, undamaged}
use Rattle.kept_file.proofs.Entries.{are_entries}
use Rattle.kept_file.proofs.Files.{kept_length, kept_entries_length, marked_begins, marked_version, parts}
use Rattle.kept_read.specs.Frame.{listing_end, framed}

abbrev mark : Bytes
mark = 79 ∷ 86 ∷ 84 ∷ []

-- mark and version

module _ (s : Bytes) where
  pub headless : length s < 5 → false ≡ marked s
  headless h = sym (same_no (take 5 s) (head 1) (λ e.
      let l = ap length e in
      let m = ap length (take_all 5 s (omega arith)) in
      omega arith))

  module _ (bs : IsBytes s) (long : 5 ≤ length s) where
    is_marked : take 3 s ≡ mark → version_in s ≡ 1 → marked s ≡ true
    is_marked m v =
        let e : s ≡ head 1 ++ drop 5 s
        = cut s 0 3 3 refl ∙ ap₂ ◌++◌ m (piece s bs 3 2 5 refl long ∙ ap (λ (n : ℕ). bytes 2 n ++ drop 5 s) v) in
        ap marked e

    pub by_mark : {a : Bool} {v : ℕ} → a ≡ same (take 3 s) mark → v ≡ version_in s → (a && eqb v 1) ≡ marked s
    by_mark {a} {v} ea ev = elim (test (marked s)) [
      | yea m ↦
          let x : a ≡ true = ea ∙ ap (λ (t : Bytes). same (take 3 t) mark) (marked_begins s m) in
          rw (m, x, eq-eqb v 1 (ev ∙ marked_version s m))
      | nay m ↦ elim (test a) [
        | yea x ↦ elim (test (eqb v 1)) [
          | yea y ↦
              let z = is_marked (same_is (take 3 s) mark (sym ea ∙ x)) (sym ev ∙ eqb_eq v 1 y) in
              absurd (bot (cc))
          | nay y ↦ rw (m, x, y)
        ]
        | nay x ↦ rw (m, x)
      ]
    ]

-- the lengths

-- what the test of the lengths says
pub record Framed (s : Bytes) : Type 0 where
  pub long : 9 ≤ length s
  pub inside : listing_end s + 4 ≤ length s
  pub end : listing_end s + 4 + number_at s (listing_end s) 4 ≡ length s

module _ (s : Bytes) where
  pub framed_is : framed s ≡ true → Framed s
  framed_is h =
      let n : ℕ = listing_end s + 4 in
      let m : ℕ = n + number_at s (listing_end s) 4 in
      let a = and_true (leb 9 (length s)) (leb n (length s) && eqb m (length s)) h in
      let b = and_true (leb n (length s)) (eqb m (length s)) a.1 in
      record {
        long = leb-true 9 (length s) a.0;
        inside = leb-true n (length s) b.0;
        end = eqb_eq m (length s) b.1;
      }

  is_framed : Framed s → framed s ≡ true
  is_framed f =
      let n : ℕ = listing_end s + 4 in
      let m : ℕ = n + number_at s (listing_end s) 4 in
      rw (le-leb 9 (length s) f.long, le-leb n (length s) f.inside, eq-eqb m (length s) f.end)

  pub no_length : length s < 9 → false ≡ framed s
  no_length h = rw (lt-leb 9 (length s) h)

  module _ (h : 9 ≤ length s) {n : ℕ} (e : n ≡ listing_end s) where
    pub listing_cut : length s < n + 4 → false ≡ framed s
    listing_cut l = rw (le-leb 9 (length s) h, lt-leb (listing_end s + 4) (length s) (rw e at l))

    pub by_end : n + 4 ≤ length s → {m : ℕ} → m ≡ number_at s n 4 → eqb (n + 4 + m) (length s) ≡ framed s
    by_end l {m} em = rw (le-leb 9 (length s) h, le-leb (listing_end s + 4) (length s) (rw e at l), em, e)

-- the parts, as the code cuts them

module _ (s : Bytes) where
  pub no_listing : length s < 9 → [] ≡ listing_in s
  no_listing h =
      let n : ℕ = listing_length s in
      sym (ap (take n) (drop_of_length-le s {i = 9} (omega arith)) ∙ take-nil n)

  module _ {n : ℕ} (e : n ≡ listing_end s) where
    pub listing_up_to : take (n - 9) (drop 9 s) ≡ listing_in s
    listing_up_to = rw (e, add-sub_cancel_left 9 (listing_length s))

    pub listing_rest : length s < n → take (length s - 9) (drop 9 s) ≡ listing_in s
    listing_rest h =
        let d : length (drop 9 s) ≡ length s - 9 = length-drop 9 s in
        take_all (length s - 9) (drop 9 s) (omega arith)
        ∙ sym (take_all (listing_length s) (drop 9 s) (omega arith))

    pub entries_rest : take (length s - (n + 4)) (drop (n + 4) s) ≡ entries_in s
    entries_rest =
        let d : length (drop (n + 4) s) ≡ length s - (n + 4) = length-drop (n + 4) s in
        take_all (length s - (n + 4)) (drop (n + 4) s) (omega arith) ∙ ap (λ (k : ℕ). drop (k + 4) s) e

  module _ (f : Framed s) where
    pub listing_length_lem : length (listing_in s) ≡ listing_length s
    listing_length_lem = let i = f.inside in part_length s 9 (listing_length s) (omega arith)

    entries_length : length (entries_in s) ≡ number_at s (listing_end s) 4
    entries_length = let e = f.end in length-drop (listing_end s + 4) s ∙ (omega arith)

    -- a marked file whose lengths meet its end is what its parts make
    of_parts : IsBytes s → marked s ≡ true → s ≡ kept 1 (listing_in s) (entries_in s)
    of_parts bs m =
        let l : Bytes = listing_in s in
        let i = f.inside in
        let a : drop 5 s ≡ bytes 4 (length l) ++ drop 9 s
        = piece s bs 5 4 9 refl f.long ∙ ap (λ (n : ℕ). bytes 4 n ++ drop 9 s) (sym listing_length_lem) in
        let b : drop 9 s ≡ l ++ drop (listing_end s) s = cut s 9 (listing_length s) (listing_end s) refl in
        let c : drop (listing_end s) s ≡ bytes 4 (length (entries_in s)) ++ entries_in s
        = piece s bs (listing_end s) 4 (listing_end s + 4) refl i
        ∙ ap (λ (n : ℕ). bytes 4 n ++ entries_in s) (sym entries_length) in
        marked_begins s m
        ∙ ap (λ (t : Bytes). head 1 ++ t) (a
        ∙ ap (λ (t : Bytes). bytes 4 (length l) ++ t) (b
        ∙ ap (λ (t : Bytes). l ++ t) c))

-- undamaged, by the tests

module _ (s : Bytes) (m : marked s ≡ true) where
  -- an undamaged file's lengths meet its end
  pub undamaged_framed : undamaged s ≡ true → framed s ≡ true
  undamaged_framed u =
      let p = parts s m u in
      let l : Bytes = listing_in s in
      let e : Bytes = entries_in s in
      let sl = (checked l p.listing).small in
      let se = (are_entries 40 e p.entries).short in
      let ll : length l < 0x1_0000_0000 = omega arith in
      let n : listing_length s ≡ length l = ap listing_length p.file ∙ kept_length l e ll in
      let k : number_at s (9 + length l) 4 ≡ length e
      = ap (λ (t : Bytes). number_at t (9 + length l) 4) p.file ∙ kept_entries_length l e ll (omega arith) in
      let j : number_at s (listing_end s) 4 ≡ length e = ap (λ (i : ℕ). number_at s (9 + i) 4) n ∙ k in
      let w : length s ≡ length (kept 1 l e) = ap length p.file in
      let a = length-append l (bytes 4 (length e) ++ e) in
      is_framed s (record { long = omega arith; inside = omega arith; end = omega arith })

  pub not_framed : framed s ≡ false → undamaged s ≡ false
  not_framed f = elim (test (undamaged s)) [
    | yea u ↦ let z = undamaged_framed u in absurd (bot (cc))
    | nay u ↦ u
  ]

  pub is_undamaged : is_listing (listing_in s) ≡ true → IsBytes s → framed s ≡ true → is_entries 40 (entries_in s) ≡ true
      → undamaged s ≡ true
  is_undamaged h bs f i =
      let l : Bytes = listing_in s in
      let e : Bytes = entries_in s in
      let g : kept (version_in s) l e ≡ s
      = ap (λ (n : ℕ). kept n l e) (marked_version s m) ∙ sym (of_parts s (framed_is s f) bs m) in
      let j : same s (kept (version_in s) l e) ≡ true = ap (same s) g ∙ same_refl s in
      rw (h, i, j)
