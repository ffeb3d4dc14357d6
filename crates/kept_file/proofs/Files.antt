-- The parts of a kept file, both ways: what the file of a listing and entries has in each place, that it is marked and
-- undamaged; and that a marked and undamaged file is the file of its parts. Assumes a listing whose length has 32 bits;
-- each listing in form has one.
use mathlib.Core.Path.{◌≡◌, refl, ap, ap₂, sym, ◌∙◌}
use mathlib.Core.List.{◌++◌}
use mathlib.Core.Bool.{Bool, true, ◌&&◌}
use Prim.Native.Nat.{ℕ, ◌+◌, ◌<◌}
use native.Mathlib.Omega.{arith}
use lib.ListN.{length, take, drop, take-append-drop, length-append}
use lib.Seq.{drop-drop, take-append_seam, drop-append_seam}
use Rattle.model.specs.Bytes.{Bytes, number, number_at, bytes, same}
use Rattle.model.specs.Listing.{is_listing}
use Rattle.model.proofs.Orders.{same_refl, and_true}
use Rattle.model.proofs.Listings.{checked}
use Rattle.model.proofs.Codec.{same_is, number_bytes}
use Rattle.kept_file.specs.Kept.{head, kept, version_in, start_of_listing, listing_length, listing_in, entries_in}
use Rattle.kept_file.specs.Kept.{entry_size_in, is_entries, marked, undamaged}

module _ (l e : Bytes) where
  pub kept_size : length (kept 1 l e) ≡ 13 + length l + length e
  kept_size = let n = length-append l (bytes 4 (length e) ++ e) in omega arith

  -- the head of version 1 and where it ends
  pub kept_version : version_in (kept 1 l e) ≡ 1
  kept_version = refl

  pub kept_marked : marked (kept 1 l e) ≡ true
  kept_marked = refl

  pub kept_start : start_of_listing (kept 1 l e) ≡ 9
  kept_start = refl

  behind_start : drop 9 (kept 1 l e) ≡ l ++ (bytes 4 (length e) ++ e)
  behind_start = refl

  -- the listing, the entries and their lengths
  module _ (short : length l < 0x1_0000_0000) where
    pub kept_length : listing_length (kept 1 l e) ≡ length l
    kept_length = number_bytes 4 (length l) short

    pub kept_listing : listing_in (kept 1 l e) ≡ l
    kept_listing = ap₂ take kept_length behind_start ∙ take-append_seam l (bytes 4 (length e) ++ e)

    behind_listing : drop (9 + length l) (kept 1 l e) ≡ bytes 4 (length e) ++ e
    behind_listing = sym (drop-drop (length l) 9 (kept 1 l e)) ∙ drop-append_seam l (bytes 4 (length e) ++ e)

    pub kept_entries_length : length e < 0x1_0000_0000 → number_at (kept 1 l e) (9 + length l) 4 ≡ length e
    kept_entries_length h = ap (λ (s : Bytes). number (take 4 s)) behind_listing ∙ number_bytes 4 (length e) h

    pub kept_entries : entries_in (kept 1 l e) ≡ e
    kept_entries =
        ap (λ (n : ℕ). drop (9 + n + 4) (kept 1 l e)) kept_length
        ∙ sym (drop-drop 4 (9 + length l) (kept 1 l e))
        ∙ ap (drop 4) behind_listing

-- a listing in form and entries make a file that nothing damaged
all_three : (a b c : Bool) → a ≡ true → b ≡ true → c ≡ true → (a && b && c) ≡ true
all_three a b c h i j = cc

pub kept_undamaged : (l e : Bytes) → is_listing l ≡ true → is_entries 40 e ≡ true → undamaged (kept 1 l e) ≡ true
kept_undamaged l e h i =
    let s : Bytes = kept 1 l e in
    let m = (checked l h).small in
    let short : length l < 0x1_0000_0000 = omega arith in
    let a : listing_in s ≡ l = kept_listing l e short in
    let b : entries_in s ≡ e = kept_entries l e short in
    all_three (is_listing (listing_in s)) (is_entries 40 (entries_in s)) (same s (kept 1 (listing_in s) (entries_in s)))
    (ap is_listing a ∙ h) (ap (is_entries 40) b ∙ i) ((λ x. same s (kept 1 (a x) (b x))) ∙ same_refl s)

-- what a marked file begins with, and that it names version 1
pub marked_begins : (s : Bytes) → marked s ≡ true → s ≡ head 1 ++ drop 5 s
marked_begins s h = sym (take-append-drop 5 s) ∙ ap (λ (t : Bytes). t ++ drop 5 s) (same_is (take 5 s) (head 1) h)

pub marked_version : (s : Bytes) → marked s ≡ true → version_in s ≡ 1
marked_version s h = ap version_in (marked_begins s h)

-- what a file is that the reader takes
pub record Parts (s : Bytes) : Type 0 where
  pub listing : is_listing (listing_in s) ≡ true
  pub entries : is_entries (entry_size_in s) (entries_in s) ≡ true
  pub file : s ≡ kept 1 (listing_in s) (entries_in s)

pub parts : (s : Bytes) → marked s ≡ true → undamaged s ≡ true → Parts s
parts s m u =
    let l : Bool = is_listing (listing_in s) in
    let e : Bool = is_entries (entry_size_in s) (entries_in s) in
    let f : Bytes = kept (version_in s) (listing_in s) (entries_in s) in
    let x = and_true (l && e) (same s f) u in
    let y = and_true l e x.0 in
    let v : f ≡ kept 1 (listing_in s) (entries_in s)
    = ap (λ (n : ℕ). kept n (listing_in s) (entries_in s)) (marked_version s m) in
    record { listing = y.0; entries = y.1; file = same_is s f x.1 ∙ v }
