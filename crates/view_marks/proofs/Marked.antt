-- What the code reads of an entry and of a record: whether a reference holds its own path, and that a record is there.
use mathlib.Core.Path.{◌≡◌, refl, sym, ◌∙◌}
use mathlib.Core.Bool.{Bool, false}
use mathlib.Core.Option.{none, some}
use Prim.Native.Nat.{ℕ, ◌<◌, ◌≤◌, ◌+◌}
use native.Mathlib.Omega.{arith}
use lib.ListN.{length}
use Rattle.model.specs.Bytes.{Bytes, same}
use Rattle.model.specs.Path.{Path}
use Rattle.model.specs.Map.{is_none}
use Rattle.model.specs.Tree.{listed, file, Entry, own, reference, directory, deleted, view}
use Rattle.model.specs.Table.{type_of, mtime_of, size_of, body_of}
use Rattle.model.proofs.Orders.{bot, same_refl}
use Rattle.model.proofs.Codec.{same_is}
use Rattle.listing_records.specs.Place.{Standing}
use Rattle.listing_records.proofs.Places.{stands}
use Rattle.view_marks.specs.Marks.{Tells}

-- the entry e, of kind 2 with the mtime n, the size y and the body b, shows the file that is listed at the path p with
-- both, if b is the path; s tells whether b is q, which is p
pub tells_listed_file : (e : Entry) (k m z n y : ℕ) (b q p : Path) (s : Bool) → k ≡ type_of e → m ≡ mtime_of e
    → z ≡ size_of e → b ≡ body_of e → q ≡ p → s ≡ same b q → k ≡ 2 → m ≡ n → z ≡ y
    → Tells s (view e ≡ some (file n y (listed p)))
tells_listed_file (own x c) k m z n y b q p s hk hm hz hb hq hs ek em ez = absurd (omega arith)
tells_listed_file (reference x w c) k m z n y b q p s hk hm hz hb hq hs ek em ez =
    (λ h. let i = same_is b q (sym hs ∙ h) in cc, λ h v. let r = same_refl b in bot (cc))
tells_listed_file (directory x) k m z n y b q p s hk hm hz hb hq hs ek em ez = absurd (omega arith)
tells_listed_file deleted k m z n y b q p s hk hm hz hb hq hs ek em ez = absurd (omega arith)

-- an entry of kind 4 shows nothing, and every other something
pub shows_nothing : (e : Entry) (k : ℕ) → k ≡ type_of e → k ≡ 4 → view e ≡ none
shows_nothing (own m c) k h z = absurd (omega arith)
shows_nothing (reference m y p) k h z = absurd (omega arith)
shows_nothing (directory m) k h z = absurd (omega arith)
shows_nothing deleted k h z = refl

pub shows_something : (e : Entry) (k : ℕ) → k ≡ type_of e → (k ≡ 4 → ⊥) → is_none (view e) ≡ false
shows_something (own m c) k h z = refl
shows_something (reference m y p) k h z = refl
shows_something (directory m) k h z = refl
shows_something deleted k h z = absurd (z h)

-- a record that is next can be read
pub node_there : (s : Bytes) (n at : ℕ) → 0 < n → Standing s n at → (at + 19 ≤ length s) × (length s ≤ 16777216)
node_there s n at h w = ((stands s n at h w).head, w.small)
