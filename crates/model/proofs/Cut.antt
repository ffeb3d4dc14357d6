-- #107: where it is seen that a sum counts as 2^64 − 1. No table in form has such a sum, so a writing inside that would leave one is refused: at
-- every smaller limit with 11, and at the limit 2^64 − 1 with 13. Assumes a listing, a table and a path in form.
use mathlib.Core.Path.{◌≡◌, ap, ◌∙◌}
use mathlib.Core.Bool.{false}
use mathlib.Core.List.{[], ◌∷◌}
use Prim.Native.Nat.{ℕ, ◌+◌, ◌<◌, ◌≤◌}
use native.Mathlib.Omega.{arith}
use lib.Dec.{leb}
use lib.ListN.{length}
use borrow.Author.Tests.{le-leb, lt-leb}
use Rattle.model.specs.Bytes.{Bytes}
use Rattle.model.specs.Path.{Path}
use Rattle.model.specs.Map.{put}
use Rattle.model.specs.Tree.{Entry, own, Table}
use Rattle.model.specs.Table.{encode, entry_charge, charge_sum, charge, table_in}
use Rattle.model.specs.Listing.{tree_in}
use Rattle.model.specs.Checks.{Check, pass, refuse, ◌then◌, unless, form, charged, limited}
use Rattle.model.specs.Content.{inside_checks, content_of, spliced}
use Rattle.model.specs.Calls.{write_inside, changed}
use Rattle.model.specs.Answer.{refused}
use Rattle.model.specs.Outcome.{Store, Given, Request, shown_in, verdict, settle, outcome}
use Rattle.model.proofs.Orders.{Cmp, cmp}
use Rattle.model.proofs.Codec.{Decoded, decoded, bounds}
use Rattle.model.proofs.Splices.{spliced_length}

-- an entry that is put is charged
pub put_charged : (E : ℕ) (k : Path) (v : Entry) (t : Table) → entry_charge E k v ≤ charge_sum E (put k v t)
put_charged E k v [] = omega arith
put_charged E k v (x ∷ xs) =
    let i = put_charged E k v xs in
    elim (cmp k x.0) [ Cmp.lt m w ↦ rw w (omega arith) | Cmp.eq f w ↦ rw w (omega arith) | Cmp.gt m w ↦ rw w (omega arith) ]

-- the limit 2^64 − 1 is never exceeded by the charge after a call
pub never_above : (E : ℕ) (t : Table) → charged (limited E 0xFFFF_FFFF_FFFF_FFFF) t ≡ pass
never_above E t = ap (unless 11) (le-leb (charge E t) 0xFFFF_FFFF_FFFF_FFFF (omega arith))

-- data written inside an own file of a table in form, so far behind that the sum would pass 2^64 − 1
module _ (listing : Bytes) (s : Store) (p : Path) (m o : ℕ) (d work : Bytes) (g : Given listing s.table s.rec) (f : form 0 p ≡ pass)
    (w : length s.table ≤ length work) (c : inside_checks (shown_in listing s.table s.rec) p o d ≡ pass) (x : 0xFFFF_FFFF_FFFF_FF00 ≤ o + length d) where
  abbrev asked : ℕ → Request
  asked limit = record { call = write_inside p m o d; limit = limit; work = work }

  abbrev after : Table
  after = changed (table_in s.table s.rec) (tree_in listing) (write_inside p m o d)

  beyond : 0xFFFF_FFFF_FFFF_FFFF < charge_sum s.rec.entry_size after
  beyond =
      let content : Bytes = content_of (shown_in listing s.table s.rec p) [] in
      let a = put_charged s.rec.entry_size p (own m (spliced o d content)) (table_in s.table s.rec) in
      let b = spliced_length o d content in
      omega arith

  too_long : leb (length (encode after)) (length s.table) ≡ false
  too_long =
      let e : Decoded s.table s.rec = decoded s.table s.rec g.table_is in
      let E = e.size_most in
      let S = e.length_most in
      let b = (bounds s.rec.entry_size after E).1 in
      let y = beyond in
      lt-leb (length (encode after)) (length s.table) (omega arith)

  checked : (limit : ℕ) → verdict listing (asked limit) s ≡ (charged (limited s.rec.entry_size limit) after then unless 13 false)
  checked limit = rw (g.table_is, le-leb (length s.table) (length work) w, g.listing_is, f, c, too_long)

  refused_with : (limit n : ℕ) → verdict listing (asked limit) s ≡ refuse n 0 0
      → outcome listing (asked limit) s ≡ record { reply = refused n 0 0; store = s; work = work }
  refused_with limit n e = ap (λ (v : Check). settle v listing (asked limit) s) e

  pub beyond_most : outcome listing (asked 0xFFFF_FFFF_FFFF_FFFF) s ≡ record { reply = refused 13 0 0; store = s; work = work }
  beyond_most =
      refused_with 0xFFFF_FFFF_FFFF_FFFF 13
      (checked 0xFFFF_FFFF_FFFF_FFFF ∙ ap (λ (v : Check). v then unless 13 false) (never_above s.rec.entry_size after))

  pub beyond_less : (limit : ℕ) → limit < 0xFFFF_FFFF_FFFF_FFFF → outcome listing (asked limit) s ≡ record { reply = refused 11 0 0; store = s; work = work }
  beyond_less limit h =
      let y = beyond in
      refused_with limit 11 (checked limit ∙ rw (lt-leb (charge s.rec.entry_size after) limit (omega arith)))
