-- A call as an outer and an inner function: 1 and 2 refuse and decide, or listing, table and work buffer are as the inner one asks, and the verdict is that of 3 on.
use mathlib.Core.Path.{◌≡◌, sym, ◌∙◌}
use mathlib.Core.Bool.{Bool, true, ◌&&◌}
use Prim.Native.Nat.{◌≤◌}
use lib.Dec.{leb}
use lib.ListN.{length}
use borrow.Author.Tests.{leb-true, le-leb}
use Rattle.model.specs.Bytes.{Bytes}
use Rattle.model.specs.Listing.{is_listing, tree_in}
use Rattle.model.specs.Table.{is_table, table_in}
use Rattle.model.specs.Checks.{Check, pass, ◌then◌, unless, limited}
use Rattle.model.specs.Calls.{forms, rules}
use Rattle.model.specs.Answer.{told_refusal}
use Rattle.model.specs.Outcome.{Store, Given, Request, lent, room, verdict, outcome}
use Rattle.model.specs.declared.Answered.{Answered}
use Rattle.model.specs.declared.Refusal.{Refusal}
use Rattle.model.proofs.Orders.{and_true}
use Rattle.model.proofs.Invariant.{then_pass, unless_pass}
use Rattle.std.specs.Prelude.{Err}
use Rattle.check_judged.specs.Judged.{as_check}
use Rattle.check_judged.proofs.Thens.{then_assoc, stops}
use Rattle.call_answer.specs.Meets.{Meets}
use Rattle.call_answer.proofs.Settles.{told_so}

-- t whether the table is one, w whether the work buffer is long enough, l whether the listing is one
all_passed : (t w l : Bool) → pass ≡ (unless 1 (t && w) then unless 2 l) → (t ≡ true) × (w ≡ true) × (l ≡ true)
all_passed t w l h =
    let both = then_pass (unless 1 (t && w)) (unless 2 l) (sym h) in
    let first = and_true t w (unless_pass 1 (t && w) both.0) in
    (first.0, first.1, unless_pass 2 l both.1)

module _ (listing : Bytes) (q : Request) (s : Store) where
  -- from 3 on
  abbrev pub verdict_on : Check
  verdict_on =
      forms q.call
      then rules (limited s.rec.entry_size q.limit) (table_in s.table s.rec) (tree_in listing) q.call
      then unless 13 (room listing q s)

  pub given_verdict : Given listing s.table s.rec → length s.table ≤ length q.work → verdict listing q s ≡ verdict_on
  given_verdict g h =
      let w = le-leb (length s.table) (length q.work) h in
      rw (g.table_is, w, g.listing_is)

  -- 1 and 2
  abbrev pub first_checks : Check
  first_checks = unless 1 (lent q s) then unless 2 (is_listing listing)

  pub not_admitted : (r : Refusal) → as_check (told_refusal r) ≡ first_checks → (a : Answered)
      → a ≡ record { answer = Err r; «record» = s.rec } → Meets (outcome listing q s) a s.table q.work
  not_admitted r e =
      told_so listing q s r
      (sym (stops first_checks verdict_on r e ∙ then_assoc (unless 1 (lent q s)) (unless 2 (is_listing listing)) verdict_on))

  pub admitted_given : pass ≡ first_checks → Given listing s.table s.rec × (length s.table ≤ length q.work)
  admitted_given e =
      let k = all_passed (is_table s.table s.rec) (leb (length s.table) (length q.work)) (is_listing listing) e in
      (record { listing_is = k.2; table_is = k.0 }, leb-true (length s.table) (length q.work) k.1)
