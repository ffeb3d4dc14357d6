-- `listing_check::is_record` meets its contract: where the record fits, its path and its rules decide.
use mathlib.Core.Path.{◌≡◌, sym, ◌∙◌}
use mathlib.Core.Bool.{Bool, ◌&&◌}
use Prim.Native.Nat.{ℕ, ◌+◌, ◌-◌, ◌≤◌}
use native.Mathlib.Nat.{add-sub_cancel_left}
use lib.ListN.{length, take, drop}
use borrow.Author.Rules.{rules}
use borrow.Author.Tests.{le-leb}
use Rattle.model.specs.Bytes.{Bytes, number_at}
use Rattle.model.specs.Path.{is_path}
use Rattle.model.specs.Listing.{record_at, ruled}
use Rattle.listing_check.specs.Turn.{fits, formed_alone}
use Rattle.listing_check.proofs.is_record.Goals as goal

judged : (s : Bytes) (at n : ℕ) → n ≡ number_at s at 2 → at + 19 ≤ length s → at + 19 + n ≤ length s
    → (t : Bool) → t ≡ is_path (take (at + 19 + n - (at + 19)) (drop (at + 19) s))
    → (t && ruled (record_at s at)) ≡ (fits s at && formed_alone (record_at s at))
judged s at n e h k t p =
    let path : is_path (record_at s at).path ≡ t = rw (← e) (sym (p ∙ rw (add-sub_cancel_left (at + 19) n))) in
    rw (path, le-leb (at + 19) (length s) h, ← e, le-leb (at + 19 + n) (length s) k)

pub returns-then-is_path : goal.returns-then-is_path
returns-then-is_path c =
    let a = c.args in
    let j = judged a.s.now a.at c.le16.result c.le16.ensures.0 (search rules) (search rules) c.is_path.result c.is_path.ensures in
    c.is_ruled.ensures ∙ (rw c.if-is_path.true at j)

pub returns-else-is_path : goal.returns-else-is_path
returns-else-is_path c =
    let a = c.args in
    let j = judged a.s.now a.at c.le16.result c.le16.ensures.0 (search rules) (search rules) c.is_path.result c.is_path.ensures in
    c.if-is_path.false ∙ (rw c.if-is_path.false at j)
