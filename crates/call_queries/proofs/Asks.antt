-- A query's answer: as 1, 2 and 3 refuse, or yes or no by what is visible.
use mathlib.Core.Path.{◌≡◌, refl, ap, ◌∙◌}
use mathlib.Core.Bool.{Bool, true, false, cond}
use Prim.Native.Nat.{ℕ}
use native.Mathlib.Omega.{arith}
use lib.Dec.{leb}
use lib.ListN.{length}
use borrow.Author.Tests.{le-leb}
use Rattle.std.specs.Prelude.{Result, Ok, Option, IsErrAnd}
use Rattle.std.proofs.lemmas.Result.{err_from_is_err_and}
use Rattle.model.specs.Bytes.{Bytes}
use Rattle.model.specs.Path.{Path, is_path}
use Rattle.model.specs.Tree.{Kind, shown, kind}
use Rattle.model.specs.Listing.{is_listing, tree_in}
use Rattle.model.specs.Table.{is_table, table_in}
use Rattle.model.specs.Checks.{Check, pass, refuse, ◌then◌, unless, form}
use Rattle.model.specs.Calls.{Query, says}
use Rattle.model.specs.Answer.{Reply, accepted, refused, told_refusal, told_finding}
use Rattle.model.specs.Outcome.{answered, ask}
use Rattle.model.specs.declared.Record.{Record}
use Rattle.model.specs.declared.Refusal.{Refusal}
use Rattle.model.proofs.Orders.{bot}
use Rattle.check_judged.specs.Judged.{as_check, refuses}
use Rattle.check_judged.proofs.Checked.{refusal_refuses}
use Rattle.view_at.specs.declared.Visible.{Visible}
use Rattle.view_at.specs.Sight.{visible_kind}
use Rattle.call_answer.specs.Meets.{stored}
use Rattle.check_lent.proofs.Firsts.{firsts}
use Rattle.call_queries.specs.Seen.{told_seen}

-- a work buffer that is as long as the table is long enough
same_firsts : (t w l p : Bool) → w ≡ true → firsts t w l p ≡ (unless 1 t then unless 2 l then cond p pass (refuse 3 0 0))
same_firsts true true l p h = refl
same_firsts true false l p h = absurd (bot (cc))
same_firsts false w l p h = refl

-- a refusal told as a query's answer
told_answer : (r : Reply) (yes? : Bool) → refuses (as_check r) ≡ true → r ≡ answered (as_check r) yes?
told_answer (accepted v) yes? h = absurd (bot (cc))
told_answer (refused m u i) yes? h = refl

-- the checks gave c, with n bytes of work buffer, as many as the table has
module _ (listing table : Bytes) (r : Record) (n : ℕ) (path : Path) (o : n ≡ length table) (c : Check)
    (e : c ≡ firsts (is_table table r) (leb (length table) n) (is_listing listing) (is_path path)) (q : Query) where
  asked : c ≡ (unless 1 (is_table table r) then unless 2 (is_listing listing) then form 0 path)
  asked =
      e ∙ same_firsts (is_table table r) (leb (length table) n) (is_listing listing) (is_path path) (le-leb (length table) n (omega arith))

  abbrev yes? : Bool
  yes? = says q (kind (shown (table_in table r) (tree_in listing)) path)

  pub ask_refused : (x : Refusal) (j : Result (Option Visible) Refusal) → IsErrAnd j (λ y. y ≡ x) → as_check (told_refusal x) ≡ c
      → told_seen q j ≡ ask q listing path (stored table r)
  ask_refused x j h f =
      let p = err_from_is_err_and j h in
      ap (told_seen q) p.1 ∙ ap told_refusal p.2 ∙ told_answer (told_refusal x) yes? (refusal_refuses x)
      ∙ ap (λ (d : Check). answered d yes?) (f ∙ asked)

  pub ask_answered : (v : Option Visible) → pass ≡ c → visible_kind v ≡ kind (shown (table_in table r) (tree_in listing)) path
      → told_seen q (Ok v) ≡ ask q listing path (stored table r)
  ask_answered v h f = ap (λ (x : Kind). accepted (cond (says q x) 1 0)) f ∙ ap (λ (d : Check). answered d yes?) (h ∙ asked)

-- yes or no, told as a query's answer; and what a `?` answers, where x is what was refused
pub told_yes : (b : Bool) → told_finding (Ok b) ≡ accepted (cond b 1 0)
told_yes true = refl
told_yes false = refl

pub told_refused : (x : Refusal) (j : Result Bool Refusal) → IsErrAnd j (λ y. y ≡ x) → told_finding j ≡ told_refusal x
told_refused x j h = let p = err_from_is_err_and j h in ap told_finding p.1 ∙ ap told_refusal p.2
