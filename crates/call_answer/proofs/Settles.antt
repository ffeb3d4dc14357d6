-- From checks and an insertion to the outcome of a call: the checks before 11 decide, or the insertion does, or the call changes nothing.
use mathlib.Core.Path.{◌≡◌, refl, ap, sym, ◌∙◌}
use mathlib.Core.Bool.{true}
use Prim.Native.Nat.{ℕ}
use lib.Dec.{leb}
use lib.ListN.{length, replicate}
use Rattle.model.specs.Bytes.{Bytes}
use Rattle.model.specs.Tree.{Table}
use Rattle.model.specs.Table.{encode, padded, charge, record_of, is_table, table_in}
use Rattle.model.specs.Checks.{Check, pass, refuse, ◌then◌, unless}
use Rattle.model.specs.Calls.{value_of}
use Rattle.model.specs.Answer.{refused, told, told_refusal}
use Rattle.model.specs.Outcome.{Store, Request, Outcome, table_after, room, verdict, settle, outcome}
use Rattle.model.specs.declared.Answered.{Answered}
use Rattle.model.specs.declared.Refusal.{Refusal}
use Rattle.model.specs.declared.Refusal.TheVariants as refusal
use Rattle.model.proofs.Orders.{test, yea, nay}
use Rattle.model.proofs.Unchanged.{nothing_done, unchanged_fits, unchanged_settled}
use Rattle.table_insert.specs.declared.InsertError.TheVariants as inserted
use Rattle.std.specs.Prelude.{Ok, Err}
use Rattle.table_insert.specs.Insert.{Inserted, insertion, if_done}
use Rattle.check_judged.specs.Judged.{as_check}
use Rattle.check_judged.proofs.Thens.{stops}
use Rattle.call_answer.specs.Meets.{last, Meets, answered_of}

-- every refusal is told as one, with its number, path and length
pub record Told (r : Refusal) : Type 0 where
  pub number : ℕ
  pub path : ℕ
  pub len : ℕ
  pub is : told_refusal r ≡ refused number path len

pub told_as : (r : Refusal) → Told r
told_as refusal.MalformedTable = record { number = 1; path = 0; len = 0; is = refl }
told_as refusal.MalformedListing = record { number = 2; path = 0; len = 0; is = refl }
told_as (refusal.MalformedPath p) = record { number = 3; path = p; len = 0; is = refl }
told_as (refusal.LinkOrRoot p n) = record { number = 4; path = p; len = n; is = refl }
told_as (refusal.NotFound p n) = record { number = 5; path = p; len = n; is = refl }
told_as (refusal.Exists p n) = record { number = 6; path = p; len = n; is = refl }
told_as (refusal.NotADirectory p n) = record { number = 7; path = p; len = n; is = refl }
told_as (refusal.IsADirectory p n) = record { number = 8; path = p; len = n; is = refl }
told_as (refusal.NotEmpty p n) = record { number = 9; path = p; len = n; is = refl }
told_as (refusal.BelowSource n) = record { number = 10; path = 0; len = n; is = refl }
told_as refusal.Limit = record { number = 11; path = 0; len = 0; is = refl }
told_as refusal.KeyTooLong = record { number = 12; path = 0; len = 0; is = refl }
told_as refusal.NoRoom = record { number = 13; path = 0; len = 0; is = refl }
told_as refusal.LentCount = record { number = 17; path = 0; len = 0; is = refl }
told_as refusal.RangeTooLarge = record { number = 18; path = 0; len = 0; is = refl }

-- what each verdict leaves
module _ (listing : Bytes) (q : Request) (s : Store) where
  refuses_so : (n w k : ℕ) → verdict listing q s ≡ refuse n w k → outcome listing q s ≡ record { reply = refused n w k; store = s; work = q.work }
  refuses_so n w k e = ap (λ (c : Check). settle c listing q s) e

  passes_so : verdict listing q s ≡ pass → outcome listing q s ≡ settle pass listing q s
  passes_so e = ap (λ (c : Check). settle c listing q s) e

  pub told_so : (r : Refusal) → verdict listing q s ≡ as_check (told_refusal r) → (a : Answered) → a ≡ record { answer = Err r; «record» = s.rec }
      → Meets (outcome listing q s) a s.table q.work
  told_so r e a k =
      let t = told_as r in
      let o : outcome listing q s ≡ record { reply = refused t.number t.path t.len; store = s; work = q.work } =
      refuses_so t.number t.path t.len (e ∙ ap as_check t.is) in
      record {
        answer = ap (λ (x : Answered). told x.answer) k ∙ t.is ∙ sym (ap (λ (x : Outcome). x.reply) o);
        rec = ap (λ (x : Answered). x.«record») k ∙ sym (ap (λ (x : Outcome). x.store.rec) o);
        bytes = sym (ap (λ (x : Outcome). x.store.table) o);
        buffer = sym (ap (λ (x : Outcome). x.work) o);
      }

  -- accepted, with the entries as they were: table and record are those before, and the work buffer w is all 0
  pub unchanged_meets : is_table s.table s.rec ≡ true → table_after listing q s ≡ table_in s.table s.rec
      → verdict listing q s ≡ unless 13 (room listing q s) → (w : Bytes) → w ≡ replicate (length q.work) 0
      → Meets (outcome listing q s) (record { answer = Ok (value_of q.call); «record» = s.rec }) s.table w
  unchanged_meets h e v w z =
      let o : outcome listing q s ≡ nothing_done q s =
      passes_so (v ∙ ap (unless 13) (unchanged_fits listing q s h e)) ∙ unchanged_settled listing q s h e in
      record {
        answer = sym (ap (λ (x : Outcome). x.reply) o);
        rec = sym (ap (λ (x : Outcome). x.store.rec) o);
        bytes = sym (ap (λ (x : Outcome). x.store.table) o);
        buffer = z ∙ sym (ap (λ (x : Outcome). x.work) o);
      }

module _ (listing : Bytes) (q : Request) (s : Store) where
  abbrev after : Table
  after = table_after listing q s

  -- the checks before 11, which decide where they refuse
  module _ (c : Check) (v : verdict listing q s ≡ (c then last listing q s)) where
    pub refused_meets : (r : Refusal) → as_check (told_refusal r) ≡ c → (a : Answered) → a ≡ record { answer = Err r; «record» = s.rec }
        → Meets (outcome listing q s) a s.table q.work
    refused_meets r e = told_so listing q s r (v ∙ sym (stops c (last listing q s) r e))

    pub inserted_meets : pass ≡ c → (i : Inserted) → i ≡ insertion s.rec.entry_size q.limit (length s.table) after → (t w : Bytes)
        → t ≡ if_done i (padded (length s.table) (encode after)) s.table → w ≡ if_done i (replicate (length q.work) 0) q.work
        → (a : Answered) → a ≡ answered_of i s.rec (value_of q.call) → Meets (outcome listing q s) a t w
    inserted_meets e i f t w g h a k =
        let E : ℕ = s.rec.entry_size in
        let u : verdict listing q s ≡ last listing q s = v ∙ ap (λ (x : Check). x then last listing q s) (sym e) in
        elim (test (leb (charge E after) q.limit)) [
          | nay x ↦ by (Err inserted.MemoryUsageLimitExceeded) (f ∙ rw x) (refuses_so listing q s 11 0 0 (u ∙ rw x)) refl refl refl refl
          | yea x ↦ elim (test (leb (length (encode after)) (length s.table))) [
            | nay y ↦ by (Err inserted.NoRoom) (f ∙ rw (x, y)) (refuses_so listing q s 13 0 0 (u ∙ rw (x, y))) refl refl refl refl
            | yea y ↦ by (Ok (record_of E after)) (f ∙ rw (x, y)) (passes_so listing q s (u ∙ rw (x, y))) refl refl refl refl
          ]
        ]
      where
        -- the outcome o, where the insertion answered j
        by : (j : Inserted) → i ≡ j → {o : Outcome} → outcome listing q s ≡ o → told (answered_of j s.rec (value_of q.call)).answer ≡ o.reply
            → (answered_of j s.rec (value_of q.call)).«record» ≡ o.store.rec
            → if_done j (padded (length s.table) (encode after)) s.table ≡ o.store.table
            → if_done j (replicate (length q.work) 0) q.work ≡ o.work → Meets (outcome listing q s) a t w
        by j z l m n b d =
            let y : a ≡ answered_of j s.rec (value_of q.call) = k ∙ ap (λ (x : Inserted). answered_of x s.rec (value_of q.call)) z in
            record {
              answer = ap (λ (x : Answered). told x.answer) y ∙ m ∙ sym (ap (λ (x : Outcome). x.reply) l);
              rec = ap (λ (x : Answered). x.«record») y ∙ n ∙ sym (ap (λ (x : Outcome). x.store.rec) l);
              bytes = g ∙ ap (λ (x : Inserted). if_done x (padded (length s.table) (encode after)) s.table) z ∙ b ∙ sym (ap (λ (x : Outcome). x.store.table) l);
              buffer = h ∙ ap (λ (x : Inserted). if_done x (replicate (length q.work) 0) q.work) z ∙ d ∙ sym (ap (λ (x : Outcome). x.work) l);
            }
