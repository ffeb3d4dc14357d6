-- A call with one path behind 1 and 2: 3 and its checks before 11 decide, or the insertion of what it leaves does.
use mathlib.Core.Path.{◌≡◌, sym, ap, ◌∙◌}
use Prim.Native.Nat.{◌≤◌}
use lib.ListN.{length, replicate}
use Rattle.model.specs.Bytes.{Bytes}
use Rattle.model.specs.Path.{Path}
use Rattle.model.specs.Listing.{tree_in}
use Rattle.model.specs.Table.{encode, padded, table_in}
use Rattle.model.specs.Checks.{Check, pass, ◌then◌, unless, form, Memory, limited, charged}
use Rattle.model.specs.Calls.{forms, rules, value_of}
use Rattle.model.specs.Answer.{told_refusal}
use Rattle.model.specs.Outcome.{Store, Given, Request, table_after, room, verdict, outcome}
use Rattle.model.specs.declared.Refusal.{Refusal}
use Rattle.model.specs.declared.Answered.{Answered}
use Rattle.std.specs.Prelude.{Err}
use Rattle.table_insert.specs.Insert.{Inserted, insertion, if_done}
use Rattle.check_judged.specs.Judged.{as_check}
use Rattle.check_judged.proofs.Thens.{then_assoc}
use Rattle.call_answer.specs.Meets.{last, Meets, answered_of}
use Rattle.call_answer.proofs.Settles.{refused_meets, inserted_meets}
use Rattle.call_answer.proofs.Admits.{given_verdict}

-- the call has the path p and, before 11, the checks c
module _ (l : Bytes) (q : Request) (s : Store) (g : Given l s.table s.rec) (h : length s.table ≤ length q.work) (p : Path) (c : Check)
    (f : forms q.call ≡ form 0 p)
    (u : rules (limited s.rec.entry_size q.limit) (table_in s.table s.rec) (tree_in l) q.call
    ≡ (c then charged (limited s.rec.entry_size q.limit) (table_after l q s))) where
  grouped : verdict l q s ≡ ((form 0 p then c) then last l q s)
  grouped =
      let m : Memory = limited s.rec.entry_size q.limit in
      let n = unless 13 (room l q s) in
      let d = charged m (table_after l q s) in
      given_verdict l q s g h
      ∙ ap (λ (y : Check). y then rules m (table_in s.table s.rec) (tree_in l) q.call then n) f
      ∙ ap (λ (y : Check). form 0 p then y then n) u
      ∙ ap (λ (y : Check). form 0 p then y) (then_assoc c d n)
      ∙ sym (then_assoc (form 0 p) c (d then n))

  -- 3 and those checks refuse
  pub call_refused : (y : Refusal) → as_check (told_refusal y) ≡ (form 0 p then c) → (a : Answered)
      → a ≡ record { answer = Err y; «record» = s.rec } → Meets (outcome l q s) a s.table q.work
  call_refused = refused_meets l q s (form 0 p then c) grouped

  -- they pass; the insertion answered i and left t and v
  pub call_inserted : pass ≡ (form 0 p then c) → (i : Inserted) → i ≡ insertion s.rec.entry_size q.limit (length s.table) (table_after l q s) → (t v : Bytes)
      → t ≡ if_done i (padded (length s.table) (encode (table_after l q s))) s.table → v ≡ if_done i (replicate (length q.work) 0) q.work
      → (a : Answered) → a ≡ answered_of i s.rec (value_of q.call) → Meets (outcome l q s) a t v
  call_inserted = inserted_meets l q s (form 0 p then c) grouped
