-- Demand 3 on a script's calls: what the script leaves is what its list of requests leaves, and its mtimes have 64 bits.
use mathlib.Core.Path.{◌≡◌, refl, ap, ap₂, sym, ◌∙◌, subst}
use mathlib.Core.Bool.{Bool}
use mathlib.Core.List.{List, [], ◌∷◌}
use Prim.Native.Nat.{ℕ, zero, suc, ◌+◌}
use lib.ListN.{drop}
use Rattle.model.specs.Bytes.{Bytes}
use Rattle.model.specs.Tree.{Tree}
use Rattle.model.specs.Answer.{accepted, told}
use Rattle.model.specs.Outcome.{Store, Request, Outcome, outcome, opened}
use Rattle.model.specs.Runs.{step, after, begin, WordedCall, WordedCalls}
use Rattle.model.specs.declared.Record.{Record}
use Rattle.model.specs.declared.Refusal.{Refusal}
use Rattle.std.specs.Prelude.{Result, Ok, Err}
use Rattle.model.proofs.Words.{IsBytes}
use Rattle.model.proofs.Formed.{bytes_drop, number_below}
use Rattle.model.proofs.Demand3 as demand
use Rattle.call_answer.specs.Meets.{stored}
use Rattle.call_values.specs.declared.Kind.{Kind}
use Rattle.call_values.specs.declared.Kind.TheVariants.{Write, Append, WriteInside, Mkdir, Unlink, Rmdir, Rename}
use Rattle.call_values.specs.Values.{call_by}
use Rattle.run_script.specs.Script.{Step, is_two, first_part, second_part, third_part, step_end, step_kind, kind_at, order_at, step_at, steps_from, step_count, steps_in}
use Rattle.run_calls.specs.Runs.{request_of, requests, left_after, Ran, ran_on, Gives, Holds}
use Rattle.run_calls.proofs.Results.{done_leaves}

-- a script's calls leave what its list of requests leaves, whatever the plain tree
pub ran_after : (listing : Bytes) (xs : List Step) (s : Store) (work : Bytes) (p : Tree)
    → (after listing (requests listing xs s work) (record { store = s; plain = p })).store ≡ (left_after listing xs s work).store
ran_after listing [] s work p = refl
ran_after listing (x ∷ xs) s work p =
    let q : Request = request_of x work in
    let o : Outcome = outcome listing q s in
    ran_after listing xs o.store o.work (step listing q (record { store = s; plain = p })).plain

module _ (script : Bytes) (b : IsBytes script) where
  worded : (two : Bool) (at : ℕ) → WordedCall (step_at two script at).call
  worded two at = go (step_kind (kind_at script at))
    where
      go : (k : Kind) → WordedCall (call_by k (order_at two script at) (first_part two script at) (second_part two script at) (third_part two script at))
      go Write = number_below 8 (drop (at + 8) script) (bytes_drop (at + 8) script b)
      go Append = number_below 8 (drop (at + 8) script) (bytes_drop (at + 8) script b)
      go WriteInside = number_below 8 (drop (at + 8) script) (bytes_drop (at + 8) script b)
      go Mkdir = number_below 8 (drop (at + 8) script) (bytes_drop (at + 8) script b)
      go Unlink = tt
      go Rmdir = tt
      go Rename = tt

  worded_all : (listing : Bytes) (two : Bool) (n at : ℕ) (s : Store) (work : Bytes) → WordedCalls (requests listing (steps_from two script n at) s work)
  worded_all listing two zero at s work = tt
  worded_all listing two (suc n) at s work =
      let o : Outcome = outcome listing (request_of (step_at two script at) work) s in
      (worded two at, worded_all listing two n (step_end two script at) o.store o.work)

  -- demand 3 and POSIX on a script from an accepted opening on
  pub demanded : (listing : Bytes) → IsBytes listing → (E : ℕ) (buffer work : Bytes) (v : ℕ) → (opened E buffer).reply ≡ accepted v → (s : Store)
      → s ≡ (left_after listing (steps_in script) (opened E buffer).store work).store
      → Holds listing (begin listing E buffer) (requests listing (steps_in script) (opened E buffer).store work) s
  demanded listing bl E buffer work v h s e =
      let calls : List Request = requests listing (steps_in script) (opened E buffer).store work in
      let words : WordedCalls calls = worded_all listing (is_two script) (step_count script) 8 (opened E buffer).store work in
      record {
        demand_3 = demand.demand_3 listing bl E buffer v h calls words;
        posix = demand.posix listing bl E buffer v h calls words;
        leaves = ran_after listing (steps_in script) (opened E buffer).store work (begin listing E buffer).plain ∙ sym e;
      }

-- opening, and what follows
module _ (listing : Bytes) (E : ℕ) (buffer work script report : Bytes) (a : Result ℕ Refusal) (told-so : told a ≡ (opened E buffer).reply) where
  module _ (v : ℕ) (e : a ≡ Ok v) where
    pub accepts : (opened E buffer).reply ≡ accepted v
    accepts = sym told-so ∙ ap told e

    module _ (rec : Record) (er : rec ≡ (opened E buffer).store.rec) (table : Bytes) (et : table ≡ (opened E buffer).store.table) (r : Ran)
        {table' work' report' : Bytes} (g : Gives (ran_on listing (stored table rec) work script report) r table' work' report') where
      from_opened : Gives (ran_on listing (opened E buffer).store work script report) r table' work' report'
      from_opened = subst (λ (s : Store). Gives (ran_on listing s work script report) r table' work' report') (ap₂ stored et er) g

      pub now_done : IsBytes listing → IsBytes script → (last : Record) → r ≡ Ok last
          → Holds listing (begin listing E buffer) (requests listing (steps_in script) (opened E buffer).store work) (stored table' last)
      now_done bl bs last h =
          demanded script bs listing bl E buffer work v accepts (stored table' last)
          (ap (λ (t : Bytes). stored t last) from_opened.bytes
          ∙ done_leaves listing (opened E buffer).store work script report last (sym from_opened.answer ∙ h))
