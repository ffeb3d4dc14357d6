-- From what a run of a script gives to what its export answers and leaves.
use mathlib.Core.Path.{◌≡◌, refl, ap, sym, ◌∙◌, subst}
use mathlib.Core.List.{List, []}
use Prim.Native.Nat.{ℕ}
use native.Mathlib.Omega.{arith}
use lib.ListN.{length}
use Rattle.model.specs.Bytes.{Bytes}
use Rattle.model.specs.Table.{record_of}
use Rattle.model.specs.Outcome.{Request}
use Rattle.model.specs.Runs.{State}
use Rattle.model.specs.declared.Record.{Record}
use Rattle.call_answer.specs.Meets.{stored}
use Rattle.run_calls.specs.Runs.{RunOutcome, Ran, ran_on, ran_new, Gives, Holds}
use Rattle.std.specs.Prelude.{Ok, Err}
use Rattle.run_calls.specs.declared.RunError.TheVariants.{MalformedTable, MalformedScript, ShortReport}
use Rattle.overlay_packed.specs.Packed.{numbers, record_in, ran_number, ran_numbers}
use Rattle.overlay.specs.Exported.{run_left, script_run, new_script_run}
use Rattle.overlay.proofs.Leaving.{four_back, chosen, otherwise}

-- a run on the table t with the record n
module _ (l t : Bytes) (n : List ℕ) (work script report : Bytes) where
  abbrev x : RunOutcome
  x = ran_on l (stored t (record_in n)) work script report

  pub not_run : (length n ≡ 4 → ⊥) → run_left 1 n t work report ≡ script_run l t n work script report
  unfolding script_run
  not_run h =
      otherwise n (run_left (ran_number x.answer) (ran_numbers x.answer n n) x.table x.work x.report) (run_left 1 n t work report) h

  module _ (h : length n ≡ 4) (r : Record) (e : r ≡ record_in n) (a : Ran) (t' w' o' : Bytes) (g : Gives (ran_on l (stored t r) work script report) a t' w' o') where
    gives : Gives x a t' w' o'
    gives = subst (λ (u : Record). Gives (ran_on l (stored t u) work script report) a t' w' o') e g

    pub run_settled : (c : ℕ) (m : List ℕ) → c ≡ ran_number a → m ≡ ran_numbers a (numbers r) n
        → run_left c m t' w' o' ≡ script_run l t n work script report
    unfolding script_run
    run_settled c m ec em =
        let i : a ≡ x.answer = gives.answer in
        let j : numbers r ≡ n = ap numbers e ∙ four_back n h in
        let k : c ≡ ran_number x.answer = ec ∙ ap ran_number i in
        let u : m ≡ ran_numbers x.answer n n = em ∙ (λ z. ran_numbers (i z) (j z) n) in
        (λ z. run_left (k z) (u z) (gives.bytes z) (gives.buffer z) (gives.told z))
        ∙ chosen n (run_left (ran_number x.answer) (ran_numbers x.answer n n) x.table x.work x.report) (run_left 1 n t work report) h

-- a run on t, opened for entries of size E
module _ (l : Bytes) (E : ℕ) (t : Bytes) (n : List ℕ) (work script report : Bytes) where
  abbrev y : RunOutcome
  y = ran_new l E t work script report

  pub not_run_new : (length n ≡ 4 → ⊥) → run_left 1 n t work report ≡ new_script_run l E t n work script report
  unfolding new_script_run
  not_run_new h =
      otherwise n (run_left (ran_number y.answer) (ran_numbers y.answer (numbers (record_of E [])) n) y.table y.work y.report) (run_left 1 n t work report) h

  module _ (h : length n ≡ 4) (a : Ran) (t' w' o' : Bytes) (g : Gives y a t' w' o') where
    pub new_settled : (c : ℕ) (m : List ℕ) → c ≡ ran_number a → m ≡ ran_numbers a (numbers (record_of E [])) n → run_left c m t' w' o' ≡ new_script_run l E t n work script report
    unfolding new_script_run
    new_settled c m ec em =
        let k : c ≡ ran_number y.answer = ec ∙ ap ran_number g.answer in
        let u : m ≡ ran_numbers y.answer (numbers (record_of E [])) n = em ∙ ap (λ (b : Ran). ran_numbers b (numbers (record_of E [])) n) g.answer in
        (λ z. run_left (k z) (u z) (g.bytes z) (g.buffer z) (g.told z))
        ∙ chosen n (run_left (ran_number y.answer) (ran_numbers y.answer (numbers (record_of E [])) n) y.table y.work y.report) (run_left 1 n t work report) h

pub not_done : ◌≡◌ {A = ℕ} 1 0 → ⊥
not_done z = omega arith

-- where 0 is answered, the run is done, and the four numbers are those of its last record
pub done_holds : (l : Bytes) (s : State) (calls : List Request) (t' : Bytes) (p n : List ℕ) (a : Ran) (c : ℕ) (m : List ℕ)
    → c ≡ ran_number a → m ≡ ran_numbers a p n → ((last : Record) → a ≡ Ok last → Holds l s calls (stored t' last)) → c ≡ 0
    → Holds l s calls (stored t' (record_in m))
done_holds l s calls t' p n (Ok r) c m ec em k z = subst (λ (u : Record). Holds l s calls (stored t' u)) (sym (ap record_in em)) (k r refl)
done_holds l s calls t' p n (Err MalformedTable) c m ec em k z = absurd (omega arith)
done_holds l s calls t' p n (Err MalformedScript) c m ec em k z = absurd (omega arith)
done_holds l s calls t' p n (Err ShortReport) c m ec em k z = absurd (omega arith)
