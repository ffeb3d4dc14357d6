-- The customer's terms 2 (POSIX) and 3 over every list of calls, on bytes.
-- Assumes that the listing's elements are bytes and that mtime arguments have 64 bits: they are, in every program.
use mathlib.Core.Path.{◌≡◌, refl, ap, ◌∙◌}
use mathlib.Core.Bool.{false}
use mathlib.Core.List.{List, [], ◌∷◌}
use mathlib.Core.Logic.{◌⊎◌, inl, inr}
use Prim.Native.Nat.{ℕ, ◌<◌}
use native.Mathlib.Omega.{arith}
use Rattle.model.specs.Bytes.{Bytes}
use Rattle.model.specs.Listing.{is_listing}
use Rattle.model.specs.Answer.{Reply, accepted, refused}
use Rattle.model.specs.Outcome.{Request, Store, outcome, opened}
use Rattle.model.specs.Cause.{Cause, malformed_table, short_work, malformed_listing, exceeds, no_room, charge_above, plan_above, walk_above, content_above, key_above}
use Rattle.model.specs.Runs.{State, step, begin, entries_of, WordedCalls, Throughout, Demand3, DoesAsSaid, RunFrom}
use Rattle.model.specs.Runs.{AcceptedByRules, RefusedWithCause, LeavesOthers, WithinLimit, RefusedLeaves, RefusedAndEmpty, DoesAsPosix}
use Rattle.model.proofs.Words.{IsBytes}
use Rattle.model.proofs.Reached.{opening_sized, opened_empty, reached_begin}
use Rattle.model.proofs.Resumed.{run_from}

-- the numbers that have a cause: none is from 4 to 10, and 17 and 18 are not among them
pub cause_numbers : (listing : Bytes) (q : Request) (s : Store) (n : ℕ) → Cause listing q s n → (n < 3) ⊎ ((10 < n) × (n < 14))
cause_numbers listing q s n (malformed_table h) = inl (omega arith)
cause_numbers listing q s n (short_work h) = inl (omega arith)
cause_numbers listing q s n (malformed_listing h) = inl (omega arith)
cause_numbers listing q s n (exceeds m (charge_above h)) = inr (omega arith, omega arith)
cause_numbers listing q s n (exceeds m (plan_above a b d h)) = inr (omega arith, omega arith)
cause_numbers listing q s n (exceeds m (walk_above a b k d w e i h)) = inr (omega arith, omega arith)
cause_numbers listing q s n (exceeds m (content_above p e d b c h)) = inr (omega arith, omega arith)
cause_numbers listing q s n (exceeds m (key_above a b e h)) = inr (omega arith, omega arith)
cause_numbers listing q s n (no_room h) = inr (omega arith, omega arith)

-- what holds of every call of a list, in another form
throughout_as : (P Q : State → Request → Type 0) (listing : Bytes) → ((x : State) (q : Request) → P x q → Q x q)
    → (qs : List Request) (x : State) → Throughout P listing x qs → Throughout Q listing x qs
throughout_as P Q listing f [] x h = tt
throughout_as P Q listing f (q ∷ qs) x h = (f x q h.0, throughout_as P Q listing f qs (step listing q x) h.1)

-- over a malformed listing the table stays as empty as it began
module _ (listing : Bytes) (bad : is_listing listing ≡ false) where
  kept_empty : (x : State) (q : Request) → DoesAsSaid listing x q → entries_of x.store ≡ [] → RefusedAndEmpty listing x q
  kept_empty x q d e = (d.malformed bad, go (outcome listing q x.store).reply refl)
    where
      go : (r : Reply) → (outcome listing q x.store).reply ≡ r → entries_of (step listing q x).store ≡ []
      go (accepted v) h = absurd (d.malformed bad v h)
      go (refused n w k) h = ap entries_of (d.refused_leaves n w k h).0 ∙ e

  all_kept_empty : (qs : List Request) (x : State) → Throughout (DoesAsSaid listing) listing x qs → entries_of x.store ≡ []
      → Throughout (RefusedAndEmpty listing) listing x qs
  all_kept_empty [] x h e = tt
  all_kept_empty (q ∷ qs) x h e = let k = kept_empty x q h.0 e in (k, all_kept_empty qs (step listing q x) h.1 k.1)

module _ (listing : Bytes) (bytes : IsBytes listing) (E : ℕ) (buffer : Bytes) (v : ℕ) (opening : (opened E buffer).reply ≡ accepted v)
    (calls : List Request) (words : WordedCalls calls) where
  -- the general statement, from what the opening gave
  run : RunFrom listing (begin listing E buffer) calls
  run = run_from listing bytes E (begin listing E buffer) (reached_begin listing E bytes buffer (opening_sized E buffer v opening)) calls words

  each_call : (Q : State → Request → Type 0) → ((x : State) (q : Request) → DoesAsSaid listing x q → Q x q) → Throughout Q listing (begin listing E buffer) calls
  each_call Q f = throughout_as (DoesAsSaid listing) Q listing f calls (begin listing E buffer) run.each

  pub demand_3 : Demand3 listing (begin listing E buffer) calls
  demand_3 = record {
    well_formed = run.in_the_end.well_formed;
    charge_afresh = run.in_the_end.charge_afresh;
    same_tree = run.in_the_end.same_tree;
    accepted_by_rules = each_call (AcceptedByRules listing) (λ x q d. d.accepted_by_rules);
    refused_with_cause = each_call (RefusedWithCause listing) (λ x q d. d.refused_with_cause);
    leaves_others = each_call (LeavesOthers listing) (λ x q d. d.leaves_others);
    within_limit = each_call (WithinLimit listing) (λ x q d. d.within_limit);
    refused_leaves = each_call (RefusedLeaves listing) (λ x q d. d.refused_leaves);
    malformed = λ h. all_kept_empty listing h calls (begin listing E buffer) run.each (opened_empty E buffer (opening_sized E buffer v opening));
  }

  pub posix : Throughout (DoesAsPosix listing) listing (begin listing E buffer) calls
  posix = each_call (DoesAsPosix listing) (λ x q d. d.as_posix)
