-- Tables that the calls built: each is reached from an opening, so it has #112's five rules, and a run may go on from it.
-- Assumes that the listing's elements are bytes.
use mathlib.Core.Path.{◌≡◌}
use mathlib.Core.Bool.{true}
use mathlib.Core.List.{List, [], ◌∷◌}
use Prim.Native.Nat.{ℕ}
use Rattle.model.specs.Bytes.{Bytes}
use Rattle.model.specs.Listing.{is_listing, tree_in}
use Rattle.model.specs.Outcome.{Request}
use Rattle.model.specs.Rules.{Rules}
use Rattle.model.specs.Runs.{State, step, after, entries_of, WordedCalls, Built, by_opening, by_call, by_reading, RunFrom}
use Rattle.model.proofs.Words.{IsBytes}
use Rattle.model.proofs.Reached.{Reached, opening_sized, reached_begin, reached_step, reached_moved}
use Rattle.model.proofs.Resumed.{run_from, reached_rules}

module _ (listing : Bytes) (E : ℕ) where
  -- what a list of calls leaves of a built table
  pub built_after : (calls : List Request) (x : State) → WordedCalls calls → Built listing E x → Built listing E (after listing calls x)
  built_after [] x w b = b
  built_after (q ∷ qs) x w b = built_after qs (step listing q x) w.1 (by_call x q w.0 b)

  module _ (bytes : IsBytes listing) where
    pub built_reached : (x : State) → Built listing E x → Reached listing E x
    built_reached _ (by_opening buffer v h) = reached_begin listing E bytes buffer (opening_sized E buffer v h)
    built_reached _ (by_call x q w b) = reached_step listing E bytes q x w (built_reached x b)
    built_reached _ (by_reading x n u m b) = reached_moved listing E n x u m (built_reached x b)

    -- #112: "A table that our calls made over that listing passes."
    pub built_rules : (x : State) → Built listing E x → is_listing listing ≡ true → Rules (entries_of x.store) (tree_in listing)
    built_rules x b = reached_rules listing E x (built_reached x b)

    -- demand 3 and POSIX from a built table on
    pub built_runs : (x : State) → Built listing E x → (calls : List Request) → WordedCalls calls → RunFrom listing x calls
    built_runs x b calls w = run_from listing bytes E x (built_reached x b) calls w
