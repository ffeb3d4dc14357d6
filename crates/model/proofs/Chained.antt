-- Demand 3 and POSIX for whoever makes calls one after the other and hands the table on: what was seen is what the list of calls has.
-- Assumes what `demand_3` does: the listing's elements are bytes, and mtime arguments have 64 bits.
use mathlib.Core.Path.{◌≡◌, refl, ap, sym, ◌∙◌, subst}
use mathlib.Core.List.{List, [], ◌∷◌, ◌++◌}
use Prim.Native.Nat.{ℕ}
use Rattle.model.specs.Bytes.{Bytes}
use Rattle.model.specs.Answer.{accepted}
use Rattle.model.specs.Outcome.{Store, Outcome, outcome, opened}
use Rattle.model.specs.Runs.{State, step, after, begin, WordedCalls, Built, by_opening, Exchange, Chained, requests_in, last_seen, HoldsOfChain}
use Rattle.model.proofs.Words.{IsBytes}
use Rattle.model.proofs.Built.{built_after}
use Rattle.model.proofs.Demand3 as demand

module _ (listing : Bytes) where
  -- the calls behind the first are a chain from the state that the list has there
  handed_on : (s : State) (x : Exchange) (xs : List Exchange) → Chained listing s.store (x ∷ xs) → Chained listing (step listing x.request s).store xs
  handed_on s x xs c = subst (λ (t : Store). Chained listing t xs) (ap (λ (o : Outcome). o.store) c.0) c.1

  -- from any state on, whether an opening gave it or not
  pub seen_at : (s : State) (before : List Exchange) (x : Exchange) (behind : List Exchange) → Chained listing s.store (before ++ (x ∷ behind))
      → x.seen ≡ outcome listing x.request (after listing (requests_in before) s).store
  seen_at s [] x behind c = c.0
  seen_at s (y ∷ ys) x behind c = seen_at (step listing y.request s) ys x behind (handed_on s y (ys ++ (x ∷ behind)) c)

  pub seen_last : (s : State) (chain : List Exchange) → Chained listing s.store chain → last_seen s.store chain ≡ (after listing (requests_in chain) s).store
  seen_last s [] c = refl
  seen_last s (x ∷ xs) c =
      ap (λ (o : Outcome). last_seen o.store xs) c.0 ∙ seen_last (step listing x.request s) xs (handed_on s x xs c)

  -- a caller that makes one call more
  pub one_more : (s : Store) (chain : List Exchange) (x : Exchange) → Chained listing s chain → x.seen ≡ outcome listing x.request (last_seen s chain)
      → Chained listing s (chain ++ (x ∷ []))
  one_more s [] x c e = (e, tt)
  one_more s (y ∷ ys) x c e = (c.0, one_more y.seen.store ys x c.1 e)

pub last_of_more : (s : Store) (chain : List Exchange) (x : Exchange) → last_seen s (chain ++ (x ∷ [])) ≡ x.seen.store
last_of_more s [] x = refl
last_of_more s (y ∷ ys) x = last_of_more y.seen.store ys x

module _ (listing : Bytes) (bytes : IsBytes listing) (E : ℕ) (buffer : Bytes) (v : ℕ) (opening : (opened E buffer).reply ≡ accepted v)
    (chain : List Exchange) (made : Chained listing (opened E buffer).store chain) (words : WordedCalls (requests_in chain)) where
  pub chain_holds : HoldsOfChain listing (begin listing E buffer) chain
  chain_holds = record {
    demand_3 = demand.demand_3 listing bytes E buffer v opening (requests_in chain) words;
    posix = demand.posix listing bytes E buffer v opening (requests_in chain) words;
    each = λ before x behind e. seen_at listing (begin listing E buffer) before x behind (subst (Chained listing (opened E buffer).store) e made);
    last = seen_last listing (begin listing E buffer) chain made;
  }

  -- what the caller has in the end is a table that the calls built
  pub chain_built : (x : State) × Built listing E x × (x.store ≡ last_seen (opened E buffer).store chain)
  chain_built = (
    after listing (requests_in chain) (begin listing E buffer),
    built_after listing E (requests_in chain) (begin listing E buffer) words (by_opening buffer v opening),
    sym (seen_last listing (begin listing E buffer) chain made),
  )
