-- A program that links the library, makes calls one after the other and hands table and record on: what it reads from the answers' numbers and
-- from the four numbers of its record is a chain of calls (model's `Chained`), and so demand 3 and POSIX hold of it.
use mathlib.Core.Path.{◌≡◌, refl, ap, sym, ◌∙◌, subst}
use mathlib.Core.Bool.{Bool, true, false, cond}
use mathlib.Core.List.{List, [], ◌∷◌, ◌++◌}
use Prim.Native.Nat.{ℕ, ◌%◌, ◌/◌, ◌<◌}
use native.Mathlib.Omega.{arith}
use lib.ListN.{length}
use borrow.Author.Tests.{eq-eqb, ne_eqb}
use Rattle.model.specs.Bytes.{Bytes}
use Rattle.model.specs.Calls.{Call}
use Rattle.model.specs.Answer.{Reply, accepted, refused}
use Rattle.model.specs.Outcome.{Store, Request, Outcome, outcome, opened}
use Rattle.model.specs.Runs.{State, after, begin, WordedCalls, Built, Exchange, requests_in, HoldsOfChain}
use Rattle.model.proofs.Orders.{bot}
use Rattle.model.proofs.Words.{IsBytes}
use Rattle.model.proofs.Shapes.{Shaped, table, listing, malformed, at_path, at_ancestor, below_source, limit, key_too_long, no_room, lent_count, range_too_large, shaped}
use Rattle.model.proofs.Chained.{one_more, last_of_more, chain_built, chain_holds}
use Rattle.call_answer.specs.Meets.{stored}
use Rattle.call_answer.proofs.Chains.{Calling, call_none}
use Rattle.overlay_packed.specs.Packed.{packed, Fits, if_accepted, numbers, record_in}
use Rattle.overlay.specs.Exported.{is_four, CallLeft, left, reply_in, leaves, called, opening}
use Rattle.overlay.proofs.Fitting.{unpacked, unpacked_value, outcome_fits}
use Rattle.overlay.proofs.Leaving.{chosen}

-- no refusal has the number 0
some_number : {c : Call} {n w k : ℕ} → Shaped c n w k → 0 < n
some_number table = omega arith
some_number listing = omega arith
some_number (malformed w p m) = omega arith
some_number (at_path n w p lo hi m) = omega arith
some_number (at_ancestor p q ok m e h) = omega arith
some_number (below_source a b e) = omega arith
some_number limit = omega arith
some_number (key_too_long a b e) = omega arith
some_number no_room = omega arith
some_number (lent_count p m d b e) = omega arith
some_number (range_too_large p m o d e) = omega arith

read_accepted : (v : ℕ) → reply_in (packed (accepted v)) ≡ accepted v
read_accepted v =
    let a : ℕ = packed (accepted v) in
    let z : a % 256 ≡ 0 = omega arith in
    ap (λ (b : Bool). cond b (accepted (a / 65536)) (refused (a % 256) (a / 256 % 256) (a / 65536))) (eq-eqb (a % 256) 0 z)
    ∙ ap accepted (unpacked_value v).1

read_refused : (n p k : ℕ) → 0 < n → Fits (refused n p k) → reply_in (packed (refused n p k)) ≡ refused n p k
read_refused n p k h f =
    let a : ℕ = packed (refused n p k) in
    let u = unpacked n p k f in
    ap (λ (b : Bool). cond b (accepted (a / 65536)) (refused (a % 256) (a / 256 % 256) (a / 65536))) (ne_eqb (a % 256) 0 (λ z. above n h (sym u.0 ∙ z)))
    ∙ (λ i. refused (u.0 i) (u.1 i) (u.2 i))
  where
    above : (n : ℕ) → 0 < n → n ≡ 0 → ⊥
    above n h z = omega arith

-- every answer is read as it is
pub reply_read : (l : Bytes) (q : Request) (s : Store) → reply_in (packed (outcome l q s).reply) ≡ (outcome l q s).reply
reply_read l q s = go (outcome l q s).reply refl
  where
    go : (r : Reply) → (outcome l q s).reply ≡ r → reply_in (packed r) ≡ r
    go (accepted v) e = read_accepted v
    go (refused n p k) e = read_refused n p k (some_number (shaped l q s n p k e)) (subst Fits e (outcome_fits l q s))

-- a call as the program has it
abbrev pub exported : Request → CallLeft → Exchange
exported q x = record {
  request = q;
  seen = record { reply = reply_in x.answer; store = stored x.table (record_in x.rec); work = x.work };
}

-- the program's table and four numbers are those that it saw last
pub record Handing (l : Bytes) (s : Store) (chain : List Exchange) (t : Bytes) (n : List ℕ) : Type 0 where
  pub four : length n ≡ 4
  pub calling : Calling l s chain t (record_in n)

module _ (l : Bytes) (q : Request) (t : Bytes) (n : List ℕ) (h : length n ≡ 4) where
  abbrev o : Outcome
  o = outcome l q (stored t (record_in n))

  called_is : called l q t n ≡ leaves o
  unfolding called
  called_is = sym (chosen n (leaves o) (left 1 n t q.work) h)

  export_seen : (x : CallLeft) → x ≡ called l q t n → (exported q x).seen ≡ o
  export_seen x e =
      ap (λ (y : CallLeft). (exported q y).seen) (e ∙ called_is)
      ∙ ap (λ (r : Reply). record { reply = r; store = o.store; work = o.work }) (reply_read l q (stored t (record_in n)))

  pub hand_next : (s : Store) (chain : List Exchange) → Handing l s chain t n → (a : ℕ) (n' : List ℕ) (t' w' : Bytes) → left a n' t' w' ≡ called l q t n
      → Handing l s (chain ++ (exported q (left a n' t' w') ∷ [])) t' n'
  hand_next s chain k a n' t' w' e =
      let x = exported q (left a n' t' w') in record {
        four = ap (λ (y : CallLeft). length y.rec) (e ∙ called_is);
        calling = record {
          made = one_more l s chain x k.calling.made (export_seen (left a n' t' w') e ∙ ap (outcome l q) k.calling.store);
          store = sym (last_of_more s chain x);
        };
      }

-- an opening that is accepted
module _ (l : Bytes) (E : ℕ) (t : Bytes) (n : List ℕ) (v : ℕ) (e : opening E t n ≡ accepted v) where
  pub hand_none : (t' : Bytes) (n' : List ℕ) → n' ≡ if_accepted (opening E t n) (numbers (opened E t).store.rec) n
      → t' ≡ if_accepted (opening E t n) (opened E t).store.table t → Handing l (opened E t).store [] t' n'
  hand_none t' n' f g =
      let i : n' ≡ numbers (opened E t).store.rec = f ∙ ap (λ (r : Reply). if_accepted r (numbers (opened E t).store.rec) n) e in
      let j : t' ≡ (opened E t).store.table = g ∙ ap (λ (r : Reply). if_accepted r (opened E t).store.table t) e in
      record { four = ap length i; calling = call_none l (opened E t).store t' (record_in n') j (ap record_in i) }

  pub hand_opened : (opened E t).reply ≡ accepted v
  hand_opened = go (is_four n) e
    where
      go : (b : Bool) → cond b (opened E t).reply (refused 1 0 0) ≡ accepted v → (opened E t).reply ≡ accepted v
      go true z = z
      go false z = absurd (bot (cc))

-- demand 3 and POSIX of all that the program did, and its table and record are what the list of its calls leaves
pub handing_holds : (l : Bytes) → IsBytes l → (E : ℕ) (buffer : Bytes) (v : ℕ) → (opened E buffer).reply ≡ accepted v → (chain : List Exchange) (t : Bytes) (n : List ℕ)
    → Handing l (opened E buffer).store chain t n → WordedCalls (requests_in chain)
    → HoldsOfChain l (begin l E buffer) chain × (stored t (record_in n) ≡ (after l (requests_in chain) (begin l E buffer)).store)
handing_holds l b E buffer v e chain t n k w =
    let c = chain_holds l b E buffer v e chain k.calling.made w in (c, k.calling.store ∙ c.last)

-- and the table with its record that it has is one that the calls built
pub handing_built : (l : Bytes) → IsBytes l → (E : ℕ) (buffer : Bytes) (v : ℕ) → (opened E buffer).reply ≡ accepted v → (chain : List Exchange) (t : Bytes) (n : List ℕ)
    → Handing l (opened E buffer).store chain t n → WordedCalls (requests_in chain)
    → (x : State) × Built l E x × (x.store ≡ stored t (record_in n))
handing_built l b E buffer v e chain t n k w =
    let c = chain_built l b E buffer v e chain k.calling.made w in (c.0, c.1, c.2 ∙ sym k.calling.store)
