-- The states that a list of calls reaches, on bytes, from an opening or from any table with the rules: what holds of each of them, and that each call keeps it.
-- Assumes that the listing's elements are bytes and that mtime arguments have 64 bits.
use mathlib.Core.Path.{◌≡◌, refl, ap, sym, ◌∙◌, subst, subst⁻¹}
use mathlib.Core.Logic.{inl, inr}
use mathlib.Core.List.{List, [], ◌∷◌}
use mathlib.Core.Bool.{Bool, true, false, cond, ◌&&◌}
use Prim.Native.Nat.{ℕ, ◌≤◌}
use lib.Dec.{leb}
use lib.ListN.{length, replicate}
use borrow.Author.Tests.{leb-true, leb-false}
use Rattle.model.specs.Bytes.{Bytes}
use Rattle.model.specs.Map.{lookup}
use Rattle.model.specs.Tree.{Table, shown}
use Rattle.model.specs.Listing.{is_listing, tree_in}
use Rattle.model.specs.Table.{encode, padded, record_of, sized, is_table}
use Rattle.model.specs.declared.Record.{Record}
use Rattle.model.specs.Checks.{Check, pass, refuse, ◌then◌, unless, limited, unlimited}
use Rattle.model.specs.Calls.{forms, rules, value_of}
use Rattle.model.specs.Answer.{accepted, refused}
use Rattle.model.specs.Outcome.{Store, Request, table_after, lent, room, verdict, settle, outcome, opened}
use Rattle.model.specs.Plain.{plain_effect}
use Rattle.model.specs.Cause.{Cause, short_work, malformed_listing, exceeds, no_room}
use Rattle.model.specs.Posix.{Posix}
use Rattle.model.specs.Runs.{State, fed, step, after, begin, moved_to, WordedCall, WordedCalls, Throughout, entries_of, kept_bytes}
use Rattle.model.specs.Runs.{AcceptedByRules, RefusedWithCause, LeavesOthers, WithinLimit, DoesAsPosix, DoesAsSaid}
use Rattle.model.proofs.Orders.{bot}
use Rattle.model.proofs.Words.{IsBytes}
use Rattle.model.proofs.Codec.{decoded, charge_exact, encoded, moved_table, opened_table}
use Rattle.model.proofs.Invariant.{then_pass, unless_pass}
use Rattle.model.proofs.Agree.{Sound, sound_empty, accepts, allows, keeps, Caused, passed, because}
use Rattle.model.proofs.Effects.{stays, in_limit, posix}
use Rattle.model.proofs.Shapes.{not_refused, untouched}
use Rattle.model.proofs.Formed.{FineTable, fine_is, fine_empty, listing_fine, changed_fine}

-- an opening that is accepted found E and the buffer's length in order
pub opening_sized : (E : ℕ) (buffer : Bytes) (v : ℕ) → (opened E buffer).reply ≡ accepted v → sized E (length buffer) ≡ true
opening_sized E buffer v h = go (sized E (length buffer)) h
  where
    go : (b : Bool) → cond b (accepted 0) (refused 1 0 0) ≡ accepted v → b ≡ true
    go true h = cc
    go false h = cc

-- then the table is empty, and all 0
opened_is : (E : ℕ) (buffer : Bytes) → sized E (length buffer) ≡ true
    → (opened E buffer).store ≡ record { table = replicate (length buffer) 0; rec = record_of E [] }
opened_is E buffer h = ap (λ (c : Bool). record { table = cond c (replicate (length buffer) 0) buffer; rec = record_of E [] }) h

pub opened_empty : (E : ℕ) (buffer : Bytes) → sized E (length buffer) ≡ true → entries_of (opened E buffer).store ≡ []
opened_empty E buffer h = ap entries_of (opened_is E buffer h) ∙ (opened_table E (length buffer) h).0

module _ (listing : Bytes) (E : ℕ) where
  pub record Reached (x : State) : Type 0 where
    pub table : is_table x.store.table x.store.rec ≡ true
    pub size_kept : x.store.rec.entry_size ≡ E
    pub fine : FineTable (entries_of x.store)
    pub sound : is_listing listing ≡ true → Sound (entries_of x.store) (tree_in listing) x.plain

  -- what an accepted call has passed
  pub record Passed (q : Request) (s : Store) : Type 0 where
    pub well : is_listing listing ≡ true
    pub form : forms q.call ≡ pass
    pub rule : rules (limited s.rec.entry_size q.limit) (entries_of s) (tree_in listing) q.call ≡ pass
    pub fits : length (encode (table_after listing q s)) ≤ length s.table

  both : (b : Bool) → b ≡ true → b ≡ false → ⊥
  both b h g = bot (cc)

  not_pass : (n w k : ℕ) → pass ≡ refuse n w k → ⊥
  not_pass n w k h = bot (cc)

  number_is : (m v j n w k : ℕ) → refuse m v j ≡ refuse n w k → m ≡ n
  number_is m v j n w k h = cc

  pub has_passed : (q : Request) (s : Store) → verdict listing q s ≡ pass → Passed q s
  has_passed q s h =
      let a = then_pass (unless 1 (lent q s)) _ h in
      let b = then_pass (unless 2 (is_listing listing)) _ a.1 in
      let c = then_pass (forms q.call) _ b.1 in
      let d = then_pass (rules (limited s.rec.entry_size q.limit) (entries_of s) (tree_in listing) q.call) _ c.1 in
      record {
        well = unless_pass 2 (is_listing listing) b.0;
        form = c.0;
        rule = d.0;
        fits = leb-true (length (encode (table_after listing q s))) (length s.table) (unless_pass 13 (room listing q s) d.1);
      }

  -- the same entries and record in another buffer that they fit
  pub reached_moved : (n : ℕ) (x : State) → x.store.rec.used ≤ n → n ≤ 16777216 → Reached x → Reached (moved_to n x)
  reached_moved n x u m r =
      let s = x.store in
      let l = subst (λ (q : Record). q.used ≤ n) (decoded s.table s.rec r.table).rec u in
      let e = moved_table s.table s.rec r.table (fine_is (entries_of s) r.fine).2 n l m in
      record {
        table = e.1;
        size_kept = r.size_kept;
        fine = subst⁻¹ FineTable e.0 r.fine;
        sound = λ h. subst⁻¹ (λ (t : Table). Sound t (tree_in listing) x.plain) e.0 (r.sound h);
      }

  -- the state after a call with a given verdict
  abbrev step_by : Check → Request → State → State
  step_by c q x = let o = settle c listing q x.store in record { store = o.store; plain = fed o.reply q.call x.plain }

  module _ (b : IsBytes listing) where
    -- the table that an accepted call leaves is read again as it was made
    record Made (q : Request) (s : Store) : Type 0 where
      pub fine : FineTable (table_after listing q s)
      pub read : entries_of (settle pass listing q s).store ≡ table_after listing q s
      pub table : is_table (settle pass listing q s).store.table (settle pass listing q s).store.rec ≡ true

    made : (q : Request) (x : State) → WordedCall q.call → Reached x → Passed q x.store → Made q x.store
    made q x w r p =
        let s = x.store in
        let l = listing_fine listing b p.well in
        let f = changed_fine (entries_of s) (tree_in listing) q.call s.rec.entry_size q.limit r.fine l w p.form p.rule in
        let i = fine_is (table_after listing q s) f in
        let d = decoded s.table s.rec r.table in
        let e = encoded s.rec.entry_size (length s.table) (table_after listing q s) i.0 i.1 i.2 p.fits d.size in
        record { fine = f; read = e.0; table = e.1 }

    reached_by : (c : Check) (q : Request) (x : State) → verdict listing q x.store ≡ c → WordedCall q.call → Reached x → Reached (step_by c q x)
    reached_by pass q x v w r =
        let p = has_passed q x.store v in
        let m = made q x w r p in
        let l = listing_fine listing b p.well in
        record {
          table = m.table;
          size_kept = r.size_kept;
          fine = subst⁻¹ FineTable m.read m.fine;
          sound = λ h. subst⁻¹ (λ (t : Table). Sound t (tree_in listing) (plain_effect x.plain q.call)) m.read
              (keeps (entries_of x.store) (tree_in listing) x.plain (r.sound h) l.held l.closed (limited x.store.rec.entry_size q.limit) q.call p.rule);
        }
    reached_by (refuse n w k) q x v y r = r

    pub reached_step : (q : Request) (x : State) → WordedCall q.call → Reached x → Reached (step listing q x)
    reached_step q x w r = reached_by (verdict listing q x.store) q x refl w r

    pub reached_after : (qs : List Request) (x : State) → WordedCalls qs → Reached x → Reached (after listing qs x)
    reached_after [] x w r = r
    reached_after (q ∷ qs) x w r = reached_after qs (step listing q x) w.1 (reached_step q x w.0 r)

    -- an answer tells the verdict
    pub accepted_pass : (c : Check) (q : Request) (s : Store) (v : ℕ) → (settle c listing q s).reply ≡ accepted v → c ≡ pass
    accepted_pass pass q s v h = refl
    accepted_pass (refuse n w k) q s v h = absurd (not_refused v n w k (sym h))

    refused_is : (c : Check) (q : Request) (s : Store) (n w k : ℕ) → (settle c listing q s).reply ≡ refused n w k → c ≡ refuse n w k
    refused_is pass q s n w k h = absurd (not_refused (value_of q.call) n w k h)
    refused_is (refuse n' w' k') q s n w k h = cc

    accepted_passed : (q : Request) (s : Store) (v : ℕ) → (outcome listing q s).reply ≡ accepted v → Passed q s
    accepted_passed q s v h = has_passed q s (accepted_pass (verdict listing q s) q s v h)

    by_rules : (x : State) (q : Request) → WordedCall q.call → Reached x → AcceptedByRules listing x q
    by_rules x q w r v h =
        let p = accepted_passed q x.store v h in
        let l = listing_fine listing b p.well in
        ap (λ (c : Check). c then rules unlimited [] x.plain q.call) p.form
        ∙ accepts (entries_of x.store) (tree_in listing) x.plain (r.sound p.well) l.closed
        (limited x.store.rec.entry_size q.limit) q.call p.rule

    -- a refusal that the plain tree's rules don't share has its cause: which check gave it
    cause_of : (x : State) (q : Request) → Reached x → (n w k : ℕ) (A : Bool) → lent q x.store ≡ A → (B : Bool) → is_listing listing ≡ B → forms q.call ≡ pass
        → (R : Check) → (is_listing listing ≡ true → Caused x.store.rec.entry_size q.limit (entries_of x.store) (tree_in listing) q.call R)
        → (C : Bool) → room listing q x.store ≡ C → (unless 1 A then unless 2 B then forms q.call then R then unless 13 C) ≡ refuse n w k → Cause listing q x.store n
    cause_of x q r n w k false a B l f R y C o h =
        subst (Cause listing q x.store) (number_is 1 0 0 n w k h) (short_work (leb-false (length x.store.table) (length q.work)
        (sym (ap (λ (c : Bool). c && leb (length x.store.table) (length q.work)) r.table) ∙ a)))
    cause_of x q r n w k true a false l f R y C o h = subst (Cause listing q x.store) (number_is 2 0 0 n w k h) (malformed_listing l)
    cause_of x q r n w k true a true l f R y C o h = go R (y l) (sym (ap (λ (c : Check). c then R then unless 13 C) f) ∙ h)
      where
        go : (R : Check) → Caused x.store.rec.entry_size q.limit (entries_of x.store) (tree_in listing) q.call R
            → (R then unless 13 C) ≡ refuse n w k → Cause listing q x.store n
        go R passed e = last C o e
          where
            last : (C : Bool) → room listing q x.store ≡ C → unless 13 C ≡ refuse n w k → Cause listing q x.store n
            last true o e = absurd (not_pass n w k e)
            last false o e = subst (Cause listing q x.store) (number_is 13 0 0 n w k e) (no_room (leb-false (length (encode (table_after listing q x.store))) (length x.store.table) o))
        go R (because m z) e = subst (Cause listing q x.store) (number_is m 0 0 n w k e) (exceeds m z)

    with_cause : (x : State) (q : Request) → WordedCall q.call → Reached x → RefusedWithCause listing x q
    with_cause x q y r n w k h p =
        let u = then_pass (forms q.call) (rules unlimited [] x.plain q.call) p in
        let m = limited x.store.rec.entry_size q.limit in
        cause_of x q r n w k (lent q x.store) refl (is_listing listing) refl u.0 (rules m (entries_of x.store) (tree_in listing) q.call)
        (λ z. let l = listing_fine listing b z in
        allows (entries_of x.store) (tree_in listing) x.plain (r.sound z) l.closed l.sorted m q.call u.1)
        (room listing q x.store) refl (refused_is (verdict listing q x.store) q x.store n w k h)

    others : (x : State) (q : Request) → WordedCall q.call → Reached x → LeavesOthers listing x q
    others x q y r k h = go (verdict listing q x.store) refl
      where
        go : (c : Check) → verdict listing q x.store ≡ c → kept_bytes k (lookup (entries_of (step_by c q x).store) k) ≡ kept_bytes k (lookup (entries_of x.store) k)
        go pass v = let m = made q x y r (has_passed q x.store v) in
            ap (λ (t : Table). kept_bytes k (lookup t k)) m.read ∙ ap (kept_bytes k) (stays (entries_of x.store) (tree_in listing) k q.call h)
        go (refuse n w j) v = refl

    limit_kept : (x : State) (q : Request) → WordedCall q.call → Reached x → WithinLimit listing x q
    limit_kept x q y r v h = go (verdict listing q x.store) refl h
      where
        go : (c : Check) → verdict listing q x.store ≡ c → (settle c listing q x.store).reply ≡ accepted v
            → ((step_by c q x).store.table ≡ x.store.table → ⊥) → (step_by c q x).store.rec.charge ≤ q.limit
        go (refuse n w j) e h d = absurd (not_refused v n w j (sym h))
        go pass e h d = let p = has_passed q x.store e in
            elim (in_limit x.store.rec.entry_size q.limit (entries_of x.store) (tree_in listing) q.call p.rule) [
              | inl z ↦ let d = decoded x.store.table x.store.rec r.table in
                  subst (λ (n : ℕ). n ≤ q.limit) (charge_exact x.store.rec.entry_size (length x.store.table) (table_after listing q x.store) d.size p.fits) z
              | inr z ↦ absurd (d (ap (λ (t : Table). padded (length x.store.table) (encode t)) z ∙ sym (decoded x.store.table x.store.rec r.table).bytes))
            ]

    as_posix : (x : State) (q : Request) → WordedCall q.call → Reached x → DoesAsPosix listing x q
    as_posix x q y r v h = go (verdict listing q x.store) refl h
      where
        go : (c : Check) → verdict listing q x.store ≡ c → (settle c listing q x.store).reply ≡ accepted v
            → Posix (shown (entries_of x.store) (tree_in listing)) (shown (entries_of (step_by c q x).store) (tree_in listing)) q.call
        go (refuse n w j) e h = absurd (not_refused v n w j (sym h))
        go pass e h =
            let p = has_passed q x.store e in
            let m = made q x y r p in
            let l = listing_fine listing b p.well in
            subst⁻¹ (λ (t : Table). Posix (shown (entries_of x.store) (tree_in listing)) (shown t (tree_in listing)) q.call) m.read
            (posix (entries_of x.store) (tree_in listing) (r.sound p.well).inv l.held l.closed (limited x.store.rec.entry_size q.limit) q.call p.rule)

    -- a call in a reached state
    does_as_said : (x : State) (q : Request) → WordedCall q.call → Reached x → DoesAsSaid listing x q
    does_as_said x q w r = record {
      accepted_by_rules = by_rules x q w r;
      refused_with_cause = with_cause x q w r;
      leaves_others = others x q w r;
      within_limit = limit_kept x q w r;
      refused_leaves = untouched listing q x.store;
      as_posix = as_posix x q w r;
      malformed = λ z v h. both (is_listing listing) (accepted_passed q x.store v h).well z;
    }

    pub all_do : (qs : List Request) (x : State) → WordedCalls qs → Reached x → Throughout (DoesAsSaid listing) listing x qs
    all_do [] x w r = tt
    all_do (q ∷ qs) x w r = (does_as_said x q w.0 r, all_do qs (step listing q x) w.1 (reached_step q x w.0 r))

    -- what an accepted opening gave
    pub reached_begin : (buffer : Bytes) → sized E (length buffer) ≡ true → Reached (begin listing E buffer)
    reached_begin buffer h = subst⁻¹ (λ (s : Store). Reached (record { store = s; plain = tree_in listing })) (opened_is E buffer h)
        (let o = opened_table E (length buffer) h in
        record {
          table = o.1;
          size_kept = refl;
          fine = subst⁻¹ FineTable o.0 fine_empty;
          sound = λ z. let l = listing_fine listing b z in
              subst⁻¹ (λ (t : Table). Sound t (tree_in listing) (tree_in listing)) o.0 (sound_empty (tree_in listing) l.closed l.sorted);
        })
