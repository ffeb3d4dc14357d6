-- #105: which numbers are the least. A call is accepted with a limit and a length exactly if both are enough (`Enough`), so the least limit is what the call needs,
-- the least length the larger of the bytes used before and after, and both together are enough. Assumes a listing in form, a table in form with its record, of bytes,
-- and paths in form: with these 1, 2 and 3 do not refuse. Of the table nothing else: no calls need have built it.
use mathlib.Core.Path.{◌≡◌, refl, ap, sym, ◌∙◌, subst}
use mathlib.Core.Bool.{Bool, true, ◌&&◌}
use mathlib.Core.Option.{Option, none, some}
use Prim.Native.Nat.{ℕ, ◌≤◌, max}
use native.Mathlib.Omega.{arith}
use lib.Dec.{leb}
use lib.ListN.{length, length-replicate}
use borrow.Author.Tests.{leb-true, leb-false, le-leb}
use Rattle.model.specs.Bytes.{Bytes}
use Rattle.model.specs.Tree.{Table, Tree}
use Rattle.model.specs.Listing.{is_listing, tree_in}
use Rattle.model.specs.Table.{encode, is_table, table_in}
use Rattle.model.specs.Checks.{Check, pass, refuse, ◌then◌, unless, limited}
use Rattle.model.specs.Calls.{Call, changed, forms, rules, value_of}
use Rattle.model.specs.Answer.{accepted}
use Rattle.model.specs.Outcome.{Store, Request, lent, room, verdict, settle, outcome}
use Rattle.model.proofs.Orders.{bot, yea, nay, test, and_true}
use Rattle.model.proofs.Words.{IsBytes}
use Rattle.model.proofs.Invariant.{then_pass, then_both, unless_pass}
use Rattle.model.proofs.Reached.{has_passed}
use Rattle.least_need.specs.Need.{need, other_rules}
use Rattle.least_need.specs.Least.{in_buffer, request_of, Accepts, WithLimit, WithLength, Least, IsReport}
use Rattle.least_need.proofs.Needs.{rules_need, need_enough}
use Rattle.least_need.proofs.Buffers.{buffer_length, buffer_entries, used_most, buffer_table, buffer_fits}

-- a call is accepted exactly if its verdict passes
accepted_passes : (listing : Bytes) (q : Request) (s : Store) (v : ℕ) → (outcome listing q s).reply ≡ accepted v → verdict listing q s ≡ pass
accepted_passes listing q s v h = go (verdict listing q s) h
  where
    go : (x : Check) → (settle x listing q s).reply ≡ accepted v → x ≡ pass
    go pass e = refl
    go (refuse n w k) e = absurd (bot (cc))

module _ (listing : Bytes) (s : Store) (c : Call) where
  abbrev E : ℕ
  E = s.rec.entry_size

  abbrev t : Table
  t = table_in s.table s.rec

  abbrev l : Tree
  l = tree_in listing

  -- a limit and a length that are enough
  pub record Enough (limit n : ℕ) : Type 0 where
    pub before : s.rec.used ≤ n
    pub after : length (encode (changed t l c)) ≤ n
    pub most : n ≤ 16777216
    pub covers : need E t l c ≤ limit
    pub passes : other_rules t l c ≡ pass

  module _ (is-listing : is_listing listing ≡ true) (is-table : is_table s.table s.rec ≡ true) (bytes : IsBytes s.table) (formed : forms c ≡ pass) where
    module _ (limit n : ℕ) where
      abbrev q : Request
      q = request_of c limit n

      abbrev u : Store
      u = in_buffer n s

      -- (A) what is accepted is enough
      pub is_enough : Accepts listing s c limit n → Enough limit n
      is_enough h =
          let v = accepted_passes listing q u (value_of c) h in
          let a = unless_pass 1 (lent q u) (then_pass (unless 1 (lent q u)) _ v).0 in
          let b = buffer_fits s is-table n (and_true (is_table u.table s.rec) (leb (length u.table) (length q.work)) a).0 in
          let e = buffer_entries s is-table bytes n b.0 b.1 in
          let p = has_passed listing E q u v in
          let r : rules (limited E limit) t l c ≡ pass = subst (λ (x : Table). rules (limited E limit) x l c ≡ pass) e p.rule in
          let d = then_pass (unless 11 (leb (need E t l c) limit)) (other_rules t l c) (sym (rules_need limit E t l c) ∙ r) in
          let f : length (encode (changed t l c)) ≤ length u.table = subst (λ (x : Table). length (encode (changed x l c)) ≤ length u.table) e p.fits in
          record {
            before = b.0;
            after = subst (λ (m : ℕ). length (encode (changed t l c)) ≤ m) (buffer_length n s.table) f;
            most = b.1;
            covers = leb-true (need E t l c) limit (unless_pass 11 (leb (need E t l c) limit) d.0);
            passes = d.1;
          }

      -- (B) what is enough is accepted
      pub enough_is : Enough limit n → Accepts listing s c limit n
      enough_is h =
          let e = buffer_entries s is-table bytes n h.before h.most in
          let z = buffer_length n s.table in
          let w : length u.table ≤ length q.work = subst (λ (m : ℕ). m ≤ length q.work) (sym z) (subst (λ (m : ℕ). n ≤ m) (sym (length-replicate {A = ℕ} n 0)) (omega arith)) in
          let a : lent q u ≡ true = and_both (is_table u.table s.rec) (leb (length u.table) (length q.work)) (buffer_table s is-table bytes n h.before h.most) (le-leb (length u.table) (length q.work) w) in
          let r : rules (limited E limit) (table_in u.table s.rec) l c ≡ pass =
          subst (λ (x : Table). rules (limited E limit) x l c ≡ pass) (sym e) (need_enough limit E t l c h.covers ∙ h.passes) in
          let f : length (encode (changed (table_in u.table s.rec) l c)) ≤ length u.table =
          subst (λ (x : Table). length (encode (changed x l c)) ≤ length u.table) (sym e) (subst (λ (m : ℕ). length (encode (changed t l c)) ≤ m) (sym z) h.after) in
          ap (λ (x : Check). (settle x listing q u).reply) (
          then_both (unless 1 (lent q u)) _ (ap (unless 1) a) (
          then_both (unless 2 (is_listing listing)) _ (ap (unless 2) is-listing) (
          then_both (forms c) _ formed (
          then_both (rules (limited E limit) (table_in u.table s.rec) l c) _ r (
          ap (unless 13) (le-leb (length (encode (changed (table_in u.table s.rec) l c))) (length u.table) f))))))
        where
          and_both : (x y : Bool) → x ≡ true → y ≡ true → (x && y) ≡ true
          and_both x y g k = cc

    -- (C) whatever lets it through, more does too
    pub accepts_more : (limit n more longer : ℕ) → limit ≤ more → n ≤ longer → longer ≤ 16777216 → Accepts listing s c limit n → Accepts listing s c more longer
    accepts_more limit n more longer h g k a =
        let e = is_enough limit n a in
        enough_is more longer (record { before = omega (arith, e.before); after = omega (arith, e.after); most = k; covers = omega (arith, e.covers); passes = e.passes })

    -- (D) the two together are enough
    pub both_enough : (limit n : ℕ) → WithLimit listing s c limit → WithLength listing s c n → Accepts listing s c limit n
    both_enough limit n h g =
        let a = is_enough limit 16777216 h in
        let b = is_enough 0xFFFF_FFFF_FFFF_FFFF n g in
        enough_is limit n (record { before = b.before; after = b.after; most = b.most; covers = a.covers; passes = a.passes })

    -- where the other rules pass, and the entries after the call fit 16 MiB
    module _ (passes : other_rules t l c ≡ pass) (fits : length (encode (changed t l c)) ≤ 16777216) where
      -- (E) the least limit is what the call needs
      pub least_limit : Least (WithLimit listing s c) (need E t l c)
      least_limit = record {
        holds = enough_is (need E t l c) 16777216 (record { before = used_most s is-table; after = fits; most = omega arith; covers = omega arith; passes = passes });
        least = λ m h a. let e = is_enough m 16777216 a in omega (arith, e.covers);
      }

      -- (F) the least length is the larger of the bytes used before and after
      pub least_length : need E t l c ≤ 0xFFFF_FFFF_FFFF_FFFF → Least (WithLength listing s c) (max s.rec.used (length (encode (changed t l c))))
      least_length h =
          let n = max s.rec.used (length (encode (changed t l c))) in
          record {
            holds = enough_is 0xFFFF_FFFF_FFFF_FFFF n (record { before = omega arith; after = omega arith; most = omega (arith, used_most s is-table); covers = h; passes = passes });
            least = λ m k a. let e = is_enough 0xFFFF_FFFF_FFFF_FFFF m a in omega (arith, e.before, e.after);
          }

      pub report_both : need E t l c ≤ 0xFFFF_FFFF_FFFF_FFFF → IsReport listing s c (some (need E t l c, max s.rec.used (length (encode (changed t l c)))))
      report_both h = (least_limit, least_length h)

    -- (G) where they do not, nothing lets it through
    pub report_none : (other_rules t l c ≡ pass → length (encode (changed t l c)) ≤ 16777216 → ⊥) → IsReport listing s c none
    report_none h limit n a = let e = is_enough limit n a in h e.passes (omega (arith, e.after, e.most))

    -- (H) of the two numbers, as 64-bit limits have them, there is never one without the other
    pub length_too : (limit : ℕ) → limit ≤ 0xFFFF_FFFF_FFFF_FFFF → WithLimit listing s c limit → (n : ℕ) × Least (WithLength listing s c) n
    length_too limit h a =
        let e = is_enough limit 16777216 a in
        (max s.rec.used (length (encode (changed t l c))), least_length e.passes e.after (omega (arith, e.covers)))

    pub limit_too : (n : ℕ) → WithLength listing s c n → (limit : ℕ) × Least (WithLimit listing s c) limit × (limit ≤ 0xFFFF_FFFF_FFFF_FFFF)
    limit_too n a =
        let e = is_enough 0xFFFF_FFFF_FFFF_FFFF n a in
        (need E t l c, least_limit e.passes (omega (arith, e.after, e.most)), e.covers)

-- (I) what the bytes of the work buffer are does not matter
pub any_work : (listing : Bytes) (s : Store) (c : Call) (limit n : ℕ) (w : Bytes) → length w ≡ n
    → (outcome listing (record { call = c; limit = limit; work = w }) (in_buffer n s)).reply ≡ (outcome listing (request_of c limit n) (in_buffer n s)).reply
any_work listing s c limit n w e =
    replies (verdict listing q u) (verdict listing r u) (ap (λ (m : ℕ). unless 1 (is_table u.table u.rec && leb (length u.table) m) then rest) (e ∙ sym (length-replicate {A = ℕ} n 0)))
  where
    u : Store
    u = in_buffer n s

    q : Request
    q = record { call = c; limit = limit; work = w }

    r : Request
    r = request_of c limit n

    rest : Check
    rest =
        unless 2 (is_listing listing) then forms c
        then rules (limited u.rec.entry_size limit) (table_in u.table u.rec) (tree_in listing) c
        then unless 13 (room listing r u)

    replies : (x y : Check) → x ≡ y → (settle x listing q u).reply ≡ (settle y listing r u).reply
    replies pass y h = ap (λ (z : Check). (settle z listing r u).reply) h
    replies (refuse k j m) y h = ap (λ (z : Check). (settle z listing r u).reply) h

-- (J) a least number is the only one
pub least_one : (P : ℕ → Type 0) (m n : ℕ) → Least P m → Least P n → m ≡ n
least_one P m n a b = elim (test (leb m n)) [
  | nay e ↦ absurd (a.least n (leb-false m n e) b.holds)
  | yea e ↦ elim (test (leb n m)) [
    | nay d ↦ absurd (b.least m (leb-false n m d) a.holds)
    | yea d ↦ let x = leb-true m n e in let y = leb-true n m d in omega arith
  ]
]

-- (K) so a report is the only one
pub report_one : (listing : Bytes) (s : Store) (c : Call) (x y : Option (ℕ × ℕ)) → IsReport listing s c x → IsReport listing s c y → x ≡ y
report_one listing s c none none a b = refl
report_one listing s c none (some y) a b = absurd (a y.0 16777216 b.0.holds)
report_one listing s c (some x) none a b = absurd (b x.0 16777216 a.0.holds)
report_one listing s c (some x) (some y) a b =
    let e = least_one (WithLimit listing s c) x.0 y.0 a.0 b.0 in
    let f = least_one (WithLength listing s c) x.1 y.1 a.1 b.1 in
    λ i. some (e i, f i)
