-- The search forward over a table's entries: its invariant, where it ends, and what stands there.
use mathlib.Core.Path.{◌≡◌, refl, ap, sym, ◌∙◌, subst}
use mathlib.Core.List.{[]}
use mathlib.Core.Bool.{Bool, true, false, cond}
use mathlib.Core.Option.{some, none}
use Rattle.std.specs.Prelude as code
use Prim.Native.Nat.{ℕ, zero, suc, ◌+◌, ◌-◌, ◌<◌, ◌≤◌}
use native.Mathlib.Omega.{arith}
use lib.ListN.{length, take, drop, length-append}
use Rattle.model.specs.Bytes.{Bytes, number_at, same, before}
use Rattle.model.specs.Path.{Path}
use Rattle.model.specs.Map.{lookup}
use Rattle.model.specs.Tree.{Table}
use Rattle.model.specs.Table.{entry_bytes, encode, key_at, entry_at, entry_end, entries_at, table_in}
use Rattle.model.specs.declared.Record.{Record}
use Rattle.model.proofs.Maps.{ascends_is}
use Rattle.table_entries.specs.Place.{Standing, Sought}
use Rattle.table_entries.specs.Cut.{up_to, since, first_if}
use Rattle.table_entries.specs.Said.{no_entry, said, said_of}
use Rattle.table_entries.specs.declared.Place.{Place}
use Rattle.table_entries.specs.declared.OverlayEntry.{OverlayEntry}
use Rattle.table_entries.proofs.Entries.{first_entry, stands_here, left_some, left_next, left_none}
use Rattle.table_entries.proofs.Cuts.{lookup_first}
use Rattle.table_entries.proofs.Says.{key_here}

-- the place behind an entry, as the code computes it
pub stands_next : (s : Bytes) (n at : ℕ) → 0 < n → Standing s n at → (i : ℕ) → i ≡ number_at s at 2 → (j : ℕ) → j ≡ number_at s (at + 4) 4
    → Standing s (n - 1) (at + 24 + i + j)
stands_next s n at h w i e j f = rw (e, f) (stands_here s n at h w).next

-- of the n entries from `at` on, the m from `to` on are left: those from k on are the same, and what is passed stood between
pub record Seeking (s : Bytes) (k : Path) (n at m to : ℕ) : Type 0 where
  pub stand : Standing s m to
  pub are : since k (entries_at s m to) ≡ since k (entries_at s n at)
  pub there : to + length (encode (up_to k (entries_at s m to))) ≡ at + length (encode (up_to k (entries_at s n at)))

pub seek_start : (s : Bytes) (k : Path) (n at : ℕ) → Standing s n at → Seeking s k n at n at
seek_start s k n at w = record { stand = w; are = refl; there = refl }

module _ (s : Bytes) (k : Path) (m to : ℕ) (h : 0 < m) where
  -- a first entry before k is passed
  since_on : before (key_at s to) k ≡ true → since k (entries_at s (m - 1) (entry_end s to)) ≡ since k (entries_at s m to)
  since_on b = rw (first_entry s m to h) (rw b)

  up_on : before (key_at s to) k ≡ true
      → length (encode (up_to k (entries_at s m to)))
      ≡ length (entry_bytes (key_at s to) (entry_at s to)) + length (encode (up_to k (entries_at s (m - 1) (entry_end s to))))
  up_on b =
      let t : Table = entries_at s (m - 1) (entry_end s to) in
      rw (first_entry s m to h) (rw b (length-append (entry_bytes (key_at s to) (entry_at s to)) (encode (up_to k t))))

  -- at another, the search ends
  since_here : before (key_at s to) k ≡ false → entries_at s m to ≡ since k (entries_at s m to)
  since_here b = rw (first_entry s m to h) (rw b)

  up_here : before (key_at s to) k ≡ false → up_to k (entries_at s m to) ≡ []
  up_here b = rw (first_entry s m to h) (rw b)

sought_here : (s : Bytes) (k : Path) (n at m to : ℕ) → Seeking s k n at m to
    → entries_at s m to ≡ since k (entries_at s m to) → up_to k (entries_at s m to) ≡ [] → Sought s k n at m to
sought_here s k n at m to w e u =
    let l : length (encode (up_to k (entries_at s m to))) ≡ 0 = ap (λ (t : Table). length (encode t)) u in
    let a = w.there in
    record { stand = w.stand; are = e ∙ w.are; there = omega arith }

module _ (s : Bytes) (k : Path) (n at m to : ℕ) (w : Seeking s k n at m to) (h : 0 < m) (i : ℕ) (e : i ≡ number_at s to 2)
    (b : Bool) (c : b ≡ before (take (to + 24 + i - (to + 24)) (drop (to + 24) s)) k) where
  tested : before (key_at s to) k ≡ b
  tested = sym (c ∙ ap (λ (q : Path). before q k) (key_here s to i e))

  pub seek_on : b ≡ true → (j : ℕ) → j ≡ number_at s (to + 4) 4 → Seeking s k n at (m - 1) (to + 24 + i + j)
  seek_on z j f =
      let d = stands_here s m to h w.stand in
      let u = up_on s k m to h (tested ∙ z) in
      let a = w.there in
      let g = d.end in
      rw (e, f) (record {
        stand = d.next;
        are = since_on s k m to h (tested ∙ z) ∙ w.are;
        there = omega arith;
      })

  pub seek_stop : b ≡ false → Sought s k n at m to
  seek_stop z = sought_here s k n at m to w (since_here s k m to h (tested ∙ z)) (up_here s k m to h (tested ∙ z))

pub seek_end : (s : Bytes) (k : Path) (n at m to : ℕ) → Seeking s k n at m to → m ≤ 0 → Sought s k n at m to
seek_end s k n at zero to w h = sought_here s k n at zero to w refl refl
seek_end s k n at (suc m) to w h = absurd (omega arith)

-- a search by a test, for each path k of which T k says that the test tells whether a key is before it
pub record Passing (T : Path → Type 0) (s : Bytes) (n at m to : ℕ) : Type 0 where
  pub stand : Standing s m to
  pub seeks : (k : Path) → T k → Seeking s k n at m to

module _ (T : Path → Type 0) (s : Bytes) (n at : ℕ) where
  module _ (i to : ℕ) (w : Passing T s n at (n - i) to) where
    module _ (h : i < n) (x : ℕ) (e : x ≡ number_at s to 2) (b : Bool)
        (c : (k : Path) → T k → b ≡ before (take (to + 24 + x - (to + 24)) (drop (to + 24) s)) k) where
      pub pass_on : b ≡ true → (j : ℕ) → j ≡ number_at s (to + 4) 4 → Passing T s n at (n - (i + 1)) (to + 24 + x + j)
      pass_on z j f =
          let l = left_some n i h in
          subst (λ (m : ℕ). Passing T s n at m (to + 24 + x + j)) (left_next n i) (record {
            stand = stands_next s (n - i) to l w.stand x e j f;
            seeks = λ k t. seek_on s k n at (n - i) to (w.seeks k t) l x e b (c k t) z j f;
          })

      pub pass_stop : b ≡ false → (k : Path) → T k → Sought s k n at (n - i) to
      pass_stop z k t = seek_stop s k n at (n - i) to (w.seeks k t) (left_some n i h) x e b (c k t) z

    pub pass_end : n ≤ i → (k : Path) → T k → Sought s k n at 0 to
    pass_end h k t =
        let z : n - i ≡ 0 = omega (arith, h) in
        subst (λ (m : ℕ). Sought s k n at m to) z (seek_end s k n at (n - i) to (w.seeks k t) (left_none n i h))

-- the entry where it ends, if that has the key
module _ (s : Bytes) (k : Path) (m to : ℕ) (h : m ≡ 0 → ⊥) where
  some_left : 0 < m
  some_left = go m h
    where
      go : (i : ℕ) → (i ≡ 0 → ⊥) → 0 < i
      go zero f = absurd (f refl)
      go (suc i) f = omega arith

  module _ (b : Bool) (q : Path) (e : q ≡ key_at s to) (c : b ≡ same q k) where
    opened : first_if k (entries_at s m to) ≡ cond b (some (entry_at s to)) none
    opened = rw (first_entry s m to some_left, c, e)

    pub entry_here : b ≡ true → said (some (entry_at s to)) ≡ said (first_if k (entries_at s m to))
    entry_here z = rw (opened, z)

    pub entry_other : b ≡ false → no_entry ≡ said (first_if k (entries_at s m to))
    entry_other z = rw (opened, z)

-- and so what all the entries from the start on have there
pub found : (s : Bytes) (k : Path) (n at m to : ℕ) → Standing s n at → Sought s k n at m to
    → (r : code.Option OverlayEntry) → said_of s r ≡ said (first_if k (entries_at s m to)) → said_of s r ≡ said (lookup (entries_at s n at) k)
found s k n at m to w g r e =
    let t : Table = entries_at s n at in
    e ∙ ap (λ (l : Table). said (first_if k l)) g.are ∙ sym (ap said (lookup_first k t (ascends_is [] t w.up).1))

-- from the first entry on, what the table has
pub found_all : (s : Bytes) (k : Path) (c : Record) (q : Place) → q ≡ record { at = 0; left = c.count }
    → (r : code.Option OverlayEntry) → said_of s r ≡ said (lookup (entries_at s q.left q.at) k) → said_of s r ≡ said (lookup (table_in s c) k)
found_all s k c q e r h = h ∙ ap (λ (p : Place). said (lookup (entries_at s p.left p.at) k)) e
