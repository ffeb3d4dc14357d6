-- The bytes of a table that is written anew: what each step adds to the work buffer, and what is copied back.
use mathlib.Core.Path.{◌≡◌, ap, ap₂, sym, ◌∙◌}
use mathlib.Core.List.{[], ◌∷◌, ◌++◌, append_assoc, append-nil}
use mathlib.Core.Bool.{true}
use Prim.Native.Nat.{ℕ, ◌+◌, ◌-◌, ◌≤◌}
use native.Mathlib.Omega.{arith}
use native.Mathlib.Nat.{add-sub_cancel_left}
use lib.ListN.{length, take, drop, replicate, length-append, length-drop}
use lib.Seq.{take-append_seam, length-take-le}
use Rattle.model.specs.Bytes.{Bytes, bytes, before}
use Rattle.model.specs.Path.{Path}
use Rattle.model.specs.Map.{put}
use Rattle.model.specs.Tree.{Entry, Table}
use Rattle.model.specs.Table.{body_of, entry_bytes, encode, padded, entry_of, entries_at, table_in, is_table}
use Rattle.model.specs.declared.Record.{Record}
use Rattle.model.proofs.Codec.{entry_length}
use Rattle.base_fields.specs.Write.{overwritten}
use Rattle.base_fields.proofs.Writes.{length_overwritten, take_overwritten, two_writes, three_writes}
use Rattle.base_fields.proofs.Zeros.{zeroed_behind}
use Rattle.table_entries.specs.Place.{Standing, Sought, end_of}
use Rattle.table_entries.specs.Cut.{up_to, since, unless_first, behind}
use Rattle.table_entries.proofs.Cuts.{up_since, encode_append}
use Rattle.table_measure.proofs.Passes.{begun, begun_done, put_on, put_on_done}
use Rattle.table_measure.proofs.Steps.{sought_end}
use Rattle.table_write.specs.Merge.{head_bytes, Written, Merged, Copied}

pub head_length_lem : (k : Path) (kind m z n : ℕ) → length (head_bytes k kind m z n) ≡ 24 + length k
head_length_lem k kind m z n = omega arith

-- a head's bytes, written in three parts
pub head_put : (w w₁ w₂ w₃ k : Bytes) (kind m z n at : ℕ) → at + 24 + length k ≤ length w
    → w₁ ≡ overwritten w at (bytes 2 (length k) ++ (bytes 2 kind ++ bytes 4 n))
    → w₂ ≡ overwritten w₁ (at + 8) (bytes 8 m ++ bytes 8 z)
    → w₃ ≡ overwritten w₂ (at + 24) k → w₃ ≡ overwritten w at (head_bytes k kind m z n)
head_put w w₁ w₂ w₃ k kind m z n at h e₁ e₂ e₃ =
    three_writes w w₁ w₂ w₃ (bytes 2 (length k) ++ (bytes 2 kind ++ bytes 4 n)) (bytes 8 m ++ bytes 8 z) k at (at + 8) (at + 24) (omega arith) (omega arith)
    (omega arith) e₁ e₂ e₃

-- an entry's bytes, from its fields
pub entry_written : (k : Path) (kind m z : ℕ) (b : Bytes) → Written kind m z b → head_bytes k kind m z (length b) ++ b ≡ entry_bytes k (entry_of kind m z b)
entry_written k kind m z b w =
    sym (λ i. bytes 2 (length k) ++ (bytes 2 (w.type i) ++ (bytes 4 (length (w.content i)) ++ (bytes 8 (w.time i) ++ (bytes 8 (w.long i) ++ (k ++ w.content i))))))

-- an entry's bytes: its head, and its body behind it
pub entry_put : (w w₁ w₂ k b : Bytes) (kind m z at n : ℕ) → Written kind m z b → at + 24 + length k ≤ length w → n ≡ length b
    → w₁ ≡ overwritten w at (head_bytes k kind m z n) → w₂ ≡ overwritten w₁ (at + 24 + length k) b
    → w₂ ≡ overwritten w at (entry_bytes k (entry_of kind m z b))
entry_put w w₁ w₂ k b kind m z at n e h l e₁ e₂ =
    let f = head_length_lem k kind m z (length b) in
    two_writes w w₁ w₂ (head_bytes k kind m z (length b)) b at (at + 24 + length k) (omega arith) (omega arith)
    (e₁ ∙ ap (λ (x : ℕ). overwritten w at (head_bytes k kind m z x)) l) e₂
    ∙ ap (overwritten w at) (entry_written k kind m z b e)

pub merge_begun : (s w : Bytes) (r : Record) → is_table s r ≡ true → Merged s w (table_in s r) [] r.count 0 0
merge_begun s w r h =
    let e : [] ≡ encode (begun s r h).done = sym (ap encode (begun_done s r h)) in
    record { passed = begun s r h; front = e; size = ap length e }

-- what stands from `at` up to the key q, as bytes
pub stretch : (s : Bytes) (q : Path) (n at to : ℕ) → Standing s n at → to ≡ at + length (encode (up_to q (entries_at s n at)))
    → take (to - at) (drop at s) ≡ encode (up_to q (entries_at s n at))
stretch s q n at to st e =
    let b : Table = entries_at s n at in
    let u : Bytes = encode (up_to q b) in
    let d : to - at ≡ length u = ap (λ (x : ℕ). x - at) e ∙ add-sub_cancel_left at (length u) in
    let f : encode b ≡ u ++ encode (since q b) = ap encode (sym (up_since q b)) ∙ encode_append (up_to q b) (since q b) in
    let g : drop at s ≡ u ++ (encode (since q b) ++ st.rest) = st.bytes ∙ ap (λ (x : Bytes). x ++ st.rest) f ∙ append_assoc u (encode (since q b)) st.rest in
    ap₂ take d g ∙ take-append_seam u (encode (since q b) ++ st.rest)

-- the whole of it, up to where the old entries end
pub remainder : (s : Bytes) (n at used : ℕ) → Standing s n at → used ≡ at + length (encode (entries_at s n at))
    → take (used - at) (drop at s) ≡ encode (entries_at s n at)
remainder s n at used st e =
    let u : Bytes = encode (entries_at s n at) in
    let d : used - at ≡ length u = ap (λ (x : ℕ). x - at) e ∙ add-sub_cancel_left at (length u) in
    ap₂ take d st.bytes ∙ take-append_seam u st.rest

-- a step: `piece` and the entry are written behind what is there
module _ (s w : Bytes) (t : Table) (k q : Path) (v : Entry) (left at out left' at' out' : ℕ) (m : Merged s w t k left at out) (up : before k q ≡ true)
    (stand : Standing s left' at') (are : entries_at s left' at' ≡ behind q (entries_at s left at)) where
  abbrev new : Bytes
  new = encode (up_to q (entries_at s left at)) ++ entry_bytes q v

  encode_new : encode (put_on s t k q v left at m.passed up left' at' stand are).done ≡ encode m.passed.done ++ new
  encode_new =
      ap encode (put_on_done s t k q v left at m.passed up left' at' stand are)
      ∙ encode_append m.passed.done (up_to q (entries_at s left at) ++ ((q, v) ∷ []))
      ∙ ap (λ (x : Bytes). encode m.passed.done ++ x)
      (encode_append (up_to q (entries_at s left at)) ((q, v) ∷ []) ∙ ap (λ (x : Bytes). encode (up_to q (entries_at s left at)) ++ x) (append-nil (entry_bytes q v)))

  pub merged_on : out + length new ≤ length w → out' ≡ out + length new → Merged s (overwritten w out new) (put q v t) q left' at' out'
  merged_on fits e = record {
    passed = put_on s t k q v left at m.passed up left' at' stand are;
    front =
        ap (λ (n : ℕ). take n (overwritten w out new)) e
        ∙ take_overwritten w out new fits
        ∙ ap (λ (x : Bytes). x ++ new) m.front
        ∙ sym encode_new;
    size = e ∙ ap (λ (n : ℕ). n + length new) m.size ∙ sym (ap length encode_new ∙ length-append (encode m.passed.done) new);
  }

-- `copy_up_to`: what stands up to q is written behind what is there, and what is ahead is what stands behind q
pub copied_up : (s w w₁ q : Bytes) (left at out left₁ to left' at' : ℕ) → Standing s left at → Sought s q left at left₁ to
    → w₁ ≡ overwritten w out (take (to - at) (drop at s))
    → Standing s left' at' → entries_at s left' at' ≡ unless_first q (entries_at s left₁ to) → end_of s left' at' ≡ end_of s left₁ to
    → Copied s w w₁ q left at out left' at' (out + (to - at))
copied_up s w w₁ q left at out left₁ to left' at' st found e stand are end =
    let there = found.there in
    record {
      stand = stand;
      are = are ∙ ap (unless_first q) found.are;
      copied = e ∙ ap (overwritten w out) (stretch s q left at to st there);
      size = omega arith;
      end = end ∙ sought_end s q left at left₁ to found;
    }

-- `put_next`: the entry, with a body of n bytes, is written behind what is copied
pub next_put : (s w w₁ w₂ q : Bytes) (v : Entry) (left at out left' at' out' n : ℕ) → length (body_of v) ≡ n
    → out + length (encode (up_to q (entries_at s left at))) + (24 + length q + n) ≤ length w
    → Copied s w w₁ q left at out left' at' out' → w₂ ≡ overwritten w₁ out' (entry_bytes q v)
    → (t : Table) (k : Path) → Merged s w t k left at out → before k q ≡ true → Merged s w₂ (put q v t) q left' at' (out' + 24 + length q + n)
next_put s w w₁ w₂ q v left at out left' at' out' n b fits c e t k m up =
    let u : Bytes = encode (up_to q (entries_at s left at)) in
    let o = c.size in
    let g : w₂ ≡ overwritten w out (u ++ entry_bytes q v) = two_writes w w₁ w₂ u (entry_bytes q v) out out' (omega arith) (omega arith) c.copied e in
    let l : length (u ++ entry_bytes q v) ≡ length u + length (entry_bytes q v) = length-append u (entry_bytes q v) in
    let h = entry_length q v in
    rw g (merged_on s w t k q v left at out left' at' (out' + 24 + length q + n) m up c.stand c.are (omega arith) (omega arith))

-- the end: what is left is written behind what is there, and the table's bytes are the new table's
module _ (s w : Bytes) (t : Table) (k : Path) (left at out used : ℕ) (m : Merged s w t k left at out) (e : used ≡ at + length (encode (entries_at s left at))) where
  abbrev last : Bytes
  last = take (used - at) (drop at s)

  encode_whole : encode t ≡ encode m.passed.done ++ last
  encode_whole =
      ap encode m.passed.whole
      ∙ encode_append m.passed.done (entries_at s left at)
      ∙ ap (λ (x : Bytes). encode m.passed.done ++ x) (sym (remainder s left at used m.passed.stand e))

  pub front_whole : out + length last ≤ length w → take (out + length last) (overwritten w out last) ≡ encode t
  front_whole fits = take_overwritten w out last fits ∙ ap (λ (x : Bytes). x ++ last) m.front ∙ sym encode_whole

-- `finish`: the table t is written behind `out` bytes of the work buffer w, and from there back
module _ (t w w₁ t₁ t₂ : Bytes) (left at out used : ℕ) (a : at ≤ used) (b : used ≤ length t) (c : out + (used - at) ≤ length t) (d : length t ≤ length w)
    (e₁ : w₁ ≡ overwritten w out (take (used - at) (drop at t))) where
  abbrev n : ℕ
  n = out + (used - at)

  rest_length : length (take (used - at) (drop at t)) ≡ used - at
  rest_length = let l = length-drop at t in length-take-le (used - at) (drop at t) (omega arith)

  work_length : length w₁ ≡ length w
  work_length =
      let l = rest_length in
      ap length e₁ ∙ length_overwritten w out (take (used - at) (drop at t)) (omega arith)

  pub finished : t₁ ≡ overwritten t 0 (take n w₁) → t₂ ≡ take n t₁ ++ replicate (length t₁ - n) 0
      → (x : Table) (k : Path) → Merged t w x k left at out → used ≡ at + length (encode (entries_at t left at)) → t₂ ≡ padded (length t) (encode x)
  finished e₂ e₃ x k m e =
      let l = rest_length in
      let lw = work_length in
      let whole : take n w₁ ≡ encode x =
      ap₂ (λ (i : ℕ) (u : Bytes). take (out + i) u) (sym l) e₁ ∙ front_whole t w x k left at out used m e (omega arith) in
      e₃
      ∙ ap (λ (u : Bytes). take n u ++ replicate (length u - n) 0) e₂
      ∙ zeroed_behind t (take n w₁) n (length-take-le n w₁ (omega arith)) c
      ∙ ap (padded (length t)) whole
