-- One item of what is carried: what it puts into the table.
use mathlib.Core.Path.{◌≡◌, refl, ap, sym, subst, ◌∙◌}
use mathlib.Core.Bool.{true}
use mathlib.Core.List.{[], ◌++◌}
use Prim.Native.Nat.{ℕ, ◌+◌, ◌-◌, ◌≤◌}
use native.Mathlib.Omega.{arith}
use lib.ListN.{length, take, drop}
use lib.Seq.{length-take-le}
use Rattle.model.specs.Bytes.{Bytes, before}
use Rattle.model.specs.Path.{Path}
use Rattle.model.specs.Map.{put}
use Rattle.model.specs.Tree.{Entry, Table}
use Rattle.model.specs.Table.{type_of, mtime_of, size_of, body_of, encode, entry_of, entries_at}
use Rattle.model.specs.Rename.{new_key}
use Rattle.model.proofs.Codec.{same_entry}
use Rattle.table_entries.specs.Place.{end_of}
use Rattle.table_entries.specs.Cut.{up_to}
use Rattle.table_write.specs.Merge.{Written, Merged}
use Rattle.table_write.specs.declared.Merge.{Merge}
use Rattle.rename_write.specs.Stretch.{Room, Put}

-- the room, by the key and the body that are put
pub room_of : (s w : Bytes) (x : Merge) (i : Path × Entry) (q : Path) (b : Bytes) → Room s w x i → q ≡ i.0 → b ≡ body_of i.1
    → x.out + length (encode (up_to q (entries_at s x.left x.at))) + (24 + length q + length b) ≤ length w
room_of s w x i q b r e f =
    let n : ℕ = length w in
    subst (λ (y : Path × Bytes). x.out + length (encode (up_to y.0 (entries_at s x.left x.at))) + (24 + length y.0 + length y.1) ≤ n)
    (sym (λ j. (e j, f j))) r.fits

-- the step, by the key and the entry that are put
pub put_of : (s w w' : Bytes) (x x' : Merge) (i : Path × Entry) (q : Path) (v : Entry) → q ≡ i.0 → v ≡ i.1
    → ((t : Table) (k : Path) → Merged s w t k x.left x.at x.out → before k q ≡ true
    → Merged s w' (put q v t) q x'.left x'.at x'.out)
    → length w' ≡ length w → end_of s x'.left x'.at ≡ end_of s x.left x.at → Put s w w' x x' i
put_of s w w' x x' i q v e f h l d =
    subst (λ (y : Path × Entry). Put s w w' x x' y) (λ j. (e j, f j)) (record { merged = h; long = l; end = d })

-- kind 4 without a body is a deleted entry's
pub deleted_written : Written 4 0 0 []
deleted_written = record { type = refl; time = refl; long = refl; content = refl }

-- its bytes are the first ones of the array
pub key_bytes : (a b q k : Path) (i : Path × Entry) → q ≡ i.0 → k ≡ b ++ drop (length a) q → k ≡ new_key a b i.0
key_bytes a b q k i e f = f ∙ ap (λ (x : Path). b ++ drop (length a) x) e

pub front_length : (n : ℕ) (bytes : Bytes) → (n ≤ 512) × (length bytes ≡ 512) → n ≡ length (take n bytes)
front_length n bytes h = let x = h.0 in let y = h.1 in sym (length-take-le n bytes (omega arith))

module _ (e : Entry) (kind m z : ℕ) (b : Bytes) (ek : kind ≡ type_of e) (em : m ≡ mtime_of e) (ez : z ≡ size_of e) (eb : b ≡ body_of e) where
  pub entry_of_lem : entry_of kind m z b ≡ e
  entry_of_lem = (λ j. entry_of (ek j) (em j) (ez j) (eb j)) ∙ same_entry e

  pub written_of : Written kind m z b
  written_of = record {
    type = ap type_of entry_of_lem ∙ sym ek;
    time = ap mtime_of entry_of_lem ∙ sym em;
    long = ap size_of entry_of_lem ∙ sym ez;
    content = ap body_of entry_of_lem ∙ sym eb;
  }
