-- Own files by their entries: what is put where the file at a path is an own one, and where it is none.
use mathlib.Core.Path.{◌≡◌, refl, ap, subst, ◌∙◌}
use mathlib.Core.Bool.{Bool, true, false}
use mathlib.Core.List.{◌++◌}
use mathlib.Core.Option.{Option, none, some}
use Prim.Native.Nat.{ℕ}
use lib.ListN.{length}
use Rattle.model.specs.Bytes.{Bytes}
use Rattle.model.specs.Path.{Path}
use Rattle.model.specs.Map.{lookup, put}
use Rattle.model.specs.Tree.{Node, Entry, own, reference, directory, deleted, over, Table}
use Rattle.model.specs.Listing.{tree_in}
use Rattle.model.specs.Table.{entries_at, table_in}
use Rattle.model.specs.Content.{is_own, content_of, spliced}
use Rattle.model.specs.Outcome.{shown_in}
use Rattle.model.specs.declared.Record.{Record}
use Rattle.model.proofs.Orders.{bot}
use Rattle.std.specs.Prelude as code
use Rattle.table_entries.specs.Said.{said, said_of}
use Rattle.table_entries.specs.declared.Place.{Place}
use Rattle.table_entries.specs.declared.OverlayEntry.{OverlayEntry}
use Rattle.table_entries.proofs.Seeks.{found_all}
use Rattle.table_insert.specs.Insert.{Inserted}
use Rattle.table_splice.specs.Splice.{is_own_file}
use Rattle.model.proofs.Splices.{spliced_end}
use Rattle.check_content.proofs.Owned.{listed_not_own}
use Rattle.call_content.specs.Leaves.{Leaves}

-- whether the file at k is an own one was found to be b, by what was read of its entry from the first on
pub own_read : (l s : Bytes) (r : Record) (k : Path) (q : Place) → q ≡ record { at = 0; left = r.count } → (g : code.Option OverlayEntry)
    → said_of s g ≡ said (lookup (entries_at s q.left q.at) k) → (b : Bool)
    → ((x : Bytes) (e : Option Entry) (n : Option Node) → said_of x g ≡ said e → is_own n ≡ false → b ≡ is_own (over e n)) → b ≡ is_own (shown_in l s r k)
own_read l s r k q e g h b f = f s (lookup (table_in s r) k) (lookup (tree_in l) k) (found_all s k r q e g h) (listed_not_own l k)

-- an own file's entry, and what the file holds
pub record OwnEntry (e : Option Entry) (o : Option Node) : Type 0 where
  pub mtime : ℕ
  pub content : Bytes
  pub is : e ≡ some (own mtime content)
  pub file : is_own_file e ≡ true
  pub holds : (b : Bytes) → content_of o b ≡ content

own_entry : (e : Option Entry) (n : Option Node) → is_own n ≡ false → is_own (over e n) ≡ true → OwnEntry e (over e n)
own_entry none n h k = absurd (bot (cc))
own_entry (some (own m c)) n h k = record { mtime = m; content = c; is = refl; file = refl; holds = λ b. refl }
own_entry (some (reference m z p)) n h k = absurd (bot (cc))
own_entry (some (directory m)) n h k = absurd (bot (cc))
own_entry (some deleted) n h k = absurd (bot (cc))

pub own_there : (l s : Bytes) (r : Record) (p : Path) → is_own (shown_in l s r p) ≡ true → OwnEntry (lookup (table_in s r) p) (shown_in l s r p)
own_there l s r p h = own_entry (lookup (table_in s r) p) (lookup (tree_in l) p) (listed_not_own l p) h

-- the same table, put by another content
pub as_content : (E limit : ℕ) (s w : Bytes) (t : Table) (p : Path) (m : ℕ) (c d : Bytes) → c ≡ d → (i : Inserted) (s' w' : Bytes)
    → Leaves E limit s w (put p (own m c) t) i s' w' → Leaves E limit s w (put p (own m d) t) i s' w'
as_content E limit s w t p m c d e i s' w' h = subst (λ (x : Bytes). Leaves E limit s w (put p (own m x) t) i s' w') e h

-- data written at the content's end stands behind it
pub at_end : (n : ℕ) (d c : Bytes) → n ≡ length c → spliced n d c ≡ c ++ d
at_end n d c e = ap (λ (x : ℕ). spliced x d c) e ∙ spliced_end d c
