-- Which files are own ones and how many bytes are to be lent, by what the code reads of a path's entry and of the listing; 17, 5 and 18 by that.
use mathlib.Core.Path.{◌≡◌, refl, sym, ap, ◌∙◌}
use mathlib.Core.Bool.{Bool, true, false, cond}
use mathlib.Core.List.{List, [], ◌∷◌}
use mathlib.Core.Option.{Option, none, some}
use Prim.Native.Nat.{ℕ, ◌+◌, ◌<◌, ◌≤◌}
use lib.Dec.{eqb, ltb}
use lib.ListN.{length}
use borrow.Author.Tests.{lt-ltb, le-ltb, eq-eqb, ne_eqb}
use Rattle.model.specs.Bytes.{Bytes, same}
use Rattle.model.specs.Path.{Path}
use Rattle.model.specs.Map.{lookup}
use Rattle.model.specs.Tree.{held, listed, Node, dir, file, link, Entry, over}
use Rattle.model.specs.Listing.{ListingRecord, records, node_of, tree_from, tree_in}
use Rattle.model.specs.Table.{table_in, is_table}
use Rattle.model.specs.Checks.{Check, pass, refuse, ◌then◌, unless}
use Rattle.model.specs.Content.{is_own, needed, own_at, inside_checks}
use Rattle.model.specs.Outcome.{shown_in}
use Rattle.model.specs.declared.Record.{Record}
use Rattle.model.proofs.Orders.{bot}
use Rattle.model.proofs.Maps.{ascends_is, lookup_low}
use Rattle.model.proofs.Codec.{decoded}
use Rattle.std.specs.Prelude.{Some}
use Rattle.listing_records.specs.declared.Found.{Found}
use Rattle.listing_records.specs.declared.Found.TheVariants as found
use Rattle.listing_records.specs.Found.{found_of}

-- no node of a listing has a content
pub listed_not_own : (l : Bytes) (p : Path) → is_own (lookup (tree_in l) p) ≡ false
listed_not_own l p = go (records l)
  where
    by_type : (b d : Bool) (m z : ℕ) (q : Path) → is_own (some (cond b (dir m) (cond d (file m z (listed q)) link))) ≡ false
    by_type true d m z q = refl
    by_type false true m z q = refl
    by_type false false m z q = refl

    first : (b : Bool) (n : Node) (o : Option Node) → is_own (some n) ≡ false → is_own o ≡ false → is_own (cond b (some n) o) ≡ false
    first true n o h k = h
    first false n o h k = k

    go : (rs : List ListingRecord) → is_own (lookup (tree_from rs) p) ≡ false
    go [] = refl
    go (r ∷ rs) = first (same r.path p) (node_of r) (lookup (tree_from rs) p) (by_type (eqb r.type 1) (eqb r.type 2) r.mtime r.size r.path) (go rs)

-- a file that the listing has needs its size
pub listed_size : (o : Option Node) (f : Found) (m z : ℕ) → f ≡ found.File m z → Some f ≡ found_of o → is_own o ≡ false → z ≡ needed o
listed_size none f m z e h k = absurd (bot (cc))
listed_size (some (dir n)) f m z e h k = absurd (bot (cc))
listed_size (some (file n y (held c))) f m z e h k = absurd (bot (cc))
listed_size (some (file n y (listed q))) f m z e h k = cc
listed_size (some link) f m z e h k = absurd (bot (cc))

-- n bytes are lent, and k were found to be needed of what o shows
module _ (o : Option Node) (n k : ℕ) (e : k ≡ needed o) (b : Bytes) (z : length b ≡ n) where
  pub count_right : n ≡ k → pass ≡ unless 17 (eqb (length b) (needed o))
  count_right h = ap (unless 17) (sym (eq-eqb (length b) (needed o) (z ∙ h ∙ e)))

  pub count_wrong : (n ≡ k → ⊥) → refuse 17 0 0 ≡ unless 17 (eqb (length b) (needed o))
  count_wrong h = ap (unless 17) (sym (ne_eqb (length b) (needed o) (λ y. h (sym z ∙ y ∙ sym e))))

-- at the root a table has no entry
pub own_shown : (l s : Bytes) (r : Record) (p : Path) → is_table s r ≡ true → own_at (shown_in l s r) p ≡ is_own (shown_in l s r p)
own_shown l s r [] h =
    let u = ascends_is [] (table_in s r) (decoded s r h).ascending in
    let e : lookup (table_in s r) [] ≡ none = lookup_low [] (table_in s r) u.0 u.1 in
    sym (ap (λ (x : Option Entry). is_own (over x (lookup (tree_in l) []))) e ∙ listed_not_own l [])
own_shown l s r (c ∷ p) h = refl

-- whether the file at p is an own one was found to be b; n bytes are to be written from the offset o on
module _ (l s : Bytes) (r : Record) (p : Path) (h : is_table s r ≡ true) (b : Bool) (e : b ≡ is_own (shown_in l s r p)) (o n : ℕ) (d : Bytes) (z : length d ≡ n) where
  is_own_lem : own_at (shown_in l s r) p ≡ b
  is_own_lem = own_shown l s r p h ∙ sym e

  abbrev within : ℕ → Check
  within k = unless 18 (ltb (o + k) 0x1_0000_0000_0000_0000)

  pub not_own : b ≡ false → refuse 5 0 (length p) ≡ inside_checks (shown_in l s r) p o d
  not_own k = ap (λ (x : Bool). cond x pass (refuse 5 0 (length p)) then within (length d)) (sym (is_own_lem ∙ k))

  inside : b ≡ true → within n ≡ inside_checks (shown_in l s r) p o d
  inside k = ap within (sym z) ∙ ap (λ (x : Bool). cond x pass (refuse 5 0 (length p)) then within (length d)) (sym (is_own_lem ∙ k))

  pub too_far : b ≡ true → 0x1_0000_0000_0000_0000 ≤ o + n → refuse 18 0 0 ≡ inside_checks (shown_in l s r) p o d
  too_far k x = ap (unless 18) (sym (le-ltb (o + n) 0x1_0000_0000_0000_0000 x)) ∙ inside k

  pub in_range : b ≡ true → o + n < 0x1_0000_0000_0000_0000 → pass ≡ inside_checks (shown_in l s r) p o d
  in_range k x = ap (unless 18) (sym (lt-ltb (o + n) 0x1_0000_0000_0000_0000 x)) ∙ inside k
