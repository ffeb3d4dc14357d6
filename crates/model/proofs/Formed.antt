-- The form of a table's entries and of a listing's nodes, by what is found at a path: keys are paths and no root, bodies are in form,
-- mtimes are 64-bit numbers. It is the same as the tests over the list; every listing has it, and each accepted call keeps it.
-- Assumes that a listing's bytes are bytes, and that a call's mtime is a 64-bit number.
use mathlib.Core.Path.{◌≡◌, refl, ap, sym, subst, ◌∙◌}
use mathlib.Core.List.{List, [], ◌∷◌, ◌++◌}
use mathlib.Core.Bool.{Bool, true, false, cond}
use mathlib.Core.Logic.{◌⊎◌, inl, inr}
use mathlib.Core.Option.{Option, none, some}
use Prim.Native.Nat.{ℕ, zero, suc, ◌+◌, ◌^◌, ◌<◌}
use native.Mathlib.Nat.{pow-succ'}
use native.Mathlib.Omega.{arith}
use lib.Dec.{ltb, eqb}
use lib.ListN.{length, take, drop}
use borrow.Author.Tests.{lt-ltb}
use Rattle.model.specs.Bytes.{Bytes, every, number, same}
use Rattle.model.specs.Path.{Path, short, is_path, ancestors, below, rest}
use Rattle.model.specs.Map.{Map, by_rest, lookup, ascends, put, puts, only, each, keys, rekey, mapped}
use Rattle.model.specs.Tree.{Body, listed, Node, dir, file, link, Entry, own, directory, deleted, Table, Tree, View, shown}
use Rattle.model.specs.Tree.{Kind, nothing, a_directory, a_file, a_link, kind, is_nothing, is_directory}
use Rattle.model.specs.Listing.{ListingRecord, record_at, record_end, record_count, records_from, records, ruled, node_of}
use Rattle.model.specs.Listing.{tree_from, tree_in, formed_record, is_listing}
use Rattle.model.specs.Table.{formed_body, formed_entry}
use Rattle.model.specs.Checks.{pass, form, write_checks, missing, makes, unlink_checks, not_root, rmdir_checks}
use Rattle.model.specs.Checks.{limited, charged}
use Rattle.model.specs.Rename.{as_entry, uncovered, along, carried, moved}
use Rattle.model.specs.Content.{content_of, appended, spliced}
use Rattle.model.specs.Calls.{Call, write, append, write_inside, mkdir, unlink, rmdir, rename, changed, forms, rules}
use Rattle.model.proofs.Orders.{bot, yea, nay, test, and_true, has_none, is_some, opt, eqb_eq, same_refl, Split, split}
use Rattle.model.proofs.Listings.{parts, checked}
use Rattle.model.proofs.Orders.{Lt, mem, mem_ancestors, rest_is}
use Rattle.model.proofs.Maps.{Above, Ascending, lookup_low, ascends_is, is_ascends, ascending_put, ascending_puts}
use Rattle.model.proofs.Maps.{or_else, map_o, lookup_put, lookup_puts, lookup_each, lookup_keys, lookup_mapped, lookup_only, lookup_rekey}
use Rattle.model.proofs.Invariant.{Closed, then_pass, unless_pass, form_is}
use Rattle.model.proofs.Contents.{own_file, append_passed, inside_passed}
use Rattle.model.proofs.Moves.{Held}
use Rattle.model.proofs.Passed.{RenamePassed, two_elsewhere, rename_passed}
use Rattle.model.specs.Runs.{Word, WordedCall}
use Rattle.model.proofs.Words.{Worded, Words, IsBytes}
use Rattle.model.proofs.Texts.{path_ancestor, path_moved}
use Rattle.model.proofs.Small.{root_refused}

-- an entry e at the key k
pub record Fine (k : Path) (e : Entry) : Type 0 where
  pub key : is_path k ≡ true
  pub proper : k ≡ [] → ⊥
  pub body : formed_body e ≡ true
  pub word : Worded e

pub record FineTable (t : Table) : Type 0 where
  pub sorted : Ascending t
  pub fine : (k : Path) (e : Entry) → lookup t k ≡ some e → Fine k e

pub fine_empty : FineTable []
fine_empty = record { sorted = tt; fine = λ k e h. absurd (bot (cc)) }

-- from the lookups to the tests over the list, and back
fine_head : (x : Path × Entry) (xs : Table) → FineTable (x ∷ xs) → Fine x.0 x.1
fine_head x xs f = f.fine x.0 x.1 (cc (same_refl x.0))

fine_tail : (x : Path × Entry) (xs : Table) → FineTable (x ∷ xs) → FineTable xs
fine_tail x xs f = record {
  sorted = f.sorted.1;
  fine = λ k e h. f.fine k e (elim (split x.0 k) [
    | Split.eq a w ↦ cc (lookup_low x.0 xs f.sorted.0 f.sorted.1)
    | Split.ne a w ↦ cc
  ]);
}

above_root : (t : Table) → FineTable t → Above [] t
above_root [] f = tt
above_root (x ∷ xs) f = proper_above x.0 (fine_head x xs f).proper
  where
    proper_above : (k : Path) → (k ≡ [] → ⊥) → Lt [] k
    proper_above [] n = n refl
    proper_above (c ∷ k) n = tt

formed_all : (t : Table) → FineTable t → (every formed_entry t ≡ true) × Words t
formed_all [] f = (refl, tt)
formed_all (x ∷ xs) f =
    let h = fine_head x xs f in
    let ih = formed_all xs (fine_tail x xs f) in
    (cc (h.key, h.body, ih.0), (h.word, ih.1))

pub fine_is : (t : Table) → FineTable t → (ascends [] t ≡ true) × (every formed_entry t ≡ true) × Words t
fine_is t f = let h = formed_all t f in (is_ascends [] t (above_root t f) f.sorted, h.0, h.1)

-- what a test over a map, its keys or its entries says of what is found
-- what a lookup found: at the first path, or behind it
module _ {A : Type 0} (x v : A) (b : Bool) (o : Option A) where
  found_here : b ≡ true → cond b (some x) o ≡ some v → x ≡ v
  found_here w h = cc

  found_later : b ≡ false → cond b (some x) o ≡ some v → o ≡ some v
  found_later w h = sym (ap (λ (c : Bool). cond c (some x) o) w) ∙ h

every_found : {A : Type 0} (f : Path × A → Bool) (m : Map A) (k : Path) (v : A) → every f m ≡ true → lookup m k ≡ some v → f (k, v) ≡ true
every_found f [] k v h g = cc
every_found f (x ∷ xs) k v h g =
    let e = and_true (f x) (every f xs) h in
    elim (split x.0 k) [
      | Split.eq a w ↦ let b = found_here x.1 v (same x.0 k) (lookup xs k) w g in ap f (λ i. (sym a i, sym b i)) ∙ e.0
      | Split.ne a w ↦ every_found f xs k v e.1 (found_later x.1 v (same x.0 k) (lookup xs k) w g)
    ]

every_key : {A : Type 0} (f : Path → Bool) (m : Map A) (k : Path) (v : A) → every f (keys m) ≡ true → lookup m k ≡ some v → f k ≡ true
every_key f [] k v h g = cc
every_key f (x ∷ xs) k v h g =
    let e = and_true (f x.0) (every f (keys xs)) h in
    elim (split x.0 k) [
      | Split.eq a w ↦ sym (ap f a) ∙ e.0
      | Split.ne a w ↦ every_key f xs k v e.1 (found_later x.1 v (same x.0 k) (lookup xs k) w g)
    ]

word_found : (t : Table) (k : Path) (e : Entry) → Words t → lookup t k ≡ some e → Worded e
word_found [] k e w h = absurd (bot (cc))
word_found (x ∷ xs) k e w h = elim (split x.0 k) [
  | Split.eq a b ↦ subst Worded (found_here x.1 e (same x.0 k) (lookup xs k) b h) w.0
  | Split.ne a b ↦ word_found xs k e w.1 (found_later x.1 e (same x.0 k) (lookup xs k) b h)
]

pub is_fine : (t : Table) → ascends [] t ≡ true → every formed_entry t ≡ true → Words t → FineTable t
is_fine t a h w =
    let o = ascends_is [] t a in
    let r = lookup_low [] t o.0 o.1 in
    record {
      sorted = o.1;
      fine = λ k e g. let f = and_true (is_path k) (formed_body e) (every_found formed_entry t k e h g) in
          record { key = f.0; proper = λ z. bot (cc); body = f.1; word = word_found t k e w g };
    }

-- a listed node at the path k: a link as an entry is `deleted`, which is in form too
pub record FineNode (k : Path) (n : Node) : Type 0 where
  pub key : is_path k ≡ true
  pub proper : k ≡ [] → ⊥
  pub entry : Fine k (as_entry n)

pub record Listing (l : Tree) : Type 0 where
  pub held : Held l
  pub closed : Closed (lookup l)
  pub sorted : Ascending l
  pub rootless : lookup l [] ≡ none
  pub fine : (k : Path) (n : Node) → lookup l k ≡ some n → FineNode k n

-- a number is below 256 to the power of its width
pub bytes_drop : (n : ℕ) (s : Bytes) → IsBytes s → IsBytes (drop n s)
bytes_drop zero s h = h
bytes_drop (suc n) [] h = tt
bytes_drop (suc n) (b ∷ s) h = bytes_drop n s h.1

pub number_below : (n : ℕ) (s : Bytes) → IsBytes s → number (take n s) < 256 ^ n
number_below zero s h = omega arith
number_below (suc n) [] h = let ih = number_below n [] tt in let p = pow-succ' 256 n in omega arith
number_below (suc n) (b ∷ s) h =
    let ih = number_below n s h.1 in
    let w = h.0 in
    let p = pow-succ' 256 n in
    omega arith

-- what is known of a listing's record, and of all that are read from bytes
record Sound (l : Tree) (r : ListingRecord) : Type 0 where
  formed : formed_record l r ≡ true
  word : Word r.mtime

abbrev AllSound : Tree → List ListingRecord → Type 0
AllSound l [] = Unit {0}
AllSound l (r ∷ rs) = Sound l r × AllSound l rs

all_sound : (l : Tree) (s : Bytes) → IsBytes s → (n at : ℕ) → every (formed_record l) (records_from s n at) ≡ true → AllSound l (records_from s n at)
all_sound l s b zero at h = tt
all_sound l s b (suc n) at h =
    let e = and_true (formed_record l (record_at s at)) (every (formed_record l) (records_from s n (record_end s at))) h in
    (record { formed = e.0; word = number_below 8 (drop (at + 3) s) (bytes_drop (at + 3) s b) }, all_sound l s b n (record_end s at) e.1)

-- what a listing's tree has at a path comes from a record
record Source (l : Tree) (k : Path) (n : Node) : Type 0 where
  from : ListingRecord
  sound : Sound l from
  place : from.path ≡ k
  node : node_of from ≡ n

source : (l : Tree) (rs : List ListingRecord) → AllSound l rs → (k : Path) (n : Node) → lookup (tree_from rs) k ≡ some n → Source l k n
source l [] a k n h = absurd (bot (cc))
source l (r ∷ rs) a k n h = elim (split r.path k) [
  | Split.eq e w ↦ record { from = r; sound = a.0; place = e; node = found_here (node_of r) n (same r.path k) (lookup (tree_from rs) k) w h }
  | Split.ne e w ↦ source l rs a.1 k n (found_later (node_of r) n (same r.path k) (lookup (tree_from rs) k) w h)
]

-- a record's node, by its type
data NodeOf (r : ListingRecord) : Type 0 where
  of_dir : node_of r ≡ dir r.mtime → NodeOf r
  of_file : node_of r ≡ file r.mtime r.size (listed r.path) → ltb r.size 0x8000_0000_0000_0000 ≡ true → NodeOf r
  of_link : node_of r ≡ link → NodeOf r

node_of_lem : (r : ListingRecord) → ruled r ≡ true → NodeOf r
node_of_lem r h = elim (test (eqb r.type 1)) [
  | yea e ↦ of_dir (cc)
  | nay e ↦ elim (test (eqb r.type 2)) [
    | yea f ↦ let g : eqb r.type 3 ≡ false = ap (λ (n : ℕ). eqb n 3) (eqb_eq r.type 2 f) in
        of_file (cc) (elim (test (ltb r.size 0x8000_0000_0000_0000)) [ yea d ↦ d | nay d ↦ absurd (bot (cc)) ])
    | nay f ↦ of_link (cc)
  ]
]

proper_length : (p : Path) → (p ≡ [] → ⊥) → ltb 0 (length p) ≡ true
proper_length [] n = absurd (n refl)
proper_length (c ∷ p) n = lt-ltb 0 (length (c ∷ p)) (omega arith)

node_fine : (r : ListingRecord) → is_path r.path ≡ true → (r.path ≡ [] → ⊥) → ruled r ≡ true → Word r.mtime → Fine r.path (as_entry (node_of r))
node_fine r h n u w = elim (node_of_lem r u) [
  | of_dir e ↦ rw e (record { key = h; proper = n; body = refl; word = w })
  | of_file e z ↦ rw e (record { key = h; proper = n; body = cc (h, proper_length r.path n, z); word = w })
  | of_link e ↦ rw e (record { key = h; proper = n; body = refl; word = tt })
]

pub every_mem : (f : Path → Bool) (ks : List Path) (q : Path) → every f ks ≡ true → mem q ks ≡ true → f q ≡ true
every_mem f [] q h m = cc
every_mem f (k ∷ ks) q h m =
    let e = and_true (f k) (every f ks) h in
    elim (split k q) [ Split.eq a w ↦ cc e.0 | Split.ne a w ↦ every_mem f ks q e.1 (cc) ]

is_dir_lem : (k : Kind) → is_directory k ≡ true → k ≡ a_directory
is_dir_lem nothing h = cc
is_dir_lem a_directory h = refl
is_dir_lem a_file h = cc
is_dir_lem a_link h = cc

node_held : (r : ListingRecord) → ruled r ≡ true → (m z : ℕ) (d : Body) → node_of r ≡ file m z d → d ≡ listed r.path
node_held r u m z d h = elim (node_of_lem r u) [ of_dir e ↦ cc | of_file e y ↦ cc | of_link e ↦ cc ]

module _ (rs : List ListingRecord) (a : AllSound (tree_from rs) rs) (o : ascends [] (tree_from rs) ≡ true) where
  at_root : lookup (tree_from rs) [] ≡ none
  at_root = let w = ascends_is [] (tree_from rs) o in lookup_low [] (tree_from rs) w.0 w.1

  tree_held : Held (tree_from rs)
  tree_held k m z d h =
      let x = source (tree_from rs) rs a k (file m z d) h in
      let y = parts (tree_from rs) x.from x.sound.formed in
      node_held x.from y.rules_are m z d x.node ∙ ap listed x.place

  tree_closed : Closed (lookup (tree_from rs))
  tree_closed q k n u h =
      let x = source (tree_from rs) rs a k n h in
      let y = parts (tree_from rs) x.from x.sound.formed in
      let m : mem q (ancestors x.from.path) ≡ true = mem_ancestors x.from.path q ∙ ap (below q) x.place ∙ u in
      is_dir_lem (kind (lookup (tree_from rs)) q)
      (every_mem (λ p. is_directory (kind (lookup (tree_from rs)) p)) (ancestors x.from.path) q y.placed_is m)

  tree_fine : (k : Path) (n : Node) → lookup (tree_from rs) k ≡ some n → FineNode k n
  tree_fine k n h =
      let x = source (tree_from rs) rs a k n h in
      let y = parts (tree_from rs) x.from x.sound.formed in
      let r : k ≡ [] → ⊥ = λ z. bot (cc at_root) in
      let f = node_fine x.from y.path_is (λ z. r (sym x.place ∙ z)) y.rules_are x.sound.word in
      let g : Fine k (as_entry n) = rw (x.node, x.place) at f in
      record { key = g.key; proper = g.proper; entry = g }

  tree_listing : Listing (tree_from rs)
  tree_listing = record { held = tree_held; closed = tree_closed; sorted = (ascends_is [] (tree_from rs) o).1; rootless = at_root; fine = tree_fine }

pub listing_fine : (s : Bytes) → IsBytes s → is_listing s ≡ true → Listing (tree_in s)
listing_fine s b h =
    let c = checked s h in
    tree_listing (records s) (all_sound (tree_in s) s b (record_count s) 9 c.formed) c.up

-- an entry put, and many
fine_put : (t : Table) (k : Path) (e : Entry) → FineTable t → Fine k e → FineTable (put k e t)
fine_put t k e f g = record {
  sorted = ascending_put k e t f.sorted;
  fine = λ q x h. let w = lookup_put k e t q in elim (split k q) [
    | Split.eq a u ↦ let v : e ≡ x = cc in rw (a, v) at g
    | Split.ne a u ↦ f.fine q x (cc)
  ];
}

fine_puts : (xs t : Table) → FineTable t → ((k : Path) (e : Entry) → lookup xs k ≡ some e → Fine k e) → FineTable (puts xs t)
fine_puts xs t f g = record {
  sorted = ascending_puts xs t f.sorted;
  fine = λ q x h. let w = lookup_puts xs t q in elim (opt (lookup xs q)) [
    | has_none u ↦ f.fine q x (cc)
    | is_some e u ↦ g q x (cc)
  ];
}

-- the directories that mkdir makes are the path or above it, and nothing was there
missing_mem : (g : Path → Kind) (ks : List Path) (q : Path) → mem q (missing g ks) ≡ true → (mem q ks ≡ true) × (is_nothing (g q) ≡ true)
missing_mem g [] q h = (cc, cc)
missing_mem g (k ∷ ks) q h = elim (split k q) [
  | Split.eq a w ↦ elim (test (is_nothing (g k))) [ yea e ↦ (cc, cc) | nay e ↦ (cc, (missing_mem g ks q (cc)).1) ]
  | Split.ne a w ↦ let ih = missing_mem g ks q (elim (test (is_nothing (g k))) [ yea e ↦ cc | nay e ↦ cc ]) in (cc ih.0, ih.1)
]

made : (f : View) (p q : Path) → mem q (makes f p) ≡ true → (mem q (p ∷ ancestors p) ≡ true) × (is_nothing (kind f q) ≡ true)
made f p q h = elim (test (is_nothing (kind f p))) [
  | yea e ↦ missing_mem (kind f) (p ∷ ancestors p) q (cc)
  | nay e ↦ absurd (bot (cc))
]

no_root : (f : View) (q : Path) → is_nothing (kind f q) ≡ true → q ≡ [] → ⊥
no_root f [] h e = bot (cc)
no_root f (c ∷ q) h e = bot (cc)

made_path : (p q : Path) → is_path p ≡ true → mem q (p ∷ ancestors p) ≡ true → is_path q ≡ true
made_path p q h m = elim (split p q) [
  | Split.eq a w ↦ cc
  | Split.ne a w ↦ path_ancestor p q h (sym (mem_ancestors p q) ∙ cc)
]

each_found : {A : Type 0} (v : A) (ks : List Path) (q : Path) (x : A) → lookup (each v ks) q ≡ some x → (mem q ks ≡ true) × (v ≡ x)
each_found v ks q x h = let w = lookup_each v ks q in elim (test (mem q ks)) [ yea e ↦ (e, cc) | nay e ↦ (cc, cc) ]

-- neither write nor unlink passes at the root: it is a directory, and has no entry
write_proper : (f : View) (p : Path) → write_checks f p ≡ pass → p ≡ [] → ⊥
write_proper f [] h z = bot (cc)
write_proper f (c ∷ p) h z = bot (cc)

root_bare : (t : Table) → FineTable t → lookup t [] ≡ none
root_bare t f = elim (opt (lookup t [])) [ has_none e ↦ e | is_some x e ↦ absurd ((f.fine [] x e).proper refl) ]

unlink_proper : (t : Table) (l : Tree) → FineTable t → (p : Path) → unlink_checks t l p ≡ pass → p ≡ [] → ⊥
unlink_proper t l f [] h z = bot (cc (root_bare t f))
unlink_proper t l f (c ∷ p) h z = bot (cc)

mkdir_fine : (t : Table) (f : View) (p : Path) (m : ℕ) → FineTable t → Word m → is_path p ≡ true → FineTable (puts (each (directory m) (makes f p)) t)
mkdir_fine t f p m i w h = fine_puts (each (directory m) (makes f p)) t i (λ k e g.
    let u = each_found (directory m) (makes f p) k e g in
    let v = made f p k u.0 in
    let x : Fine k (directory m) = record { key = made_path p k h v.0; proper = no_root f k v.1; body = refl; word = w } in
    rw u.1 at x)

own_fine : (t : Table) (p : Path) (m : ℕ) (c : Bytes) → FineTable t → Word m → is_path p ≡ true → (p ≡ [] → ⊥) → FineTable (put p (own m c) t)
own_fine t p m c f w h r = fine_put t p (own m c) f (record { key = h; proper = r; body = refl; word = w })

delete_fine : (t : Table) (p : Path) → FineTable t → is_path p ≡ true → (p ≡ [] → ⊥) → FineTable (put p deleted t)
delete_fine t p f h r = fine_put t p deleted f (record { key = h; proper = r; body = refl; word = tt })

-- where what was found comes from
some_if : {A : Type 0} (b : Bool) (o : Option A) (v : A) → cond b o none ≡ some v → o ≡ some v
some_if true o v h = h
some_if false o v h = cc

some_only : {A : Type 0} (f : Path → Bool) (m : Map A) (k : Path) (v : A) → lookup (only f m) k ≡ some v → lookup m k ≡ some v
some_only f m k v h = some_if (f k) (lookup m k) v (sym (lookup_only f m k) ∙ h)

some_else : {A : Type 0} (x y : Option A) (v : A) → or_else x y ≡ some v → (x ≡ some v) ⊎ (y ≡ some v)
some_else none y v h = inr h
some_else (some a) y v h = inl h

some_mapped : {A B : Type 0} (f : A → B) (o : Option A) (v : B) → map_o f o ≡ some v → (x : A) × (o ≡ some x) × (f x ≡ v)
some_mapped f none v h = absurd (bot (cc))
some_mapped f (some x) v h = (x, refl, cc)

some_rest : {A : Type 0} (o : Option Path) (g : Path → Option A) (v : A) → by_rest o g none ≡ some v → (s : Path) × (o ≡ some s) × (g s ≡ some v)
some_rest none g v h = absurd (bot (cc))
some_rest (some s) g v h = (s, refl, h)

-- each entry that rename carries is the table's or a listed node's
module _ (t : Table) (l : Tree) (f : FineTable t) (g : Listing l) (a : Path) where
  carried_fine : (k : Path) (e : Entry) → lookup (carried t l a) k ≡ some e → Fine k e
  carried_fine k e h =
      let m = mapped as_entry (only (uncovered t a) l) in
      elim (some_else (lookup t k) (lookup m k) e (sym (lookup_puts t m k) ∙ some_only (along (kind (shown t l) a) a) (puts t m) k e h)) [
        | inl z ↦ f.fine k e z
        | inr z ↦ let x = some_mapped as_entry (lookup (only (uncovered t a) l) k) e (sym (lookup_mapped as_entry (only (uncovered t a) l) k) ∙ z) in
            subst (Fine k) x.2 (g.fine k x.0 (some_only (uncovered t a) l k x.0 x.1)).entry
      ]

  gone_fine : (k : Path) (e : Entry) → lookup (each deleted (keys (carried t l a))) k ≡ some e → Fine k e
  gone_fine k e h =
      let x = some_mapped (λ (y : Entry). deleted) (lookup (carried t l a) k) e (sym (lookup_keys deleted (carried t l a) k) ∙ h) in
      let c = carried_fine k x.0 x.1 in
      subst (Fine k) x.2 (record { key = c.key; proper = c.proper; body = refl; word = tt })

  module _ (b : Path) (ha : is_path a ≡ true) (hb : is_path b ≡ true) (na : a ≡ [] → ⊥) (nb : b ≡ [] → ⊥)
      (fit : every short (keys (rekey a b (carried t l a))) ≡ true) where
    moved_fine : (k : Path) (e : Entry) → lookup (rekey a b (carried t l a)) k ≡ some e → Fine k e
    moved_fine k e h =
        let u = some_rest (rest b k) (λ s. lookup (carried t l a) (a ++ s)) e (sym (lookup_rekey a b (carried t l a) k) ∙ h) in
        let i = rest_is b k u.0 u.1 in
        let c = carried_fine (a ++ u.0) e u.2 in
        let v = every_key short (rekey a b (carried t l a)) k e fit h in
        let p : is_path k ≡ true = ap is_path i.0 ∙ path_moved a b u.0 c.key i.1 ha hb nb na (sym (ap short i.0) ∙ v) in
        record { key = p; proper = λ z. nb (front b u.0 (sym i.0 ∙ z)); body = c.body; word = c.word }
      where
        front : (x y : Path) → x ++ y ≡ [] → x ≡ []
        front [] y z = refl
        front (c ∷ x) y z = cc

    rename_fine : FineTable (moved t l a b)
    rename_fine =
        let c = carried t l a in
        fine_puts (rekey a b c) (puts (each deleted (keys c)) t) (fine_puts (each deleted (keys c)) t f gone_fine) moved_fine

-- a move needs of rename's checks: no root, and short keys
module _ (E limit : ℕ) (t : Table) (l : Tree) (a b : Path) (f : FineTable t) (g : Listing l) where
  renamed_fine : is_path a ≡ true → is_path b ≡ true → RenamePassed (limited E limit) t l a b → FineTable (changed t l (rename a b))
  renamed_fine ha hb (RenamePassed.itself e p) = rw e f
  renamed_fine ha hb (RenamePassed.elsewhere p) = rw (two_elsewhere (shown t l) a b p.two)
      (rename_fine t l f g a b ha hb (root_refused 0 a p.paths.source_not_root) (root_refused 1 b p.paths.destination_not_root)
      (unless_pass 12 (every short (keys (rekey a b (carried t l a)))) p.memory.keys_fit_lem))

-- an accepted call keeps the form; rename's new keys are short by 12, which is asked only where memory is limited
pub changed_fine : (t : Table) (l : Tree) (c : Call) (E limit : ℕ) → FineTable t → Listing l → WordedCall c
    → forms c ≡ pass → rules (limited E limit) t l c ≡ pass → FineTable (changed t l c)
changed_fine t l (write p m c) E limit f g w h r =
    let u = then_pass (write_checks (shown t l) p) (charged (limited E limit) (put p (own m c) t)) r in
    own_fine t p m c f w (form_is 0 p h) (write_proper (shown t l) p u.0)
changed_fine t l (append p m d b) E limit f g w h r =
    let u = append_passed (limited E limit) t l p m d b r in
    own_fine t p m (appended (shown t l p) d b) f w (form_is 0 p h) (write_proper (shown t l) p u.writes)
changed_fine t l (write_inside p m o d) E limit f g w h r =
    let u = inside_passed (limited E limit) t l p m o d r in
    own_fine t p m (spliced o d (content_of (shown t l p) [])) f w (form_is 0 p h) (own_file (shown t l) p u.own).proper
changed_fine t l (mkdir p up ok m) E limit f g w h r = mkdir_fine t (shown t l) p m f w (form_is 0 p h)
changed_fine t l (unlink p) E limit f g w h r =
    let u = then_pass (unlink_checks t l p) (charged (limited E limit) (put p deleted t)) r in
    delete_fine t p f (form_is 0 p h) (unlink_proper t l f p u.0)
changed_fine t l (rmdir p) E limit f g w h r =
    let u = then_pass (rmdir_checks t l p) (charged (limited E limit) (put p deleted t)) r in
    delete_fine t p f (form_is 0 p h) (root_refused 0 p (then_pass (not_root 0 p) _ u.0).0)
changed_fine t l (rename a b) E limit f g w h r =
    let u = then_pass (form 0 a) (form 1 b) h in
    renamed_fine E limit t l a b f g (form_is 0 a u.0) (form_is 1 b u.1) (rename_passed (limited E limit) t l a b r)
