-- Showing a directory, on bytes: what an accepted showing wrote, what a path that is there is answered, and that a
-- refusal has one of seven shapes and leaves the output as it was. Assumes nothing of the bytes beyond what is stated.
use mathlib.Core.Path.{◌≡◌, refl, ap, sym, ◌∙◌, subst}
use mathlib.Core.Bool.{Bool, true, false, cond, ◌&&◌, ◌||◌}
use mathlib.Core.List.{List, [], ◌∷◌}
use mathlib.Core.Option.{some}
use Prim.Native.Nat.{ℕ, ◌≤◌}
use lib.Dec.{leb}
use lib.ListN.{length}
use borrow.Author.Tests.{le-leb}
use Rattle.model.specs.Bytes.{Bytes, every, some?}
use Rattle.model.specs.Path.{Path, is_path, ancestors}
use Rattle.model.specs.Map.{is_none, lookup}
use Rattle.model.specs.Tree.{Node, Entry, Table, Tree, shown, Kind, nothing, a_directory, a_file, a_link, kind}
use Rattle.model.specs.Tree.{is_directory}
use Rattle.model.specs.Listing.{ListingRecord, records, tree_from, tree_in}
use Rattle.model.specs.Listing.{formed_record, is_listing}
use Rattle.model.specs.Table.{formed_body, formed_entry, table_in, is_table}
use Rattle.model.specs.Checks.{Check, pass, refuse, ◌then◌, unless, form, directory_at}
use Rattle.model.specs.Answer.{accepted, refused}
use Rattle.model.specs.Outcome.{Given, shown_in}
use Rattle.model.specs.Output.{written_by}
use Rattle.model.specs.Plain.{visible_tree}
use Rattle.model.specs.declared.Record.{Record}
use Rattle.model.proofs.Orders.{bot, yea, nay, test, and_true, Split, split, has_none, is_some, opt}
use Rattle.model.proofs.Maps.{ascends_is}
use Rattle.model.proofs.Codec.{decoded}
use Rattle.model.proofs.Invariant.{then_pass, unless_pass, form_is}
use Rattle.model.proofs.Listings.{parts, checked}
use Rattle.model.proofs.Small.{is_directory_lem}
use Rattle.model.proofs.Outputs.{writing_accepted, writing_refused}
use Rattle.model.proofs.Resumed.{visible_is, visible_sorted}
use Rattle.show_names.specs.Names.{is_link, names, name_bytes, link_on_way, show_checks, child_names, may_show, showing}
use Rattle.show_names.specs.Shows.{Shows}
use Rattle.show_names.proofs.Children.{names_rising, names_exactly, names_fit, names_fit_lem, bytes_tell}

-- what a table in form has an entry at is a path
entry_path : (t : Table) (k : Path) (e : Entry) → every formed_entry t ≡ true → lookup t k ≡ some e → is_path k ≡ true
entry_path [] k e f h = absurd (bot (cc))
entry_path (x ∷ xs) k e f h =
    let u = and_true (formed_entry x) (every formed_entry xs) f in
    elim (split x.0 k) [
      | Split.eq a w ↦ ap is_path (sym a) ∙ (and_true (is_path x.0) (formed_body x.1) u.0).0
      | Split.ne a w ↦ entry_path xs k e u.1 (cc)
    ]

-- what a listing lists is a path, and its proper ancestors are listed as directories
abbrev InDirectories : Tree → Path → Type 0
InDirectories l k = (is_path k ≡ true) × (every (λ q. is_directory (kind (lookup l) q)) (ancestors k) ≡ true)

listed_in_lem : (l : Tree) (rs : List ListingRecord) (k : Path) (n : Node) → every (formed_record l) rs ≡ true
    → lookup (tree_from rs) k ≡ some n → InDirectories l k
listed_in_lem l [] k n f h = absurd (bot (cc))
listed_in_lem l (r ∷ rs) k n f h =
    let u = and_true (formed_record l r) (every (formed_record l) rs) f in
    let v = parts l r u.0 in
    elim (split r.path k) [
      | Split.eq a w ↦ subst (InDirectories l) a (v.path_is, v.placed_is)
      | Split.ne a w ↦ listed_in_lem l rs k n u.1 (cc)
    ]

listing_in_lem : (s : Bytes) → is_listing s ≡ true → (k : Path) (n : Node) → lookup (tree_in s) k ≡ some n
    → InDirectories (tree_in s) k
listing_in_lem s h k n g = listed_in_lem (tree_in s) (records s) k n (checked s h).formed g

-- among directories is no link
none_link : (g : Path → Kind) (ks : List Path) → every (λ q. is_directory (g q)) ks ≡ true
    → some? (λ q. is_link (g q)) ks ≡ false
none_link g [] h = refl
none_link g (k ∷ ks) h =
    let u = and_true (is_directory (g k)) (every (λ q. is_directory (g q)) ks) h in
    go (g k) u.0 (none_link g ks u.1)
  where
    go : (x : Kind) → is_directory x ≡ true → some? (λ q. is_link (g q)) ks ≡ false
        → (is_link x || some? (λ q. is_link (g q)) ks) ≡ false
    go nothing d i = absurd (bot (cc))
    go a_directory d i = i
    go a_file d i = absurd (bot (cc))
    go a_link d i = absurd (bot (cc))

-- what a path that is there is answered, by what is shown at it
pub record ShownWhere (t : Table) (l : Tree) (p : Path) : Type 0 where
  pub directory : kind (shown t l) p ≡ a_directory → show_checks t l p ≡ pass
  pub file : kind (shown t l) p ≡ a_file → show_checks t l p ≡ refuse 7 0 (length p)
  pub link : kind (shown t l) p ≡ a_link → show_checks t l p ≡ refuse 4 0 (length p)

module _ (listing table : Bytes) (rec : Record) (given : Given listing table rec) where
  -- what is visible stands at paths in form
  pub visible_formed : (k : Path) (v : Node) → lookup (visible_tree (table_in table rec) (tree_in listing)) k ≡ some v
      → is_path k ≡ true
  visible_formed k v h =
      let t = table_in table rec in
      let l = tree_in listing in
      let g = visible_is t l k in
      elim (opt (lookup t k)) [
        | is_some e w ↦ entry_path t k e (decoded table rec given.table_is).formed w
        | has_none w ↦ (listing_in_lem listing given.listing_is k v (cc)).0
      ]

  -- every name that is shown has a length of 16 bits
  pub shown_fit : (p : Path) → names_fit (names p (visible_tree (table_in table rec) (tree_in listing))) ≡ true
  shown_fit p =
      let t = table_in table rec in
      let l = tree_in listing in
      let al = (checked listing given.listing_is).up in
      names_fit_lem p (visible_tree t l) (visible_sorted t l (ascends_is [] l al).1) visible_formed

  -- so no other names, with lengths of 16 bits, have the bytes that are shown
  pub shown_tell : (p : Path) (ns : List Bytes) → names_fit ns ≡ true → name_bytes ns ≡ child_names listing table rec p
      → ns ≡ names p (visible_tree (table_in table rec) (tree_in listing))
  shown_tell p ns f h = bytes_tell ns (names p (visible_tree (table_in table rec) (tree_in listing))) f (shown_fit p) h

  -- a path without an entry that is listed has listed directories alone as ancestors
  no_link : (p : Path) → (kind (shown_in listing table rec) p ≡ nothing → ⊥)
      → (is_none (lookup (table_in table rec) p) && link_on_way (tree_in listing) p) ≡ false
  no_link [] h = elim (test (is_none (lookup (table_in table rec) []))) [ yea e ↦ cc | nay e ↦ cc ]
  no_link (c ∷ p) h = elim (opt (lookup (table_in table rec) (c ∷ p))) [
    | is_some e w ↦ cc
    | has_none w ↦ elim (opt (lookup (tree_in listing) (c ∷ p))) [
      | has_none u ↦ absurd (h (cc))
      | is_some n u ↦
          let d = listing_in_lem listing given.listing_is (c ∷ p) n u in
          cc (none_link (kind (lookup (tree_in listing))) (ancestors (c ∷ p)) d.1)
    ]
  ]

  -- on every table and listing in form: a file is 7, a link 4, and a directory passes
  pub shown_where : (p : Path) → ShownWhere (table_in table rec) (tree_in listing) p
  shown_where p =
      let way : Bool = is_none (lookup (table_in table rec) p) && link_on_way (tree_in listing) p in
      record {
        directory = λ h. let e = no_link p (λ z. bot (cc)) in cc;
        file = λ h. let e = no_link p (λ z. bot (cc)) in cc;
        link = λ h. elim (test way) [ yea e ↦ cc | nay e ↦ cc ];
      }

  -- so a directory is shown where the output is long enough
  pub directory_accepted : (p : Path) (output : Bytes) → is_path p ≡ true
      → kind (shown_in listing table rec) p ≡ a_directory
      → length (child_names listing table rec p) ≤ length output
      → (showing listing table rec p output).reply ≡ accepted (length (child_names listing table rec p))
  directory_accepted p output f d h =
      let content : Bytes = child_names listing table rec p in
      ap (λ (c : Check). (written_by c content output).reply) (all_pass (is_table table rec) (is_listing listing) (is_path p)
      (leb (length content) (length output)) (show_checks (table_in table rec) (tree_in listing) p) given.table_is
      given.listing_is f ((shown_where p).directory d) (le-leb (length content) (length output) h))
    where
      all_pass : (a b d z : Bool) (c : Check) → a ≡ true → b ≡ true → d ≡ true → c ≡ pass → z ≡ true
          → (unless 1 a then unless 2 b then cond d pass (refuse 3 0 0) then c then unless 13 z) ≡ pass
      all_pass a b d z c u v w x y = rw (u, v, w, x, y)

-- what a showing may be refused with: number, path and length; its path is path 0
pub data ShapedShowing (p : Path) : (number path len : ℕ) → Type 0 where
  bad_table : ShapedShowing p 1 0 0
  bad_listing : ShapedShowing p 2 0 0
  bad_path : ShapedShowing p 3 0 0
  link_met : ShapedShowing p 4 0 (length p)
  not_found : ShapedShowing p 5 0 (length p)
  not_a_directory : ShapedShowing p 7 0 (length p)
  no_room : ShapedShowing p 13 0 0

pub record RefusedShowing (listing table : Bytes) (rec : Record) (p : Path) (output : Bytes) (n v w : ℕ) : Type 0 where
  pub shaped : ShapedShowing p n v w
  pub untouched : (showing listing table rec p output).output ≡ output

module _ (p : Path) where
  abbrev OfCheck : Check → Type 0
  OfCheck pass = Unit {0}
  OfCheck (refuse n v w) = ShapedShowing p n v w

  -- the checks in their order, by what each finds
  shapes : (a b d x z : Bool) (k : Kind)
      → OfCheck (unless 1 a then unless 2 b then cond d pass (refuse 3 0 0)
      then (cond x (refuse 4 0 (length p)) pass then directory_at (length p) k) then unless 13 z)
  shapes false b d x z k = bad_table
  shapes true false d x z k = bad_listing
  shapes true true false x z k = bad_path
  shapes true true true true z k = link_met
  shapes true true true false z nothing = not_found
  shapes true true true false true a_directory = tt
  shapes true true true false false a_directory = no_room
  shapes true true true false z a_file = not_a_directory
  shapes true true true false z a_link = link_met

-- every refusal, on every input
pub refused_showing : (listing table : Bytes) (rec : Record) (p : Path) (output : Bytes) (n v w : ℕ)
    → (showing listing table rec p output).reply ≡ refused n v w → RefusedShowing listing table rec p output n v w
refused_showing listing table rec p output n v w h =
    let t = table_in table rec in
    let l = tree_in listing in
    let content : Bytes = child_names listing table rec p in
    let e = writing_refused (may_show listing table rec p output) content output n v w h in
    record {
      shaped = subst (OfCheck p) e.0 (shapes p (is_table table rec) (is_listing listing) (is_path p)
          (is_none (lookup t p) && link_on_way l p) (leb (length content) (length output)) (kind (shown t l) p));
      untouched = e.1;
    }

-- an accepted showing wrote the names of what is visible in the directory
pub accepted_shows : (listing table : Bytes) (rec : Record) (p : Path) (output : Bytes) (v : ℕ)
    → (showing listing table rec p output).reply ≡ accepted v → Shows listing table rec p output v
accepted_shows listing table rec p output v h =
    let t = table_in table rec in
    let l = tree_in listing in
    let content : Bytes = child_names listing table rec p in
    let e = writing_accepted (may_show listing table rec p output) content output v h in
    let a = then_pass (unless 1 (is_table table rec)) _ e.0 in
    let b = then_pass (unless 2 (is_listing listing)) _ a.1 in
    let c = then_pass (form 0 p) _ b.1 in
    let d = then_pass (show_checks t l p) _ c.1 in
    let f = then_pass (cond (is_none (lookup t p) && link_on_way l p) (refuse 4 0 (length p)) pass) _ d.0 in
    let given : Given listing table rec = record {
      listing_is = unless_pass 2 (is_listing listing) b.0;
      table_is = unless_pass 1 (is_table table rec) a.0;
    } in
    let at = (decoded table rec given.table_is).ascending in
    let al = (checked listing given.listing_is).up in
    let formed = visible_formed listing table rec given in
    record {
      directory = is_directory_lem (length p) (kind (shown t l) p) f.1;
      names = names p (visible_tree t l);
      written = ap (λ (x : Check). (written_by x content output).output) e.0;
      size = e.1;
      in_order = names_rising t l at al formed p (form_is 0 p c.0);
      exactly = names_exactly t l at al formed p (form_is 0 p c.0);
    }
