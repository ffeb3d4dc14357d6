-- The walk down a path's ancestors in a listing, from the top: at each turn the next is looked up, and whether a link is to come decides as for all of them.
use mathlib.Core.Path.{◌≡◌, refl, sym, ap, ◌∙◌}
use mathlib.Core.Bool.{Bool, true, false, not, ◌||◌, or-false}
use mathlib.Core.List.{List, [], ◌∷◌, map}
use Prim.Native.Nat.{ℕ, suc, ◌+◌, ◌<◌, ◌≤◌}
use native.Mathlib.Omega.{arith}
use lib.Dec.{eqb}
use lib.ListN.{length, take, drop, length-drop}
use Rattle.model.specs.Bytes.{Bytes, some?}
use Rattle.model.specs.Path.{Path, is_path, ends_here}
use Rattle.model.specs.Map.{lookup}
use Rattle.model.specs.Tree.{Kind, nothing, a_directory, a_file, a_link, kind, kind_of, is_directory}
use Rattle.model.specs.Listing.{tree_in}
use Rattle.model.proofs.Orders.{yea, nay, test, bot}
use Rattle.base_paths.specs.Ancestors.{slashes_in, next_slash, ancestors_from}
use Rattle.base_paths.proofs.Ancestors.{begin, turn, done, next_slash_lem}
use Rattle.listing_records.specs.Walk.{Walks}
use Rattle.listing_records.specs.declared.ComponentWalk.{ComponentWalk}
use Rattle.listing_records.proofs.Steps.{ends_next, kind_front, walks_on}
use Rattle.check_parents.proofs.Parents.{proper}
use Rattle.show_names.specs.Names.{is_link, link_on_way}

-- at a turn of the loop k is the end of an ancestor, or the path's, and the walk w is good from there on
pub record Down (s : Bytes) (p : Path) (w : ComponentWalk) (k : ℕ) : Type 0 where
  pub path : is_path p ≡ true
  pub slash : k ≡ next_slash p k
  pub within : k ≤ length p
  pub walks : Walks s p w k

module _ (s : Bytes) (p : Path) where
  pub down_first : (w : ComponentWalk) (k : ℕ) → is_path p ≡ true → ((q : Path) → Walks s q w 0) → k ≡ next_slash p 0 → k ≤ length p → Down s p w k
  down_first w k h v e b = record {
    path = h;
    slash = (begin p k e).0;
    within = b;
    walks = walks_on s p w 0 k (omega arith) (v p);
  }

  module _ (w : ComponentWalk) (k : ℕ) (a : Down s p w k) (h : k < length p) where
    pub down_step : (0 < k) × (k ≤ length p) × (ends_here (drop k p) ≡ true)
    down_step = (proper p k a.path a.slash h, a.within, ends_next p k k a.slash)

    pub down_next : (v : ComponentWalk) (j : ℕ) → Walks s p v (k + 1) → j ≡ next_slash p (k + 1) → k + 1 ≤ j → j ≤ length p → Down s p v j
    down_next v j g e u b = record {
      path = a.path;
      slash = (turn p k j a.slash h e).0;
      within = b;
      walks = walks_on s p v (k + 1) j u g;
    }

-- no ancestor passes a test that no prefix of i or more bytes passes
none_passes : (f : Path → Bool) (p : Path) (s : Bytes) (i : ℕ) → i + length s ≤ length p
    → ((j : ℕ) → i ≤ j → j ≤ length p → f (take j p) ≡ false) → some? f (map (λ (k : ℕ). take k p) (slashes_in i s)) ≡ false
none_passes f p [] i h n = refl
none_passes f p (b ∷ s) i h n =
    let ih = none_passes f p s (suc i) (omega arith) (λ j u v. n j (omega arith) v) in
    let o = n i (omega arith) (omega arith) in
    elim (test (eqb b 47)) [ yea e ↦ rw (e, o, ih) | nay e ↦ rw (e, ih) ]

none_from : (f : Path → Bool) (p : Path) (i : ℕ) → i ≤ length p → ((j : ℕ) → i ≤ j → j ≤ length p → f (take j p) ≡ false)
    → some? f (ancestors_from p i) ≡ false
none_from f p i h n = none_passes f p (drop i p) i (omega (arith, length-drop i p)) n

directory_no_link : (x : Kind) → is_directory x ≡ true → is_link x ≡ false
directory_no_link nothing h = absurd (bot (cc))
directory_no_link a_directory h = refl
directory_no_link a_file h = absurd (bot (cc))
directory_no_link a_link h = absurd (bot (cc))

-- whether an ancestor is a link, from k on
module _ (s : Bytes) (p : Path) where
  abbrev link_at : Path → Bool
  link_at q = is_link (kind (lookup (tree_in s)) q)

  abbrev pub link_from : ℕ → Bool
  link_from k = some? link_at (ancestors_from p k)

  pub link_first_lem : (k : ℕ) → k ≡ next_slash p 0 → link_from k ≡ link_on_way (tree_in s) p
  link_first_lem k e = ap (some? link_at) (sym (begin p k e).1)

  pub link_last_lem : (k : ℕ) → length p ≤ k → link_from k ≡ link_on_way (tree_in s) p → false ≡ link_on_way (tree_in s) p
  link_last_lem k h e = sym (ap (some? link_at) (done p k h)) ∙ e

  module _ (k : ℕ) (x : Kind) (a : k ≡ next_slash p k) (h : k < length p) (e : link_from k ≡ link_on_way (tree_in s) p)
      (y : x ≡ kind (lookup (tree_in s)) (take k p)) where
    here : (qs : List Path) → ancestors_from p k ≡ take k p ∷ qs → (is_link x || some? link_at qs) ≡ link_on_way (tree_in s) p
    here qs u = ap (λ (z : Kind). is_link z || some? link_at qs) y ∙ sym (ap (some? link_at) u) ∙ e

    pub link_next : (j : ℕ) → j ≡ next_slash p (k + 1) → is_directory x ≡ true → link_from j ≡ link_on_way (tree_in s) p
    link_next j u d =
        sym (ap (λ (b : Bool). b || link_from j) (directory_no_link x d)) ∙ here (ancestors_from p j) (turn p k j a h u).1

    -- behind what is no directory the walk w finds nothing
    pub link_stop : (w : ComponentWalk) (r : Bool) → is_directory x ≡ false → w.exhausted ≡ not (is_directory x) → Walks s p w (k + 1)
        → r ≡ is_link x → r ≡ link_on_way (tree_in s) p
    link_stop w r d v g u =
        let gone : (i : ℕ) → k + 1 ≤ i → i ≤ length p → link_at (take i p) ≡ false = λ i m l.
        ap is_link (kind_front (lookup (tree_in s)) p i (omega arith) l ∙ ap kind_of (g.gone (v ∙ ap not d) i m l)) in
        let rest = ap (λ (b : Bool). is_link x || b) (none_from link_at p (k + 1) (omega arith) gone) ∙ or-false (is_link x) in
        u ∙ sym rest ∙ here (ancestors_from p (k + 1)) (ap (map (λ (i : ℕ). take i p)) (next_slash_lem p k k a h).1)
