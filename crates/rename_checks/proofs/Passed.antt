-- What is known once rename's checks before its plan passed, of a move to another path: neither path is the root, the source shows a directory or a file,
-- and nothing is at or below both paths.
use mathlib.Core.Path.{◌≡◌, ap, sym, ◌∙◌}
use mathlib.Core.Logic.{inl, inr}
use mathlib.Core.List.{[], ◌∷◌}
use mathlib.Core.Bool.{Bool, true, false, cond}
use mathlib.Core.Option.{none, some}
use Prim.Native.Nat.{ℕ}
use lib.ListN.{length}
use Rattle.model.specs.Path.{Path, below, rest}
use Rattle.model.specs.Tree.{Node, Table, Tree, shown, Kind, a_directory, a_file, kind, is_nothing, is_directory}
use Rattle.model.specs.Checks.{pass, refuse, parent_checks, not_root, no_visible_child}
use Rattle.model.specs.Rename.{not_link, no_clash, present, if_directory}
use Rattle.model.proofs.Orders.{Lt, bot, has_none, is_some, opt, inside_both}
use Rattle.model.proofs.Invariant.{kind_is, nothing_is, directory_is, file_is, link_is, kind_at, parents_dirs}
use Rattle.model.proofs.Rules.{child_root, way}
use Rattle.model.proofs.Passed.{PathsPassed, TypesPassed, paths_passed, types_passed}
use Rattle.model.proofs.Small.{childless}
use Rattle.rename_laws.proofs.Moves.{Parted}
use Rattle.rename_checks.specs.Early.{EarlyPassed}

not_root_lem : (w : ℕ) (p : Path) → not_root w p ≡ pass → Lt [] p
not_root_lem w [] h = absurd (bot (cc))
not_root_lem w (c ∷ p) h = tt

-- neither a link nor nothing
regular : (n : ℕ) (k : Kind) → not_link 0 n k ≡ pass → present n k ≡ pass → k ≡ cond (is_directory k) a_directory a_file
regular n k h g = elim (kind_is k) [
  | nothing_is e ↦ absurd (bot (cc))
  | directory_is e ↦ cc
  | file_is e ↦ cc
  | link_is e ↦ absurd (bot (cc))
]

module _ (t : Table) (l : Tree) (a b : Path) (h : EarlyPassed t l a b) where
  paths : PathsPassed t l a b
  paths = paths_passed t l a b h.paths

  types : TypesPassed t l a b
  types = types_passed t l a b h.types

  pub no_roots : Lt [] a × Lt [] b
  no_roots = (not_root_lem 0 a paths.source_not_root, not_root_lem 1 b paths.destination_not_root)

  -- w is whether the source is a directory; else it is a file
  pub kind_whole : (k : Kind) → k ≡ kind (shown t l) a → (w : Bool) → w ≡ is_directory k → kind (shown t l) a ≡ cond w a_directory a_file
  kind_whole k e w d =
      regular (length a) (kind (shown t l) a) paths.source_no_link types.source_present
      ∙ ap (λ (x : Bool). cond x a_directory a_file) (sym (d ∙ ap is_directory e))

module _ (t : Table) (l : Tree) where
  -- something is shown where anything is, but for the root
  pub some_shown : (q : Path) → (q ≡ [] → ⊥) → is_nothing (kind (shown t l) q) ≡ false → (n : Node) × (shown t l q ≡ some n)
  some_shown q r k = elim (opt (shown t l q)) [
    | is_some n e ↦ (n, e)
    | has_none e ↦ absurd (bot (cc (kind_at (shown t l) q none e r)))
  ]

  -- a directory that is empty is not on the way to a directory whose parents are all there
  not_above : (a b : Path) → kind (shown t l) a ≡ a_directory → parent_checks 0 (shown t l) a ≡ pass → no_visible_child 1 t l b ≡ pass → below b a ≡ true → ⊥
  not_above a b k p e h = elim (way b a h) [
    | inl c ↦ let n = some_shown a (child_root b a c) (ap is_nothing k) in childless t l b 1 e a n.0 c n.1
    | inr z ↦
        let q = z.0 in
        let n = some_shown q (child_root b q z.1) (ap is_nothing (parents_dirs 0 (length a) (kind (shown t l)) a q p z.2)) in
        childless t l b 1 e q n.0 z.1 n.1
  ]

  -- so no destination is, where the checks on both kinds and on its children passed
  not_under : (a b : Path) → no_clash (length b) (kind (shown t l) a) (kind (shown t l) b) ≡ pass
      → if_directory (kind (shown t l) a) (if_directory (kind (shown t l) b) (no_visible_child 1 t l b)) ≡ pass → parent_checks 0 (shown t l) a ≡ pass
      → below b a ≡ true → ⊥
  not_under a b c e p h =
      let kb = parents_dirs 0 (length a) (kind (shown t l)) a b p h in
      elim (kind_is (kind (shown t l) a)) [
        | directory_is ka ↦ not_above a b ka p (cc) h
        | nothing_is ka ↦ bot (cc)
        | file_is ka ↦ bot (cc)
        | link_is ka ↦ bot (cc)
      ]

  -- and by 10 the source is not on the way to the destination
  not_over : (a b : Path) → cond (below a b) (refuse 10 0 (length a)) pass ≡ pass → below a b ≡ true → ⊥
  not_over a b h e = bot (cc)

  -- the checks before the plan leave nothing at or below both paths
  pub apart_paths : (a b : Path) → EarlyPassed t l a b → Parted a b
  apart_paths a b h q r f =
      let p = paths t l a b h in
      let y = types t l a b h in
      elim (opt (rest b q)) [
        | has_none n ↦ n
        | is_some s n ↦ absurd (elim (inside_both a b q r s f n) [
          | inl e ↦ h.two e
          | inr (inl e) ↦ not_over a b y.not_below e
          | inr (inr e) ↦ not_under a b y.types_agree y.destination_empty p.source_parents e
        ])
      ]
