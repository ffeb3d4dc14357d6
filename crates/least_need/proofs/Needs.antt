-- What a call needs of the limit: the rules give 11 exactly where the limit is below it, and else what they give
-- without a limit. Assumes nothing: every table, every tree, every call.
use mathlib.Core.Path.{◌≡◌, refl, ap, sym, ◌∙◌, subst, subst⁻¹}
use mathlib.Core.Logic.{◌⊎◌, inl, inr}
use mathlib.Core.Bool.{Bool, true, false, cond, ◌||◌}
use mathlib.Core.Option.{none, some}
use Prim.Native.Nat.{ℕ, ◌+◌, ◌-◌, ◌*◌, ◌≤◌, ◌<◌, max}
use native.Mathlib.Omega.{arith}
use lib.Dec.{leb, ltb, leb-zero}
use lib.ListN.{length}
use borrow.Author.Tests.{leb-true, leb-false, ltb-true, le-leb, lt-leb, lt-ltb}
use Rattle.model.specs.Path.{Path}
use Rattle.model.specs.Map.{lookup, rekey}
use Rattle.model.specs.Tree.{Table, Tree, shown, Kind, nothing, a_directory, a_file, a_link, kind, is_nothing, is_directory}
use Rattle.model.specs.Table.{charge}
use Rattle.model.specs.Checks.{Check, pass, refuse, ◌then◌, unless, mkdir_at, mkdir_parents, write_checks, unlink_checks, rmdir_checks, limited, unlimited}
use Rattle.model.specs.Rename.{Walk, sum, over_budget, stopped, walk_from, walked, planned, plan, budget, moved, carried, keys_fit}
use Rattle.model.specs.Rename.{directory_memory, rename_memory, rename_paths, rename_types, rename_checks, onto_itself}
use Rattle.model.specs.Content.{is_own, appended, append_checks, inside_checks}
use Rattle.model.specs.Calls.{Call, write, append, write_inside, mkdir, unlink, rmdir, rename, changed, rules}
use Rattle.model.proofs.Orders.{bot, yea, nay, test}
use Rattle.model.proofs.Walks.{sum_of, walk_over, walk_sum, walk_stopped, walk_within}
use Rattle.check_judged.proofs.Thens.{then_assoc}
use Rattle.least_need.specs.Need.{behind, walk_need, directory_need, move_need, need, other_rules}
use Rattle.least_need.proofs.Others.{over_limit, other_rules_lem}

module _ (L : ℕ) where
  -- 11 unless n is within the limit
  abbrev within : ℕ → Check
  within n = unless 11 (leb n L)

  within_none : (z : Check) → z ≡ (within 0 then z)
  within_none z = rw (leb-zero L) refl

  then_end : (x : Check) → x ≡ (x then pass)
  then_end pass = refl
  then_end (refuse k w j) = refl

  within_last : (n : ℕ) → within n ≡ (within n then pass)
  within_last n = then_end (within n)

  -- two sums behind each other: the larger decides
  within_both : (m n : ℕ) (z : Check) → (within m then (within n then z)) ≡ (within (max m n) then z)
  within_both m n z = elim (test (leb m L)) [
    | nay a ↦ let b = leb-false m L a in let c = lt-leb (max m n) L (omega arith) in rw (a, c) refl
    | yea a ↦ elim (test (leb n L)) [
      | nay d ↦ let b = leb-false n L d in let c = lt-leb (max m n) L (omega arith) in rw (a, d, c) refl
      | yea d ↦ let b = leb-true m L a in let e = leb-true n L d in let c = le-leb (max m n) L (omega arith) in rw (a, d, c) refl
    ]
  ]

  -- a check, and behind it one with a need
  then_needs : (x : Check) (n : ℕ) (y z : Check) → y ≡ (within n then z) → (x then y) ≡ (within (behind x n) then (x then z))
  then_needs pass n y z h = h
  then_needs (refuse k w j) n y z h = within_none (refuse k w j)

  -- a check, and behind it 11
  charge_needs : (x : Check) (n : ℕ) → (x then within n) ≡ (within (behind x n) then ((x then pass) then pass))
  charge_needs pass n = within_last n
  charge_needs (refuse k w j) n = within_none (refuse k w j)

  -- append: unless the file is an own one, its whole new content beside the charge, k in all; then 11
  own_needs : (own? : Bool) (k : ℕ) → unless 11 (own? || leb k L) ≡ within (cond own? 0 k)
  own_needs true k = ap (unless 11) (sym (leb-zero L))
  own_needs false k = refl

  append_needs : (x : Check) (own? : Bool) (k n : ℕ)
      → (x then (unless 11 (own? || leb k L) then within n)) ≡ (within (behind x (max (cond own? 0 k) n)) then ((x then pass) then pass))
  append_needs x own? k n =
      let both : (unless 11 (own? || leb k L) then within n) ≡ (within (max (cond own? 0 k) n) then pass) =
      rw (own_needs own? k) (ap (λ (y : Check). within (cond own? 0 k) then y) (within_last n) ∙ within_both (cond own? 0 k) n pass) in
      then_needs x (max (cond own? 0 k) n) (unless 11 (own? || leb k L) then within n) pass both
      ∙ ap (λ (y : Check). within (behind x (max (cond own? 0 k) n)) then y) (then_end (x then pass))

  -- mkdir: 11 is asked only where nothing is shown
  mkdir_needs : (k : Kind) (j : ℕ) (ok : Bool) (x : Check) (n : ℕ)
      → mkdir_at j ok k (x then within n) ≡ (within (cond (is_nothing k) (behind x n) 0) then (mkdir_at j ok k (x then pass) then pass))
  mkdir_needs nothing j ok x n = charge_needs x n
  mkdir_needs a_directory j ok x n = then_end (cond ok pass (refuse 6 0 j)) ∙ within_none (cond ok pass (refuse 6 0 j) then pass)
  mkdir_needs a_file j ok x n = within_none (refuse 6 0 j)
  mkdir_needs a_link j ok x n = within_none (refuse 4 0 j)

  module _ (t : Table) (l : Tree) (a : Path) where
    abbrev start : ℕ
    start = 2 * length a + 1

    -- a sum that the walk has come to, s, is within what c leaves of the limit, or is the start: then no more is needed
    sum_within : (c s : ℕ) → c ≤ L → (s ≤ L - c) ⊎ (s ≡ start) → leb (c + cond (ltb start s) s 0) L ≡ true
    sum_within c s le h = elim (test (ltb start s)) [
      | nay e ↦ rw e (le-leb (c + 0) L (omega arith))
      | yea e ↦ let k = ltb-true start s e in elim h [
        | inl g ↦ rw e (le-leb (c + s) L (omega arith))
        | inr g ↦ absurd (omega arith)
      ]
    ]

    -- one that is above it, and above the start, is not
    sum_above : (c s : ℕ) → L - c < s → start < s → leb (c + cond (ltb start s) s 0) L ≡ false
    sum_above c s h g = rw (lt-ltb start s g) (lt-leb (c + s) L (omega arith))

    -- the walk v with what c leaves of the limit, by the walk w without an end
    abbrev Meant : ℕ → Walk → Walk → Type 0
    Meant c v w = walked (length a) v ≡ (within (c + walk_need start w) then walked (length a) w)

    walk_needs : (c : ℕ) → c ≤ L → Meant c (walk_from t l (some (L - c)) a) (walk_from t l none a)
    walk_needs c le = go (walk_from t l (some (L - c)) a) refl
      where
        go : (v : Walk) → walk_from t l (some (L - c)) a ≡ v → Meant c v (walk_from t l none a)
        go over_budget h = elim (walk_over t l a (L - c) h) [
          | inl z ↦ subst⁻¹ (Meant c over_budget) z.2 (rw (sum_above c z.1 z.3 z.4) refl)
          | inr z ↦ subst⁻¹ (Meant c over_budget) z.1 (rw (sum_above c z.0 z.2 z.3) refl)
        ]
        go (sum s) h =
            let g : (s ≤ L - c) ⊎ (s ≡ start) = subst (λ (v : Walk). (sum_of v ≤ L - c) ⊎ (sum_of v ≡ start)) h (walk_within t l a (L - c)) in
            subst⁻¹ (Meant c (sum s)) (walk_sum t l a (L - c) s h) (rw (sum_within c s le g) refl)
        go (stopped x s) h =
            let g : (s ≤ L - c) ⊎ (s ≡ start) = subst (λ (v : Walk). (sum_of v ≤ L - c) ⊎ (sum_of v ≡ start)) h (walk_within t l a (L - c)) in
            subst⁻¹ (Meant c (stopped x s)) (walk_stopped t l a (L - c) x s h) (rw (sum_within c s le g) refl)

  -- the plan: the charge c, then the plan's sum p beside it
  plan_needs : (c p : ℕ) → (within c then unless 11 (leb p (L - c))) ≡ within (c + p)
  plan_needs c p = elim (test (leb c L)) [
    | nay d ↦ let e = leb-false c L d in rw (d, lt-leb (c + p) L (omega arith)) refl
    | yea d ↦ let e = leb-true c L d in elim (test (leb p (L - c))) [
      | nay f ↦ let g = leb-false p (L - c) f in rw (d, f, lt-leb (c + p) L (omega arith)) refl
      | yea f ↦ let g = leb-true p (L - c) f in rw (d, f, le-leb (c + p) L (omega arith)) refl
    ]
  ]

  -- n, and behind it, where n is within the limit, x more
  budget_needs : (n x : ℕ) (y z : Check) → (n ≤ L → y ≡ (within (n + x) then z)) → (within n then y) ≡ (within (n + x) then z)
  budget_needs n x y z h = elim (test (leb n L)) [
    | nay e ↦ let k = leb-false n L e in rw (e, lt-leb (n + x) L (omega arith)) refl
    | yea e ↦ rw e (h (leb-true n L e))
  ]

  module _ (E : ℕ) (t : Table) (l : Tree) (a b : Path) where
    -- plan and walk together
    plan_walk_needs : (dir? : Bool)
        → (plan (limited E L) t a b then cond dir? (walked (length a) (walk_from t l (budget (limited E L) t a b) a)) pass)
        ≡ (within (charge E t + planned a b t + cond dir? (walk_need (2 * length a + 1) (walk_from t l none a)) 0)
        then cond dir? (walked (length a) (walk_from t l none a)) pass)
    plan_walk_needs dir? = rw (plan_needs (charge E t) (planned a b t)) (go dir?)
      where
        n : ℕ
        n = charge E t + planned a b t

        left : L - n ≡ L - charge E t - planned a b t
        left = omega arith

        go : (dir? : Bool) → (within n then cond dir? (walked (length a) (walk_from t l (some (L - charge E t - planned a b t)) a)) pass)
            ≡ (within (n + cond dir? (walk_need (2 * length a + 1) (walk_from t l none a)) 0) then cond dir? (walked (length a) (walk_from t l none a)) pass)
        go false = budget_needs n 0 pass pass (λ le. rw (le-leb (n + 0) L (omega arith)) refl)
        go true = budget_needs n (walk_need (2 * length a + 1) (walk_from t l none a)) (walked (length a) (walk_from t l (some (L - charge E t - planned a b t)) a))
            (walked (length a) (walk_from t l none a))
            (λ le. subst (λ (m : ℕ). Meant t l a n (walk_from t l (some m) a) (walk_from t l none a)) left (walk_needs t l a n le))

    directory_needs : (dir? listed? : Bool)
        → cond dir? (plan (limited E L) t a b then cond listed? (walked (length a) (walk_from t l (budget (limited E L) t a b) a)) pass) pass
        ≡ (within (cond dir? (charge E t + planned a b t + cond listed? (walk_need (2 * length a + 1) (walk_from t l none a)) 0) 0)
        then cond dir? (cond listed? (walked (length a) (walk_from t l none a)) pass) pass)
    directory_needs true listed? = plan_walk_needs listed?
    directory_needs false listed? = within_none pass

    -- plan and walk, then 11, then 12
    memory_needs : rename_memory (limited E L) t l a b
        ≡ (within (move_need E t l a b) then (rename_memory unlimited t l a b then keys_fit (limited 0 0) (rekey a b (carried t l a))))
    memory_needs = go (directory_memory (limited E L) t l a b) (directory_memory unlimited t l a b) (directory_needs (is_directory (kind (shown t l) a)) (is_directory (kind (lookup l) a)))
      where
        d : ℕ
        d = directory_need E t l a b

        e : ℕ
        e = charge E (moved t l a b)

        k : Check
        k = keys_fit (limited 0 0) (rekey a b (carried t l a))

        twice : (y : Check) → (y then k) ≡ ((y then (pass then pass)) then k)
        twice pass = refl
        twice (refuse i w j) = refl

        go : (x y : Check) → x ≡ (within d then y) → (x then (within e then k)) ≡ (within (max d (behind y e)) then ((y then (pass then pass)) then k))
        go x y h =
            ap (λ (z : Check). z then (within e then k)) h
            ∙ then_assoc (within d) y (within e then k)
            ∙ ap (λ (z : Check). within d then z) (then_needs y e (within e then k) k refl)
            ∙ within_both d (behind y e) (y then k)
            ∙ ap (λ (z : Check). within (max d (behind y e)) then z) (twice y)

    rename_needs : rename_checks (limited E L) t l a b ≡ (within (need E t l (rename a b)) then other_rules t l (rename a b))
    rename_needs = go (onto_itself (shown t l) a b)
      where
        p : Check
        p = rename_paths t l a b

        q : Check
        q = rename_types t l a b

        m : ℕ
        m = move_need E t l a b

        u : Check
        u = rename_memory unlimited t l a b

        k : Check
        k = keys_fit (limited 0 0) (rekey a b (carried t l a))

        go : (itself? : Bool) → (p then cond itself? pass (q then rename_memory (limited E L) t l a b))
            ≡ (within (behind p (cond itself? 0 (behind q m))) then ((p then cond itself? pass (q then u)) then cond itself? pass k))
        go true = then_needs p 0 pass pass (within_none pass) ∙ ap (λ (z : Check). within (behind p 0) then z) (then_end (p then pass))
        go false =
            then_needs p (behind q m) (q then rename_memory (limited E L) t l a b) (q then (u then k)) (then_needs q m (rename_memory (limited E L) t l a b) (u then k) memory_needs)
            ∙ ap (λ (z : Check). within (behind p (behind q m)) then z) (ap (λ (z : Check). p then z) (sym (then_assoc q u k)) ∙ sym (then_assoc p (q then u) k))

  -- (A) of every call: 11 where the limit is below the need, else what the rules give without a limit
  pub rules_need : (E : ℕ) (t : Table) (l : Tree) (c : Call) → rules (limited E L) t l c ≡ (within (need E t l c) then other_rules t l c)
  rules_need E t l (write p m c) = charge_needs (write_checks (shown t l) p) (charge E (changed t l (write p m c)))
  rules_need E t l (append p m d b) = append_needs (append_checks (shown t l) p b) (is_own (shown t l p)) (charge E t + length (appended (shown t l p) d b)) (charge E (changed t l (append p m d b)))
  rules_need E t l (write_inside p m o d) = charge_needs (inside_checks (shown t l) p o d) (charge E (changed t l (write_inside p m o d)))
  rules_need E t l (mkdir p up ok m) = mkdir_needs (kind (shown t l) p) (length p) ok (mkdir_parents (shown t l) p up) (charge E (changed t l (mkdir p up ok m)))
  rules_need E t l (unlink p) = charge_needs (unlink_checks t l p) (charge E (changed t l (unlink p)))
  rules_need E t l (rmdir p) = charge_needs (rmdir_checks t l p) (charge E (changed t l (rmdir p)))
  rules_need E t l (rename a b) = rename_needs E t l a b

  -- (B) so 11 is given exactly where the limit is below the need
  pub need_least : (E : ℕ) (t : Table) (l : Tree) (c : Call)
      → (rules (limited E L) t l c ≡ refuse 11 0 0 → L < need E t l c) × (L < need E t l c → rules (limited E L) t l c ≡ refuse 11 0 0)
  need_least E t l c = (above, below)
    where
      below : L < need E t l c → rules (limited E L) t l c ≡ refuse 11 0 0
      below h = rules_need E t l c ∙ rw (lt-leb (need E t l c) L h) refl

      above : rules (limited E L) t l c ≡ refuse 11 0 0 → L < need E t l c
      above h = elim (test (leb (need E t l c) L)) [
        | nay e ↦ leb-false (need E t l c) L e
        | yea e ↦
            let r : rules (limited E L) t l c ≡ other_rules t l c = rules_need E t l c ∙ rw e refl in
            absurd (bot (cc (other_rules_lem t l c, ap over_limit (sym r ∙ h))))
      ]

  -- (C) and any two limits that are not below it give the same
  pub need_enough : (E : ℕ) (t : Table) (l : Tree) (c : Call) → need E t l c ≤ L → rules (limited E L) t l c ≡ other_rules t l c
  need_enough E t l c h = rules_need E t l c ∙ rw (le-leb (need E t l c) L h) refl
