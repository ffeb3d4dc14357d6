-- From what is measured to what is reported, exit by exit.
use mathlib.Core.Path.{◌≡◌, refl, ap, sym, ◌∙◌, subst, subst⁻¹}
use mathlib.Core.Bool.{Bool, true, false, cond, ◌&&◌}
use mathlib.Core.Option.{some}
use Prim.Native.Nat.{ℕ, ◌≤◌, max}
use native.Mathlib.Omega.{arith}
use lib.Dec.{leb}
use lib.ListN.{length}
use borrow.Author.Tests.{leb-true, leb-false, le-leb}
use Rattle.model.specs.Bytes.{Bytes, every}
use Rattle.model.specs.Path.{Path, short}
use Rattle.model.specs.Map.{keys, rekey}
use Rattle.model.specs.Tree.{Table, Tree, shown}
use Rattle.model.specs.Listing.{is_listing, tree_in}
use Rattle.model.specs.Table.{encode, charge, is_table, table_in}
use Rattle.model.specs.Checks.{Check, pass, refuse, ◌then◌, unless, limited, unlimited}
use Rattle.model.specs.Rename.{carried, moved, keys_fit, directory_memory, rename_memory, rename_paths, rename_types, onto_itself}
use Rattle.model.specs.Calls.{rename, forms}
use Rattle.model.specs.Answer.{told_refusal}
use Rattle.model.specs.Outcome.{Given}
use Rattle.model.specs.declared.Record.{Record}
use Rattle.model.specs.declared.Refusal.{Refusal}
use Rattle.model.proofs.Orders.{bot, yea, nay, test}
use Rattle.model.proofs.Words.{IsBytes}
use Rattle.model.proofs.Invariant.{then_pass, unless_pass}
use Rattle.model.proofs.Passed.{two_elsewhere, elsewhere_two, types_passed}
use Rattle.model.proofs.Codec.{bounds}
use Rattle.check_judged.specs.Judged.{as_check}
use Rattle.check_judged.proofs.Checked.{refusal_refuses, refused_not_passed}
use Rattle.check_judged.proofs.Thens.{stops}
use Rattle.rename_checks.specs.Early.{EarlyPassed}
use Rattle.rename_measure.specs.declared.Projected.{Projected}
use Rattle.rename_measure.specs.Tallies.{Foretold}
use Rattle.call_answer.specs.Meets.{stored}
use Rattle.least_need.specs.Need.{behind, directory_need, need, other_rules}
use Rattle.least_need.specs.Least.{IsReport, report_checks}
use Rattle.least_need.proofs.Leasts.{report_both, report_none}
use Rattle.std.specs.Prelude as code
use Rattle.least_rename.specs.declared.Least.{Least}
use Rattle.least_rename.specs.Reports.{Reports, report_of, used_after, Known}

-- a rename of the path a to b, with `used` bytes used before
module _ (E : ℕ) (t : Table) (l : Tree) (a b : Path) (used : ℕ) where
  abbrev directories : Check
  directories = directory_memory unlimited t l a b

  abbrev fitting : Check
  fitting = keys_fit (limited 0 0) (rekey a b (carried t l a))

  abbrev Knows : code.Option Least → Type 0
  Knows r = Known E t l a b used r

  -- the rules without a limit passed: so did each part of them
  passed_paths : other_rules t l (rename a b) ≡ pass → rename_paths t l a b ≡ pass
  passed_paths h =
      let e = then_pass (rename_paths t l a b then cond (onto_itself (shown t l) a b) pass (rename_types t l a b then rename_memory unlimited t l a b)) _ h in
      (then_pass (rename_paths t l a b) _ e.0).0

  passed_types : onto_itself (shown t l) a b ≡ false → other_rules t l (rename a b) ≡ pass → rename_types t l a b ≡ pass
  passed_types n h =
      let e = then_pass (rename_paths t l a b then cond (onto_itself (shown t l) a b) pass (rename_types t l a b then rename_memory unlimited t l a b)) _ h in
      let f = (then_pass (rename_paths t l a b) _ e.0).1 in
      (then_pass (rename_types t l a b) _ (subst (λ (x : Bool). cond x pass (rename_types t l a b then rename_memory unlimited t l a b) ≡ pass) n f)).0

  pub paths_refused : (x : Refusal) → as_check (told_refusal x) ≡ rename_paths t l a b → Knows code.None
  paths_refused x e p q = refused_not_passed (as_check (told_refusal x)) (refusal_refuses x) (e ∙ passed_paths p)

  -- all that stands before the plan has passed
  pub both_passed : onto_itself (shown t l) a b ≡ false → pass ≡ rename_paths t l a b → pass ≡ rename_types t l a b → EarlyPassed t l a b
  both_passed n d e = record {
    two = elsewhere_two (shown t l) a b (length a) n (types_passed t l a b (sym e)).source_present;
    paths = sym d;
    types = sym e;
  }

  -- onto itself: nothing is needed but the bytes used
  pub itself_known : onto_itself (shown t l) a b ≡ true → pass ≡ rename_paths t l a b → used ≡ length (encode t) → used ≤ 16777216
      → Knows (code.Some (record { limit = 0; len = used }))
  itself_known o d u v =
      let p : rename_paths t l a b ≡ pass = sym d in
      let w : used_after t l a b ≡ length (encode t) = ap (λ (z : Bool). length (encode (cond z t (moved t l a b)))) o in (
        rw (p, o) refl,
        omega arith,
        rw (p, o) refl,
        omega arith,
        omega arith,
      )

  -- elsewhere, behind all that stands before the plan
  module _ (early : EarlyPassed t l a b) where
    elsewhere : onto_itself (shown t l) a b ≡ false
    elsewhere = two_elsewhere (shown t l) a b early.two

    other_is : other_rules t l (rename a b) ≡ (directories then fitting)
    other_is = rw (early.paths, elsewhere, early.types) (go directories)
      where
        go : (d : Check) → ((d then (pass then pass)) then fitting) ≡ (d then fitting)
        go pass = refl
        go (refuse n w k) = refl

    after_is : used_after t l a b ≡ length (encode (moved t l a b))
    after_is = ap (λ (z : Bool). length (encode (cond z t (moved t l a b)))) elsewhere

    need_is : directories ≡ pass → need E t l (rename a b) ≡ max (directory_need E t l a b) (charge E (moved t l a b))
    need_is d = rw (early.paths, elsewhere, early.types) (ap (λ (x : Check). max (directory_need E t l a b) (behind x (charge E (moved t l a b)))) d)

    pub move_stopped : (directories ≡ pass → ⊥) → Knows code.None
    move_stopped h p q = h (then_pass directories fitting (sym other_is ∙ p)).0

    pub move_known : E ≤ 4096 → (m : ℕ) → (directories ≡ pass) × (m ≡ directory_need E t l a b) → m ≤ 0x2_0000_0000_0000
        → (p : Projected) → Foretold E t l a b p → (r : code.Option Least) → r ≡ report_of m p used → Knows r
    move_known s m x v p f r i = subst⁻¹ Knows i (by p.long refl (leb p.rec.used 16777216) refl)
      where
        ks : Bool
        ks = every short (keys (rekey a b (carried t l a)))

        all_short : p.long ≡ false → ks ≡ true
        all_short g = elim (test ks) [ yea u ↦ u | nay u ↦ absurd (bot (cc f.long)) ]

        by : (x : Bool) → p.long ≡ x → (y : Bool) → leb p.rec.used 16777216 ≡ y
            → Knows (cond x code.None (cond y (code.Some (record { limit = max m p.charge; len = max used p.rec.used })) code.None))
        by true g y k = λ u v.
            let z = unless_pass 12 ks (then_pass directories fitting (sym other_is ∙ u)).1 in
            bot (cc f.long)
        by false g false k = λ u v.
            let z = ap (λ (x : Record). x.used) (f.rec g) in
            let o = leb-false p.rec.used 16777216 k in
            omega (arith, after_is)
        by false g true k =
            let z = ap (λ (x : Record). x.used) (f.rec g) in
            let o = leb-true p.rec.used 16777216 k in
            let c = (bounds E (moved t l a b) s).1 in (
              other_is ∙ ap (λ (y : Check). y then fitting) x.0 ∙ ap (unless 12) (all_short g),
              omega (arith, after_is),
              (λ i. max (x.1 i) (f.charge i)) ∙ sym (need_is x.0),
              ap (max used) (z ∙ sym after_is),
              omega (arith, f.charge),
            )

-- 1 and 2 are asked of the table alone: its own length is room enough
own_room : (b : Bool) (n : ℕ) → (b && leb n n) ≡ b
own_room true n = le-leb n n (omega arith)
own_room false n = refl

-- the listing l and the table s with its record r
module _ (l s : Bytes) (r : Record) (a b : Path) where
  abbrev first : Check
  first = unless 1 (is_table s r) then unless 2 (is_listing l)

  first_is : (unless 1 (is_table s r && leb (length s) (length s)) then unless 2 (is_listing l)) ≡ first
  first_is = ap (λ (x : Bool). unless 1 x then unless 2 (is_listing l)) (own_room (is_table s r) (length s))

  all_checks : report_checks l (stored s r) (rename a b) ≡ (first then forms (rename a b))
  all_checks = go (is_table s r) (is_listing l)
    where
      go : (x y : Bool) → (unless 1 x then unless 2 y then forms (rename a b)) ≡ ((unless 1 x then unless 2 y) then forms (rename a b))
      go true true = refl
      go true false = refl
      go false y = refl

  -- 1 and 2
  abbrev pub lent : Check
  lent = unless 1 (is_table s r && leb (length s) (length s)) then unless 2 (is_listing l)

  pub not_admitted : (x : Refusal) → as_check (told_refusal x) ≡ lent → Reports l (stored s r) (rename a b) (code.Err x)
  not_admitted x e = all_checks ∙ sym (stops first (forms (rename a b)) x (e ∙ first_is))

  pub admitted : pass ≡ lent → Given l s r
  admitted h =
      let c = then_pass (unless 1 (is_table s r)) (unless 2 (is_listing l)) (sym (h ∙ first_is)) in
      record { listing_is = unless_pass 2 (is_listing l) c.1; table_is = unless_pass 1 (is_table s r) c.0 }

  -- they passed
  module _ (h : pass ≡ lent) where
    checks_are : report_checks l (stored s r) (rename a b) ≡ forms (rename a b)
    checks_are = all_checks ∙ ap (λ (c : Check). c then forms (rename a b)) (sym (h ∙ first_is))

    pub not_formed : (x : Refusal) → as_check (told_refusal x) ≡ forms (rename a b) → Reports l (stored s r) (rename a b) (code.Err x)
    not_formed x g = checks_are ∙ sym g

    pub reported : pass ≡ forms (rename a b) → IsBytes s → (x : code.Option Least) → Known r.entry_size (table_in s r) (tree_in l) a b r.used x
        → Reports l (stored s r) (rename a b) (code.Ok x)
    reported g bytes x y = go x y
      where
        given : Given l s r
        given = admitted h

        formed : forms (rename a b) ≡ pass
        formed = sym g

        go : (x : code.Option Least) → Known r.entry_size (table_in s r) (tree_in l) a b r.used x → Reports l (stored s r) (rename a b) (code.Ok x)
        go (code.Some x) y = (
          checks_are ∙ formed,
          subst⁻¹ (λ (z : ℕ × ℕ). IsReport l (stored s r) (rename a b) (some z)) (λ i. (y.2 i, y.3 i))
              (report_both l (stored s r) (rename a b) given.listing_is given.table_is bytes formed y.0 y.1 (subst (λ (z : ℕ). z ≤ 0xFFFF_FFFF_FFFF_FFFF) y.2 y.4)),
        )
        go code.None y = (
          checks_are ∙ formed,
          report_none l (stored s r) (rename a b) given.listing_is given.table_is bytes formed y,
        )
