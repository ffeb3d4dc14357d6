-- From what is reported of a rename to what its export answers and leaves. Every answer fits: only 1, 2 and 3 refuse.
use mathlib.Core.Path.{◌≡◌, ap, ap₂, ◌∙◌, subst, subst⁻¹}
use mathlib.Core.Bool.{Bool, true, false, cond, ◌&&◌}
use mathlib.Core.List.{List}
use Prim.Native.Nat.{ℕ}
use native.Mathlib.Omega.{arith}
use lib.ListN.{length}
use borrow.Author.Tests.{eq-eqb, ne_eqb}
use Rattle.model.specs.Bytes.{Bytes}
use Rattle.model.specs.Path.{Path, is_path}
use Rattle.model.specs.Listing.{is_listing}
use Rattle.model.specs.Table.{is_table}
use Rattle.model.specs.Checks.{pass, refuse, ◌then◌, unless}
use Rattle.model.specs.Calls.{rename}
use Rattle.model.specs.Answer.{refused}
use Rattle.model.specs.declared.Record.{Record}
use Rattle.model.proofs.Orders.{bot}
use Rattle.check_judged.specs.Judged.{as_check}
use Rattle.call_answer.specs.Meets.{stored}
use Rattle.call_answer.proofs.Settles.{told_as}
use Rattle.std.specs.Prelude.{Result, Ok, Err, Option, Some, None}
use Rattle.model.specs.declared.Refusal.{Refusal}
use Rattle.least_rename.specs.declared.Least.{Least}
use Rattle.least_rename.specs.Reports.{Reports, told_report}
use Rattle.overlay_packed.specs.Packed.{packed, Fits, record_in, report_numbers}
use Rattle.overlay.specs.Exported.{is_two, LeastLeft, not_numbers, reported}

-- x whether the table is one, y the listing, p the source and q the destination
first_fits : (x y p q : Bool) (n k l : ℕ)
    → (unless 1 x then unless 2 y then cond p pass (refuse 3 0 0) then cond q pass (refuse 3 1 0)) ≡ refuse n k l → Fits (refused n k l)
first_fits false y p q n k l e = let a : n ≡ 1 = cc in let b : k ≡ 0 = cc in let c : l ≡ 0 = cc in (omega arith, omega arith, omega arith)
first_fits true false p q n k l e = let a : n ≡ 2 = cc in let b : k ≡ 0 = cc in let c : l ≡ 0 = cc in (omega arith, omega arith, omega arith)
first_fits true true false q n k l e = let a : n ≡ 3 = cc in let b : k ≡ 0 = cc in let c : l ≡ 0 = cc in (omega arith, omega arith, omega arith)
first_fits true true true false n k l e = let a : n ≡ 3 = cc in let b : k ≡ 1 = cc in let c : l ≡ 0 = cc in (omega arith, omega arith, omega arith)
first_fits true true true true n k l e = absurd (bot (cc))

module _ (l t : Bytes) (n s : List ℕ) (a b : Path) where
  -- the record or the two numbers are none
  pub no_record : (length n ≡ 4 → ⊥) → LeastLeft l t n s (rename a b) 1 s
  no_record h = not_numbers (ap (λ (x : Bool). x && is_two s) (ne_eqb (length n) 4 h))

  pub no_least : length n ≡ 4 → (length s ≡ 2 → ⊥) → LeastLeft l t n s (rename a b) 1 s
  no_least h g = not_numbers (ap₂ (λ (x y : Bool). x && y) (eq-eqb (length n) 4 h) (ne_eqb (length s) 2 g))

  -- r is the record that the four numbers are, and x what was reported
  module _ (r : Record) (e : r ≡ record_in n) (x : Result (Option Least) Refusal) (f : Reports l (stored t r) (rename a b) x) where
    pub report_fits : Fits (told_report x)
    report_fits = go x f
      where
        go : (x : Result (Option Least) Refusal) → Reports l (stored t r) (rename a b) x → Fits (told_report x)
        go (Ok (Some m)) f = omega arith
        go (Ok None) f = omega arith
        go (Err y) f =
            let o = told_as y in
            subst⁻¹ Fits o.is (first_fits (is_table t r) (is_listing l) (is_path a) (is_path b) o.number o.path o.len (f ∙ ap as_check o.is))

    pub report_settled : length n ≡ 4 → length s ≡ 2 → (y : ℕ) → y ≡ packed (told_report x) → (z : List ℕ) → z ≡ report_numbers x s → LeastLeft l t n s (rename a b) y z
    report_settled h g y i z j =
        let k = ap₂ (λ (u v : Bool). u && v) (eq-eqb (length n) 4 h) (eq-eqb (length s) 2 g) in
        let q = reported k x (subst (λ (u : Record). Reports l (stored t u) (rename a b) x) e f) in
        subst⁻¹ (λ (u : ℕ). LeastLeft l t n s (rename a b) u z) i (subst⁻¹ (LeastLeft l t n s (rename a b) (packed (told_report x))) j q)
