-- What showing a directory answers and leaves: a law for each exit of its checks, and what is known once they pass.
use mathlib.Core.Path.{◌≡◌, ap, sym, ◌∙◌}
use mathlib.Core.Bool.{Bool, true, and-true}
use mathlib.Core.List.{List}
use Prim.Native.Nat.{ℕ, ◌<◌, ◌≤◌}
use native.Mathlib.Omega.{arith}
use lib.Dec.{leb}
use lib.ListN.{length}
use borrow.Author.Tests.{le-leb, lt-leb}
use Rattle.model.specs.Bytes.{Bytes}
use Rattle.model.specs.Path.{Path, is_path}
use Rattle.model.specs.Listing.{is_listing, tree_in}
use Rattle.model.specs.Table.{padded, is_table, table_in}
use Rattle.model.specs.Checks.{pass, Check, ◌then◌, unless, form}
use Rattle.model.specs.Answer.{told, Reply, accepted, refused, told_refusal}
use Rattle.model.specs.Outcome.{Given}
use Rattle.model.specs.Output.{Written, written_by}
use Rattle.model.specs.declared.Record.{Record}
use Rattle.model.specs.declared.Refusal.{Refusal}
use Rattle.model.proofs.Invariant.{then_pass, unless_pass}
use Rattle.std.specs.Prelude.{Result, IsErrAnd}
use Rattle.std.proofs.lemmas.Result.{err_from_is_err_and}
use Rattle.check_judged.specs.Judged.{as_check}
use Rattle.check_judged.proofs.Checked.{refusal_refuses, refused_stops}
use Rattle.check_judged.proofs.Thens.{then_assoc, stops, goes_on}
use Rattle.check_lent.proofs.Firsts.{firsts, known}
use Rattle.call_answer.proofs.Settles.{told_as}
use Rattle.show_names.specs.Names.{name_bytes, show_checks, child_names, may_show, showing}
use Rattle.show_dir.specs.Spans.{fitted}

-- three checks and what follows, grouped either way
grouped : (a b c d : Check) → ((a then (b then c)) then d) ≡ (a then (b then (c then d)))
grouped a b c d = then_assoc a (b then c) d ∙ ap (λ (x : Check). a then x) (then_assoc b c d)

module _ (l s : Bytes) (r : Record) (p : Path) where
  -- from 1 to 7
  abbrev pub checks : Check
  checks = unless 1 (is_table s r) then (unless 2 (is_listing l) then (form 0 p then show_checks (table_in s r) (tree_in l) p))

  -- 1, 2 and 3, with n bytes of work buffer, as many as the table has
  module _ (n : ℕ) (o : n ≡ length s) where
    abbrev pub lent : Check
    lent = firsts (is_table s r) (leb (length s) n) (is_listing l) (is_path p)

    lent_is : lent ≡ (unless 1 (is_table s r) then (unless 2 (is_listing l) then form 0 p))
    lent_is =
        ap (λ (w : Bool). firsts (is_table s r) w (is_listing l) (is_path p)) (le-leb (length s) n (omega arith))
        ∙ ap (λ (t : Bool). unless 1 t then (unless 2 (is_listing l) then form 0 p)) (and-true (is_table s r))

    pub lent_refused : (x : Refusal) → as_check (told_refusal x) ≡ lent → as_check (told_refusal x) ≡ checks
    lent_refused x h =
        stops (unless 1 (is_table s r) then (unless 2 (is_listing l) then form 0 p)) (show_checks (table_in s r) (tree_in l) p) x (h ∙ lent_is)
        ∙ grouped (unless 1 (is_table s r)) (unless 2 (is_listing l)) (form 0 p) (show_checks (table_in s r) (tree_in l) p)

    pub lent_given : pass ≡ lent → Given l s r × (is_path p ≡ true)
    lent_given h = let k = known l s r n p h in (record { listing_is = k.2; table_is = k.0 }, k.3)

    pub path_checked : pass ≡ lent → (c : Check) → c ≡ show_checks (table_in s r) (tree_in l) p → c ≡ checks
    path_checked h c f =
        goes_on (unless 1 (is_table s r) then (unless 2 (is_listing l) then form 0 p)) (show_checks (table_in s r) (tree_in l) p) c (h ∙ lent_is) f
        ∙ grouped (unless 1 (is_table s r)) (unless 2 (is_listing l)) (form 0 p) (show_checks (table_in s r) (tree_in l) p)

  -- behind the checks from 1 to 7 13 decides
  module _ (o : Bytes) where
    abbrev room : Check
    room = unless 13 (leb (length (child_names l s r p)) (length o))

    judged : may_show l s r p o ≡ (checks then room)
    judged =
        let d = show_checks (table_in s r) (tree_in l) p in
        sym (grouped (unless 1 (is_table s r)) (unless 2 (is_listing l)) (form 0 p then d) room
        ∙ ap (λ (c : Check). unless 1 (is_table s r) then (unless 2 (is_listing l) then c)) (then_assoc (form 0 p) d room))

    -- they refused x, and j is what is answered then
    pub show_refused : (x : Refusal) (j : Result ℕ Refusal) → IsErrAnd j (λ y. y ≡ x) → as_check (told_refusal x) ≡ checks
        → (told j ≡ (showing l s r p o).reply) × (o ≡ (showing l s r p o).output)
    show_refused x j i h =
        let q = err_from_is_err_and j i in
        let t = told_as x in
        let c = judged ∙ ap (λ (y : Check). y then room) (sym h) ∙ refused_stops (as_check (told_refusal x)) room (refusal_refuses x) ∙ ap as_check t.is in
        let w = ap (λ (y : Check). written_by y (child_names l s r p) o) c in
        (ap told q.1 ∙ ap told_refusal q.2 ∙ t.is ∙ sym (ap (λ (y : Written). y.reply) w), sym (ap (λ (y : Written). y.output) w))

    module _ (h : pass ≡ checks) where
      pub show_given : Given l s r
      show_given =
          let k = then_pass (unless 1 (is_table s r)) (unless 2 (is_listing l) then (form 0 p then show_checks (table_in s r) (tree_in l) p)) (sym h) in
          let m = then_pass (unless 2 (is_listing l)) (form 0 p then show_checks (table_in s r) (tree_in l) p) k.1 in
          record { listing_is = unless_pass 2 (is_listing l) m.0; table_is = unless_pass 1 (is_table s r) k.0 }

      pub show_fitted : (a : Reply) (d : Bytes) → a ≡ (fitted (child_names l s r p) o).reply → d ≡ (fitted (child_names l s r p) o).output
          → (a ≡ (showing l s r p o).reply) × (d ≡ (showing l s r p o).output)
      show_fitted a d f g =
          let w = sym (ap (λ (y : Check). written_by y (child_names l s r p) o) (judged ∙ ap (λ (y : Check). y then room) (sym h))) in
          (f ∙ ap (λ (y : Written). y.reply) w, g ∙ ap (λ (y : Written). y.output) w)

-- the names ns, which are ms, take n bytes; the output o is too short for them or not
module _ (ns ms : List Bytes) (f : ns ≡ ms) (o : Bytes) (n : ℕ) (e : n ≡ length (name_bytes ns)) where
  size : n ≡ length (name_bytes ms)
  size = e ∙ ap (λ (xs : List Bytes). length (name_bytes xs)) f

  pub too_short : length o < n → (refused 13 0 0 ≡ (fitted (name_bytes ms) o).reply) × (o ≡ (fitted (name_bytes ms) o).output)
  too_short h =
      let z = size in
      let w = ap (λ (b : Bool). written_by (unless 13 b) (name_bytes ms) o) (lt-leb (length (name_bytes ms)) (length o) (omega arith)) in
      (sym (ap (λ (y : Written). y.reply) w), sym (ap (λ (y : Written). y.output) w))

  pub long_enough : n ≤ length o → (d : Bytes) → d ≡ padded (length o) (name_bytes ns)
      → (accepted n ≡ (fitted (name_bytes ms) o).reply) × (d ≡ (fitted (name_bytes ms) o).output)
  long_enough h d g =
      let z = size in
      let w = ap (λ (b : Bool). written_by (unless 13 b) (name_bytes ms) o) (le-leb (length (name_bytes ms)) (length o) (omega arith)) in (
        ap accepted z ∙ sym (ap (λ (y : Written). y.reply) w),
        g ∙ ap (λ (xs : List Bytes). padded (length o) (name_bytes xs)) f ∙ sym (ap (λ (y : Written). y.output) w),
      )
