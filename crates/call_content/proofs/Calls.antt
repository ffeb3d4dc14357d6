-- Both calls behind 1 and 2: refused by their checks, or as the insertion of the new content is answered; and what is known where the checks pass.
use mathlib.Core.Path.{◌≡◌, refl, sym, ap, ◌∙◌}
use mathlib.Core.Bool.{true}
use mathlib.Core.List.{[]}
use Prim.Native.Nat.{ℕ, ◌+◌, ◌<◌, ◌≤◌}
use lib.Dec.{eqb}
use lib.ListN.{length}
use borrow.Author.Tests.{ltb-true}
use Rattle.model.specs.Bytes.{Bytes}
use Rattle.model.specs.Path.{Path}
use Rattle.model.specs.Map.{put}
use Rattle.model.specs.Tree.{own}
use Rattle.model.specs.Listing.{tree_in}
use Rattle.model.specs.Table.{table_in}
use Rattle.model.specs.Checks.{Check, pass, ◌then◌, form, limited, unlimited, charged}
use Rattle.model.specs.Content.{is_own, content_of, needed, appended, spliced, append_checks, append_memory, inside_checks}
use Rattle.model.specs.Calls.{append, write_inside, changed, rules}
use Rattle.model.specs.Answer.{told_refusal}
use Rattle.model.specs.Outcome.{Given, shown_in, Request, outcome}
use Rattle.model.specs.declared.Record.{Record}
use Rattle.model.specs.declared.Refusal.{Refusal}
use Rattle.model.specs.declared.Answered.{Answered}
use Rattle.model.proofs.Invariant.{then_pass}
use Rattle.model.proofs.Contents.{count_passed, InsidePassed, inside_passed}
use Rattle.std.specs.Prelude.{Err}
use Rattle.table_insert.specs.Insert.{Inserted}
use Rattle.check_judged.specs.Judged.{as_check}
use Rattle.check_judged.proofs.Thens.{then_assoc}
use Rattle.check_content.proofs.Owned.{own_shown}
use Rattle.call_answer.specs.Meets.{requested, stored, Meets, answered_of}
use Rattle.call_answer.proofs.OnePath.{call_refused, call_inserted}
use Rattle.call_content.specs.Judged.{append_behind, append_judged, inside_judged}
use Rattle.call_content.specs.Leaves.{Leaves}

-- the call at p, with the mtime m and the work buffer w
module _ (l s : Bytes) (r : Record) (w : Bytes) (p : Path) (m limit : ℕ) (g : Given l s r) (h : length s ≤ length w) where
  -- append of d, b being lent
  module _ (d b : Bytes) where
    abbrev added : Request
    added = requested (append p m d b) limit w

    grouped : rules (limited r.entry_size limit) (table_in s r) (tree_in l) (append p m d b)
        ≡ (append_behind l s r limit d b p then charged (limited r.entry_size limit) (changed (table_in s r) (tree_in l) (append p m d b)))
    grouped =
        let o = limited r.entry_size limit in
        let f = shown_in l s r in
        sym (then_assoc (append_checks f p b) (append_memory o (table_in s r) (f p) (length (appended (f p) d b))) (charged o (changed (table_in s r) (tree_in l) (append p m d b))))

    pub append_refused : (y : Refusal) → as_check (told_refusal y) ≡ append_judged l s r limit d b p → (a : Answered)
        → a ≡ record { answer = Err y; «record» = r } → Meets (outcome l added (stored s r)) a s w
    append_refused = call_refused l added (stored s r) g h p (append_behind l s r limit d b p) refl grouped

    -- its checks pass
    module _ (u : pass ≡ append_judged l s r limit d b p) where
      pub append_count : eqb (length b) (needed (shown_in l s r p)) ≡ true
      append_count =
          let f = shown_in l s r in
          let x = (then_pass (form 0 p) (append_behind l s r limit d b p) (sym u)).1 in
          count_passed f p b (then_pass (append_checks f p b) (append_memory (limited r.entry_size limit) (table_in s r) (f p) (length (appended (f p) d b))) x).0

      -- the insertion answered i and left t and v
      pub append_inserted : (i : Inserted) (t v : Bytes)
          → Leaves r.entry_size limit s w (put p (own m (appended (shown_in l s r p) d b)) (table_in s r)) i t v
          → (a : Answered) → a ≡ answered_of i r (length d) → Meets (outcome l added (stored s r)) a t v
      append_inserted i t v x a y =
          call_inserted l added (stored s r) g h p (append_behind l s r limit d b p) refl grouped u i x.answer t v x.bytes x.buffer a y

  -- d written inside the file, from the offset o on
  module _ (o : ℕ) (d : Bytes) where
    abbrev written : Request
    written = requested (write_inside p m o d) limit w

    pub inside_refused : (y : Refusal) → as_check (told_refusal y) ≡ inside_judged l s r o d p → (a : Answered)
        → a ≡ record { answer = Err y; «record» = r } → Meets (outcome l written (stored s r)) a s w
    inside_refused = call_refused l written (stored s r) g h p (inside_checks (shown_in l s r) p o d) refl refl

    -- its checks pass
    module _ (u : pass ≡ inside_judged l s r o d p) where
      passed : InsidePassed unlimited (table_in s r) (tree_in l) p m o d
      passed =
          let x = (then_pass (form 0 p) (inside_checks (shown_in l s r) p o d) (sym u)).1 in
          inside_passed unlimited (table_in s r) (tree_in l) p m o d (ap (λ (c : Check). c then pass) x)

      pub inside_own : is_own (shown_in l s r p) ≡ true
      inside_own = sym (own_shown l s r p g.table_is) ∙ passed.own

      pub inside_range : o + length d < 0x1_0000_0000_0000_0000
      inside_range = ltb-true (o + length d) 0x1_0000_0000_0000_0000 passed.range

      pub inside_inserted : (i : Inserted) (t v : Bytes)
          → Leaves r.entry_size limit s w (put p (own m (spliced o d (content_of (shown_in l s r p) []))) (table_in s r)) i t v
          → (a : Answered) → a ≡ answered_of i r (length d) → Meets (outcome l written (stored s r)) a t v
      inside_inserted i t v x a y =
          call_inserted l written (stored s r) g h p (inside_checks (shown_in l s r) p o d) refl refl u i x.answer t v x.bytes x.buffer a y
