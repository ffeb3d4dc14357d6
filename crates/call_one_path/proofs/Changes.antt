-- The calls that change one entry: the root that none of them passes, and their checks from 3 to 10, then the insertion.
use mathlib.Core.Path.{◌≡◌, refl, sym, ap, subst, ◌∙◌}
use mathlib.Core.Bool.{true}
use mathlib.Core.List.{[], ◌∷◌}
use mathlib.Core.Option.{Option, none}
use Prim.Native.Nat.{ℕ, zero, suc, ◌≤◌}
use lib.ListN.{length, replicate}
use Rattle.model.specs.Bytes.{Bytes}
use Rattle.model.specs.Path.{Path}
use Rattle.model.specs.Map.{put, lookup}
use Rattle.model.specs.Tree.{Entry, Table, Tree, kind}
use Rattle.model.specs.Listing.{tree_in}
use Rattle.model.specs.Table.{encode, padded, entry_of, table_in}
use Rattle.model.specs.Checks.{Check, pass, ◌then◌, form, Memory, limited, charged, parent_checks, unlink_at, unlink_entry}
use Rattle.model.specs.Calls.{changed, forms, rules, value_of}
use Rattle.model.specs.Answer.{told_refusal}
use Rattle.model.specs.Outcome.{Given, shown_in, Request, outcome}
use Rattle.model.specs.declared.Record.{Record}
use Rattle.model.specs.declared.Refusal.{Refusal}
use Rattle.model.specs.declared.Answered.{Answered}
use Rattle.model.proofs.Orders.{bot}
use Rattle.model.proofs.Maps.{ascends_is, lookup_low}
use Rattle.model.proofs.Codec.{decoded}
use Rattle.table_write.specs.Merge.{Written}
use Rattle.std.specs.Prelude.{Err}
use Rattle.table_insert.specs.Insert.{Inserted, insertion, if_done}
use Rattle.check_judged.specs.Judged.{as_check, refuses}
use Rattle.check_one_path.specs.Change.{change_checks}
use Rattle.check_one_path.specs.declared.Change.{Change}
use Rattle.check_one_path.specs.declared.Change.TheVariants as change
use Rattle.call_answer.specs.Meets.{requested, stored, Meets, answered_of}
use Rattle.call_answer.proofs.OnePath as one-path
use Rattle.call_one_path.specs.Called.{call_of, brings, kind_put}

-- a call with the path p, by its checks from 3 to 10
module _ (l s : Bytes) (r : Record) (p : Path) (x : Change) where
  abbrev judged : Check
  judged = form 0 p then change_checks x (table_in s r) (tree_in l) p

  -- each call refuses the root: write and unlink as a directory, rmdir by its own check
  pub root : Given l s r → refuses (change_checks x (table_in s r) (tree_in l) []) ≡ true
  root g = each x
    where
      each : (y : Change) → refuses (change_checks y (table_in s r) (tree_in l) []) ≡ true
      each change.Write = refl
      each change.Unlink =
          let u = ascends_is [] (table_in s r) (decoded s r g.table_is).ascending in
          let e : lookup (table_in s r) [] ≡ none = lookup_low [] (table_in s r) u.0 u.1 in
          let f = shown_in l s r in
          ap (λ (o : Option Entry). refuses (unlink_entry 0 o (parent_checks 0 f [] then unlink_at 0 (kind f [])))) e
      each change.Rmdir = refl

-- what such a call brings are an entry's fields, and the data's length is what it answers
brought : (x : Change) (p : Path) (m : ℕ) (d : Bytes) → brings x m d ≡ true → Written (kind_put x) m 0 d × (length d ≡ value_of (call_of x p m d))
brought change.Write p m d h = (record { type = refl; time = refl; long = refl; content = refl }, refl)
brought change.Unlink p zero [] h = (record { type = refl; time = refl; long = refl; content = refl }, refl)
brought change.Unlink p zero (b ∷ d) h = absurd (bot (cc))
brought change.Unlink p (suc m) d h = absurd (bot (cc))
brought change.Rmdir p zero [] h = (record { type = refl; time = refl; long = refl; content = refl }, refl)
brought change.Rmdir p zero (b ∷ d) h = absurd (bot (cc))
brought change.Rmdir p (suc m) d h = absurd (bot (cc))

-- its checks, and the entry that it puts
called : (x : Change) (p : Path) (m : ℕ) (d : Bytes) (o : Memory) (t : Table) (l : Tree)
    → (forms (call_of x p m d) ≡ form 0 p) × (rules o t l (call_of x p m d) ≡ (change_checks x t l p then charged o (changed t l (call_of x p m d))))
    × (put p (entry_of (kind_put x) m 0 d) t ≡ changed t l (call_of x p m d))
called change.Write p m d o t l = (refl, refl, refl)
called change.Unlink p m d o t l = (refl, refl, refl)
called change.Rmdir p m d o t l = (refl, refl, refl)

-- such a call behind 1 and 2, with the work buffer w
module _ (l s : Bytes) (r : Record) (w : Bytes) (p : Path) (x : Change) (m : ℕ) (d : Bytes) (limit : ℕ) (g : Given l s r) (h : length s ≤ length w) where
  abbrev q : Request
  q = requested (call_of x p m d) limit w

  -- its checks from 3 to 10 refuse
  pub call_refused : (y : Refusal) → as_check (told_refusal y) ≡ judged l s r p x → (a : Answered) → a ≡ record { answer = Err y; «record» = r }
      → Meets (outcome l q (stored s r)) a s w
  call_refused =
      let k = called x p m d (limited r.entry_size limit) (table_in s r) (tree_in l) in
      one-path.call_refused l q (stored s r) g h p (change_checks x (table_in s r) (tree_in l) p) k.0 k.1

  module _ (b : brings x m d ≡ true) (k : ℕ) (f : k ≡ kind_put x) where
    pub call_fields : Written k m 0 d
    call_fields = subst (λ (y : ℕ). Written y m 0 d) (sym f) (brought x p m d b).0

    -- they pass; the insertion answered i and left t and v
    pub call_inserted : pass ≡ judged l s r p x → (i : Inserted) → i ≡ insertion r.entry_size limit (length s) (put p (entry_of k m 0 d) (table_in s r)) → (t v : Bytes)
        → t ≡ if_done i (padded (length s) (encode (put p (entry_of k m 0 d) (table_in s r)))) s → v ≡ if_done i (replicate (length w) 0) w
        → (a : Answered) → a ≡ answered_of i r (length d) → Meets (outcome l q (stored s r)) a t v
    call_inserted u i y t v z n a o =
        let c' = called x p m d (limited r.entry_size limit) (table_in s r) (tree_in l) in
        let c : put p (entry_of k m 0 d) (table_in s r) ≡ changed (table_in s r) (tree_in l) (call_of x p m d) =
        ap (λ (c : ℕ). put p (entry_of c m 0 d) (table_in s r)) f ∙ c'.2 in
        one-path.call_inserted l q (stored s r) g h p (change_checks x (table_in s r) (tree_in l) p) c'.0 c'.1 u i
        (y ∙ ap (insertion r.entry_size limit (length s)) c) t v
        (z ∙ ap (λ (y : Table). if_done i (padded (length s) (encode y)) s) c) n a (o ∙ ap (answered_of i r) (brought x p m d b).1)
