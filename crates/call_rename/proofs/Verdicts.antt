-- From rename's checks, in groups, to its outcome: refused by the first that refuses, or done.
use mathlib.Core.Path.{◌≡◌, refl, ap, sym, ◌∙◌}
use mathlib.Core.Bool.{Bool, true, false, cond}
use mathlib.Core.List.{◌++◌}
use Prim.Native.Nat.{ℕ, ◌≤◌, ◌-◌}
use lib.Dec.{leb}
use lib.ListN.{length, take, replicate}
use borrow.Author.Tests.{leb-true}
use Rattle.model.specs.Bytes.{Bytes, every}
use Rattle.model.specs.Path.{Path, is_path, short}
use Rattle.model.specs.Map.{keys, rekey}
use Rattle.model.specs.Tree.{Table, Tree, shown, Kind, a_directory, a_file, kind, is_directory}
use Rattle.model.specs.Listing.{tree_in}
use Rattle.model.specs.Table.{encode, padded, charge, record_of, table_in}
use Rattle.model.specs.Checks.{Check, pass, refuse, ◌then◌, unless, Memory, limited, charged}
use Rattle.model.specs.Rename.{carried, moved, keys_fit, rename_paths, rename_types, directory_memory, rename_memory, onto_itself}
use Rattle.model.specs.Calls.{rename, forms}
use Rattle.model.specs.Answer.{told_refusal}
use Rattle.model.specs.Outcome.{Given, Request, Outcome, table_after, room, verdict, settle, outcome}
use Rattle.model.specs.declared.Record.{Record}
use Rattle.model.specs.declared.Refusal.{Refusal}
use Rattle.model.specs.declared.Answered.{Answered}
use Rattle.std.specs.Prelude.{Ok, Err}
use Rattle.model.proofs.Invariant.{then_pass, unless_pass}
use Rattle.model.proofs.Passed.{elsewhere_two, types_passed}
use Rattle.base_fields.proofs.Zeros.{zeroed_all}
use Rattle.check_lent.proofs.Firsts.{both_paths}
use Rattle.check_judged.specs.Judged.{as_check}
use Rattle.check_judged.proofs.Thens.{stops}
use Rattle.call_answer.specs.Meets.{requested, stored, Meets}
use Rattle.call_answer.proofs.Settles.{told_so, unchanged_meets}
use Rattle.call_answer.proofs.Admits.{given_verdict}
use Rattle.rename_checks.specs.Early.{EarlyPassed}
use Rattle.rename_checks.proofs.Passed.{kind_whole}
use Rattle.rename_settle.specs.Settled.{last_checks}

-- the checks from 3 on, in the groups in which they are made: each path by itself; behind that both together with the plan and the walk, then 11 to 13
by_paths : (a b c d : Check) → (a then (b then c) then d) ≡ ((a then b) then c then d)
by_paths (refuse n w k) b c d = refl
by_paths pass (refuse n w k) c d = refl
by_paths pass pass c d = refl

by_moves : (a b c d e : Check) → ((a then b then c then d) then e) ≡ ((a then b) then c then d then e)
by_moves (refuse n w k) b c d e = refl
by_moves pass (refuse n w k) c d e = refl
by_moves pass pass (refuse n w k) d e = refl
by_moves pass pass pass d e = refl

-- 3 passed
pub forms_known : (a b : Path) → pass ≡ forms (rename a b) → (is_path a ≡ true) × (is_path b ≡ true)
forms_known a b e = both_paths a b (sym e)

-- 11, 12 and 13 passed: the keys are short, and there is room
all_three : (c k u : Bool) → (unless 11 c then unless 12 k then unless 13 u) ≡ pass → (k ≡ true) × (u ≡ true)
all_three c k u h =
    let charge = then_pass (unless 11 c) (unless 12 k then unless 13 u) h in
    let last = then_pass (unless 12 k) (unless 13 u) charge.1 in
    (unless_pass 12 k last.0, unless_pass 13 u last.1)

-- rename behind 1 and 2, with the work buffer w
module _ (l s : Bytes) (r : Record) (w : Bytes) (a b : Path) (limit : ℕ) (given : Given l s r) (long : length s ≤ length w) where
  abbrev q : Request
  q = requested (rename a b) limit w

  abbrev m : Memory
  m = limited r.entry_size limit

  abbrev t : Table
  t = table_in s r

  abbrev g : Tree
  g = tree_in l

  abbrev new : Table
  new = moved t g a b

  -- 3, and each path by itself
  abbrev first : Check
  first = forms (rename a b) then rename_paths t g a b

  abbrev thirteen : Check
  thirteen = unless 13 (room l q (stored s r))

  -- both together, and what moving takes of the memory
  abbrev moves : Check
  moves = rename_types t g a b then rename_memory m t g a b

  verdict_is : verdict l q (stored s r) ≡ (first then cond (onto_itself (shown t g) a b) pass moves then thirteen)
  verdict_is =
      given_verdict l q (stored s r) given long
      ∙ by_paths (forms (rename a b)) (rename_paths t g a b) (cond (onto_itself (shown t g) a b) pass moves) thirteen

  -- 3, or a path by itself, is refused with x
  pub paths_refused : (x : Refusal) → as_check (told_refusal x) ≡ first → (o : Answered) → o ≡ record { answer = Err x; «record» = r }
      → Meets (outcome l q (stored s r)) o s w
  paths_refused x e =
      told_so l q (stored s r) x (verdict_is ∙ sym (stops first (cond (onto_itself (shown t g) a b) pass moves then thirteen) x e))

  -- onto itself, with the work buffer v zeroed
  pub itself_meets : pass ≡ first → true ≡ onto_itself (shown t g) a b → (v : Bytes) → v ≡ take 0 w ++ replicate (length w - 0) 0
      → Meets (outcome l q (stored s r)) (record { answer = Ok 0; «record» = r }) s v
  itself_meets h y v z =
      let o : onto_itself (shown t g) a b ≡ true = sym y in
      unchanged_meets l q (stored s r) given.table_is (ap (λ (k : Bool). cond k t (moved t g a b)) o)
      (verdict_is ∙ ap (λ (c : Check). c then cond (onto_itself (shown t g) a b) pass moves then thirteen) (sym h)
      ∙ ap (λ (k : Bool). cond k pass moves then thirteen) o) v (z ∙ zeroed_all w)

  -- a move to another path, once each path by itself has passed
  module _ (p : first ≡ pass) (n : onto_itself (shown t g) a b ≡ false) where
    pub paths : (is_path a ≡ true) × (is_path b ≡ true)
    paths = both_paths a b (then_pass (forms (rename a b)) (rename_paths t g a b) p).0

    -- what is judged before 11, and 11 to 13
    abbrev judgement : Check
    judgement = rename_types t g a b then directory_memory m t g a b

    abbrev rest : Check
    rest = last_checks m (length s) t g a b

    new_table : table_after l q (stored s r) ≡ new
    new_table = ap (λ (x : Bool). cond x t new) n

    move_verdict : verdict l q (stored s r) ≡ (judgement then rest)
    move_verdict =
        verdict_is
        ∙ ap (λ (y : Check). y then cond (onto_itself (shown t g) a b) pass moves then thirteen) p
        ∙ ap (λ (x : Bool). cond x pass moves then thirteen) n
        ∙ by_moves (rename_types t g a b) (directory_memory m t g a b) (charged m new) (keys_fit m (rekey a b (carried t g a))) thirteen
        ∙ ap (λ (y : Table). judgement then charged m new then keys_fit m (rekey a b (carried t g a)) then unless 13 (leb (length (encode y)) (length s))) new_table

    -- it is refused with x
    pub move_refused : (x : Refusal) → as_check (told_refusal x) ≡ judgement → (o : Answered) → o ≡ record { answer = Err x; «record» = r }
        → Meets (outcome l q (stored s r)) o s w
    move_refused x e = told_so l q (stored s r) x (move_verdict ∙ sym (stops judgement rest x e))

    module _ (h : pass ≡ judgement) where
      types : rename_types t g a b ≡ pass
      types = (then_pass (rename_types t g a b) (directory_memory m t g a b) (sym h)).0

      -- all that stands before the plan
      pub early : EarlyPassed t g a b
      early = record {
        two = elsewhere_two (shown t g) a b (length a) n (types_passed t g a b types).source_present;
        paths = (then_pass (forms (rename a b)) (rename_paths t g a b) p).1;
        types = types;
      }

      -- what the source shows, by whether it moves with all below it
      pub source_kind : (k : Kind) → k ≡ kind (shown t g) a → (x : Bool) → x ≡ is_directory k
          → kind (shown t g) a ≡ cond x a_directory a_file
      source_kind = kind_whole t g a b early

      decides : verdict l q (stored s r) ≡ rest
      decides = move_verdict ∙ ap (λ (y : Check). y then rest) (sym h)

      -- 11, 12 or 13 refuses it with y
      pub settled_refused : (y : Refusal) → as_check (told_refusal y) ≡ rest → (o : Answered) → o ≡ record { answer = Err y; «record» = r }
          → Meets (outcome l q (stored s r)) o s w
      settled_refused y e = told_so l q (stored s r) y (decides ∙ sym e)

      -- they passed
      module _ (f : pass ≡ rest) where
        pub settled_fits : (every short (keys (rekey a b (carried t g a))) ≡ true) × (length (encode new) ≤ length s)
        settled_fits =
            let y = all_three (leb (charge r.entry_size new) limit) (every short (keys (rekey a b (carried t g a))))
            (leb (length (encode new)) (length s)) (sym f) in
            (y.0, leb-true (length (encode new)) (length s) y.1)

        -- the table u and the work buffer v were written
        pub settled_done : (after : Record) → after ≡ record_of r.entry_size new → (u v : Bytes)
            → u ≡ padded (length s) (encode new) → v ≡ replicate (length w) 0
            → Meets (outcome l q (stored s r)) (record { answer = Ok 0; «record» = after }) u v
        settled_done after i u v y z =
            let o : outcome l q (stored s r) ≡ settle pass l q (stored s r) =
            ap (λ (c : Check). settle c l q (stored s r)) (decides ∙ sym f) in
            record {
              answer = sym (ap (λ (c : Outcome). c.reply) o);
              rec = i ∙ ap (record_of r.entry_size) (sym new_table) ∙ sym (ap (λ (c : Outcome). c.store.rec) o);
              bytes = y ∙ ap (λ (c : Table). padded (length s) (encode c)) (sym new_table) ∙ sym (ap (λ (c : Outcome). c.store.table) o);
              buffer = z ∙ sym (ap (λ (c : Outcome). c.work) o);
            }
