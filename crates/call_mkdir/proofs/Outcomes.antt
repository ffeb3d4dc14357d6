-- From the step that mkdir takes to its outcome: refused, accepted as it stands, or as the insertion answers.
use mathlib.Core.Path.{◌≡◌, refl, sym, ap, ◌∙◌}
use mathlib.Core.Bool.{Bool}
use mathlib.Core.List.{List, [], ◌++◌}
use Prim.Native.Nat.{ℕ, ◌≤◌, ◌-◌}
use lib.ListN.{length, take, replicate}
use Rattle.model.specs.Bytes.{Bytes}
use Rattle.model.specs.Path.{Path}
use Rattle.model.specs.Map.{puts, each}
use Rattle.model.specs.Tree.{directory, Table, View}
use Rattle.model.specs.Table.{encode, padded, table_in}
use Rattle.model.specs.Checks.{Check, pass, ◌then◌, unless, form, limited, charged, makes}
use Rattle.model.specs.Calls.{mkdir}
use Rattle.model.specs.Answer.{told_refusal}
use Rattle.model.specs.Outcome.{Given, shown_in, Request, room, verdict, outcome}
use Rattle.model.specs.declared.Record.{Record}
use Rattle.model.specs.declared.Refusal.{Refusal}
use Rattle.model.specs.declared.Answered.{Answered}
use Rattle.base_fields.proofs.Zeros.{zeroed_all}
use Rattle.std.specs.Prelude.{Option, Some, None, Ok, Err}
use Rattle.base_paths.specs.declared.prefixes.Dirs.{Dirs}
use Rattle.table_insert.specs.Insert.{Inserted, insertion, if_done}
use Rattle.check_judged.specs.Judged.{as_check}
use Rattle.check_judged.proofs.Checked.{refusal_refuses, refused_stops}
use Rattle.check_judged.proofs.Thens.{then_assoc}
use Rattle.call_answer.specs.Meets.{requested, stored, last, Meets, answered_of}
use Rattle.call_answer.proofs.Settles.{refused_meets, unchanged_meets, inserted_meets}
use Rattle.call_answer.proofs.Admits.{given_verdict}
use Rattle.call_mkdir.specs.Judged.{mkdir_checks, after_judging}

-- mkdir behind 1 and 2, with the work buffer w
module _ (l s : Bytes) (r : Record) (w : Bytes) (p : Path) (up ok : Bool) (mtime limit : ℕ) (g : Given l s r) (h : length s ≤ length w) where
  abbrev q : Request
  q = requested (mkdir p up ok mtime) limit w

  abbrev t : Table
  t = table_in s r

  abbrev f : View
  f = shown_in l s r

  abbrev made : List Path → Table
  made ks = puts (each (directory mtime) ks) t

  abbrev charge : Check
  charge = charged (limited r.entry_size limit) (made (makes f p))

  abbrev fits : Check
  fits = unless 13 (room l q (stored s r))

  -- what 3 to 8 give with the check `later` behind them
  abbrev pub Decides : (Check → Check) → Type 0
  Decides k = (later : Check) → (form 0 p then mkdir_checks f p up ok later) ≡ k later

  decides : (k : Check → Check) → Decides k → verdict l q (stored s r) ≡ (k charge then fits)
  decides k e =
      given_verdict l q (stored s r) g h
      ∙ sym (then_assoc (form 0 p) (mkdir_checks f p up ok charge) fits)
      ∙ ap (λ (c : Check). c then fits) (e charge)

  pub step_refused : (y : Refusal) → Decides (λ later. as_check (told_refusal y)) → (a : Answered) → a ≡ record { answer = Err y; «record» = r }
      → Meets (outcome l q (stored s r)) a s w
  step_refused y e =
      let c = as_check (told_refusal y) in
      let v : verdict l q (stored s r) ≡ (c then last l q (stored s r)) =
      decides (λ later. c) e ∙ refused_stops c fits (refusal_refuses y) ∙ sym (refused_stops c (last l q (stored s r)) (refusal_refuses y)) in
      refused_meets l q (stored s r) c v y refl

  -- nothing is made: the table is the one that was read, and the work buffer v is zeroed
  pub step_there : (o : Option Dirs) → o ≡ None → Decides (after_judging (Ok o)) → makes f p ≡ [] → (v : Bytes) → v ≡ take 0 w ++ replicate (length w - 0) 0
      → Meets (outcome l q (stored s r)) (record { answer = Ok 0; «record» = r }) s v
  step_there o i e n v z =
      unchanged_meets l q (stored s r) g.table_is (ap made n)
      (decides (after_judging (Ok o)) e ∙ ap (λ (x : Option Dirs). after_judging (Ok x) charge then fits) i) v (z ∙ zeroed_all w)

  -- the directories ks were given to the insertion, which answered i and left u and v
  pub step_made : (o : Option Dirs) (ds : Dirs) → o ≡ Some ds → Decides (after_judging (Ok o)) → (ks : List Path) → made ks ≡ made (makes f p) → (i : Inserted) → i ≡ insertion r.entry_size limit (length s) (made ks)
      → (u v : Bytes) → u ≡ if_done i (padded (length s) (encode (made ks))) s → v ≡ if_done i (replicate (length w) 0) w
      → (a : Answered) → a ≡ answered_of i r 0 → Meets (outcome l q (stored s r)) a u v
  step_made o ds z e ks m i n u v b d a k =
      inserted_meets l q (stored s r) pass
      (decides (after_judging (Ok o)) e ∙ ap (λ (x : Option Dirs). after_judging (Ok x) charge then fits) z) refl i (n ∙ ap (insertion r.entry_size limit (length s)) m) u v
      (b ∙ ap (λ (y : Table). if_done i (padded (length s) (encode y)) s) m) d a k
