-- 11, 12 and 13 by what was measured; what the checks before them give that the measuring asks for.
use mathlib.Core.Path.{◌≡◌, refl, ap, sym, ◌∙◌}
use mathlib.Core.List.{[], ◌∷◌}
use mathlib.Core.Bool.{Bool, true, false, cond, not}
use mathlib.Core.Option.{Option, none, some}
use Prim.Native.Nat.{ℕ, ◌<◌}
use native.Mathlib.Omega.{arith}
use lib.Dec.{leb}
use lib.ListN.{length}
use Rattle.model.specs.Bytes.{every}
use Rattle.model.specs.Path.{Path, short}
use Rattle.model.specs.Map.{lookup, puts, only, keys, rekey, mapped}
use Rattle.model.specs.Tree.{Node, Entry, Table, Tree, shown, a_directory, a_file, kind}
use Rattle.model.specs.Table.{body_of, encode, charge}
use Rattle.model.specs.Checks.{Check, ◌then◌, unless, limited}
use Rattle.model.specs.Rename.{as_entry, uncovered, carried, moved}
use Rattle.model.specs.declared.Record.{Record}
use Rattle.model.specs.declared.Refusal.TheVariants.{Limit, KeyTooLong, NoRoom}
use Rattle.model.proofs.Orders.{Lt, bot}
use Rattle.model.proofs.Maps.{or_else, map_o}
use Rattle.rename_checks.specs.Early.{EarlyPassed}
use Rattle.rename_checks.proofs.Passed.{no_roots}
use Rattle.rename_laws.proofs.Moves.{loose_top}
use Rattle.rename_measure.specs.declared.Projected.{Projected}
use Rattle.rename_measure.specs.Tallies.{Source, Foretold}
use Rattle.rename_measure.proofs.Sources.{source_directory, source_file}
use Rattle.rename_write.specs.Sequence.{top_of, top}
use Rattle.std.specs.Prelude.{Result, Ok, Err}
use Rattle.model.specs.declared.Refusal.{Refusal}
use Rattle.check_judged.specs.Judged.{check_of}
use Rattle.rename_settle.specs.Settled.{last_checks, settled_of}

-- 11, 12 and 13: c whether the charge is within the limit, k whether every key is short, u whether there is room
abbrev lasts : (c k u : Bool) → Check
lasts c k u = unless 11 c then unless 12 k then unless 13 u

abbrev outcomes : (c g u : Bool) → Record → Result Record Refusal
outcomes c g u r = cond c (cond g (Err KeyTooLong) (cond u (Ok r) (Err NoRoom))) (Err Limit)

by_tests : (c g u : Bool) (r : Record) → check_of (outcomes c g u r) ≡ lasts c (not g) u
by_tests false g u r = refl
by_tests true true u r = refl
by_tests true false false r = refl
by_tests true false true r = refl

-- the room counts only where every key is short
same_lasts : (c d j k u v : Bool) → c ≡ d → j ≡ k → (j ≡ true → u ≡ v) → lasts c j u ≡ lasts d k v
same_lasts c d true k u v e f g = ap (λ (x : Bool). lasts x true u) e ∙ ap (λ (x : Bool). lasts d x u) f ∙ ap (lasts d k) (g refl)
same_lasts c d false k u v e f g = ap (λ (x : Bool). lasts x false v) e ∙ ap (λ (x : Bool). lasts d x v) f

not-not : (x y : Bool) → x ≡ not y → not x ≡ y
not-not x true h = ap not h
not-not x false h = ap not h

-- p foretells what rename leaves, and x is what is settled by it, with n bytes for the table
module _ (E : ℕ) (t : Table) (l : Tree) (a b : Path) (p : Projected) (f : Foretold E t l a b p) (limit n : ℕ) (x : Result Record Refusal)
    (e : x ≡ settled_of p limit n) where
  not_long : not p.long ≡ every short (keys (rekey a b (carried t l a)))
  not_long = not-not p.long (every short (keys (rekey a b (carried t l a)))) f.long

  pub settled_check_lem : check_of x ≡ last_checks (limited E limit) n t l a b
  settled_check_lem =
      ap check_of e
      ∙ by_tests (leb p.charge limit) p.long (leb p.rec.used n) p.rec
      ∙ same_lasts (leb p.charge limit) (leb (charge E (moved t l a b)) limit) (not p.long) (every short (keys (rekey a b (carried t l a))))
      (leb p.rec.used n) (leb (length (encode (moved t l a b))) n) (ap (λ (y : ℕ). leb y limit) f.charge) not_long
      (λ h. ap (λ (y : Record). leb y.used n) (f.rec (sym (not-not (not p.long) p.long refl) ∙ ap not h)))

-- the entry that is carried from a itself
top_of_lem : (o : Option Entry) (n : Option Node) (e : Entry) → or_else o (map_o as_entry n) ≡ some e → e ≡ top_of o n
top_of_lem none none e h = absurd (bot (cc))
top_of_lem none (some n) e h = cc
top_of_lem (some x) n e h = cc

pub top_length : (t : Table) (l : Tree) (a : Path) (n : ℕ) → n ≡ length (body_of (top t l a)) → (e : Entry)
    → lookup (puts t (mapped as_entry (only (uncovered t a) l))) a ≡ some e → length (body_of e) ≡ n
top_length t l a n g e h =
    ap (λ (x : Entry). length (body_of x)) (top_of_lem (lookup t a) (lookup l a) e (sym (loose_top t l a) ∙ h)) ∙ sym g

some_long : (p : Path) → Lt [] p → 0 < length p
some_long [] h = absurd h
some_long (x ∷ p) h = omega arith

full : (p : Path) → 0 < length p → p ≡ [] → ⊥
full p h e = let z = ap length e in omega arith

-- what the checks before the plan leave
module _ (t : Table) (l : Tree) (a b : Path) (h : EarlyPassed t l a b) where
  pub not_roots : (0 < length a) × (0 < length b)
  not_roots = let r = no_roots t l a b h in (some_long a r.0, some_long b r.1)

  pub source_of : (w : Bool) → kind (shown t l) a ≡ cond w a_directory a_file → Source t l a w
  source_of true k = source_directory t l a (full a not_roots.0) k
  source_of false k = source_file t l a (full a not_roots.0) k
