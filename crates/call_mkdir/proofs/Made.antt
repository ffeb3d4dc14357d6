-- The directories that mkdir makes: put by where they end in the path, they give the table of the definition.
use mathlib.Core.Path.{◌≡◌, refl, sym, ap, ap₂, ◌∙◌}
use mathlib.Core.Bool.{Bool, true, false, cond, ◌||◌}
use mathlib.Core.List.{List, [], ◌∷◌, ◌++◌, map}
use mathlib.Core.Option.{Option, none, some}
use Prim.Native.Nat.{ℕ, ◌<◌, ◌≤◌}
use native.Mathlib.Omega.{arith}
use lib.Dec.{eqb}
use lib.ListN.{length, take}
use lib.Seq.{take_all}
use borrow.Author.Tests.{lt-ltb, le-leb}
use Rattle.model.specs.Bytes.{Bytes, same}
use Rattle.model.specs.Path.{Path, ancestors}
use Rattle.model.specs.Map.{lookup, puts, each}
use Rattle.model.specs.Tree.{Entry, directory, Table, View, shown, Kind, nothing, a_directory, a_file, a_link, kind, is_nothing}
use Rattle.model.specs.Listing.{tree_in}
use Rattle.model.specs.Table.{table_in, is_table}
use Rattle.model.specs.Checks.{Check, pass, ◌then◌, parent_at, parents_in, parent_checks, missing, makes}
use Rattle.model.specs.declared.Record.{Record}
use Rattle.model.proofs.Orders.{bot, yea, nay, test, mem}
use Rattle.model.proofs.Maps.{Ascending, or_else, lookup_puts, lookup_each, ascending_puts, ascends_is, map_ext}
use Rattle.model.proofs.Codec.{decoded}
use Rattle.model.specs.declared.Refusal.{Refusal}
use Rattle.base_paths.specs.declared.prefixes.Dirs.{Dirs}
use Rattle.base_paths.specs.Dirs.{ends_of, climbs, prefixes}
use Rattle.std.specs.Prelude.{Result, Ok, Err, IfOk}
use Rattle.call_mkdir.specs.Judged.{Makes}
use Rattle.check_parents.specs.Missing.{missing_ends}

-- the ancestors of a path are what ends where they end, and so are the missing ones
longer : (b : ℕ) (p : Path) (qs : List Path) → prefixes p (map length qs) ≡ qs
    → prefixes (b ∷ p) (map length (map (λ (q : Path). b ∷ q) qs)) ≡ map (λ (q : Path). b ∷ q) qs
longer b p [] h = refl
longer b p (q ∷ qs) h =
    let a : take (length q) p ≡ q = cc in
    let c : prefixes p (map length qs) ≡ qs = cc in
    ap₂ (λ (x : Path) (xs : List Path). (b ∷ x) ∷ xs) a (longer b p qs c)

ancestor_prefixes : (p : Path) → prefixes p (map length (ancestors p)) ≡ ancestors p
ancestor_prefixes [] = refl
ancestor_prefixes (b ∷ p) =
    let e = longer b p (ancestors p) (ancestor_prefixes p) in
    elim (test (eqb b 47)) [ yea w ↦ rw w (ap (λ (qs : List Path). [] ∷ qs) e) | nay w ↦ rw w e ]

missing_prefixes : (g : Path → Kind) (p : Path) (qs : List Path) → prefixes p (map length qs) ≡ qs
    → prefixes p (map length (missing g qs)) ≡ missing g qs
missing_prefixes g p [] h = refl
missing_prefixes g p (q ∷ qs) h =
    let a : take (length q) p ≡ q = cc in
    let b : prefixes p (map length qs) ≡ qs = cc in
    let ih = missing_prefixes g p qs b in
    elim (test (is_nothing (g q))) [ yea w ↦ rw w (ap₂ ◌∷◌ a ih) | nay w ↦ rw w ih ]

prefixes_append : (p : Path) (es ds : List ℕ) → prefixes p (es ++ ds) ≡ prefixes p es ++ prefixes p ds
prefixes_append p [] ds = refl
prefixes_append p (e ∷ es) ds = ap (λ (qs : List Path). take e p ∷ qs) (prefixes_append p es ds)

whole : (p : Path) → take (length p) p ≡ p
whole p = take_all (length p) p (omega arith)

all_prefixes : (g : Path → Kind) (p : Path) → prefixes p (missing_ends g p) ≡ missing g (ancestors p) ++ (p ∷ [])
all_prefixes g p =
    prefixes_append p (map length (missing g (ancestors p))) (length p ∷ [])
    ∙ ap₂ (λ (qs : List Path) (q : Path). qs ++ (q ∷ [])) (missing_prefixes g p (ancestors p) (ancestor_prefixes p)) (whole p)

-- the same paths in another order, put into a table, give the same
swap : (a b c : Bool) → (a || (b || c)) ≡ (b || (a || c))
swap true true c = refl
swap true false c = refl
swap false true c = refl
swap false false c = refl

mem_last : (q : Path) (xs : List Path) (p : Path) → mem q (xs ++ (p ∷ [])) ≡ mem q (p ∷ xs)
mem_last q [] p = refl
mem_last q (x ∷ xs) p = ap (λ (b : Bool). same x q || b) (mem_last q xs p) ∙ swap (same x q) (same p q) (mem q xs)

puts_alike : (v : Entry) (xs ys : List Path) (t : Table) → Ascending t → ((q : Path) → mem q xs ≡ mem q ys) → puts (each v xs) t ≡ puts (each v ys) t
puts_alike v xs ys t a h =
    map_ext (puts (each v xs) t) (puts (each v ys) t) (ascending_puts (each v xs) t a) (ascending_puts (each v ys) t a) (λ q.
    lookup_puts (each v xs) t q
    ∙ ap (λ (o : Option Entry). or_else o (lookup t q))
    (lookup_each v xs q ∙ ap (λ (b : Bool). cond b (some v) none) (h q) ∙ sym (lookup_each v ys q))
    ∙ sym (lookup_puts (each v ys) t q))

-- where nothing is shown at the path, it is made, and its missing ancestors
makes_nothing : (f : View) (p : Path) → is_nothing (kind f p) ≡ true → makes f p ≡ p ∷ missing (kind f) (ancestors p)
makes_nothing f p h = rw h

-- parents that pass are all there
passed_parent : (w n : ℕ) (k : Kind) (c : Check) → (parent_at w n k then c) ≡ pass → (is_nothing k ≡ false) × (c ≡ pass)
passed_parent w n nothing c h = absurd (bot (cc))
passed_parent w n a_directory c h = (refl, h)
passed_parent w n a_file c h = absurd (bot (cc))
passed_parent w n a_link c h = absurd (bot (cc))

none_missing : (w n : ℕ) (g : Path → Kind) (qs : List Path) → parents_in w n g qs ≡ pass → missing g qs ≡ []
none_missing w n g [] h = refl
none_missing w n g (q ∷ qs) h =
    let e = passed_parent w n (g q) (parents_in w n g qs) h in
    let ih = none_missing w n g qs e.1 in
    rw e.0 ih

module _ (l s : Bytes) (r : Record) (p : Path) where
  abbrev t : Table
  t = table_in s r

  abbrev f : View
  f = shown t (tree_in l)

  -- with the flag: the missing ancestors and the path
  made_all : is_table s r ≡ true → (es : List ℕ) → es ≡ missing_ends (kind f) p → is_nothing (kind f p) ≡ true → (m : ℕ)
      → puts (each (directory m) (prefixes p es)) t ≡ puts (each (directory m) (makes f p)) t
  made_all h es e n m =
      let a = (ascends_is [] t (decoded s r h).ascending).1 in
      ap (λ (qs : List Path). puts (each (directory m) qs) t) (ap (prefixes p) e ∙ all_prefixes (kind f) p)
      ∙ puts_alike (directory m) (missing (kind f) (ancestors p) ++ (p ∷ [])) (p ∷ missing (kind f) (ancestors p)) t a
      (λ q. mem_last q (missing (kind f) (ancestors p)) p)
      ∙ sym (ap (λ (qs : List Path). puts (each (directory m) qs) t) (makes_nothing f p n))

  -- so they are what mkdir makes; j is what the ancestors' check gave
  pub made_dirs : is_table s r ≡ true → (j : Result Dirs Refusal) → IfOk j (λ d. ends_of d ≡ missing_ends (kind f) p)
      → IfOk j (λ d. (d.count ≤ 32) × (climbs 0 (length p) (ends_of d) ≡ true)) → IfOk j (λ d. is_nothing (kind f p) ≡ true → Makes l s r p d)
  made_dirs h (Ok d) e b = λ n. record { count = b.0; climb = b.1; table = made_all h (ends_of d) e n }
  made_dirs h (Err x) e b = tt

  -- without it: the path alone, since its parents are there
  pub made_one : (es : List ℕ) → es ≡ length p ∷ [] → pass ≡ parent_checks 0 f p → is_nothing (kind f p) ≡ true → (m : ℕ)
      → puts (each (directory m) (prefixes p es)) t ≡ puts (each (directory m) (makes f p)) t
  made_one es e h n m =
      let a : prefixes p es ≡ p ∷ [] = ap (prefixes p) e ∙ ap (λ (q : Path). q ∷ []) (whole p) in
      let b : makes f p ≡ p ∷ [] = makes_nothing f p n ∙ ap (λ (qs : List Path). p ∷ qs) (none_missing 0 (length p) (kind f) (ancestors p) (sym h)) in
      ap (λ (qs : List Path). puts (each (directory m) qs) t) (a ∙ sym b)

-- the path's end alone climbs to it
pub one_climbs : (n : ℕ) (es : List ℕ) → es ≡ n ∷ [] → 0 < n → climbs 0 n es ≡ true
one_climbs n es e h =
    let a : climbs 0 n (n ∷ []) ≡ true = cc (lt-ltb 0 n h, le-leb n n (omega arith)) in
    ap (climbs 0 n) e ∙ a
