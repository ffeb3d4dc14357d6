-- #103: what an accepted append and an accepted writing inside have passed, and that both can write the file.
use mathlib.Core.Path.{◌≡◌, refl}
use mathlib.Core.List.{[], ◌∷◌}
use mathlib.Core.Bool.{Bool, true, false, cond}
use mathlib.Core.Option.{Option, none, some}
use Prim.Native.Nat.{ℕ, ◌+◌}
use lib.Dec.{ltb, eqb}
use lib.ListN.{length}
use Rattle.model.specs.Bytes.{Bytes}
use Rattle.model.specs.Path.{Path}
use Rattle.model.specs.Tree.{held, listed, Node, dir, file, link, Table, Tree, View, shown, kind}
use Rattle.model.specs.Checks.{pass, refuse, ◌then◌, unless, write_checks, Memory, charged}
use Rattle.model.specs.Content.{is_own, content_of, needed, appended, append_checks, append_memory, own_at, inside_checks}
use Rattle.model.specs.Calls.{append, write_inside, changed, rules}
use Rattle.model.proofs.Orders.{bot, eqb_eq}
use Rattle.model.proofs.Invariant.{Inv, kind_at, then_pass, unless_pass, parents_pass}

-- where append's checks pass, the count of lent bytes is right
pub count_passed : (f : View) (p : Path) (b : Bytes) → append_checks f p b ≡ pass → eqb (length b) (needed (f p)) ≡ true
count_passed f p b h =
    let n = eqb (length b) (needed (f p)) in
    unless_pass 17 n (then_pass (write_checks f p) (unless 17 n) h).1

-- an accepted append, check by check
pub record AppendPassed (memory : Memory) (t : Table) (l : Tree) (p : Path) (m : ℕ) (d b : Bytes) : Type 0 where
  pub checks : append_checks (shown t l) p b ≡ pass
  pub writes : write_checks (shown t l) p ≡ pass
  pub count : eqb (length b) (needed (shown t l p)) ≡ true
  pub budget : append_memory memory t (shown t l p) (length (appended (shown t l p) d b)) ≡ pass
  pub charge_fits : charged memory (changed t l (append p m d b)) ≡ pass

pub append_passed : (memory : Memory) (t : Table) (l : Tree) (p : Path) (m : ℕ) (d b : Bytes) → rules memory t l (append p m d b) ≡ pass
    → AppendPassed memory t l p m d b
append_passed memory t l p m d b h =
    let y = append_memory memory t (shown t l p) (length (appended (shown t l p) d b)) in
    let z = charged memory (changed t l (append p m d b)) in
    let n = unless 17 (eqb (length b) (needed (shown t l p))) in
    let x = then_pass (append_checks (shown t l) p b) (y then z) h in
    let w = then_pass (write_checks (shown t l) p) n x.0 in
    let u = then_pass y z x.1 in
    record {
      checks = x.0;
      writes = w.0;
      count = count_passed (shown t l) p b x.0;
      budget = u.0;
      charge_fits = u.1;
    }

-- an accepted writing inside, check by check
pub record InsidePassed (memory : Memory) (t : Table) (l : Tree) (p : Path) (m o : ℕ) (d : Bytes) : Type 0 where
  pub checks : inside_checks (shown t l) p o d ≡ pass
  pub own : own_at (shown t l) p ≡ true
  pub range : ltb (o + length d) 0x1_0000_0000_0000_0000 ≡ true
  pub charge_fits : charged memory (changed t l (write_inside p m o d)) ≡ pass

own_passed : (b : Bool) (n : ℕ) → cond b pass (refuse 5 0 n) ≡ pass → b ≡ true
own_passed true n h = refl
own_passed false n h = cc

pub inside_passed : (memory : Memory) (t : Table) (l : Tree) (p : Path) (m o : ℕ) (d : Bytes) → rules memory t l (write_inside p m o d) ≡ pass
    → InsidePassed memory t l p m o d
inside_passed memory t l p m o d h =
    let y = unless 18 (ltb (o + length d) 0x1_0000_0000_0000_0000) in
    let x = then_pass (inside_checks (shown t l) p o d) (charged memory (changed t l (write_inside p m o d))) h in
    let w = then_pass (cond (own_at (shown t l) p) pass (refuse 5 0 (length p))) y x.0 in
    record {
      checks = x.0;
      own = own_passed (own_at (shown t l) p) (length p) w.0;
      range = unless_pass 18 (ltb (o + length d) 0x1_0000_0000_0000_0000) w.1;
      charge_fits = x.1;
    }

-- what an own file shows
pub record OwnFile (f : View) (p : Path) : Type 0 where
  pub mtime : ℕ
  pub size : ℕ
  pub content : Bytes
  pub proper : p ≡ [] → ⊥
  pub node : f p ≡ some (file mtime size (held content))

pub own_file : (f : View) (p : Path) → own_at f p ≡ true → OwnFile f p
own_file f [] h = absurd (bot (cc))
own_file f (c ∷ p) h = go (f (c ∷ p)) refl h
  where
    go : (o : Option Node) → f (c ∷ p) ≡ o → is_own o ≡ true → OwnFile f (c ∷ p)
    go none e h = absurd (bot (cc))
    go (some (dir m)) e h = absurd (bot (cc))
    go (some (file m z (held x))) e h = record { mtime = m; size = z; content = x; proper = λ z. bot (cc); node = e }
    go (some (file m z (listed x))) e h = absurd (bot (cc))
    go (some link) e h = absurd (bot (cc))

-- an own file can be written: where the invariant holds, what is above it are directories
pub inside_write : (t : Table) (l : Tree) → Inv t l → (p : Path) → own_at (shown t l) p ≡ true → write_checks (shown t l) p ≡ pass
inside_write t l i p h =
    let o = own_file (shown t l) p h in
    let n = file o.mtime o.size (held o.content) in
    cc (kind_at (shown t l) p (some n) o.node o.proper, parents_pass 0 (length p) (kind (shown t l)) p (λ q b. i.closed q p n b o.node))

none_lent : (b : Bytes) → eqb (length b) 0 ≡ true → [] ≡ b
none_lent [] e = refl
none_lent (c ∷ b) e = let x = eqb_eq (length (c ∷ b)) 0 e in absurd (bot (cc))

-- where the file is no own one and the lent bytes are as many as needed, they are what it holds
pub lent_content : (o : Option Node) (b : Bytes) → is_own o ≡ false → eqb (length b) (needed o) ≡ true → content_of o b ≡ b
lent_content none b h e = none_lent b e
lent_content (some (dir m)) b h e = none_lent b e
lent_content (some (file m z (held c))) b h e = absurd (bot (cc))
lent_content (some (file m z (listed q))) b h e = refl
lent_content (some link) b h e = none_lent b e
