-- Every answer fits in its packed number, and can be read from it again: a refusal's length is that of a path in form, and the value of an
-- accepted call that writes is the length of data that stands in a table.
use mathlib.Core.Path.{◌≡◌, refl, ap, sym, ◌∙◌, subst}
use mathlib.Core.Bool.{Bool, true, false, cond}
use mathlib.Core.List.{[]}
use Prim.Native.Nat.{ℕ, ◌/◌, ◌%◌, ◌<◌, ◌≤◌}
use native.Mathlib.Omega.{arith}
use lib.Dec.{leb}
use lib.ListN.{length, length-append}
use borrow.Author.Tests.{leb-true}
use Rattle.model.specs.Bytes.{Bytes}
use Rattle.model.specs.Path.{Path, is_path}
use Rattle.model.specs.Map.{put}
use Rattle.model.specs.Tree.{own, shown, kind}
use Rattle.model.specs.Table.{encode, is_table, table_in, sized}
use Rattle.model.specs.Listing.{is_listing, tree_in}
use Rattle.model.specs.Checks.{Check, pass, refuse, ◌then◌, unless, form, limited}
use Rattle.model.specs.Content.{content_of, appended, spliced}
use Rattle.model.specs.Calls.{Call, write, append, write_inside, mkdir, unlink, rmdir, rename, changed, forms, rules, value_of, Query, says}
use Rattle.model.specs.Answer.{accepted, refused}
use Rattle.model.specs.Outcome.{Store, Request, lent, room, verdict, settle, outcome, answered, ask, opened}
use Rattle.model.proofs.Orders.{yea, nay, test, and_true}
use Rattle.model.proofs.Codec.{decoded, path_short}
use Rattle.model.proofs.Invariant.{then_pass, unless_pass, form_is}
use Rattle.model.proofs.Splices.{spliced_length}
use Rattle.model.proofs.Rules.{below_length}
use Rattle.model.proofs.Shapes.{Names, written, added, inside, made, unlinked, removed, source, destination, Shaped, table, listing, malformed, at_path, at_ancestor, below_source, limit, key_too_long, no_room, lent_count, range_too_large, shaped}
use Rattle.model.proofs.Shapes.{bad_table_refused, bad_listing_refused, bad_path_refused}
use Rattle.table_insert.proofs.Inserts as inserts
use Rattle.overlay_packed.specs.Packed.{packed, Fits}

-- the parts of a packed answer
pub unpacked : (n p l : ℕ) → Fits (refused n p l)
    → (packed (refused n p l) % 256 ≡ n) × (packed (refused n p l) / 256 % 256 ≡ p) × (packed (refused n p l) / 65536 ≡ l)
unpacked n p l h =
    let a = h.0 in
    let b = h.1 in
    (omega arith, omega arith, omega arith)

pub unpacked_value : (v : ℕ) → (packed (accepted v) % 65536 ≡ 0) × (packed (accepted v) / 65536 ≡ v)
unpacked_value v = (omega arith, omega arith)

-- the paths of a call: at most two, and short where they are in form
names_few : {c : Call} {w : ℕ} {p : Path} → Names c w p → w < 2
names_few (written p m d) = omega arith
names_few (added p m d b) = omega arith
names_few (inside p m o d) = omega arith
names_few (made p up ok m) = omega arith
names_few (unlinked p) = omega arith
names_few (removed p) = omega arith
names_few (source a b) = omega arith
names_few (destination a b) = omega arith

formed : (w : ℕ) (p : Path) → form w p ≡ pass → length p ≤ 512
formed w p h = path_short p (form_is w p h)

names_short : {c : Call} {w : ℕ} {p : Path} → forms c ≡ pass → Names c w p → length p ≤ 512
names_short h (written p m d) = formed 0 p h
names_short h (added p m d b) = formed 0 p h
names_short h (inside p m o d) = formed 0 p h
names_short h (made p up ok m) = formed 0 p h
names_short h (unlinked p) = formed 0 p h
names_short h (removed p) = formed 0 p h
names_short h (source a b) = formed 0 a (then_pass (form 0 a) (form 1 b) h).0
names_short h (destination a b) = formed 1 b (then_pass (form 0 a) (form 1 b) h).1

-- a refusal of a call whose paths are in form
shape_fits : {c : Call} {n w k : ℕ} → forms c ≡ pass → Shaped c n w k → Fits (refused n w k)
shape_fits f table = (omega arith, omega arith, omega arith)
shape_fits f listing = (omega arith, omega arith, omega arith)
shape_fits f (malformed w p m) = let a = names_few m in (omega arith, omega arith, omega arith)
shape_fits f (at_path n w p lo hi m) = let a = names_few m in let b = names_short f m in (omega arith, omega arith, omega arith)
shape_fits f (at_ancestor p q ok m e h) =
    let a = below_length q p h in
    let b = names_short (sym (ap forms e) ∙ f) (made p true ok m) in
    (omega arith, omega arith, omega arith)
shape_fits f (below_source a b e) = let d = names_short (sym (ap forms e) ∙ f) (source a b) in (omega arith, omega arith, omega arith)
shape_fits f limit = (omega arith, omega arith, omega arith)
shape_fits f (key_too_long a b e) = (omega arith, omega arith, omega arith)
shape_fits f no_room = (omega arith, omega arith, omega arith)
shape_fits f (lent_count p m d b e) = (omega arith, omega arith, omega arith)
shape_fits f (range_too_large p m o d e) = (omega arith, omega arith, omega arith)

-- 3
abbrev FitsCheck : Check → Type 0
FitsCheck pass = Unit {0}
FitsCheck (refuse n w k) = Fits (refused n w k)

form_fits : (w : ℕ) (p : Path) → w < 2 → FitsCheck (form w p)
form_fits w p h = go (is_path p)
  where
    go : (b : Bool) → FitsCheck (cond b pass (refuse 3 w 0))
    go true = tt
    go false = (omega arith, omega arith, omega arith)

then_fits : (a b : Check) → FitsCheck a → FitsCheck b → FitsCheck (a then b)
then_fits pass b f g = g
then_fits (refuse n w k) b f g = f

forms_fit : (c : Call) → FitsCheck (forms c)
forms_fit (write p m d) = form_fits 0 p (omega arith)
forms_fit (append p m d b) = form_fits 0 p (omega arith)
forms_fit (write_inside p m o d) = form_fits 0 p (omega arith)
forms_fit (mkdir p up ok m) = form_fits 0 p (omega arith)
forms_fit (unlink p) = form_fits 0 p (omega arith)
forms_fit (rmdir p) = form_fits 0 p (omega arith)
forms_fit (rename a b) = then_fits (form 0 a) (form 1 b) (form_fits 0 a (omega arith)) (form_fits 1 b (omega arith))

module _ (l : Bytes) (q : Request) (s : Store) where
  -- 1 and 2 have no path and no length, 3 no length; behind them the paths are in form
  refused_fits : (n w k : ℕ) → (outcome l q s).reply ≡ refused n w k → Fits (refused n w k)
  refused_fits n w k h = elim (test (lent q s)) [
    | nay a ↦ subst Fits (sym (bad_table_refused l q s a) ∙ h) (omega arith, omega arith, omega arith)
    | yea a ↦ elim (test (is_listing l)) [
      | nay b ↦ subst Fits (sym (bad_listing_refused l q s a b) ∙ h) (omega arith, omega arith, omega arith)
      | yea b ↦ go a b (forms q.call) refl
    ]
  ]
    where
      go : lent q s ≡ true → is_listing l ≡ true → (x : Check) → forms q.call ≡ x → Fits (refused n w k)
      go a b pass e = shape_fits e (shaped l q s n w k h)
      go a b (refuse i j m) e = subst Fits (sym (bad_path_refused l q s i j m a b e) ∙ h) (subst FitsCheck e (forms_fit q.call))

  -- a content stands in the table, and a table has at most 16 MiB
  content_fits : (p : Path) (m : ℕ) (x : Bytes) → is_table s.table s.rec ≡ true
      → length (encode (put p (own m x) (table_in s.table s.rec))) ≤ length s.table → length x < 0x1_0000_0000_0000
  content_fits p m x h r =
      let n = (decoded s.table s.rec h).length_most in
      let f = inserts.room p (own m x) (table_in s.table s.rec) (length s.table) r in
      omega arith

  -- so do the data of an accepted call that writes, in the content that it leaves
  value_fits : (c : Call) → is_table s.table s.rec ≡ true
      → length (encode (changed (table_in s.table s.rec) (tree_in l) c)) ≤ length s.table → value_of c < 0x1_0000_0000_0000
  value_fits (write p m d) h r = content_fits p m d h r
  value_fits (append p m d b) h r =
      let o = shown (table_in s.table s.rec) (tree_in l) p in
      let f = content_fits p m (appended o d b) h r in
      let e = length-append (content_of o b) d in
      omega arith
  value_fits (write_inside p m o d) h r =
      let c : Bytes = content_of (shown (table_in s.table s.rec) (tree_in l) p) [] in
      let f = content_fits p m (spliced o d c) h r in
      let e = spliced_length o d c in
      omega arith
  value_fits (mkdir p up ok m) h r = omega arith
  value_fits (unlink p) h r = omega arith
  value_fits (rmdir p) h r = omega arith
  value_fits (rename a b) h r = omega arith

  accepted_fits : verdict l q s ≡ pass → value_of q.call < 0x1_0000_0000_0000
  accepted_fits h =
      let a = then_pass (unless 1 (lent q s)) _ h in
      let b = then_pass (unless 2 (is_listing l)) _ a.1 in
      let c = then_pass (forms q.call) _ b.1 in
      let d = then_pass (rules (limited s.rec.entry_size q.limit) (table_in s.table s.rec) (tree_in l) q.call) _ c.1 in
      let t = and_true (is_table s.table s.rec) (leb (length s.table) (length q.work)) (unless_pass 1 (lent q s) a.0) in
      value_fits q.call t.0 (leb-true (length (encode (changed (table_in s.table s.rec) (tree_in l) q.call))) (length s.table) (unless_pass 13 (room l q s) d.1))

  -- every answer of every changing call
  pub outcome_fits : Fits (outcome l q s).reply
  outcome_fits = go (verdict l q s) refl
    where
      go : (x : Check) → verdict l q s ≡ x → Fits (settle x l q s).reply
      go pass e = accepted_fits e
      go (refuse n w k) e = refused_fits n w k (ap (λ (x : Check). (settle x l q s).reply) e)

-- every answer of a query, and of opening
pub ask_fits : (f : Query) (l : Bytes) (p : Path) (s : Store) → Fits (ask f l p s)
ask_fits f l p s = go (is_table s.table s.rec) (is_listing l) (is_path p) (says f (kind (shown (table_in s.table s.rec) (tree_in l)) p))
  where
    go : (a b d y : Bool) → Fits (answered (unless 1 a then unless 2 b then cond d pass (refuse 3 0 0)) y)
    go false b d y = (omega arith, omega arith, omega arith)
    go true false d y = (omega arith, omega arith, omega arith)
    go true true false y = (omega arith, omega arith, omega arith)
    go true true true true = omega arith
    go true true true false = omega arith

pub opened_fits : (E : ℕ) (t : Bytes) → Fits (opened E t).reply
opened_fits E t = go (sized E (length t))
  where
    go : (b : Bool) → Fits (cond b (accepted 0) (refused 1 0 0))
    go true = omega arith
    go false = (omega arith, omega arith, omega arith)
