-- What the pass has passed is the encoding of the entries that it read, with zeros behind, and the record is theirs. A number that was
-- read encodes to the same bytes only where they are bytes, so this asks `IsBytes`.
-- Assumes nothing else.
use mathlib.Core.Path.{◌≡◌, refl, sym, ap, ◌∙◌}
use mathlib.Core.Bool.{true, cond, ◌&&◌}
use mathlib.Core.List.{◌++◌, append_assoc}
use Prim.Native.Nat.{ℕ, zero, suc, ◌+◌, ◌≤◌}
use native.Mathlib.Omega.{arith}
use lib.Dec.{ltb, eqb}
use lib.ListN.{length, drop, length-append}
use Rattle.model.specs.Bytes.{Bytes, every, number_at, bytes}
use Rattle.model.specs.Path.{Path, is_path}
use Rattle.model.specs.Map.{ascends}
use Rattle.model.specs.Tree.{Entry}
use Rattle.model.specs.Table.{type_of, mtime_of, size_of, body_of, entry_bytes, encode, charge_sum, key_at, body_at, entry_at, entry_end, entries_at, formed_entry}
use Rattle.model.specs.declared.Record.{Record}
use Rattle.model.proofs.Words.{IsBytes}
use Rattle.model.proofs.Orders.{eqb_eq, and_true}
use Rattle.model.proofs.Codec.{entry_length}
use Rattle.base_fields.specs.Read.{zeros}
use Rattle.base_fields.proofs.Pieces.{cut, part_length, piece, grouped}
use Rattle.table_charge.specs.Charge.{charge_by}
use Rattle.table_open.specs.Pass.{headed, referring, in_order, run}
use Rattle.table_open.proofs.Steps.{Ordered, ordered}
use Rattle.table_open.proofs.Rules.{Types, types, Says, says, body_rule, in_form}

-- an entry's bytes by its numbers, its key and its body
unfoldable laid : (n k b m z : ℕ) → Bytes → Bytes → Bytes
laid n k b m z key body = bytes 2 n ++ (bytes 2 k ++ (bytes 4 b ++ (bytes 8 m ++ (bytes 8 z ++ (key ++ body)))))

laid_entry : (key : Path) (e : Entry) → laid (length key) (type_of e) (length (body_of e)) (mtime_of e) (size_of e) key (body_of e) ≡ entry_bytes key e
unfolding laid
laid_entry key e = refl

module _ (s : Bytes) (at : ℕ) where
  abbrev type : ℕ
  type = number_at s (at + 2) 2

  abbrev size_of_body : ℕ
  size_of_body = number_at s (at + 4) 4

  abbrev mtime : ℕ
  mtime = number_at s (at + 8) 8

  abbrev size : ℕ
  size = number_at s (at + 16) 8

module _ (s : Bytes) (bs : IsBytes s) (at : ℕ) (p : Path) (o : Ordered s at p) where
  numbers_stand : drop at s
      ≡ laid (number_at s at 2) (type s at) (size_of_body s at) (mtime s at) (size s at) (key_at s at) (body_at s at) ++ drop (entry_end s at) s
  unfolding laid
  numbers_stand =
      let h = o.head in
      piece s bs at 2 (at + 2) refl (omega arith)
      ∙ ap (λ (l : Bytes). bytes 2 (number_at s at 2) ++ l) (piece s bs (at + 2) 2 (at + 4) (omega arith) (omega arith)
      ∙ ap (λ (l : Bytes). bytes 2 (type s at) ++ l) (piece s bs (at + 4) 4 (at + 8) (omega arith) (omega arith)
      ∙ ap (λ (l : Bytes). bytes 4 (size_of_body s at) ++ l) (piece s bs (at + 8) 8 (at + 16) (omega arith) (omega arith)
      ∙ ap (λ (l : Bytes). bytes 8 (mtime s at) ++ l) (piece s bs (at + 16) 8 (at + 24) (omega arith) (omega arith)
      ∙ ap (λ (l : Bytes). bytes 8 (size s at) ++ l) (cut s (at + 24) (number_at s at 2) (at + 24 + number_at s at 2) refl
      ∙ ap (λ (l : Bytes). key_at s at ++ l) (cut s (at + 24 + number_at s at 2) (size_of_body s at) (entry_end s at) refl))))))
      ∙ grouped (bytes 2 (number_at s at 2)) (bytes 2 (type s at)) (bytes 4 (size_of_body s at)) (bytes 8 (mtime s at)) (bytes 8 (size s at))
      (key_at s at) (body_at s at) (drop (entry_end s at) s)

  key_length : number_at s at 2 ≡ length (key_at s at)
  key_length = let h = o.end in sym (part_length s (at + 24) (number_at s at 2) (omega arith))

  body_part : size_of_body s at ≡ length (body_at s at)
  body_part = sym (part_length s (at + 24 + number_at s at 2) (size_of_body s at) o.end)

  types_here : Types (type s at) (length (body_at s at)) (mtime s at) (size s at)
  unfolding headed
  types_here =
      let t = types (type s at) (size_of_body s at) (mtime s at) (size s at) o.numbers in
      rw (← body_part) t

  says_here : Says (type s at) (mtime s at) (size s at) (body_at s at) (entry_at s at)
  says_here = says (type s at) (mtime s at) (size s at) (body_at s at) types_here

  body_length : size_of_body s at ≡ length (body_of (entry_at s at))
  body_length = body_part ∙ ap length says_here.body

  entry_stands : drop at s ≡ entry_bytes (key_at s at) (entry_at s at) ++ drop (entry_end s at) s
  entry_stands =
      let y = says_here in
      let n = key_length in
      let b = body_length in
      let k = y.type in
      let m = y.mtime in
      let z = y.size in
      let w = y.body in
      let e : laid (number_at s at 2) (type s at) (size_of_body s at) (mtime s at) (size s at) (key_at s at) (body_at s at)
      ≡ laid (length (key_at s at)) (type_of (entry_at s at)) (length (body_of (entry_at s at))) (mtime_of (entry_at s at)) (size_of (entry_at s at))
      (key_at s at) (body_of (entry_at s at))
      = λ i. laid (n i) (k i) (b i) (m i) (z i) (key_at s at) (w i) in
      numbers_stand ∙ ap (λ (l : Bytes). l ++ drop (entry_end s at) s) (e ∙ laid_entry (key_at s at) (entry_at s at))

  form_here : formed_entry (key_at s at, entry_at s at) ≡ true
  unfolding referring
  form_here =
      let h : body_rule (type s at) (body_at s at) ≡ true
      = ap (λ (n : ℕ). cond (eqb (type s at) 2) (ltb 0 n && is_path (body_at s at)) true) (sym body_part) ∙ o.body in
      rw (o.key, in_form (type s at) (mtime s at) (size s at) (body_at s at) types_here h)

-- n entries from `at` on, behind the key p and with the charge c so far
pub record Passed (s : Bytes) (r : Record) (n at : ℕ) (p : Path) (c : ℕ) : Type 0 where
  pub bytes : drop at s ≡ encode (entries_at s n at) ++ drop r.used s
  pub up : ascends p (entries_at s n at) ≡ true
  pub formed : every formed_entry (entries_at s n at) ≡ true
  pub used : at + length (encode (entries_at s n at)) ≡ r.used
  pub charged : c + charge_sum r.entry_size (entries_at s n at) ≡ r.charge
  pub within : r.used ≤ length s
  pub nothing : zeros (drop r.used s) ≡ true

pub passed : (s : Bytes) → IsBytes s → (r : Record) (n at : ℕ) (p : Path) (c : ℕ) → at ≤ length s → run s r n at p c ≡ true → Passed s r n at p c
passed s bs r zero at p c w h =
    let a = and_true (eqb at r.used && eqb c r.charge) (zeros (drop at s)) h in
    let b = and_true (eqb at r.used) (eqb c r.charge) a.0 in
    let u : at ≡ r.used = eqb_eq at r.used b.0 in
    let v : c ≡ r.charge = eqb_eq c r.charge b.1 in
    record {
      bytes = ap (λ (i : ℕ). drop i s) u;
      up = refl;
      formed = refl;
      used = omega arith;
      charged = omega arith;
      within = omega arith;
      nothing = sym (ap (λ (i : ℕ). zeros (drop i s)) u) ∙ a.1;
    }
passed s bs r (suc n) at p c w h =
    let d : ℕ = c + charge_by r.entry_size (number_at s at 2) (number_at s (at + 4) 4) in
    let a = and_true (in_order s at p) (run s r n (entry_end s at) (key_at s at) d) h in
    let o = ordered s at p a.0 in
    let ih = passed s bs r n (entry_end s at) (key_at s at) d o.end a.1 in
    let b : Bytes = entry_bytes (key_at s at) (entry_at s at) in
    let more : Bytes = encode (entries_at s n (entry_end s at)) in
    let kl = key_length s bs at p o in
    let bl = body_length s bs at p o in
    let le : length b ≡ 24 + length (key_at s at) + length (body_of (entry_at s at)) = entry_length (key_at s at) (entry_at s at) in
    let la : length (b ++ more) ≡ length b + length more = length-append b more in
    record {
      bytes =
          entry_stands s bs at p o
          ∙ ap (λ (l : Bytes). b ++ l) ih.bytes
          ∙ sym (append_assoc b more (drop r.used s));
      up = rw o.behind ih.up;
      formed = rw (form_here s bs at p o) ih.formed;
      used = let u = ih.used in omega arith;
      charged = let v = ih.charged in omega arith;
      within = ih.within;
      nothing = ih.nothing;
    }
