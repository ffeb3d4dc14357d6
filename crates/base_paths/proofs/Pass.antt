-- What the loop of `is_path` keeps, and what it gives at its end.
use mathlib.Core.Path.{◌≡◌, refl, sym, ap, ◌∙◌}
use mathlib.Core.Bool.{Bool, true, false, ◌&&◌, and_assoc, and_comm}
use mathlib.Core.List.{[], ◌∷◌}
use Prim.Native.Nat.{ℕ, suc, ◌+◌, ◌<◌, ◌≤◌}
use native.Mathlib.Numerals.{add-one}
use lib.Dec.{leb, ltb, eqb}
use lib.ListN.{length, get_or, drop, drop_of_length-le}
use lib.Seq.{drop-cons}
use borrow.Author.Tests.{le-leb, lt-leb}
use Rattle.model.specs.Bytes.{Bytes, every}
use Rattle.model.specs.Utf8.{◌to◌, characters, utf8}
use Rattle.model.specs.Path.{Path, component, components, is_root, is_path}
use Rattle.base_paths.specs.Scan.{pending, sized_name, ended, scan, completes}
use Rattle.base_paths.specs.declared.utf8.Tail.{Tail}
use Rattle.base_paths.specs.declared.names.Names.{Names}
use Rattle.base_paths.proofs.Tails.{at_end}
use Rattle.base_paths.proofs.Scans.{whole}

-- what is left to judge, by f before a byte and by g after it
pub advance : (f g : Bytes → Bool) (s : Bytes) (i : ℕ) (w : Bool) → i < length s
    → ((u : Bytes) → g u ≡ f (get_or s i 0 ∷ u)) → f (drop i s) ≡ w → g (drop (i + 1) s) ≡ w
advance f g s i w h e p = rw add-one (e (drop (suc i) s) ∙ sym (ap f (drop-cons s i 0 h)) ∙ p)

-- a text that is over is UTF-8 if nothing is needed any more
pub text_over : (s : Bytes) (t : Tail) (i : ℕ) → length s ≤ i → characters (pending t) (drop i s) ≡ utf8 s → eqb t.need 0 ≡ utf8 s
text_over s t i done e =
    sym (at_end t.need (t.low to t.high)) ∙ sym (ap (characters (pending t)) (drop_of_length-le s done)) ∙ e

pub record Kept (s : Bytes) (t : Tail) (n : Names) (i : ℕ) : Type 0 where
  pub within : i ≤ length s
  pub few_bytes : n.len ≤ i
  pub few_names : n.before ≤ i
  pub text : characters (pending t) (drop i s) ≡ utf8 s
  pub names : completes n (drop i s) ≡ scan 0 true 0 s

pub too_long : (s : Path) → 512 < length s → false ≡ is_path s
too_long s h = rw (lt-leb (length s) 512 h)

not_root_lem : (s : Path) → (length s ≡ 0 → ⊥) → is_root s ≡ false
not_root_lem [] h = absurd (h refl)
not_root_lem (b ∷ s) h = refl

turned : (a b c : Bool) → (a && (b && c)) ≡ (b && a && c)
turned a b c = sym (and_assoc a b c) ∙ ap (λ (t : Bool). t && c) (and_comm a b)

-- the answer at the end
module _ (s : Path) (t : Tail) (n : Names) (i : ℕ) (kept : Kept s t n i) (done : length s ≤ i) where
  at_names : (ended n && ltb n.before 32) ≡ (leb (length (components s)) 32 && every component (components s))
  at_names =
      and_assoc n.ok (sized_name n.len n.dots) (ltb n.before 32)
      ∙ sym (ap (completes n) (drop_of_length-le s done))
      ∙ kept.names
      ∙ whole s

  pub judged : (r : Bool) → length s ≤ 512 → (length s ≡ 0 → ⊥) → r ≡ ended n
      → (eqb t.need 0 && (r && ltb n.before 32)) ≡ is_path s
  judged r fits some e =
      rw (e, text_over s t i done kept.text, at_names, le-leb (length s) 512 fits, not_root_lem s some)
      (turned (utf8 s) (leb (length (components s)) 32) (every component (components s)))
