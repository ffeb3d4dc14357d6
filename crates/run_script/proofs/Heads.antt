-- A step's head, read as an order.
use mathlib.Core.Path.{◌≡◌, ap, ◌∙◌}
use mathlib.Core.Bool.{Bool, false}
use mathlib.Core.Logic.{inl, inr}
use Prim.Native.Nat.{ℕ, ◌+◌, ◌/◌, ◌%◌, ◌<◌, ◌≤◌}
use native.Mathlib.Omega.{arith}
use lib.Dec.{eqb}
use lib.ListN.{get_or}
use borrow.Author.Tests.{ne_eqb}
use Rattle.model.specs.Bytes.{Bytes, number_at}
use Rattle.call_values.specs.declared.Kind.{Kind}
use Rattle.call_values.specs.declared.Kind.TheVariants.{Write, Append, WriteInside, Mkdir, Unlink, Rmdir, Rename}
use Rattle.call_values.specs.declared.Order.{Order}
use Rattle.call_values.specs.declared.UnknownKind.{UnknownKind}
use Rattle.call_values.specs.Values.{OfNumber}
use Rattle.std.specs.Prelude.{Result, Ok, Err}
use Rattle.std.specs.Result.{result_unwrap_or}
use Rattle.run_script.specs.Script.{offset_at, step_kind, order_at}

-- the kind that is made from a number, or writing inside, is a step's
pub kind_is : (k : ℕ) (r : Result Kind UnknownKind) → OfNumber k r → result_unwrap_or r WriteInside ≡ step_kind k
kind_is k (Ok Write) h = ap step_kind h
kind_is k (Ok Mkdir) h = ap step_kind h
kind_is k (Ok Unlink) h = ap step_kind h
kind_is k (Ok Rmdir) h = ap step_kind h
kind_is k (Ok Rename) h = ap step_kind h
kind_is k (Ok Append) h = ap step_kind h
kind_is k (Ok WriteInside) h = ap step_kind h
kind_is k (Err e) h =
    let other : (n : ℕ) → 0 < n → n ≤ 7 → eqb k n ≡ false
    = λ n a b. ne_eqb k n (λ i. elim h.1 [ inl z ↦ omega (arith, z, i) | inr z ↦ omega (arith, z, i) ]) in
    rw (
      other 1 (omega arith) (omega arith),
      other 2 (omega arith) (omega arith),
      other 3 (omega arith) (omega arith),
      other 4 (omega arith) (omega arith),
      other 5 (omega arith) (omega arith),
      other 6 (omega arith) (omega arith),
    )

pub order_is : (two : Bool) (s : Bytes) (at : ℕ) (x : Kind) (k f m l o : ℕ) → x ≡ step_kind k → k ≡ get_or s at 0 → f ≡ get_or s (at + 1) 0
    → m ≡ number_at s (at + 8) 8 → l ≡ number_at s (at + 16) 8 → o ≡ offset_at two s at
    → ◌≡◌ {A = Order} (record { kind = x; parents = eqb (f % 2) 1; exist_ok = eqb (f / 2) 1; mtime = m; limit = l; offset = o })
    (order_at two s at)
order_is two s at x k f m l o e a b c d g =
    λ i. record {
      kind = (e ∙ ap step_kind a) i;
      parents = eqb (b i % 2) 1;
      exist_ok = eqb (b i / 2) 1;
      mtime = c i;
      limit = d i;
      offset = g i;
    }
