-- What the answer of a call that fills an output buffer says of its checks and of the buffer.
use mathlib.Core.Path.{◌≡◌, refl}
use Prim.Native.Nat.{ℕ, ◌-◌}
use lib.ListN.{length, take, replicate}
use lib.Seq.{take-append_seam}
use Rattle.model.specs.Bytes.{Bytes}
use Rattle.model.specs.Checks.{Check, pass, refuse}
use Rattle.model.specs.Answer.{accepted, refused}
use Rattle.model.specs.Output.{written_by}
use Rattle.model.proofs.Orders.{bot}

-- only a check that passed answers with a length, and then the content stands in the buffer's front
pub writing_accepted : (c : Check) (content output : Bytes) (n : ℕ) → (written_by c content output).reply ≡ accepted n
    → (c ≡ pass) × (n ≡ length content) × (take n (written_by c content output).output ≡ content)
writing_accepted pass content output n h =
    let e : n ≡ length content = cc in
    (refl, e, rw e (take-append_seam content (replicate (length output - length content) 0)))
writing_accepted (refuse x y z) content output n h = (cc, cc, cc)

-- a refusal is the check's own, and the buffer is as it was
pub writing_refused : (c : Check) (content output : Bytes) (n v w : ℕ) → (written_by c content output).reply ≡ refused n v w
    → (c ≡ refuse n v w) × ((written_by c content output).output ≡ output)
writing_refused pass content output n v w h = absurd (bot (cc))
writing_refused (refuse x y z) content output n v w h = (cc, refl)
