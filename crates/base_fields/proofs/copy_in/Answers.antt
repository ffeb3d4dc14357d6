-- `base_fields::copy_in` meets its contract. The invariant: t is t₀ with the first i bytes of src written over it.
use mathlib.Core.Path.{◌≡◌, ap, ◌∙◌}
use native.Mathlib.Omega.{arith}
use native.Mathlib.Numerals.{add-one}
use lib.ListN.{length}
use lib.Seq.{paste-zero, paste-suc, length-paste, take-length}
use borrow.Author.Rules.{rules}
use Rattle.base_fields.proofs.copy_in.Goals as goal

pub loop-i-init : goal.loop-i-init
loop-i-init c = (search rules, paste-zero c.args.t.now c.args.at c.args.src.now)

pub bounds-t-at : goal.bounds-t-at
bounds-t-at c = omega (arith, (let a = c.args in let l = c.loop-i in ap length l.invariant.1 ∙ length-paste a.t.now a.at a.src.now l.i (omega arith) (omega arith)))

pub loop-i-preserved : goal.loop-i-preserved
loop-i-preserved c =
    let a = c.args in
    let l = c.loop-i in
    let step = paste-suc a.t.now a.at a.src.now l.i 0 (omega arith) (omega arith) in
    (omega arith, rw (l.invariant.1, add-one l.i) step)

pub shape_of-t : goal.shape_of-t
shape_of-t c = (let a = c.args in let l = c.loop-i in ap length l.invariant.1 ∙ length-paste a.t.now a.at a.src.now l.i (omega arith) (omega arith))

pub returns : goal.returns
returns c =
    let a = c.args in
    let l = c.loop-i in
    let e : l.i ≡ length a.src.now = omega arith in
    l.invariant.1 ∙ rw (e, take-length)
