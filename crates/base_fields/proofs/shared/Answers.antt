-- `base_fields::shared` meets its contract: eight bytes that are the same number are in common.
use mathlib.Core.Path.{sym, ◌∙◌}
use native.Mathlib.Omega.{arith}
use borrow.Author.Rules.{rules}
use Rattle.base_fields.proofs.Pieces.{bytes_of}
use Rattle.base_fields.proofs.Words.{same_word}
use Rattle.base_fields.proofs.shared.Goals as goal

pub loop-i-preserved : goal.loop-i-preserved
loop-i-preserved c =
    let a = c.args.a.now in
    let b = c.args.b.now in
    let e = sym c.le64.ensures ∙ c.if-le64.false ∙ c.le64-in-loop-i.ensures in
    let of-a = bytes_of a (λ j. search rules) in
    let of-b = bytes_of b (λ j. search rules) in
    let w = same_word a b c.loop-i.i of-a of-b (omega arith) (omega arith) e in
    (omega arith, search rules, search rules, omega arith)
