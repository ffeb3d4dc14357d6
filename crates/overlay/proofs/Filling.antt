-- A call that fills an output, exported: its answer, packed, and its output; a record that is not four numbers leaves the output as it was.
use mathlib.Core.Path.{◌≡◌, ap, ◌∙◌}
use mathlib.Core.List.{List}
use Prim.Native.Nat.{ℕ}
use lib.ListN.{length}
use Rattle.model.specs.Bytes.{Bytes}
use Rattle.model.specs.Answer.{Reply}
use Rattle.model.specs.Output.{Written}
use Rattle.model.specs.declared.Record.{Record}
use Rattle.overlay_packed.specs.Packed.{packed, record_in}
use Rattle.overlay.specs.Exported.{write_left, filled}
use Rattle.overlay.proofs.Leaving.{chosen, otherwise}

-- the record n, the output o, and what the call does with a record
module _ (n : List ℕ) (o : Bytes) (does : Record → Written) where
  abbrev w : Written
  w = does (record_in n)

  pub not_filled : (length n ≡ 4 → ⊥) → write_left 1 o ≡ filled n w o
  not_filled h = otherwise n (write_left (packed w.reply) w.output) (write_left 1 o) h

  -- it answered y and left o'
  pub fill_settled : length n ≡ 4 → (r : Record) → r ≡ record_in n → (y : Reply) → y ≡ (does r).reply → (o' : Bytes) → o' ≡ (does r).output
      → (x : ℕ) → x ≡ packed y → write_left x o' ≡ filled n w o
  fill_settled h r e y f o' g x k =
      let i : x ≡ packed w.reply = k ∙ ap packed f ∙ ap (λ (q : Record). packed (does q).reply) e in
      let j : o' ≡ w.output = g ∙ ap (λ (q : Record). (does q).output) e in
      (λ z. write_left (i z) (j z)) ∙ chosen n (write_left (packed w.reply) w.output) (write_left 1 o) h
