-- The kept file that the writer answers with stands in the buffer that it was made in.
use mathlib.Core.Path.{◌≡◌, ap, sym, ◌∙◌}
use Prim.Native.Nat.{ℕ, ◌≤◌}
use native.Mathlib.Omega.{arith}
use lib.ListN.{length, take}
use borrow.Table.Elements.{take-le}
use Rattle.model.specs.Bytes.{Bytes}
use Rattle.model.specs.declared.Record.{Record}
use Rattle.kept_file.specs.Kept.{written, told_writing}
use Rattle.std.specs.Prelude.{Result, Ok}
use Rattle.kept_file.specs.declared.WriteError.{WriteError}
use Rattle.kept_file.proofs.RoundTrip.{written_file}

pub made_within : (listing table : Bytes) (rec : Record) (output after : Bytes) (a : Result ℕ WriteError) (n : ℕ)
    → told_writing a ≡ (written listing table rec output).reply → after ≡ (written listing table rec output).output
    → a ≡ Ok n → n ≤ length after
made_within listing table rec output after a n reply left done =
    let w = written_file listing table rec output n (sym reply ∙ ap told_writing done) in
    let same = ap length (ap (take n) left ∙ w.file) in
    let whole = w.length_is in
    let part = take-le n after in
    omega arith
