-- A call that fills an output buffer: what it answers, and what it leaves in the buffer.
use Rattle.std.specs.Prelude.{length}
use Rattle.model.specs.Bytes.{Bytes}
use Rattle.model.specs.Table.{padded}
use Rattle.model.specs.Checks.{Check, pass, refuse}
use Rattle.model.specs.Answer.{Reply, accepted, refused}

pub record Written : Type 0 where
  pub reply : Reply
  pub output : Bytes

-- accepted, it answers the content's length, and what the buffer has beyond its content is 0; refused, the buffer is as
-- it was
abbrev pub written_by : Check → Bytes → Bytes → Written
written_by pass content output = record { reply = accepted (length content); output = padded (length output) content }
written_by (refuse n w k) content output = record { reply = refused n w k; output = output }
