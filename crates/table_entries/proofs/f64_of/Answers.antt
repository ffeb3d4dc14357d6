-- `f64_of` meets its contract: bits that are no NaN's are taken as they are, and the others are the one NaN.
use Rattle.table_entries.proofs.Real.{real_bits, not_real}
use Rattle.table_entries.proofs.f64_of.Goals as goal

pub float_from_bits-result : goal.float_from_bits-result
float_from_bits-result c = real_bits c.args.bits c.if-bits-le9218868437227405312.true

pub returns-else-bits-le9218868437227405312 : goal.returns-else-bits-le9218868437227405312
returns-else-bits-le9218868437227405312 c = not_real c.args.bits c.if-bits-le9218868437227405312.false
