-- #105, what would have let a call through: the least limit, and the least length of the table buffer.
-- A number is the least with which the call is accepted if it is accepted with it and refused with every smaller one;
-- no formula stands here. proofs/Leasts.antt shows what the numbers are.
use Rattle.std.specs.Prelude.{◌≡◌, ℕ, ◌<◌, take, replicate}
use Rattle.std.proofs.Math.Option.{Option, none, some}
use Rattle.model.specs.Bytes.{Bytes}
use Rattle.model.specs.Listing.{is_listing}
use Rattle.model.specs.Table.{padded, is_table}
use Rattle.model.specs.Checks.{Check, ◌then◌, unless}
use Rattle.model.specs.Calls.{Call, forms, value_of}
use Rattle.model.specs.Answer.{accepted}
use Rattle.model.specs.Outcome.{Store, Request, outcome}

-- the same table and record in a buffer of n bytes, which cuts the table or goes on with zeros
abbrev pub in_buffer : ℕ → Store → Store
in_buffer n s = record { table = take n (padded n s.table); rec = s.rec }

-- the call c with this limit, and a work buffer of n bytes, all 0; what its bytes are does not matter
abbrev pub request_of : Call → (limit n : ℕ) → Request
request_of c limit n = record { call = c; limit = limit; work = replicate n 0 }

-- "the same call is accepted" with this limit, when table and work buffer have n bytes
abbrev pub Accepts : Bytes → Store → Call → (limit n : ℕ) → Type 0
Accepts listing s c limit n =
    (outcome listing (request_of c limit n) (in_buffer n s)).reply ≡ accepted (value_of c)

-- "the smallest limit with which the same call is accepted when table and work buffers have 16 MiB"
abbrev pub WithLimit : Bytes → Store → Call → ℕ → Type 0
WithLimit listing s c limit = Accepts listing s c limit 16777216

-- "the smallest table length with which it is accepted at limit 2^64 − 1 and a work buffer as long"
abbrev pub WithLength : Bytes → Store → Call → ℕ → Type 0
WithLength listing s c n = Accepts listing s c 0xFFFF_FFFF_FFFF_FFFF n

-- the least number of which P holds
pub record Least (P : ℕ → Type 0) (n : ℕ) : Type 0 where
  pub holds : P n
  pub least : (m : ℕ) → m < n → P m → ⊥

-- "Report the smallest limit …, and the smallest table length …, or none where no such number exists": the limit
-- before the length, and never one without the other
abbrev pub IsReport : Bytes → Store → Call → Option (ℕ × ℕ) → Type 0
IsReport listing s c (some x) = Least (WithLimit listing s c) x.0 × Least (WithLength listing s c) x.1
IsReport listing s c none = (limit n : ℕ) → Accepts listing s c limit n → ⊥

-- what refuses a report: 1, 2 and 3, in the order of the call itself; there is no work buffer
abbrev pub report_checks : Bytes → Store → Call → Check
report_checks listing s c = unless 1 (is_table s.table s.rec) then unless 2 (is_listing listing) then forms c
