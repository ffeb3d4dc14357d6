-- `kept_read::judge` meets its contract: one law for each exit.
use mathlib.Core.Path.{sym, ◌∙◌}
use native.Mathlib.Omega.{arith}
use borrow.Author.Rules.{rules}
use Rattle.base_fields.proofs.Pieces.{bytes_of}
use Rattle.kept_read.proofs.Answers.{long_table, not_kept, no_frame, no_listing, no_entries, no_room, accepts}
use mathlib.Core.Path.{ap}
use mathlib.Core.Bool.{not}
use Rattle.kept_read.proofs.judge.Goals as goal

pub returns-then-len-gt-MAX_BUFFER : goal.returns-then-len-gt-MAX_BUFFER
returns-then-len-gt-MAX_BUFFER c =
    let a = c.args in
    let it = long_table a.file.now a.len c.if-len-gt-MAX_BUFFER.true in
    record { result_value = it.0; result_value_2 = it.1 }

pub returns-then-not-is_marked : goal.returns-then-not-is_marked
returns-then-not-is_marked c =
    let a = c.args in
    let it = not_kept a.file.now a.len (search rules) c.is_marked.ensures (ap not c.if-not-is_marked.true) in
    record { result_value = it.0; result_value_2 = it.1 }

pub returns-then-not-is_framed : goal.returns-then-not-is_framed
returns-then-not-is_framed c =
    let a = c.args in
    let it = no_frame a.file.now a.len (search rules) c.is_marked.ensures (ap not c.if-not-is_marked.false) c.is_framed.ensures
    (ap not c.if-not-is_framed.true) in
    record { result_value = it.0; result_value_2 = it.1 }

pub returns-then-not-check : goal.returns-then-not-check
returns-then-not-check c =
    let a = c.args in
    let it = no_listing a.file.now a.len (search rules) c.is_marked.ensures (ap not c.if-not-is_marked.false) c.is_framed.ensures
    (ap not c.if-not-is_framed.false) c.listing_part-listing.ensures c.check.ensures (ap not c.if-not-check.true) in
    record { result_value = it.0; result_value_2 = it.1 }

pub entries_part-entries-requires : goal.entries_part-entries-requires
entries_part-entries-requires c =
    let f = c.is_framed in
    sym f.ensures ∙ c.if-not-is_framed.false

pub returns-in_default : goal.returns-in_default
returns-in_default c =
    let a = c.args in
    let it = no_entries a.file.now a.len (search rules) c.is_marked.ensures (ap not c.if-not-is_marked.false) c.is_framed.ensures
    (ap not c.if-not-is_framed.false) c.listing_part-listing.ensures c.check.ensures (ap not c.if-not-check.false) c.entries_part-entries.ensures
    c.record_in.ensures c.in_default.is in
    record { result_value = it.0; result_value_2 = it.1 }

pub returns-then-len-entries : goal.returns-then-len-entries
returns-then-len-entries c =
    let a = c.args in
    let s = a.file.now in
    let it = no_room s a.len (search rules) c.is_marked.ensures (ap not c.if-not-is_marked.false) c.is_framed.ensures (ap not c.if-not-is_framed.false)
    c.listing_part-listing.ensures c.check.ensures (ap not c.if-not-check.false) c.entries_part-entries.ensures c.record_in.ensures _
    c.in-Some.is (bytes_of s (λ i. omega (arith, c.type_inv.file i))) c.if-len-entries.true in
    record { result_value = it.0; result_value_2 = it.1 }

pub returns : goal.returns
returns c =
    let a = c.args in
    let s = a.file.now in
    let it = accepts s a.len (search rules) c.is_marked.ensures (ap not c.if-not-is_marked.false) c.is_framed.ensures (ap not c.if-not-is_framed.false)
    c.listing_part-listing.ensures c.check.ensures (ap not c.if-not-check.false) c.entries_part-entries.ensures c.record_in.ensures _
    c.in-Some.is (bytes_of s (λ i. omega (arith, c.type_inv.file i))) (search rules) in
    record { result_value = it.0; result_value_2 = it.1 }
