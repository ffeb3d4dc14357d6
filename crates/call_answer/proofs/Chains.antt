-- What a call's contract gives is an exchange of a chain: the answer told is the reply, table and record are the store, the work buffer is the work buffer.
use mathlib.Core.Path.{◌≡◌, ap, ap₂, sym, ◌∙◌}
use mathlib.Core.List.{List, [], ◌∷◌, ◌++◌}
use Rattle.model.specs.Bytes.{Bytes}
use Rattle.model.specs.Answer.{told}
use Rattle.model.specs.Outcome.{Store, Request, Outcome, outcome}
use Rattle.model.specs.Runs.{Exchange, Chained, last_seen}
use Rattle.model.specs.declared.Record.{Record}
use Rattle.model.specs.declared.Answered.{Answered}
use Rattle.model.proofs.Chained.{one_more, last_of_more}
use Rattle.call_answer.specs.Meets.{stored, Meets}

-- a call as its caller has it: the request, the answer, and the table and the work buffer at exit
abbrev pub exchanged : Request → Answered → Bytes → Bytes → Exchange
exchanged q r table work = record {
  request = q;
  seen = record { reply = told r.answer; store = stored table r.«record»; work = work };
}

pub meets_seen : (o : Outcome) (q : Request) (r : Answered) (table work : Bytes) → Meets o r table work → (exchanged q r table work).seen ≡ o
meets_seen o q r table work m = λ i. record { reply = m.answer i; store = stored (m.bytes i) (m.rec i); work = m.buffer i }

-- a caller of calls with such contracts: the table and the record are those that it saw last, and so they are after the next call
pub record Calling (listing : Bytes) (s : Store) (chain : List Exchange) (table : Bytes) (rec : Record) : Type 0 where
  pub made : Chained listing s chain
  pub store : stored table rec ≡ last_seen s chain

-- before the first call: what an opening gave
pub call_none : (listing : Bytes) (s : Store) (table : Bytes) (rec : Record) → table ≡ s.table → rec ≡ s.rec → Calling listing s [] table rec
call_none listing s table rec e f = record { made = tt; store = ap₂ stored e f }

pub call_next : (listing : Bytes) (s : Store) (chain : List Exchange) (table : Bytes) (rec : Record) → Calling listing s chain table rec
    → (q : Request) (r : Answered) (table' work' : Bytes) → Meets (outcome listing q (stored table rec)) r table' work'
    → Calling listing s (chain ++ (exchanged q r table' work' ∷ [])) table' r.«record»
call_next listing s chain table rec k q r table' work' m =
    let x = exchanged q r table' work' in record {
      made = one_more listing s chain x k.made (meets_seen (outcome listing q (stored table rec)) q r table' work' m ∙ ap (outcome listing q) k.store);
      store = sym (last_of_more s chain x);
    }
