-- What an answer says: document 01's number and values for each case of the declared answer types.
use Rattle.std.specs.Prelude.{ℕ, Bool, true, false, Result, Ok, Err}
use Rattle.model.specs.declared.Refusal.{Refusal}
use Rattle.model.specs.declared.Refusal.TheVariants.{MalformedTable, MalformedListing, MalformedPath, LinkOrRoot}
use Rattle.model.specs.declared.Refusal.TheVariants.{NotFound, Exists, NotADirectory, IsADirectory, NotEmpty}
use Rattle.model.specs.declared.Refusal.TheVariants.{BelowSource, Limit, KeyTooLong, NoRoom, LentCount}
use Rattle.model.specs.declared.Refusal.TheVariants.{RangeTooLarge}

-- accepted with a value, or refused with a number, a path and a length
pub data Reply : Type 0 where
  accepted : (value : ℕ) → Reply
  refused : (number path len : ℕ) → Reply

-- "Turning a call down"
abbrev pub told_refusal : Refusal → Reply
told_refusal MalformedTable = refused 1 0 0
told_refusal MalformedListing = refused 2 0 0
told_refusal (MalformedPath p) = refused 3 p 0
told_refusal (LinkOrRoot p n) = refused 4 p n
told_refusal (NotFound p n) = refused 5 p n
told_refusal (Exists p n) = refused 6 p n
told_refusal (NotADirectory p n) = refused 7 p n
told_refusal (IsADirectory p n) = refused 8 p n
told_refusal (NotEmpty p n) = refused 9 p n
told_refusal (BelowSource n) = refused 10 0 n
told_refusal Limit = refused 11 0 0
told_refusal KeyTooLong = refused 12 0 0
told_refusal NoRoom = refused 13 0 0
told_refusal LentCount = refused 17 0 0
told_refusal RangeTooLarge = refused 18 0 0

-- a changing call's answer; a query's, 1 for yes and 0 for no
abbrev pub told : Result ℕ Refusal → Reply
told (Ok v) = accepted v
told (Err r) = told_refusal r

abbrev pub told_finding : Result Bool Refusal → Reply
told_finding (Ok true) = accepted 1
told_finding (Ok false) = accepted 0
told_finding (Err r) = told_refusal r
