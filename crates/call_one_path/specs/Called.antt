-- The calls that change one entry, as one.
use Rattle.std.specs.Prelude.{Bool, true, false, [], ◌∷◌, ℕ, zero, suc}
use Rattle.model.specs.Bytes.{Bytes}
use Rattle.model.specs.Path.{Path}
use Rattle.model.specs.Calls.{Call, write, unlink, rmdir}
use Rattle.check_one_path.specs.declared.Change.{Change}
use Rattle.check_one_path.specs.declared.Change.TheVariants.{Write, Unlink, Rmdir}

-- the call at its path p; only a write has an mtime and data
abbrev pub call_of : Change → Path → ℕ → Bytes → Call
call_of Write p m d = write p m d
call_of Unlink p m d = unlink p
call_of Rmdir p m d = rmdir p

-- so these are what it brings: any mtime and data with a write, 0 and none with unlink and rmdir
abbrev neither : ℕ → Bytes → Bool
neither zero [] = true
neither zero (b ∷ d) = false
neither (suc m) d = false

abbrev pub brings : Change → ℕ → Bytes → Bool
brings Write m d = true
brings Unlink m d = neither m d
brings Rmdir m d = neither m d

-- the kind of the entry that it puts: an own file, or a deleted one
abbrev pub kind_put : Change → ℕ
kind_put Write = 1
kind_put Unlink = 4
kind_put Rmdir = 4
