-- What is counted of vectors: how many were run, and how many gave what they must.
use Rattle.std.specs.Prelude.{◌+◌, ◌%◌, ◌^◌, Bool, cond, not, ◌&&◌, ◌||◌}
use Rattle.model.specs.Bytes.{Bytes}
use Rattle.model.specs.Path.{is_path}
use Rattle.model.specs.Utf8.{utf8}
use Rattle.prog_paths.specs.declared.tally.Tally.{Tally}

-- one vector more; a count wraps at 2^64
abbrev pub tallied : Tally → Bool → Tally
tallied t right = record { run = (t.run + 1) % (2 ^ 64); right = (t.right + cond right 1 0) % (2 ^ 64) }

abbrev pub agrees : Bool → Bool → Bool
agrees a b = cond a b (not b)

-- s gave what it must: of a path, and where it is a text, of UTF-8
abbrev pub gave : Bytes → Bool → Bool → Bool
gave s text must = agrees (is_path s) must && (not text || agrees (utf8 s) must)
