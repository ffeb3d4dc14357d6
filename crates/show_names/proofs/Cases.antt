-- Computed cases of showing a directory: each number, and what each wrong program would write instead.
use mathlib.Core.List.{List, [], ◌∷◌, ◌++◌, map}
use mathlib.Core.Path.{◌≡◌, refl}
use Prim.Native.Nat.{ℕ}
use Prim.Native.String.{String}
use lib.ListN.{length, replicate}
use Rattle.model.specs.Bytes.{Bytes}
use Rattle.model.specs.Path.{Path}
use Rattle.model.specs.Tree.{listed, file, own, reference, directory, deleted, Table, Tree}
use Rattle.model.specs.Table.{encode, record_of}
use Rattle.model.specs.Answer.{accepted, refused}
use Rattle.model.specs.Output.{Written}
use Rattle.model.specs.declared.Record.{Record}
use Rattle.model.proofs.Case.{path, dir_at, file_at, link_at, listing_bytes}
use Rattle.show_names.specs.Names.{name_bytes, showing}

-- `é` in UTF-8
abbrev acute : Path
acute = 195 ∷ 169 ∷ []

-- children of `a` with others between them: `a-b` stands between `a` and `a/b`; two links; an empty directory
abbrev D : Tree
D =
    dir_at "a" 1
    ∷ file_at "a-b" 2 5
    ∷ dir_at "a/b" 1
    ∷ file_at "a/b/c" 2 5
    ∷ file_at "a/f" 2 5
    ∷ link_at "a/l"
    ∷ dir_at "a0" 1
    ∷ link_at "l"
    ∷ file_at "z" 2 5
    ∷ (acute, file 2 5 (listed acute))
    ∷ []

-- a showing: the listing's tree, the table, path and output buffer, and what is answered and left
pub record Case : Type 0 where
  pub listing : Bytes
  pub table : Bytes
  pub rec : Record
  pub path : Path
  pub output : Bytes
  pub gives : Written

abbrev did : Case → Written
did c = showing c.listing c.table c.rec c.path c.output

-- over D; accepted with these names and n zeros behind; refused with a number, the path 0 and a length
abbrev shows : Table → String → ℕ → List Bytes → ℕ → Case
shows t p size ns n = record {
  listing = listing_bytes D;
  table = encode t;
  rec = record_of 40 t;
  path = path p;
  output = replicate size 7;
  gives = record { reply = accepted (length (name_bytes ns)); output = name_bytes ns ++ replicate n 0 };
}

abbrev turns_down : Table → Path → ℕ → ℕ → ℕ → Case
turns_down t p size number len = record {
  listing = listing_bytes D;
  table = encode t;
  rec = record_of 40 t;
  path = p;
  output = replicate size 7;
  gives = record { reply = refused number 0 len; output = replicate size 7 };
}

-- the names as bytes, one by one
pub root_bytes : name_bytes (path "a" ∷ path "a-b" ∷ path "a0" ∷ path "z" ∷ acute ∷ [])
    ≡ 1 ∷ 0 ∷ 97 ∷ 3 ∷ 0 ∷ 97 ∷ 45 ∷ 98 ∷ 2 ∷ 0 ∷ 97 ∷ 48 ∷ 1 ∷ 0 ∷ 122 ∷ 2 ∷ 0 ∷ 195 ∷ 169 ∷ []
root_bytes = refl

-- entries beside D: a listed child deleted, one covered, one behind them all, one of a directory that D lacks
abbrev T : Table
T =
    (path "a/b", deleted)
    ∷ (path "a/b/c", deleted)
    ∷ (path "a/f", own 7 (1 ∷ []))
    ∷ (path "a/g", reference 2 5 (path "z"))
    ∷ (path "a0", directory 7)
    ∷ (path "a0/k", directory 7)
    ∷ (path "a0/k/m", own 7 [])
    ∷ (path "z", deleted)
    ∷ []

pub cases : List Case
cases =
    -- the root: neither the link `l` nor what lies deeper; `a-b` before `a0`
    shows [] "" 19 (path "a" ∷ path "a-b" ∷ path "a0" ∷ path "z" ∷ acute ∷ []) 0
    ∷ shows [] "" 22 (path "a" ∷ path "a-b" ∷ path "a0" ∷ path "z" ∷ acute ∷ []) 3
    ∷ turns_down [] [] 18 13 0
    -- a directory: no grandchild, no link, no sibling
    ∷ shows [] "a" 6 (path "b" ∷ path "f" ∷ []) 0
    ∷ shows [] "a" 9 (path "b" ∷ path "f" ∷ []) 3
    ∷ turns_down [] (path "a") 5 13 0
    ∷ shows [] "a/b" 4 (path "c" ∷ []) 1
    -- an empty one
    ∷ shows [] "a0" 0 [] 0
    ∷ shows [] "a0" 2 [] 2
    -- entries and listing together: each name once, a deleted one not at all
    ∷ shows T "a" 6 (path "f" ∷ path "g" ∷ []) 0
    ∷ shows T "" 16 (path "a" ∷ path "a-b" ∷ path "a0" ∷ acute ∷ []) 0
    ∷ turns_down T [] 15 13 0
    ∷ shows T "a0" 3 (path "k" ∷ []) 0
    ∷ shows T "a0/k" 3 (path "m" ∷ []) 0
    -- 7: a listed file, an own one, a reference; before 13
    ∷ turns_down [] (path "z") 3 7 1
    ∷ turns_down T (path "a/f") 0 7 3
    ∷ turns_down T (path "a/g") 3 7 3
    -- 5: absent, deleted, below a file; before 13
    ∷ turns_down [] (path "q") 3 5 1
    ∷ turns_down T (path "a/b") 0 5 3
    ∷ turns_down [] (path "z/n") 3 5 3
    ∷ turns_down [] (path "a/b/c/d") 3 5 7
    -- 4: a link, and below one; before 5
    ∷ turns_down [] (path "l") 3 4 1
    ∷ turns_down [] (path "l/x/y") 0 4 5
    ∷ turns_down [] (path "a/l/x") 3 4 5
    -- tables that no call builds: an entry over the link or below it counts; without one the link still does
    ∷ shows ((path "l", directory 7) ∷ []) "l" 1 [] 1
    ∷ turns_down ((path "l", directory 7) ∷ []) (path "l/x") 1 4 3
    ∷ shows ((path "l/x", directory 7) ∷ (path "l/x/y", own 7 []) ∷ []) "l/x" 3 (path "y" ∷ []) 0
    ∷ turns_down ((path "l/x", deleted) ∷ []) (path "l/x") 1 5 3
    -- and a link that an entry covers is no link; a listed directory below a deleted one is shown
    ∷ shows ((path "a/l", own 7 []) ∷ []) "a" 9 (path "b" ∷ path "f" ∷ path "l" ∷ []) 0
    ∷ shows ((path "a", deleted) ∷ []) "a/b" 3 (path "c" ∷ []) 0
    -- 3, before 5 and 13
    ∷ turns_down [] (path ".") 0 3 0
    ∷ turns_down [] (path "/") 3 3 0
    -- 1: another charge; before 2 and 3
    ∷ record {
      listing = [];
      table = encode T;
      rec = record { used = 0; count = 0; charge = 0; entry_size = 40 };
      path = path ".";
      output = 7 ∷ [];
      gives = record { reply = refused 1 0 0; output = 7 ∷ [] };
    }
    -- 2: a byte behind the listing; before 3
    ∷ record {
      listing = listing_bytes D ++ (0 ∷ []);
      table = [];
      rec = record_of 40 [];
      path = path ".";
      output = 7 ∷ [];
      gives = record { reply = refused 2 0 0; output = 7 ∷ [] };
    }
    ∷ []

pub cases_hold : map did cases ≡ map (λ (c : Case). c.gives) cases
unfolding cases
cases_hold = refl {a = map (λ (c : Case). c.gives) cases}
