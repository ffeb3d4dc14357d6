-- Computed cases of the forms of document 01: which bytes are a path, a listing, a table with its record; 1, 2 and 3 in
-- their order; answers; opening; the bounds of E and of the table buffer.
-- Beside each stands what is wrong with it, or what a wrong check would make of it.
use mathlib.Core.Bool.{Bool, true, false}
use mathlib.Core.List.{List, [], ◌∷◌, ◌++◌, map}
use mathlib.Core.Path.{◌≡◌, refl}
use Prim.Native.Nat.{ℕ}
use Prim.Native.String.{String}
use lib.ListN.{length, replicate}
use Rattle.model.specs.Bytes.{Bytes, bytes}
use Rattle.model.specs.Path.{Path, is_path}
use Rattle.model.specs.Tree.{reference, deleted, Table}
use Rattle.model.specs.Listing.{is_listing}
use Rattle.model.specs.Table.{encode, padded, record_of, sized, is_table}
use Rattle.model.specs.Calls.{Call, unlink, rename, exists}
use Rattle.std.specs.Prelude.{Ok, Err}
use Rattle.model.specs.Answer.{Reply, accepted, refused, told, told_finding}
use Rattle.model.specs.Outcome.{Store, outcome, ask, opened}
use Rattle.model.specs.declared.Record.{Record}
use Rattle.model.specs.declared.Refusal.TheVariants.{MalformedTable, MalformedListing, MalformedPath, LinkOrRoot}
use Rattle.model.specs.declared.Refusal.TheVariants.{NotFound, Exists, NotADirectory, IsADirectory, NotEmpty}
use Rattle.model.specs.declared.Refusal.TheVariants.{BelowSource, Limit, KeyTooLong, NoRoom}
use Rattle.model.proofs.Case.{path, typed, dir_at, file_at, link_at, listing_bytes}
use Rattle.model.proofs.Cases.{L}

-- bytes, and whether they are a path
pub paths : List (Path × Bool)
paths =
    (path "", true)
    ∷ (path "a", true)
    ∷ (path "a/b", true)
    ∷ (path "...", true)
    ∷ (path ".a/..b", true)
    ∷ (path "/", false)
    ∷ (path "/a", false)
    ∷ (path "a/", false)
    ∷ (path "a//b", false)
    ∷ (path ".", false)
    ∷ (path "a/..", false)
    ∷ (path "a/./b", false)
    ∷ (path "a:b", false)
    ∷ (path "a\\b", false)
    ∷ (97 ∷ 0 ∷ [], false)
    -- a component of 255 bytes and of 256; 32 components and 33; 512 bytes and 513
    ∷ (replicate 255 97, true)
    ∷ (replicate 256 97, false)
    ∷ (path "1/2/3/4/5/6/7/8/9/0/1/2/3/4/5/6/7/8/9/0/1/2/3/4/5/6/7/8/9/0/1/2", true)
    ∷ (path "1/2/3/4/5/6/7/8/9/0/1/2/3/4/5/6/7/8/9/0/1/2/3/4/5/6/7/8/9/0/1/2/3", false)
    ∷ (replicate 255 97 ++ (47 ∷ replicate 254 97 ++ (47 ∷ 97 ∷ [])), true)
    ∷ (replicate 255 97 ++ (47 ∷ replicate 255 97 ++ (47 ∷ 97 ∷ [])), false)
    -- the first and the last character of each row of RFC 3629 beside what lies just outside: overlong forms,
    -- surrogates, above 10FFFF; cut short
    ∷ (0x7F ∷ [], true)
    ∷ (0x80 ∷ [], false)
    ∷ (0xC1 ∷ 0xBF ∷ [], false)
    ∷ (0xC2 ∷ 0x80 ∷ [], true)
    ∷ (0xDF ∷ 0xBF ∷ [], true)
    ∷ (0xE0 ∷ 0x9F ∷ 0xBF ∷ [], false)
    ∷ (0xE0 ∷ 0xA0 ∷ 0x80 ∷ [], true)
    ∷ (0xE0 ∷ 0xBF ∷ 0xBF ∷ [], true)
    ∷ (0xE1 ∷ 0x80 ∷ 0x80 ∷ [], true)
    ∷ (0xEC ∷ 0xBF ∷ 0xBF ∷ [], true)
    ∷ (0xED ∷ 0x80 ∷ 0x80 ∷ [], true)
    ∷ (0xED ∷ 0x9F ∷ 0xBF ∷ [], true)
    ∷ (0xED ∷ 0xA0 ∷ 0x80 ∷ [], false)
    ∷ (0xEE ∷ 0x80 ∷ 0x80 ∷ [], true)
    ∷ (0xEF ∷ 0xBF ∷ 0xBF ∷ [], true)
    ∷ (0xF0 ∷ 0x8F ∷ 0xBF ∷ 0xBF ∷ [], false)
    ∷ (0xF0 ∷ 0x90 ∷ 0x80 ∷ 0x80 ∷ [], true)
    ∷ (0xF0 ∷ 0xBF ∷ 0xBF ∷ 0xBF ∷ [], true)
    ∷ (0xF1 ∷ 0x80 ∷ 0x80 ∷ 0x80 ∷ [], true)
    ∷ (0xF3 ∷ 0xBF ∷ 0xBF ∷ 0xBF ∷ [], true)
    ∷ (0xF4 ∷ 0x80 ∷ 0x80 ∷ 0x80 ∷ [], true)
    ∷ (0xF4 ∷ 0x8F ∷ 0xBF ∷ 0xBF ∷ [], true)
    ∷ (0xF4 ∷ 0x90 ∷ 0x80 ∷ 0x80 ∷ [], false)
    ∷ (0xF5 ∷ 0x80 ∷ 0x80 ∷ 0x80 ∷ [], false)
    ∷ (0xC2 ∷ [], false)
    ∷ (0xE1 ∷ 0x80 ∷ [], false)
    ∷ (0xF1 ∷ 0x80 ∷ 0x80 ∷ [], false)
    ∷ (0xC2 ∷ 47 ∷ 0x80 ∷ [], false)
    ∷ []

-- records counted as n, behind a mark and a version
abbrev listing : String → ℕ → ℕ → Bytes → Bytes
listing mark version n rs = path mark ++ (bytes 2 version ++ (bytes 4 n ++ rs))

abbrev single : ℕ → ℕ → ℕ → String → Bytes
single type m z p = listing "RDL" 1 1 (typed type m z (path p))

pub listings : List (Bytes × Bool)
listings =
    (listing_bytes [], true)
    ∷ (listing_bytes L, true)
    ∷ ([], false)
    ∷ (path "RDL" ++ (1 ∷ 0 ∷ 0 ∷ 0 ∷ 0 ∷ []), false)
    -- another mark, another version, a count off by one, a byte behind the records, a path cut short
    ∷ (listing "RDM" 1 0 [], false)
    ∷ (listing "RDL" 0 0 [], false)
    ∷ (listing "RDL" 2 0 [], false)
    ∷ (listing "RDL" 257 0 [], false)
    ∷ (listing "RDL" 1 1 [], false)
    ∷ (listing "RDL" 1 0 (typed 1 0 0 (path "a")), false)
    ∷ (listing "RDL" 1 1 (typed 1 0 0 (path "a") ++ (0 ∷ [])), false)
    ∷ (listing "RDL" 1 1 (bytes 2 2 ++ (1 ∷ replicate 16 0 ++ (97 ∷ []))), false)
    -- kinds 0 to 4; sizes below 0 (the highest bit) and above; mtimes
    ∷ (single 0 0 0 "a", false)
    ∷ (single 1 5 0 "a", true)
    ∷ (single 2 5 5 "a", true)
    ∷ (single 3 0 0 "a", true)
    ∷ (single 4 0 0 "a", false)
    ∷ (single 1 0 1 "a", false)
    ∷ (single 2 0 0x7FFF_FFFF_FFFF_FFFF "a", true)
    ∷ (single 2 0 0x8000_0000_0000_0000 "a", false)
    ∷ (single 3 0 1 "a", false)
    ∷ (single 3 1 0 "a", false)
    ∷ (single 2 0xFFFF_FFFF_FFFF_FFFF 0 "a", true)
    -- the empty path; a path out of form; the same path twice; not ascending
    ∷ (single 1 0 0 "", false)
    ∷ (single 1 0 0 "..", false)
    ∷ (listing_bytes (dir_at "a" 0 ∷ dir_at "a" 0 ∷ []), false)
    ∷ (listing_bytes (dir_at "b" 0 ∷ dir_at "a" 0 ∷ []), false)
    -- an ancestor that is missing, is a file, is a link, is missing further up; one before `a-b`; one in the order of a
    -- tree's walk
    ∷ (listing_bytes (file_at "a/x" 0 0 ∷ []), false)
    ∷ (listing_bytes (file_at "a" 0 0 ∷ file_at "a/x" 0 0 ∷ []), false)
    ∷ (listing_bytes (link_at "a" ∷ file_at "a/x" 0 0 ∷ []), false)
    ∷ (listing_bytes (dir_at "a/b" 0 ∷ file_at "a/b/x" 0 0 ∷ []), false)
    ∷ (listing_bytes (dir_at "a" 0 ∷ file_at "a-b" 0 0 ∷ file_at "a/x" 0 0 ∷ []), true)
    ∷ (listing_bytes (file_at "a-b" 0 0 ∷ file_at "a/x" 0 0 ∷ []), false)
    ∷ (listing_bytes (dir_at "a" 0 ∷ file_at "a/x" 0 0 ∷ file_at "a-b" 0 0 ∷ []), false)
    ∷ []

-- a table's bytes, its record (used, count, charge, E), and whether they are well-formed
abbrev held : Bytes → ℕ → ℕ → ℕ → ℕ → Bool → Bytes × Record × Bool
held s used count charge E ok = (s, record { used = used; count = count; charge = charge; entry_size = E }, ok)

-- a table of entries in 100 bytes with its own record; one entry's bytes, whatever its fields
abbrev kept : Table → Bool → Bytes × Record × Bool
kept t ok = (padded 100 (encode t), record_of 40 t, ok)

abbrev raw : ℕ → ℕ → ℕ → ℕ → Path → Bytes → Bytes
raw type body m z k b = padded 100 (bytes 2 (length k) ++ (bytes 2 type ++ (bytes 4 body
    ++ (bytes 8 m ++ (bytes 8 z ++ (k ++ b))))))

abbrev removed : Bytes
removed = encode ((path "z", deleted) ∷ [])

pub tables : List (Bytes × Record × Bool)
tables =
    held [] 0 0 0 0 true
    ∷ held (padded 100 removed) 25 1 297 40 true
    -- a record off by one in each field, either way; E above 4,096
    ∷ held (padded 100 removed) 24 1 297 40 false
    ∷ held (padded 100 removed) 26 1 297 40 false
    ∷ held (padded 100 removed) 25 0 297 40 false
    ∷ held (padded 100 removed) 25 2 297 40 false
    ∷ held (padded 100 removed) 25 1 296 40 false
    ∷ held (padded 100 removed) 25 1 298 40 false
    ∷ held (padded 100 removed) 25 1 297 39 false
    ∷ held (padded 100 removed) 25 1 297 41 false
    ∷ held (padded 100 removed) 25 1 4353 4096 true
    ∷ held (padded 100 removed) 25 1 4354 4097 false
    -- a byte behind the entries; entries to the buffer's end, and cut short
    ∷ held (padded 100 (removed ++ (0 ∷ 0 ∷ 1 ∷ []))) 25 1 297 40 false
    ∷ held removed 25 1 297 40 true
    ∷ held (bytes 2 1 ++ (bytes 2 4 ++ replicate 20 0)) 25 1 297 40 false
    -- each kind, and kinds 0, 5 and 257
    ∷ held (raw 1 2 7 0 (path "z") (1 ∷ 2 ∷ [])) 27 1 313 40 true
    ∷ held (raw 2 1 7 5 (path "z") (path "a")) 26 1 313 40 true
    ∷ held (raw 3 0 7 0 (path "z") []) 25 1 297 40 true
    ∷ held (raw 4 0 0 0 (path "z") []) 25 1 297 40 true
    ∷ held (raw 0 0 0 0 (path "z") []) 25 1 297 40 false
    ∷ held (raw 5 0 0 0 (path "z") []) 25 1 297 40 false
    ∷ held (raw 257 0 0 0 (path "z") []) 25 1 297 40 false
    -- a size in kinds 1, 3 and 4, below 0 in kind 2; an mtime in kind 4; a body in kinds 3 and 4
    ∷ held (raw 1 0 0 1 (path "z") []) 25 1 297 40 false
    ∷ held (raw 3 0 0 1 (path "z") []) 25 1 297 40 false
    ∷ held (raw 4 0 0 1 (path "z") []) 25 1 297 40 false
    ∷ held (raw 2 1 7 0x8000_0000_0000_0000 (path "z") (path "a")) 26 1 313 40 false
    ∷ held (raw 4 0 1 0 (path "z") []) 25 1 297 40 false
    ∷ held (raw 3 1 0 0 (path "z") (1 ∷ [])) 26 1 313 40 false
    ∷ held (raw 4 1 0 0 (path "z") (1 ∷ [])) 26 1 313 40 false
    -- #107: the old sum, of a content and of a listed path; a body of 16 bytes charged 32, and of 17 charged 16; the
    -- whole entry rounded up
    ∷ held (raw 1 2 7 0 (path "z") (1 ∷ 2 ∷ [])) 27 1 299 40 false
    ∷ held (raw 2 1 7 5 (path "z") (path "a")) 26 1 298 40 false
    ∷ held (raw 1 16 7 0 (path "z") (replicate 16 1)) 41 1 313 40 true
    ∷ held (raw 1 16 7 0 (path "z") (replicate 16 1)) 41 1 329 40 false
    ∷ held (raw 1 17 7 0 (path "z") (replicate 17 1)) 42 1 329 40 true
    ∷ held (raw 1 17 7 0 (path "z") (replicate 17 1)) 42 1 313 40 false
    ∷ held (raw 1 2 7 0 (path "z") (1 ∷ 2 ∷ [])) 27 1 304 40 false
    -- a body longer than the buffer; a key, and a listed path, that is empty or out of form
    ∷ held (raw 1 0xFFFF_FFFF 0 0 (path "z") []) 25 1 297 40 false
    ∷ kept ((path "", deleted) ∷ []) false
    ∷ kept ((path "a//b", deleted) ∷ []) false
    ∷ kept ((path "z", reference 7 5 (path "")) ∷ []) false
    ∷ kept ((path "z", reference 7 5 (path "a:")) ∷ []) false
    -- keys that ascend by bytes; in the order of a tree's walk; the same key twice; descending
    ∷ kept ((path "a-b", deleted) ∷ (path "a/x", deleted) ∷ []) true
    ∷ kept ((path "a/x", deleted) ∷ (path "a-b", deleted) ∷ []) false
    ∷ kept ((path "a", deleted) ∷ (path "a", deleted) ∷ []) false
    ∷ kept ((path "b", deleted) ∷ (path "a", deleted) ∷ []) false
    ∷ []

abbrev fits : Bytes × Record × Bool → Bool
fits x = is_table x.0 x.1

abbrev should : Bytes × Record × Bool → Bool
should x = x.2

-- 1, then 2, then 3, the source before the destination: a bad thing of each, two or all of them
abbrev good : Store
good = record { table = padded 100 []; rec = record_of 40 [] }

abbrev bad : Store
bad = record { table = padded 100 []; rec = record_of 4097 [] }

abbrev reply : Store → Bytes → ℕ → Call → Reply
reply s l work c = (outcome l (record { call = c; limit = 9999; work = replicate work 0x77 }) s).reply

pub refusals : List (Reply × Reply)
refusals =
    (reply bad [] 99 (unlink (path ":")), refused 1 0 0)
    ∷ (reply good [] 99 (unlink (path ":")), refused 1 0 0)
    ∷ (reply good [] 100 (unlink (path ":")), refused 2 0 0)
    ∷ (reply good (listing_bytes L) 100 (unlink (path ":")), refused 3 0 0)
    ∷ (reply good (listing_bytes L) 100 (rename (path ":") (path ":")), refused 3 0 0)
    ∷ (reply good (listing_bytes L) 100 (rename (path "") (path ":")), refused 3 1 0)
    ∷ (reply good (listing_bytes L) 100 (unlink (path "z")), accepted 0)
    ∷ (reply good (listing_bytes L) 101 (unlink (path "z")), accepted 0)
    ∷ (ask exists [] (path ":") bad, refused 1 0 0)
    ∷ (ask exists [] (path ":") good, refused 2 0 0)
    ∷ (ask exists (listing_bytes L) (path ":") good, refused 3 0 0)
    ∷ []

-- opening: E, a buffer of two bytes that are not 0, and what is left
abbrev opening : ℕ → Reply × Bytes × ℕ
opening E = let o = opened E (1 ∷ 2 ∷ []) in (o.reply, o.store.table, o.store.rec.entry_size)

pub openings : List ((Reply × Bytes × ℕ) × (Reply × Bytes × ℕ))
openings =
    (opening 0, (accepted 0, 0 ∷ 0 ∷ [], 0))
    ∷ (opening 4096, (accepted 0, 0 ∷ 0 ∷ [], 4096))
    ∷ (opening 4097, (refused 1 0 0, 1 ∷ 2 ∷ [], 4097))
    ∷ []

-- the declared answers, by 01's numbers
pub answers : List (Reply × Reply)
answers =
    (told (Ok 7), accepted 7)
    ∷ (told (Err MalformedTable), refused 1 0 0)
    ∷ (told (Err MalformedListing), refused 2 0 0)
    ∷ (told (Err (MalformedPath 1)), refused 3 1 0)
    ∷ (told (Err (LinkOrRoot 1 9)), refused 4 1 9)
    ∷ (told (Err (NotFound 1 9)), refused 5 1 9)
    ∷ (told (Err (Exists 1 9)), refused 6 1 9)
    ∷ (told (Err (NotADirectory 1 9)), refused 7 1 9)
    ∷ (told (Err (IsADirectory 1 9)), refused 8 1 9)
    ∷ (told (Err (NotEmpty 1 9)), refused 9 1 9)
    ∷ (told (Err (BelowSource 9)), refused 10 0 9)
    ∷ (told (Err Limit), refused 11 0 0)
    ∷ (told (Err KeyTooLong), refused 12 0 0)
    ∷ (told (Err NoRoom), refused 13 0 0)
    ∷ (told_finding (Ok true), accepted 1)
    ∷ (told_finding (Ok false), accepted 0)
    ∷ (told_finding (Err MalformedListing), refused 2 0 0)
    ∷ []

-- E, a table buffer's length, and whether both are allowed: 16 MiB is, a byte more is not
pub bounds : List ((ℕ × ℕ) × Bool)
bounds =
    ((0, 0), true)
    ∷ ((4096, 16_777_216), true)
    ∷ ((4097, 16_777_216), false)
    ∷ ((4096, 16_777_217), false)
    ∷ ((0, 16_777_217), false)
    ∷ []

pub record Forms : Type 0 where
  pub of_paths : map (λ (x : Path × Bool). is_path x.0) paths ≡ map (λ x. x.1) paths
  pub of_listings : map (λ (x : Bytes × Bool). is_listing x.0) listings ≡ map (λ x. x.1) listings
  pub of_tables : map fits tables ≡ map should tables
  pub of_refusals : map (λ (x : Reply × Reply). x.0) refusals ≡ map (λ x. x.1) refusals
  pub of_answers : map (λ (x : Reply × Reply). x.0) answers ≡ map (λ x. x.1) answers
  pub of_openings : map (λ (x : (Reply × Bytes × ℕ) × (Reply × Bytes × ℕ)). x.0) openings ≡ map (λ x. x.1) openings
  pub of_bounds : map (λ (x : (ℕ × ℕ) × Bool). sized x.0.0 x.0.1) bounds ≡ map (λ x. x.1) bounds

pub forms_hold : Forms
unfolding paths listings tables refusals answers openings bounds
forms_hold = record {
  of_paths = refl;
  of_listings = refl;
  of_tables = refl;
  of_refusals = refl;
  of_answers = refl;
  of_openings = refl;
  of_bounds = refl;
}
