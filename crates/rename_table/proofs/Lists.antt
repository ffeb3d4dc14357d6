-- What is put for source and destination, as the lists of the definition; and that all their keys are at these paths or below them.
use mathlib.Core.Path.{◌≡◌, refl, ap, sym, ◌∙◌}
use mathlib.Core.List.{[], ◌∷◌, append-nil}
use mathlib.Core.Bool.{Bool, true, false, cond, not}
use mathlib.Core.Option.{some}
use native.Mathlib.Omega.{arith}
use lib.Dec.{leb}
use lib.ListN.{length, length-append}
use borrow.Author.Tests.{le-leb}
use Rattle.model.specs.Bytes.{every}
use Rattle.model.specs.Path.{Path, components, short, rest}
use Rattle.model.specs.Map.{is_none, each, keys, rekey}
use Rattle.model.specs.Tree.{deleted, Table, Tree, shown, a_directory, a_file, kind}
use Rattle.model.specs.Rename.{new_key, carried}
use Rattle.model.proofs.Orders.{bot, and_true, has_none, is_some, opt, rest_is, rest_app, rest_self}
use Rattle.model.proofs.Maps.{Ascending}
use Rattle.rename_laws.proofs.Moves.{new_key_lem, inside, renewed, rekeyed, top_entry, carried_directory, carried_file, inside_carried}
use Rattle.rename_write.specs.Stretch.{deletion, move, movable, turned}
use Rattle.rename_write.specs.Sequence.{lower, top, departures, arrivals}

deletions_are : (c : Table) → turned deletion c ≡ each deleted (keys c)
deletions_are [] = refl
deletions_are (x ∷ c) = ap (λ (o : Table). (x.0, deleted) ∷ o) (deletions_are c)

moves_are : (a b : Path) (c : Table) → turned (move a b) c ≡ renewed a b c
moves_are a b [] = refl
moves_are a b (x ∷ c) = ap (λ (o : Table). (new_key a b x.0, x.1) ∷ o) (moves_are a b c)

new_self : (a b : Path) → new_key a b a ≡ b
new_self a b = new_key_lem a b a [] (rest_self a) ∙ append-nil b

-- other values leave the keys where they are
inside_each : (a : Path) (c : Table) → inside a c ≡ true → inside a (each deleted (keys c)) ≡ true
inside_each a [] h = refl
inside_each a (x ∷ c) h =
    let e = and_true (not (is_none (rest a x.0))) (inside a c) h in
    cc (inside_each a c e.1)

-- with b in the place of a they are at b or below it
inside_rekey : (a b : Path) (c : Table) → inside b (rekey a b c) ≡ true
inside_rekey a b [] = refl
inside_rekey a b (x ∷ c) =
    let i = inside_rekey a b c in
    elim (opt (rest a x.0)) [ has_none n ↦ cc | is_some r n ↦ cc (rest_app b r (rest_is a x.0 r n).1) ]

-- new keys that are short: there is room for each
short_movable : (a b : Path) (c : Table) → inside a c ≡ true → every short (keys (renewed a b c)) ≡ true → every (movable a b) c ≡ true
short_movable a b [] h s = refl
short_movable a b (x ∷ c) h s =
    let k = new_key a b x.0 in
    let e = and_true (not (is_none (rest a x.0))) (inside a c) h in
    let f = and_true (short k) (every short (keys (renewed a b c))) s in
    let n = (and_true (leb (length k) 512) (leb (length (components k)) 32) f.0).0 in
    let i = short_movable a b c e.1 f.1 in
    elim (opt (rest a x.0)) [
      | has_none o ↦ absurd (bot (cc e.0))
      | is_some r o ↦
          let z = ap length (rest_is a x.0 r o).0 ∙ length-append a r in
          let m = le-leb (length a) (length x.0) (omega arith) in
          rw (m, n) i
    ]

module _ (t : Table) (l : Tree) (a : Path) (h : Ascending l) (o : top_entry t l a ≡ some (top t l a)) where
  -- what is carried, of a directory and of a file
  carried_is : (whole : Bool) → kind (shown t l) a ≡ cond whole a_directory a_file → carried t l a ≡ (a, top t l a) ∷ lower whole t l a
  carried_is true k = carried_directory t l a (top t l a) k h o
  carried_is false k = carried_file t l a (top t l a) k h o

  module _ (whole : Bool) (k : kind (shown t l) a ≡ cond whole a_directory a_file) where
    pub departures_are : departures whole t l a ≡ each deleted (keys (carried t l a))
    departures_are =
        ap (λ (c : Table). (a, deleted) ∷ c) (deletions_are (lower whole t l a)) ∙ sym (ap (λ (c : Table). each deleted (keys c))
        (carried_is whole k))

    pub inside_departures : inside a (departures whole t l a) ≡ true
    inside_departures = ap (inside a) departures_are ∙ inside_each a (carried t l a) (inside_carried t l a)

    module _ (b : Path) where
      pub arrivals_are : arrivals whole t l a b ≡ rekey a b (carried t l a)
      arrivals_are =
          ap (λ (c : Table). (b, top t l a) ∷ c) (moves_are a b (lower whole t l a))
          ∙ ap (λ (q : Path). (q, top t l a) ∷ renewed a b (lower whole t l a)) (sym (new_self a b))
          ∙ sym (ap (renewed a b) (carried_is whole k))
          ∙ sym (rekeyed a b (carried t l a) (inside_carried t l a))

      pub inside_arrivals : inside b (arrivals whole t l a b) ≡ true
      inside_arrivals = ap (inside b) arrivals_are ∙ inside_rekey a b (carried t l a)

      -- what is below a has room for its new keys
      pub lower_movable : every short (keys (rekey a b (carried t l a))) ≡ true → every (movable a b) (lower whole t l a) ≡ true
      lower_movable s =
          let c : Table = carried t l a in
          let i = inside_carried t l a in
          let m = short_movable a b c i (ap (λ (x : Table). every short (keys x)) (sym (rekeyed a b c i)) ∙ s) in
          (and_true (movable a b (a, top t l a)) (every (movable a b) (lower whole t l a)) (ap (every (movable a b)) (sym (carried_is whole k)) ∙ m)
          ).1
