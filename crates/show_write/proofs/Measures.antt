-- The bytes that the name of what is next takes, and the sums and the writes of a whole pass.
use mathlib.Core.Path.{◌≡◌, refl, ap, sym, ◌∙◌}
use mathlib.Core.List.{List, [], ◌∷◌, ◌++◌, append_assoc}
use mathlib.Core.Bool.{Bool, true, false, not}
use Prim.Native.Nat.{ℕ, zero, suc, ◌+◌, ◌-◌, ◌≤◌}
use native.Mathlib.Omega.{arith}
use lib.ListN.{length, drop, length-drop, length-append}
use borrow.Author.Tests.{not-false}
use Rattle.model.specs.Bytes.{Bytes, every, bytes}
use Rattle.model.specs.Path.{Path, slashless}
use Rattle.model.specs.Map.{keys}
use Rattle.model.specs.Tree.{Tree, kind_of}
use Rattle.model.specs.Table.{entries_at}
use Rattle.model.specs.Plain.{visible_tree}
use Rattle.model.specs.Calls.{exists, says}
use Rattle.base_fields.specs.Write.{overwritten}
use Rattle.base_fields.proofs.Writes.{length_overwritten, two_writes}
use Rattle.listing_records.specs.Place.{tree_at}
use Rattle.view_merge.specs.Merges.{ahead, remaining, passed, Merging, head_path, head_node, tree_of}
use Rattle.view_merge.proofs.Steps.{merge_within}
use Rattle.view_merge.specs.declared.Merge.{Merge}
use Rattle.view_merge.specs.declared.Head.{Head}
use Rattle.show_names.specs.Names.{name_start, names, name_bytes}
use Rattle.show_write.specs.Sizes.{inside, Showing, head_names, Sized}
use Rattle.show_write.proofs.Parts.{names_parts, bytes_parts, inside_parts, inside_child, is_inside, one_named, none_named}

module _ (p : Path) (own part : Bytes) (m : Merge) (h : Head) where
  abbrev path : Path
  path = head_path own part m h

  abbrev Below : Type 0
  Below = every (inside p) (keys (tree_of path (head_node own part m h))) ≡ true

  -- no name
  unnamed : head_names p own part m h ≡ [] → Sized p own part m h 0
  unnamed e = record { absent = λ z. e; named = λ z. absurd (omega arith) }

  -- b is whether something other than a link is visible
  module _ (b : Bool) (e : b ≡ says exists (kind_of (head_node own part m h))) where
    module _ (u : Below) (x : not b ≡ false) (k : Path) (f : k ≡ path) (s : ℕ) (g : s ≡ name_start p) where
      z : b ≡ true
      z = not-false b x

      lies : inside p path ≡ true
      lies = is_inside p path (head_node own part m h) (sym e ∙ z) u

      pub start_within : s ≤ length k
      start_within = let x = (inside_child p path lies).1 in rw (f, g) x

      module _ (c : Bool) (i : c ≡ slashless (drop s k)) where
        component : c ≡ slashless (drop (name_start p) path)
        component = i ∙ (λ j. slashless (drop (g j) (f j)))

        pub size_deeper : c ≡ false → Sized p own part m h 0
        size_deeper y = unnamed (none_named p path (head_node own part m h) (sym e ∙ z) u (sym component ∙ y))

        pub size_named : c ≡ true → Sized p own part m h (2 + (length k - s))
        size_named y =
            let x = (inside_child p path lies).1 in
            let l = ap (length {A = ℕ}) f in
            let d : length path + 2 - (2 + (length k - s)) ≡ name_start p = omega arith in
            record {
              absent = λ v. absurd (omega arith);
              named = λ v. (
                omega arith,
                omega arith,
                one_named p path (head_node own part m h) (sym e ∙ z) u (sym component ∙ y)
                    ∙ ap (λ (n : ℕ). drop n path ∷ []) (sym d),
              );
            }

  -- what was sized: its length, and its bytes
  module _ (n : ℕ) (w : Sized p own part m h n) where
    pub sized_length : length (name_bytes (head_names p own part m h)) ≡ n
    sized_length = go n w
      where
        go : (n : ℕ) → Sized p own part m h n → length (name_bytes (head_names p own part m h)) ≡ n
        go zero w = ap (λ (ns : List Bytes). length (name_bytes ns)) (w.absent refl)
        go (suc n) w =
            let x = w.named (omega arith) in
            let a = x.0 in
            let b = x.1 in
            let l = length-drop (length path + 2 - suc n) path in
            let q = length-append (drop (length path + 2 - suc n) path) [] in
            ap (λ (ns : List Bytes). length (name_bytes ns)) x.2 ∙ omega arith

    pub sized_short : n ≤ length path + 2
    sized_short = go n w
      where
        go : (n : ℕ) → Sized p own part m h n → n ≤ length path + 2
        go zero w = omega arith
        go (suc n) w = (w.named (omega arith)).1

-- at the end nothing is shown
ended : (own part : Bytes) (m : Merge) → remaining m ≤ 0 → ahead own part m ≡ []
ended own part m h = go m.entries.left m.entries.at m.records.left m.records.at h
  where
    go : (n at i to : ℕ) → n + i ≤ 0 → visible_tree (entries_at own n at) (tree_at part i to) ≡ []
    go zero at zero to h = refl
    go (suc n) at i to h = absurd (omega arith)
    go zero at (suc i) to h = absurd (omega arith)

-- one step: the name of what is next, and those behind it
module _ (own part : Bytes) (p : Path) (m : Merge) (h : Head) (r : Merge)
    (e : ahead own part m ≡ tree_of (head_path own part m h) (head_node own part m h) ++ ahead own part r) where
  abbrev first : Tree
  first = tree_of (head_path own part m h) (head_node own part m h)

  step_bytes_lem : name_bytes (names p (ahead own part m)) ≡ name_bytes (head_names p own part m h) ++ name_bytes (names p (ahead own part r))
  step_bytes_lem =
      ap (λ (s : Tree). name_bytes (names p s)) e
      ∙ ap name_bytes (names_parts p first (ahead own part r))
      ∙ bytes_parts (names p first) (names p (ahead own part r))

  step_inside : every (inside p) (keys (ahead own part m)) ≡ true
      → (every (inside p) (keys first) ≡ true) × (every (inside p) (keys (ahead own part r)) ≡ true)
  step_inside u = inside_parts p first (ahead own part r) (sym (ap (λ (s : Tree). every (inside p) (keys s)) e) ∙ u)

  -- a step's name lies inside, and so does what is behind it
  pub head_inside : Showing own part p m → every (inside p) (keys first) ≡ true
  head_inside w = (step_inside w.under).0

  pub still_showing : Showing own part p m → Merging own part r → Showing own part p r
  still_showing w v = record { merging = v; under = (step_inside w.under).1 }

-- `sum` bytes were counted of those that the merge `start` shows; they are no more than the bytes passed
pub record Summing (own part : Bytes) (p : Path) (start m : Merge) (sum : ℕ) : Type 0 where
  pub showing : Showing own part p m
  pub total : sum + length (name_bytes (names p (ahead own part m))) ≡ length (name_bytes (names p (ahead own part start)))
  pub short : sum ≤ passed m

module _ (own part : Bytes) (p : Path) (start m : Merge) (sum : ℕ) (w : Summing own part p start m sum) where
  pub sum_on : (h : Head) (r : Merge) → Merging own part r → passed m + length (head_path own part m h) + 2 ≤ passed r
      → ahead own part m ≡ tree_of (head_path own part m h) (head_node own part m h) ++ ahead own part r
      → (n : ℕ) → Sized p own part m h n → (sum + n ≤ 33554432) × Summing own part p start r (sum + n)
  sum_on h r v f e n d =
      let l = sized_length p own part m h n d in
      let t = w.total in
      let s = w.short in
      let k = sized_short p own part m h n d in
      let b = (merge_within own part r v).1 in
      let a = length-append (name_bytes (head_names p own part m h)) (name_bytes (names p (ahead own part r))) in
      let x : length (name_bytes (names p (ahead own part m))) ≡ n + length (name_bytes (names p (ahead own part r))) =
      ap (length {A = ℕ}) (step_bytes_lem own part p m h r e) ∙ omega arith in (
        omega arith,
        record { showing = still_showing own part p m h r e w.showing v; total = omega arith; short = omega arith },
      )

-- the bytes `done` were written to the output's start; the names that the merge shows follow
pub record Putting (output own part : Bytes) (p : Path) (start m : Merge) (now : Bytes) (at : ℕ) : Type 0 where
  pub showing : Showing own part p m
  pub done : Bytes
  pub there : now ≡ overwritten output 0 done
  pub end : at ≡ length done
  pub whole : done ++ name_bytes (names p (ahead own part m)) ≡ name_bytes (names p (ahead own part start))

module _ (output own part : Bytes) (p : Path) (start : Merge)
    (fits : length (name_bytes (names p (ahead own part start))) ≤ length output) where
  module _ (m : Merge) (now : Bytes) (at : ℕ) (w : Putting output own part p start m now at) where
    done_within : length w.done + length (name_bytes (names p (ahead own part m))) ≤ length output
    done_within =
        let a = length-append w.done (name_bytes (names p (ahead own part m))) in
        let b = ap (length {A = ℕ}) w.whole in
        omega arith

    pub same_size : length now ≡ length output
    same_size = let d = done_within in ap (length {A = ℕ}) w.there ∙ length_overwritten output 0 w.done (omega arith)

    module _ (h : Head) (r : Merge)
        (e : ahead own part m ≡ tree_of (head_path own part m h) (head_node own part m h) ++ ahead own part r) where
      pub next_fits : at + length (name_bytes (head_names p own part m h)) ≤ length now
      next_fits =
          let d = done_within in
          let a = length-append (name_bytes (head_names p own part m h)) (name_bytes (names p (ahead own part r))) in
          let b = ap (length {A = ℕ}) (step_bytes_lem own part p m h r e) in
          let c = w.end in
          let s = same_size in
          omega arith

      pub put_on : Merging own part r → (new : Bytes) → new ≡ overwritten now at (name_bytes (head_names p own part m h))
          → (to : ℕ) → to ≡ at + length (name_bytes (head_names p own part m h)) → Putting output own part p start r new to
      put_on v new f to g =
          let n : Bytes = name_bytes (head_names p own part m h) in
          let d = done_within in
          record {
            showing = still_showing own part p m h r e w.showing v;
            done = w.done ++ n;
            there = two_writes output now new w.done n 0 at (omega arith) (let x = w.end in omega arith) w.there f;
            end = let a = length-append w.done n in let b = w.end in omega arith;
            whole = append_assoc w.done n (name_bytes (names p (ahead own part r)))
                ∙ sym (ap (λ (s : Bytes). w.done ++ s) (step_bytes_lem own part p m h r e)) ∙ w.whole;
          }

-- the length, then the name
pub sized_put : (t t₁ t₂ s : Bytes) (at : ℕ) → at + 2 + length s ≤ length t → t₁ ≡ overwritten t at (bytes 2 (length s))
    → t₂ ≡ overwritten t₁ (at + 2) s → t₂ ≡ overwritten t at (bytes 2 (length s) ++ s)
sized_put t t₁ t₂ s at h e₁ e₂ = two_writes t t₁ t₂ (bytes 2 (length s)) s at (at + 2) (omega arith) refl e₁ e₂
