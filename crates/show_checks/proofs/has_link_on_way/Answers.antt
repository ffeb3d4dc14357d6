-- `has_link_on_way` meets its contract. The loop's invariant: whether a link is among the ancestors from the cursor on
-- is whether one is among all. The measure is how many bytes are to come.
use mathlib.Core.Path.{sym, ◌∙◌}
use native.Mathlib.Omega.{arith}
use borrow.Author.Rules.{rules}
use Rattle.model.proofs.Codec.{path_short}
use Rattle.listing_records.specs.Found.{target_kind}
use Rattle.show_checks.proofs.Ways.{down_first, down_step, down_next, link_first_lem, link_last_lem, link_next, link_stop}
use Rattle.show_checks.proofs.has_link_on_way.Goals as goal

pub loop-at-init : goal.loop-at-init
loop-at-init c =
    let a = c.args in
    let n = c.next_ancestor-at in
    let w = c.new-walk in (
      n.ensures.lower_bound.1,
      down_first a.listing.now a.path.now w.result n.result c.requires.path_value w.ensures n.ensures.value n.ensures.lower_bound.1,
      link_first_lem a.listing.now a.path.now n.result n.ensures.value,
    )

pub step_once-stepped-requires : goal.step_once-stepped-requires
step_once-stepped-requires c =
    let l = c.loop-at in
    let a = c.args in
    let d = down_step a.listing.now a.path.now l.walk l.at l.invariant.1 (search rules) in
    (c.requires.listing_value, l.invariant.1.walks, d.0, d.1, d.2)

pub returns-then-not-is_dir : goal.returns-then-not-is_dir
returns-then-not-is_dir c =
    let l = c.loop-at in
    let a = c.args in
    let s = c.step_once-stepped in
    let d = c.is_dir in
    link_stop a.listing.now a.path.now l.at (target_kind s.result.target) l.invariant.1.slash (search rules) l.invariant.2
    s.ensures.found s.result.walk c.is_link.result (sym d.ensures ∙ c.if-not-is_dir.true)
    s.ensures.ended s.ensures.goes_on c.is_link.ensures

pub overflow_add-at : goal.overflow_add-at
overflow_add-at c = record { fits = omega (arith, path_short c.args.path.now c.requires.path_value) }

pub loop-at-preserved : goal.loop-at-preserved
loop-at-preserved c =
    let n = c.next_ancestor-at-in-loop-at in
    let l = c.loop-at in
    let a = c.args in
    let s = c.step_once-stepped in
    let d = c.is_dir in (
      n.ensures.lower_bound.1,
      down_next a.listing.now a.path.now l.walk l.at l.invariant.1 (search rules) s.result.walk n.result s.ensures.goes_on
          n.ensures.value n.ensures.lower_bound.0 n.ensures.lower_bound.1,
      link_next a.listing.now a.path.now l.at (target_kind s.result.target) l.invariant.1.slash (search rules) l.invariant.2
          s.ensures.found n.result n.ensures.value (sym d.ensures ∙ c.if-not-is_dir.false),
    )

pub returns : goal.returns
returns c =
    let l = c.loop-at in
    let a = c.args in
    link_last_lem a.listing.now a.path.now l.at (search rules) l.invariant.2
