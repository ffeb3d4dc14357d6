-- `name_size` meets its contract: a name is counted where something other than a link is visible and no slash follows.
use Rattle.show_write.proofs.Measures.{start_within, size_deeper, size_named}
use mathlib.Core.Path.{ap}
use mathlib.Core.Bool.{not}
use Rattle.show_write.proofs.name_size.Goals as goal

pub is_one_component-requires : goal.is_one_component-requires
is_one_component-requires c =
    let a = c.args in
    let x = c.head_exists in
    let k = c.head_path-path in
    let s = c.name_start-start in
    start_within a.dir.now a.own.now a.part.now a.merge a.head x.result x.ensures c.requires.head_value (ap not c.if-not-head_exists.false) k.result.now k.ensures s.result s.ensures

pub overflow_sub-result : goal.overflow_sub-result
overflow_sub-result c =
    let a = c.args in
    let x = c.head_exists in
    let k = c.head_path-path in
    let s = c.name_start-start in
    start_within a.dir.now a.own.now a.part.now a.merge a.head x.result x.ensures c.requires.head_value (ap not c.if-not-head_exists.false) k.result.now k.ensures s.result s.ensures

pub returns-then-is_one_component : goal.returns-then-is_one_component
returns-then-is_one_component c =
    let a = c.args in
    let x = c.head_exists in
    let k = c.head_path-path in
    let s = c.name_start-start in
    let o = c.is_one_component in
    size_named a.dir.now a.own.now a.part.now a.merge a.head x.result x.ensures c.requires.head_value (ap not c.if-not-head_exists.false) k.result.now k.ensures s.result s.ensures
    o.result o.ensures c.if-is_one_component.true

pub returns : goal.returns
returns c =
    let a = c.args in
    let x = c.head_exists in
    let k = c.head_path-path in
    let s = c.name_start-start in
    let o = c.is_one_component in
    size_deeper a.dir.now a.own.now a.part.now a.merge a.head x.result x.ensures c.requires.head_value (ap not c.if-not-head_exists.false) k.result.now k.ensures s.result s.ensures
    o.result o.ensures c.if-is_one_component.false
