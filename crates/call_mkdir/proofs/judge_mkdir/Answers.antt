-- `judge_mkdir` meets its contract: behind 3 the path is one.
use Rattle.call_answer.proofs.Keys.{is_path_lem}
use Rattle.call_mkdir.proofs.judge_mkdir.Goals as goal

pub judge_at-requires-clause-path_value : goal.judge_at-requires-clause-path_value
judge_at-requires-clause-path_value c = is_path_lem c.args.path.now c.in_ok-check_path.ensures

pub returns-clause-makes : goal.returns-clause-makes
returns-clause-makes c = λ dirs e. (is_path_lem c.args.path.now c.in_ok-check_path.ensures, c.judge_at.ensures.makes dirs e)
