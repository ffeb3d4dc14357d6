-- `judge_paths` meets its contract: 3, then each path by itself.
use Rattle.call_rename.proofs.Verdicts.{forms_known}
use Rattle.call_rename.proofs.judge_paths.Goals as goal

pub check_paths-requires-2-clause-source_value : goal.check_paths-requires-2-clause-source_value
check_paths-requires-2-clause-source_value c = forms_known c.args.source.now c.args.destination.now c.in_ok-check_paths.ensures
